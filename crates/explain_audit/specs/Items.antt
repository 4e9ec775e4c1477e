-- The findings about a text, and the host of its location.
use Rattle.std.specs.Prelude.{List, Option, Some, None, map}
use Rattle.git_rules.specs.SameHost.{HaveSameHost}
use Rattle.gix_url.specs.Location.{Location}
use Rattle.explain_audit.specs.declared.item.Item.{Item}
use Rattle.explain_audit.specs.declared.kind.Kind.{Kind}

-- the kinds of the findings
abbrev pub kinds : List Item → List Kind
kinds items = map (λ item. item.kind) items

-- there is a parent, and the location names another host
abbrev pub LeadsAway : Option Location → Location → Type 0
LeadsAway None url = ⊥
LeadsAway (Some parent) url = ¬ HaveSameHost parent url
