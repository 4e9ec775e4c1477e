-- A location that was read isn't taken for a record of the legacy form.
use Rattle.std.proofs.Common.{◌≡◌, ℕ, List, Result, Ok, Err, IfOk, ap, ◌∙◌}
use Rattle.gix_url.specs.Location.{Location}
use Rattle.gix_url.specs.Grammar.{Spells}
use Rattle.gix_url.specs.Laws.{Writable}
use Rattle.gix_url.specs.Records.{migrated}
use Rattle.gix_url.specs.declared.error.Error.{Error}
use Rattle.user_proofs.proofs.stored.kept.Goals as goal

same : Writable → (v w : Location) (r : Result Location Error) → w ≡ v → IfOk r (λ u. u ≡ migrated w) → IfOk r (λ back. (b : List ℕ) → Spells b v → back ≡ v)
same writable v w (Ok u) recorded restored = λ b spelled. restored ∙ ap migrated recorded ∙ (writable b v spelled).2
same writable v w (Err e) recorded restored = tt

pub returns-clause-same : goal.returns-clause-same
returns-clause-same c = same c.law_closed.ensures.writable c.args.url.now _ c.from_stored.result c.in_ok-stored.ensures.stored c.from_stored.ensures.restored
