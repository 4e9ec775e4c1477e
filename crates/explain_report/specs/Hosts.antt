-- The hosts that readers take from a line, compared with others.
use Rattle.std.specs.Prelude.{ℕ, Bool, false, bytes_eq, List, Option, Some, None, option_map}
use Rattle.std.specs.Option.{is_none}
use Rattle.git_rules.specs.SameHost.{host_name}
use Rattle.explain_report.specs.declared.readers.taken.Taken.{Taken}

-- both texts name the same host
abbrev pub names_same : List ℕ → List ℕ → Bool
names_same a b = bytes_eq (host_name a) (host_name b)

-- there is a host, and the text names the same host
abbrev pub is_taken : List ℕ → Option (List ℕ) → Bool
is_taken host None = false
is_taken host (Some taken) = names_same taken host

-- the group takes the host that the text names
abbrev pub takes : List ℕ → Taken → Bool
takes host group = is_taken host (option_map (λ it. it.now) group.host)

-- the group takes no other host
abbrev pub takes_none : Taken → Bool
takes_none group = is_none group.host
