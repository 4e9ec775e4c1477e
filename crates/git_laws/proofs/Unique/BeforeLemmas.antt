-- The form `user@[address]:path` changed nothing that other texts spell.
use Rattle.std.proofs.Common.{ℕ, inl, List, arith}
use Rattle.git_syntax.specs.Location.{Location}
use Rattle.git_syntax.specs.Grammar.{SpellsLocal, Spells, IsAddressed}
use Rattle.git_laws.specs.Laws.{SpellsLocalBefore, SpellsBefore}
use Rattle.git_syntax.proofs.Parsing.FormLemmas.{not_scp}

-- a local path of the earlier grammar is one
was_local : (b : List ℕ) (v : Location) → SpellsLocalBefore b v → SpellsLocal b v
was_local b v h = record { nonempty = h.nonempty; neither = h.neither; no_scp = not_scp b h.no_scp; value = h.value }

-- a location of the earlier grammar is spelled
pub spelled_from_before : (b : List ℕ) (v : Location) → SpellsBefore b v → Spells b v
spelled_from_before b v (SpellsBefore.url h) = Spells.url h
spelled_from_before b v (SpellsBefore.file_url h) = Spells.file_url h
spelled_from_before b v (SpellsBefore.remote_helper h) = Spells.remote_helper h
spelled_from_before b v (SpellsBefore.scp_form h) = Spells.scp_form (inl h)
spelled_from_before b v (SpellsBefore.local_path h) = Spells.local_path (was_local b v h)

-- a spelled location was spelled before, except in that form
pub spelled_to_before : (b : List ℕ) (v : Location) → ¬ IsAddressed b → Spells b v → SpellsBefore b v
spelled_to_before b v other h = grind arith
