-- The report of a call, unless memory was refused.
use Rattle.std.proofs.Common.{ℕ, ◌⊎◌}
use mathlib.Core.Logic.{inl, inr}
use Rattle.c_values.specs.Codes.{UnlessMemory}

-- the consequences of a report are reported
pub unless_memory : {A B : Type 0} (code : ℕ) → (A → B) → UnlessMemory code A → UnlessMemory code B
unless_memory code f (inl refused) = inl refused
unless_memory code f (inr holds) = inr (f holds)

-- a result that is neither the one nor the other is none of both
pub neither : {A B : Type 0} → ¬ A → ¬ B → ¬ (A ⊎ B)
neither first second (inl a) = first a
neither first second (inr b) = second b
