-- The bytes that the parts of a value add to it.
use Rattle.std.proofs.Common.{◌≡◌, ℕ, ◌+◌, ◌-◌, ◌<◌, ◌≤◌, Bool, true, false, List, [], ◌∷◌, ◌++◌, length, take, set, Ok, refl, ap, ◌∙◌, arith, append_assoc, nat_lt, if◌then◌else◌}
use Rattle.std.proofs.lemmas.Bool.Decides.{nat_tests}
use Rattle.std.proofs.lemmas.Grind.{replicate_next, common_steps}
use Rattle.std.proofs.lemmas.List.{take_more_set, take-set-le}
use Rattle.git_modules.specs.declared.config_file.flaw.Flaw.{Flaw}
use Rattle.git_modules.specs.declared.config_file.value.Mode.{Mode}
use Rattle.git_modules.specs.declared.config_file.value.Mode.TheVariants.{Comment}
use Rattle.git_modules.specs.declared.config_file.value.Part.TheVariants as part
use Rattle.git_modules.specs.ConfigFileFlaws.{refused, prefixed}
use Rattle.git_modules.specs.ConfigFileValues.{part_of, value_text, spaces}

-- white space
pub blank_step : (mode : Mode) (b : Bool) (n c : ℕ) (left : List ℕ) → part_of mode c ≡ part.Blank → value_text mode b n (c ∷ left) ≡ value_text mode b (if b then n + 1 else 0) left
blank_step mode b n c left e = rw (e, value_text) refl

-- there is a byte
pub has_byte : (k : ℕ) → nat_lt 0 (k + 1) ≡ true
has_byte k = grind (arith, nat_tests)

-- white space after a byte
pub blank_goes : (old : List ℕ) (end kept c : ℕ) (mode : Mode) (left : List ℕ) → kept ≤ end → 0 < end → part_of mode c ≡ part.Blank → prefixed (take kept old) (value_text mode (nat_lt 0 end) (end - kept) (c ∷ left)) ≡ prefixed (take kept (set old end 32)) (value_text mode (nat_lt 0 (end + 1)) ((end + 1) - kept) left)
blank_goes old end kept c mode left h some e =
    let yes_now : nat_lt 0 end ≡ true = grind (arith, nat_tests) in
    let more : (end + 1) - kept ≡ (end - kept) + 1 = omega arith in
    rw (yes_now, has_byte end, more, take-set-le kept old end 32 h) (ap (prefixed (take kept old)) (blank_step mode true (end - kept) c left e))

-- the space is one of those that don't count yet
pub blank_tail : (old : List ℕ) (end kept : ℕ) → kept ≤ end → take end old ≡ take kept old ++ spaces (end - kept) → end < length old → take (end + 1) (set old end 32) ≡ take kept (set old end 32) ++ spaces ((end + 1) - kept)
blank_tail old end kept h tail small =
    let more : (end + 1) - kept ≡ (end - kept) + 1 = omega arith in
    rw (more, take-set-le kept old end 32 h, replicate_next {X = ℕ} (end - kept) 32)
    (take_more_set old end 32 small ∙ ap (λ (x : List ℕ). x ++ 32 ∷ []) tail ∙ append_assoc (take kept old) (spaces (end - kept)) (32 ∷ []))
