-- Places of bytes and of broken escapes in their text.
use Rattle.std.proofs.Common.{◌≡◌, ℕ, ◌+◌, ◌≤◌, ◌==◌, ◌||◌, not, Bool, true, false, List, [], ◌∷◌, ◌++◌, length, refl, ap, subst, arith, length-append}
use Rattle.git_syntax.specs.Bytes.{percent_sign, FreeOf}
use Rattle.git_syntax.specs.Escapes.{begins_with_digits}
use Rattle.git_syntax.proofs.Texts.CutLemmas.{free_head_tail, not_free}
use Rattle.git_syntax.proofs.Texts.EscapeLemmas.{sound_cons, sound_free}
use Rattle.git_refusals.specs.Characters.{IsFirstAt, IsBrokenAt}

-- ---- bytes

-- a text that holds a byte isn't free of it
pub stands_not_free : (c : ℕ) (text : List ℕ) (at : ℕ) → IsFirstAt c text at → ¬ FreeOf c text
stands_not_free c text at h free = not_free c h.before h.suffix (subst (λ t. FreeOf c t) h.joined free)

-- the byte is within the text
pub stands_within : (c : ℕ) (text : List ℕ) (at : ℕ) → IsFirstAt c text at → at + 1 ≤ length text
stands_within c text at h = omega (arith, h.offset, ap length h.joined, length-append h.before (c ∷ h.suffix))

-- ---- escapes

-- a text that begins with two digits begins so before its first `%`
digits_before : (text before suffix : List ℕ) → text ≡ before ++ percent_sign ∷ suffix → begins_with_digits text ≡ true → begins_with_digits before ≡ true
digits_before text before suffix e h = grind arith

-- a broken escape after a byte that begins none
broken_after : (c : ℕ) (text : List ℕ) (at : ℕ) → (not (c == percent_sign) || begins_with_digits text) ≡ true → IsBrokenAt text at → IsBrokenAt (c ∷ text) (at + 1)
broken_after c text at head h = record {
  before = c ∷ h.before;
  suffix = h.suffix;
  first = sound_cons c h.before (kept (c == percent_sign) head) h.first;
  joined = ap (λ t. c ∷ t) h.joined;
  broken = h.broken;
  offset = omega (arith, h.offset);
}
  where
    kept : (same : Bool) → (not same || begins_with_digits text) ≡ true → (not same || begins_with_digits h.before) ≡ true
    kept true k = digits_before text h.before h.suffix h.joined k
    kept false k = refl

-- a broken escape after bytes other than `%`
broken_after_free : (front text : List ℕ) (at : ℕ) → FreeOf percent_sign front → IsBrokenAt text at → IsBrokenAt (front ++ text) (length front + at)
broken_after_free [] text at free h = subst (λ n. IsBrokenAt text n) (omega arith) h
broken_after_free (b ∷ front) text at free h =
    let (other, more) = free_head_tail percent_sign b front free in
    let rest = broken_after_free front text at more h in
    subst (λ n. IsBrokenAt (b ∷ front ++ text) n) (omega arith) (broken_after b (front ++ text) (length front + at) (unescaped (b == percent_sign) (begins_with_digits (front ++ text)) other) rest)
  where
    unescaped : (same digits : Bool) → same ≡ false → (not same || digits) ≡ true
    unescaped same digits e = rw e refl

-- the first `%` of a text, if it is broken
pub broken_first : (front suffix : List ℕ) → FreeOf percent_sign front → begins_with_digits suffix ≡ false → IsBrokenAt (front ++ percent_sign ∷ suffix) (length front)
broken_first front suffix free broken = record { before = front; suffix = suffix; first = sound_free front free; joined = refl; broken = broken; offset = refl }

-- a broken escape after the first `%` of a text, which has its digits
pub broken_later : (front suffix : List ℕ) (at : ℕ) → FreeOf percent_sign front → begins_with_digits suffix ≡ true → IsBrokenAt suffix at → IsBrokenAt (front ++ percent_sign ∷ suffix) (length front + (at + 1))
broken_later front suffix at free digits h = broken_after_free front (percent_sign ∷ suffix) (at + 1) free (broken_after percent_sign suffix at digits h)
