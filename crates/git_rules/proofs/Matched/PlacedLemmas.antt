-- The normal form of a text at the front of a buffer.
use Rattle.std.proofs.Common.{◌≡◌, ℕ, ◌+◌, ◌≤◌, List, ◌++◌, length, take, drop, ap, subst, ◌∙◌, arith, false, nat_lt, inl, inr, Result, Ok, Err}
use Rattle.std.proofs.lemmas.Bool.{cases_Bool, ltb-true}
use Rattle.std.proofs.Math.Seq.{take-append_seam}
use Rattle.git_location.specs.declared.write_error.WriteFault.{WriteFault}
use Rattle.git_location.specs.Internal.Fills.{Placed}
use Rattle.git_location.specs.Internal.Pieces.{text_length}
use Rattle.git_rules.specs.declared.normal.NormalError.{NormalError}
use Rattle.git_rules.specs.declared.normal.NormalError.TheVariants.{NoRoom, NoUrl, BrokenEscape, NoHost, BadHost, BadPort, AboveRoot}
use Rattle.git_rules.specs.declared.pattern.place.PlaceError.{PlaceError}
use Rattle.git_rules.specs.declared.pattern.place.PlaceError.TheVariants.{Fault, Normal}
use Rattle.git_rules.specs.Normal.{NormalPlace}
use Rattle.git_rules.specs.NormalFlaws.{NormalizesIn}
use Rattle.git_rules.specs.Places.{FrontPlacesIn, PlacesIn}

-- the error of a text with the rest of the buffer
front_refused : (t : List ℕ) (buffer_len rest : ℕ) (e : NormalError) → length t + rest ≡ buffer_len → NormalizesIn false t rest (Err e) → FrontPlacesIn t buffer_len (Err (Normal e))
front_refused t buffer_len rest NoRoom whole h = omega (arith, h)
front_refused t buffer_len rest NoUrl whole h = (omega (arith, h.0), h.1, h.2)
front_refused t buffer_len rest BrokenEscape whole h = (omega (arith, h.0), h.1, h.2)
front_refused t buffer_len rest NoHost whole h = (omega (arith, h.0), h.1, h.2)
front_refused t buffer_len rest BadHost whole h = (omega (arith, h.0), h.1, h.2)
front_refused t buffer_len rest BadPort whole h = (omega (arith, h.0), h.1, h.2)
front_refused t buffer_len rest AboveRoot whole h = (omega (arith, h.0), h.1, h.2)

-- the same by the two parts of the buffer
pub front_refused_by : (buffer_len front back : List ℕ) (len : ℕ) (e : NormalError) → front ≡ take len buffer_len → length front ≡ len → length back + len ≡ length buffer_len → NormalizesIn false front (length back) (Err e) → FrontPlacesIn (take len buffer_len) (length buffer_len) (Err (Normal e))
front_refused_by buffer_len front back len e same long whole h =
    subst (λ t. FrontPlacesIn t (length buffer_len) (Err (Normal e))) same (front_refused front (length buffer_len) (length back) e (omega (arith, long, whole)) h)

-- a location without a text has no length of one
pub no_text : (t : Result (List ℕ) WriteFault) (fault : WriteFault) (buffer_len : ℕ) → Err fault ≡ text_length t → PlacesIn t buffer_len (Err (Fault fault))
no_text (Ok t) fault buffer_len e = cc
no_text (Err other) fault buffer_len e = cc

-- the text is at the front if it fits
front_text : (t old new : List ℕ) → length t ≤ length old → Placed (Ok t) old new → take (length t) new ≡ t
front_text t old new fits placed =
    elim (cases_Bool (nat_lt (length old) (length t))) [
      | inl short ↦ absurd (omega (arith, ltb-true (length old) (length t) short))
      | inr enough ↦ let filled : new ≡ t ++ drop (length t) old = rw enough at placed in
          ap (take (length t)) filled ∙ take-append_seam t (drop (length t) old)
    ]

-- the text of a location, read at the front of a buffer
pub read_front : (t : Result (List ℕ) WriteFault) (len : ℕ) (old new : List ℕ) (r : Result NormalPlace PlaceError) → Ok len ≡ text_length t → Placed t old new → len ≤ length old → length new ≡ length old → FrontPlacesIn (take len new) (length new) r → PlacesIn t (length old) r
read_front (Ok t) len old new r same placed fits size h =
    let long : len ≡ length t = cc in
    let front : take len new ≡ t = ap (λ n. take n new) long ∙ front_text t old new (omega arith) placed in
    subst (λ n. FrontPlacesIn t n r) size (subst (λ x. FrontPlacesIn x (length new) r) front h)
read_front (Err fault) len old new r same placed fits size h = cc
