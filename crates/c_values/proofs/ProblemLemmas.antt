-- The report of an error of reading is that of the refusal of its text; beside the number of an error
-- without details the problem is all 0.
use Rattle.std.proofs.Common.{◌≡◌, ◌≢◌, ℕ, List, length, false, Option, Some, None, refl, ap, ◌∙◌}
use Rattle.gix_url.specs.declared.error.Error.{Error}
use Rattle.gix_url.specs.declared.error.Error.TheVariants as error
use Rattle.git_refusals.specs.declared.refusal.Refusal.{Refusal}
use Rattle.git_refusals.specs.Kinds.{kind_of}
use Rattle.git_parts.specs.Fronts.{shown_front}
use Rattle.git_refusals.specs.Reasons.{Refused}
use Rattle.git_parts.proofs.Refusing.OneLemmas.{one_refusal}
use Rattle.gix_url.specs.Flaws.{Flaw, IsErrorOf, IsNotOfReading, ReturnsRefusal}
use Rattle.c_values.specs.Codes.{error_code, error_shown, error_total, has_problem, if_too_long, no_problem, problem_of_other, problem_of_refusal, refusal_problem}

-- the error of a refusal is none of memory, and is a flaw of the text
not_memory : (b : List ℕ) (r : Refusal) (e : Error) → IsErrorOf b r e → e ≢ error.Memory
not_memory b r error.Memory h = absurd h
not_memory b r error.EmptyLocal h = λ same. absurd (cc)
not_memory b r (error.MissingPath form input) h = λ same. absurd (cc)
not_memory b r (error.NotUtf8 form input) h = λ same. absurd (cc)
not_memory b r (error.TooLong shown total) h = λ same. absurd (cc)
not_memory b r (error.BadUrl form fault input) h = λ same. absurd (cc)
not_memory b r (error.HelperName name) h = absurd h
not_memory b r (error.Unwritable fault) h = absurd h
not_memory b r (error.NoHome user) h = absurd h
not_memory b r error.PathNotUtf8 h = absurd h
not_memory b r error.Unresolved h = absurd h

is_flaw : (b : List ℕ) (r : Refusal) (e : Error) → Refused b r → IsErrorOf b r e → Flaw b e
is_flaw b r error.Memory refused h = tt
is_flaw b r error.EmptyLocal refused h = (r, refused, h)
is_flaw b r (error.MissingPath form input) refused h = (r, refused, h)
is_flaw b r (error.NotUtf8 form input) refused h = (r, refused, h)
is_flaw b r (error.TooLong shown total) refused h = (r, refused, h)
is_flaw b r (error.BadUrl form fault input) refused h = (r, refused, h)
is_flaw b r (error.HelperName name) refused h = absurd h
is_flaw b r (error.Unwritable fault) refused h = absurd h
is_flaw b r (error.NoHome user) refused h = absurd h
is_flaw b r error.PathNotUtf8 refused h = absurd h
is_flaw b r error.Unresolved refused h = absurd h

-- so its refusal is this one
abbrev pub Returns : Error → Option Refusal → Type 0
Returns e found = (b : List ℕ) → e ≢ error.Memory → Flaw b e → ReturnsRefusal b found

pub same_refusal : (b : List ℕ) (r : Refusal) (e : Error) (found : Option Refusal) → Refused b r → IsErrorOf b r e → Returns e found → found ≡ Some r
same_refusal b r e found refused is returned =
    let (s, same, again) = returned b (not_memory b r e is) (is_flaw b r e refused is) in
    same ∙ ap Some (one_refusal b s r again refused)

-- the lengths that the error holds are those of the text and of its front
lengths_of : (b : List ℕ) (r : Refusal) (e : Error) → IsErrorOf b r e
    → (error_shown e ≡ if_too_long (kind_of r.reason) (length (shown_front b r))) × (error_total e ≡ if_too_long (kind_of r.reason) (length b))
lengths_of b r error.Memory h = absurd h
lengths_of b r error.EmptyLocal h = rw h (refl, refl)
lengths_of b r (error.MissingPath form input) h = rw h.0 (refl, refl)
lengths_of b r (error.NotUtf8 form input) h = rw h.0 (refl, refl)
lengths_of b r (error.TooLong shown total) h = rw h.0 (ap length h.1, h.2)
lengths_of b r (error.BadUrl form fault input) h = rw h.0 (refl, refl)
lengths_of b r (error.HelperName name) h = absurd h
lengths_of b r (error.Unwritable fault) h = absurd h
lengths_of b r (error.NoHome user) h = absurd h
lengths_of b r error.PathNotUtf8 h = absurd h
lengths_of b r error.Unresolved h = absurd h

pub reported_of_refusal : (b : List ℕ) (r s : Refusal) (e : Error) → Refused b r → IsErrorOf b r e → Returns e (Some s)
    → refusal_problem s (error_shown e) (error_total e) ≡ problem_of_refusal b r
reported_of_refusal b r s e refused is returned =
    let found : Some s ≡ Some r = same_refusal b r e (Some s) refused is returned in
    let same : s ≡ r = (cc) in
    let (shown, total) = lengths_of b r e is in
    rw same (rw shown (rw total refl))

-- an error of a refusal has one
pub has_refusal : (b : List ℕ) (r : Refusal) (e : Error) → Refused b r → IsErrorOf b r e → Returns e None → ⊥
has_refusal b r e refused is returned = let found : None ≡ Some r = same_refusal b r e None refused is returned in (cc)

-- an error without details is none of reading, and holds nothing to report
pub other_error : (e : Error) → has_problem (error_code e) ≡ false → IsNotOfReading e × (problem_of_other e ≡ no_problem)
other_error error.Memory h = (tt, refl)
other_error error.EmptyLocal h = absurd (cc)
other_error (error.MissingPath kind input) h = absurd (cc)
other_error (error.NotUtf8 kind input) h = absurd (cc)
other_error (error.TooLong shown total) h = absurd (cc)
other_error (error.BadUrl kind fault input) h = absurd (cc)
other_error (error.HelperName name) h = (tt, refl)
other_error (error.Unwritable fault) h = absurd (cc)
other_error (error.NoHome user) h = (tt, refl)
other_error error.PathNotUtf8 h = (tt, refl)
other_error error.Unresolved h = (tt, refl)
