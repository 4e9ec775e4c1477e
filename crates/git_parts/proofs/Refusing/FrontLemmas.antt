-- The front that the error of a URL that is too long shows: its scheme, and the shown part of the rest. So it
-- names the refusal.
use Rattle.std.proofs.Common.{◌≡◌, ℕ, ◌+◌, ◌-◌, ◌<◌, ◌≤◌, inl, inr, List, ◌++◌, length, take, refl, sym, ap, subst, ◌∙◌, arith, codes}
use Rattle.std.proofs.Math.Seq.{take-append-add}
use Rattle.std.proofs.lemmas.Bool.{cases_lt}
use Rattle.git_syntax.specs.declared.refusal.UrlKind.TheVariants.{Url}
use Rattle.git_syntax.specs.Bytes.{Holds}
use Rattle.git_syntax.specs.Authority.{Fits}
use Rattle.git_syntax.specs.Flaws.{OtherUrlForm}
use Rattle.git_syntax.proofs.Texts.CutLemmas.{mark_cut_unique}
use Rattle.git_refusals.specs.declared.place.Place.{Place}
use Rattle.git_refusals.specs.declared.reason.Reason.TheVariants as reason
use Rattle.git_refusals.specs.declared.reason.RefusalKind.TheVariants as kind
use Rattle.git_refusals.specs.declared.refusal.Refusal.{Refusal}
use Rattle.git_parts.specs.Fronts.{shown_front}
use Rattle.git_refusals.specs.Kinds.{kind_of, refusal_of}
use Rattle.git_refusals.specs.Promised.{IsOfKind}
use Rattle.git_refusals.specs.Reasons.{Then, TooLong, Refused}
use Rattle.git_refusals.proofs.Refusing.UnspelledLemmas.{refused_names}
use Rattle.git_parts.proofs.Refusing.OneLemmas.{one_refusal}

-- the place of a scheme that is too long
abbrev pub scheme_place : List ℕ → Place
scheme_place scheme = record { reason = reason.SchemeTooLong; at = 0; len = length scheme }

-- the place of the text after a shorter scheme, of which this is shown
abbrev pub rest_place : List ℕ → List ℕ → Place
rest_place scheme shown = record { reason = reason.AuthorityTooLong; at = length scheme + 3; len = length shown }

-- the refusal of a URL that is too long, of which this scheme and this of the rest are shown
pub data LongRefusal (scheme shown : List ℕ) (r : Refusal) : Type 0 where
  by_scheme : 1024 < length scheme → r ≡ refusal_of Url (scheme_place scheme) → LongRefusal scheme shown r
  by_rest : length scheme ≤ 1024 → r ≡ refusal_of Url (rest_place scheme shown) → LongRefusal scheme shown r

-- a front is a scheme, `://` and this of the rest, and they name the refusal
record NamesRefusal (front : List ℕ) (r : Refusal) : Type 0 where
  pub scheme : List ℕ
  pub shown : List ℕ
  pub first : ¬ Holds (codes "://") scheme
  pub joined : front ≡ scheme ++ (codes "://" ++ shown)
  pub named : LongRefusal scheme shown r

-- the first bytes of a URL, to 1,024 after its mark, are its scheme, the mark and the first 1,024 after it
first_bytes : (b scheme rest : List ℕ) (n : ℕ) → b ≡ scheme ++ (codes "://" ++ rest) → n ≡ length scheme → take (n + 1027) b ≡ scheme ++ (codes "://" ++ take 1024 rest)
first_bytes b scheme rest n e size = ap (λ k. take (k + 1027) b) size ∙ ap (take (length scheme + 1027)) e ∙ take-append-add scheme (codes "://" ++ rest) 1027

-- the shown front of a URL that doesn't fit names its refusal
unfit_names : (b scheme rest : List ℕ) (r : Refusal) → OtherUrlForm b scheme rest → ¬ Fits scheme rest → Refused b r → NamesRefusal (shown_front b r) r
unfit_names b scheme rest r form unfit h = elim (cases_lt 1024 (length scheme)) [
  | inl long ↦
      let p = scheme_place scheme in
      let too_long : TooLong scheme rest p = TooLong.long_scheme long (record { named = refl; start = refl; size = refl }) in
      let is = one_refusal b r (refusal_of Url p) h (Refused.url scheme rest p form (Then.at_first too_long) refl) in
      record {
        scheme = scheme;
        shown = take 1024 rest;
        first = form.form.first;
        joined = ap (shown_front b) is ∙ first_bytes b scheme rest (length scheme) form.form.joined refl;
        named = LongRefusal.by_scheme long is;
      }
  | inr short ↦
      let p = rest_place scheme (take 1024 rest) in
      let too_long : TooLong scheme rest p = TooLong.long_rest short unfit (record { named = refl; start = refl; size = refl }) in
      let is = one_refusal b r (refusal_of Url p) h (Refused.url scheme rest p form (Then.at_first too_long) refl) in
      record {
        scheme = scheme;
        shown = take 1024 rest;
        first = form.form.first;
        joined = ap (shown_front b) is ∙ first_bytes b scheme rest (length scheme + 3 - 3) form.form.joined (omega arith);
        named = LongRefusal.by_rest short is;
      }
]

-- so does the shown front of each URL that is too long
front_names : (front b : List ℕ) (r : Refusal) → Refused b r → kind_of r.reason ≡ kind.TooLong → front ≡ shown_front b r → NamesRefusal front r
front_names front b r h k e =
    let flaw = subst (λ x. IsOfKind b r.form x) k (refused_names b r h) in
    subst (λ x. NamesRefusal x r) (sym e) (unfit_names b flaw.front flaw.rest r flaw.form flaw.unfit h)

-- the shown front of a URL that is too long holds the mark
pub front_marked : (front b : List ℕ) (r : Refusal) → Refused b r → kind_of r.reason ≡ kind.TooLong → front ≡ shown_front b r → Holds (codes "://") front
front_marked front b r h k e =
    let names = front_names front b r h k e in
    (names.scheme, names.shown, names.joined)

-- its scheme and the shown part of the rest are the text before and after its first mark
pub front_cut : (front b scheme shown : List ℕ) (r : Refusal) → Refused b r → kind_of r.reason ≡ kind.TooLong → front ≡ shown_front b r → ¬ Holds (codes "://") scheme → front ≡ scheme ++ (codes "://" ++ shown) → LongRefusal scheme shown r
front_cut front b scheme shown r h k e first joined =
    let names = front_names front b r h k e in
    let cut = mark_cut_unique names.scheme scheme names.shown shown names.first first (sym names.joined ∙ joined) in
    subst (λ s. LongRefusal scheme s r) cut.1 (subst (λ s. LongRefusal s names.shown r) cut.0 names.named)

-- the refusal, if the scheme is too long
pub long_scheme_named : (scheme shown : List ℕ) (r : Refusal) → LongRefusal scheme shown r → 1024 < length scheme → refusal_of Url (scheme_place scheme) ≡ r
long_scheme_named scheme shown r (LongRefusal.by_scheme _ is) long = sym is
long_scheme_named scheme shown r (LongRefusal.by_rest short is) long = absurd (omega (arith, short, long))

-- the refusal, if it isn't
pub long_rest_named : (scheme shown : List ℕ) (r : Refusal) → LongRefusal scheme shown r → length scheme ≤ 1024 → refusal_of Url (rest_place scheme shown) ≡ r
long_rest_named scheme shown r (LongRefusal.by_scheme long is) short = absurd (omega (arith, short, long))
long_rest_named scheme shown r (LongRefusal.by_rest _ is) short = sym is
