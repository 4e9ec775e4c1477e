-- The refusal that an error of reading returns is that of the text which it is the error of.
use Rattle.std.proofs.Common.{◌≡◌, ◌⊎◌, ℕ, inl, inr, List, [], Option, Some, None, refl, sym, subst, ◌∙◌}
use Rattle.std.specs.Prelude.{MatchOption}
use Rattle.bstr.specs.declared.bstring.BString.{BString}
use Rattle.bstr.specs.Owned.{bstring_bytes}
use Rattle.git_syntax.specs.declared.refusal.UrlKind.{UrlKind}
use Rattle.git_syntax.specs.declared.refusal.UrlFault.{UrlFault}
use Rattle.git_syntax.specs.Location.{Location}
use Rattle.git_syntax.specs.Grammar.{Spells}
use Rattle.git_refusals.specs.declared.reason.RefusalKind.TheVariants as kind
use Rattle.git_refusals.specs.declared.refusal.Refusal.{Refusal}
use Rattle.git_refusals.specs.Kinds.{kind_of}
use Rattle.git_parts.specs.Fronts.{shown_front}
use Rattle.git_refusals.specs.Promised.{IsOfKind}
use Rattle.git_refusals.specs.Reasons.{Refused}
use Rattle.git_refusals.proofs.Refusing.UnspelledLemmas.{refused_names, refused_unspelled}
use Rattle.gix_url.specs.declared.error.Error.{Error}
use Rattle.gix_url.specs.declared.error.Error.TheVariants as error
use Rattle.gix_url.specs.Flaws.{Flaw, ReturnsRefusal}

-- a text that has a refusal gets it
pub returned : (b t : List ℕ) (result : Option Refusal) (r : Refusal) → t ≡ b → Refused b r → MatchOption result ((v : Location) × Spells t v) (λ s. Refused t s) → ReturnsRefusal b result
returned b t None r same refused (v, spelled) = absurd (refused_unspelled b r refused v (subst (λ x. Spells x v) same spelled))
returned b t (Some s) r same refused found = (s, refl, subst (λ x. Refused x s) same found)

-- the error keeps this text
abbrev pub Keeps : Error → BString → Type 0
Keeps e input = ((k : UrlKind) × (e ≡ error.MissingPath k input))
    ⊎ (((k : UrlKind) × (e ≡ error.NotUtf8 k input))
    ⊎ ((k : UrlKind) × (fault : UrlFault) × (e ≡ error.BadUrl k fault input)))

-- an error that keeps its text keeps the one that it is the error of
kept : (b : List ℕ) (e : Error) (input : BString) → Keeps e input → Flaw b e → ((r : Refusal) × Refused b r) × (bstring_bytes input ≡ b)
kept b e input (inl (k, is)) flaw = let (r, refused, held) = subst (Flaw b) is flaw in ((r, refused), held.2)
kept b e input (inr (inl (k, is))) flaw = let (r, refused, held) = subst (Flaw b) is flaw in ((r, refused), held.2)
kept b e input (inr (inr (k, fault, is))) flaw = let (r, refused, held) = subst (Flaw b) is flaw in ((r, refused), held.2)

-- so it returns the refusal of that
pub kept_returned : (b t : List ℕ) (e : Error) (input : BString) (result : Option Refusal) → t ≡ bstring_bytes input → Keeps e input → Flaw b e → MatchOption result ((v : Location) × Spells t v) (λ s. Refused t s) → ReturnsRefusal b result
kept_returned b t e input result same keeps flaw found =
    let ((r, refused), is) = kept b e input keeps flaw in returned b t result r (same ∙ is) refused found

-- the empty text alone has the error of the empty text
pub empty_returned : (b : List ℕ) (e : Error) (result : Option Refusal) → e ≡ error.EmptyLocal → Flaw b e → MatchOption result ((v : Location) × Spells [] v) (λ s. Refused [] s) → ReturnsRefusal b result
empty_returned b e result is flaw found =
    let (r, refused, empty) = subst (Flaw b) is flaw in
    returned b [] result r (sym (subst (IsOfKind b r.form) empty (refused_names b r refused))) refused found

-- a front returns the refusal of the text that it is the front of
pub front_returned : (b t : List ℕ) (e : Error) (shown : BString) (total : ℕ) (result : Option Refusal) → t ≡ bstring_bytes shown → e ≡ error.TooLong shown total → Flaw b e → ((a : List ℕ) (r : Refusal) → Refused a r → kind_of r.reason ≡ kind.TooLong → t ≡ shown_front a r → result ≡ Some r) → ReturnsRefusal b result
front_returned b t e shown total result same is flaw found =
    let (r, refused, held) = subst (Flaw b) is flaw in (r, found b r refused held.0 (same ∙ held.1), refused)
