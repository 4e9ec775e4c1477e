-- Flaws: the facts about a text that a parse error states, and the text in the error.
use Rattle.std.specs.Prelude.{◌≡◌, ℕ, List, length, Option, Some}
use Rattle.bstr.specs.Owned.{bstring_bytes}
use Rattle.gix_url.specs.declared.error.Error.{Error}
use Rattle.gix_url.specs.declared.error.Error.TheVariants as error
use Rattle.git_refusals.specs.declared.reason.RefusalKind.TheVariants as kind
use Rattle.git_refusals.specs.declared.refusal.Refusal.{Refusal}
pub use Rattle.git_syntax.specs.Flaws.{IsNoPort, HasBadPort, IsPortPlace, IsNoHost, IsNoInner, BracketsAround, HasBadHost, HostPortFlaw, PieceOf, HasBadUser, AuthorityFlaw, UrlForm, OtherUrlForm, UrlCut, UrlFlaw, ScpNameFlaw, ScpHostFlaw, ScpFlaw, MissesPath, HasForm, IsTooLong, KindFlaw, NamesFlaw}
pub use Rattle.git_refusals.specs.Characters.{IsFirstAt, IsBrokenAt, IsCharacterAt, is_no_scheme_character, is_no_host_character, unit_len, spelled_len, undecodable_at, undecodable_len}
pub use Rattle.git_parts.specs.Fronts.{scheme_length, shown_front}
pub use Rattle.git_refusals.specs.Kinds.{kind_of, fault_in, fault_of, refusal_of, empty_refusal}
pub use Rattle.git_refusals.specs.Reasons.{IsAt, Shifted, Passes, Then, Undecodable, NotText, HasCharacter, HasBackslash, HasBrokenEscape, NoHostText, NoOther, NoInner, NoDigits, PortOutside, WebColons, BadColons, BadHost, BadUser, NoHostAfter, NoHostAtAll, BadParts, BadAuthority, TooLong, BadScheme, NoPath, BadRest, BadUrl, NoFilePath, BadFile, NoScpPath, NoScpHost, BadScpName, BadScpHost, BadFront, BadScp, BadAddressed, Refused}
pub use Rattle.git_refusals.specs.Promised.{IsOfKind, NamesKind}

-- the error is that of the refusal, and has the text, or the front of a text that is too long
abbrev pub IsErrorOf : List ℕ → Refusal → Error → Type 0
IsErrorOf b r error.EmptyLocal = kind_of r.reason ≡ kind.EmptyLocal
IsErrorOf b r (error.MissingPath form input) = (kind_of r.reason ≡ kind.MissingPath) × (form ≡ r.form)
    × (bstring_bytes input ≡ b)
IsErrorOf b r (error.NotUtf8 form input) = (kind_of r.reason ≡ kind.NotUtf8) × (form ≡ r.form)
    × (bstring_bytes input ≡ b)
IsErrorOf b r (error.TooLong shown total) = (kind_of r.reason ≡ kind.TooLong)
    × (bstring_bytes shown ≡ shown_front b r) × (total ≡ length b)
IsErrorOf b r (error.BadUrl form fault input) = (kind_of r.reason ≡ kind.BadUrl fault) × (form ≡ r.form)
    × (bstring_bytes input ≡ b)
IsErrorOf b r _ = ⊥

-- an allocation failed, or the error is that of the bytes' one refusal
abbrev pub Flaw : List ℕ → Error → Type 0
Flaw b error.Memory = Unit {0}
Flaw b e = (r : Refusal) × Refused b r × IsErrorOf b r e

-- the error is not one with which a text is refused when it is read
abbrev pub IsNotOfReading : Error → Type 0
IsNotOfReading error.EmptyLocal = ⊥
IsNotOfReading (error.MissingPath form input) = ⊥
IsNotOfReading (error.NotUtf8 form input) = ⊥
IsNotOfReading (error.TooLong shown total) = ⊥
IsNotOfReading (error.BadUrl form fault input) = ⊥
IsNotOfReading _ = Unit {0}

-- the call returned the refusal of the bytes
abbrev pub ReturnsRefusal : List ℕ → Option Refusal → Type 0
ReturnsRefusal b result = (r : Refusal) × (result ≡ Some r) × Refused b r
