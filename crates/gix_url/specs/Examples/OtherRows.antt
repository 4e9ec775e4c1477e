-- Rows of errors: the texts that they keep.
use Rattle.std.specs.Prelude.{◌≡◌, ℕ, List}
use Rattle.bstr.specs.Owned.{bstring_bytes}
use Rattle.bstr.specs.declared.bstring.BString.{BString}
use Rattle.git_syntax.specs.declared.refusal.UrlKind.{UrlKind}
use Rattle.git_syntax.specs.declared.refusal.UrlFault.{UrlFault}
use Rattle.gix_url.specs.declared.error.Error.TheVariants as error
use Rattle.gix_url.specs.Flaws.{Flaw}

-- an error of a text that lacks its path, or that is a bad URL, has the text
abbrev pub KeptRows : Type 0
KeptRows =
    ((b : List ℕ) (taken_for : UrlKind) (input : BString)
    → Flaw b (error.MissingPath taken_for input) → bstring_bytes input ≡ b)
    × ((b : List ℕ) (taken_for : UrlKind) (named : UrlFault) (input : BString)
    → Flaw b (error.BadUrl taken_for named input) → bstring_bytes input ≡ b)
