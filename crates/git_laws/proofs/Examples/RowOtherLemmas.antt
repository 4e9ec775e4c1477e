-- Rows of slips, each by computing, and of exceptions, by their facts.
use Rattle.std.proofs.Common.{◌≡◌, ℕ, false, inl, inr, List, [], ◌∷◌, ◌++◌, ◌&&◌, None, codes, refl, arith}
use Rattle.std.proofs.lemmas.Bool.Decides.{nat_tests}
use Rattle.std.specs.Str.{chars}
use Rattle.std.proofs.lemmas.Bool.{leb-true}
use Rattle.std.proofs.lemmas.List.{same_from_push}
use Rattle.std.proofs.lemmas.Option.{same_Some}
use Rattle.percent_encoding.proofs.OnLiterals.{percent_encoding_on_literals}
use Rattle.git_syntax.specs.Location.{Location}
use Rattle.git_syntax.specs.Location.Scheme.{file, https}
use Rattle.git_syntax.specs.Bytes.{colon}
use Rattle.git_syntax.specs.Escapes.{has_percent}
use Rattle.git_location.specs.Text.{has_colon}
use Rattle.git_location.specs.Settled.{IsWeb}
use Rattle.git_laws.specs.Laws.{IsException}
use Rattle.git_laws.specs.Examples.OtherRows.{at_host, SlipRows, ExceptionRows, NoExceptionRows}
use Rattle.git_laws.proofs.Examples.RowFormLemmas.{other_byte, fits_row}

-- slips
pub slip_rows : SlipRows
unfolding percent_encoding_on_literals
slip_rows = (
  refl,
  record { front = codes "/a%20b"; query = None; fragment = None; cut = (codes "/a%20b", (refl, refl), (refl, refl)); path_denoted = refl; query_denoted = refl; fragment_denoted = refl },
  refl,
)

-- ---- exceptions

-- locations that are exceptions
pub exception_rows : ExceptionRows
exception_rows = (IsException.file_host (codes "a:%") refl refl refl refl refl, IsException.web_host (codes "h%41") (inl refl) refl refl refl)

-- a location of another scheme does not
other_row : (v : Location) → ¬ (v.scheme ≡ file) → ¬ IsWeb v → ¬ IsException v
other_row v local web h = grind arith

-- a host of a file URL that lacks a colon or an escape doesn't
file_row : (host path : List ℕ) → (has_colon host && has_percent host) ≡ false → ¬ IsException (at_host file host path)
file_row host path lacks h = grind arith

-- an unsettled host of HTTP is not an exception for its letters
upper_row : ¬ IsException (at_host https (codes "H") (codes "/p"))
unfolding percent_encoding_on_literals chars
upper_row (IsException.file_host host is there open_front marked escaped) = cc
upper_row (IsException.web_host front web there open_front escaped) = other_byte 72 58 refl (same_from_push [] front 72 58 (same_Some (codes "H") (front ++ colon ∷ []) there)).1
upper_row (IsException.web_length web long) =
    long (codes "https://H/p", refl, record { scheme = codes "https"; rest = codes "H/p"; no_colon = refl; joined = refl; fits = fits_row (codes "https") (codes "H") (codes "/p") refl refl refl refl (inr refl) (leb-true _ _ refl) })

-- unsettled locations that are in none
pub no_exception_rows : NoExceptionRows
no_exception_rows = grind (arith, nat_tests, other_row, file_row, upper_row)
