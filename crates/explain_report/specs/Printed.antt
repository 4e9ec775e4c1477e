-- Texts written to a terminal: none of their characters is a control character.
use Rattle.std.specs.Prelude.{◌≡◌, ℕ, Bool, true, false, not, ◌&&◌, List, Result, encode_utf8_all, ⊤}
use Rattle.std.specs.List.{list_all}
use Rattle.std.specs.Char.{is_control}
use Rattle.std.specs.Fmt.{HasWritten, IsPlainFormatter, WritesInCalls}
use Rattle.std.specs.declared.fmt.Formatter.{Formatter}
use lib.Utf8.{scalar}
use Rattle.explain_report.specs.declared.text.printed.Spelling.{Spelling}
use Rattle.explain_report.specs.declared.text.printed.Spelling.TheVariants as spelling

-- a character that isn't a control character
abbrev pub is_printed : ℕ → Bool
is_printed c = scalar c && not (is_control c)

-- the text is UTF-8, and none of its characters is a control character
pub record IsPrinted (text : List ℕ) : Type 0 where
  pub characters : List ℕ
  pub printed : list_all is_printed characters ≡ true
  pub spelled : text ≡ encode_utf8_all characters

-- the text written between both states has no control character
pub record AddsPrinted {W : Type 0} (took : W → List ℕ → W → Type 0) (old new : W) : Type 0 where
  pub text : List ℕ
  pub wrote : WritesInCalls took old text new
  pub printed : IsPrinted text

-- a plain formatter has written a text without a control character
abbrev pub WritesPrinted : {W : Type 0} → (W → List ℕ → W → Type 0) → Formatter W → Formatter W → Type 0
WritesPrinted took f g = IsPlainFormatter f → (text : List ℕ) × HasWritten took f text g × IsPrinted text

-- the character, written in this way, is a text without a control character
abbrev pub IsSpelled : ℕ → Spelling → Type 0
IsSpelled c (spelling.Plain columns) = is_control c ≡ false
IsSpelled c (spelling.Short text) = IsPrinted text.now
IsSpelled c spelling.Bytes = ⊤
IsSpelled c spelling.Number = ⊤
