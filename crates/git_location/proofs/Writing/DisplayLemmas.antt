-- The shown text of a text whose front is UTF-8.
use Rattle.std.proofs.Common.{◌≡◌, ℕ, List, ◌++◌, IsUtf8, encode_utf8_all, refl, sym, ap, subst, ◌∙◌}
use mathlib.Core.Bool.{true≢false}
use Rattle.std.specs.declared.fmt.Error.{Error}
use Rattle.std.specs.declared.fmt.Formatter.{Formatter}
use Rattle.std.specs.Fmt.{HasWrittenStyled, IsDefaultSpec, WritesOnOk, WritesStyledOnOk}
use Rattle.std.specs.Prelude.{Result, Ok, Err, OnOk}
use Rattle.std.proofs.Output.{has_written_styled_append, has_written_styled_of_eq}
use Rattle.std.proofs.lemmas.Str.{encodes-append}
use Rattle.bstr.specs.Utf8.{lossy_chars}
use Rattle.bstr.proofs.lemmas.LossyLemmas.{lossy_chars-front}
use Rattle.git_syntax.specs.Bytes.{lossy_text}
use Rattle.git_location.specs.Internal.Sinks.{ShowsEnd, ShowsText}

-- a front that is UTF-8 is shown as it is
pub lossy_front : (front rest : List ℕ) → IsUtf8 front → lossy_text (front ++ rest) ≡ front ++ lossy_text rest
lossy_front front rest h =
    let cs = h.0 in
    ap (λ x. lossy_text (x ++ rest)) (sym h.1.1)
    ∙ (ap encode_utf8_all (lossy_chars-front cs rest h.1.0) ∙ (encodes-append cs (lossy_chars rest) ∙ ap (λ x. x ++ lossy_text rest) h.1.1))

module _ {W : Type 0} (took : W → List ℕ → W → Type 0) where
  -- two texts that were shown, one after the other
  pub shown_on : (f g h : Formatter W) (a b all : List ℕ) → HasWrittenStyled took f a g → HasWrittenStyled took g b h → a ++ b ≡ all → HasWrittenStyled took f all h
  shown_on f g h a b all first second whole = has_written_styled_of_eq took f (a ++ b) all h whole (has_written_styled_append took f a g b h first second)

  -- a formatter that took a text that is UTF-8 shows it unchanged, whatever comes after it
  pub shown_text : (f g : Formatter W) (r : Result (Unit {0}) Error) (text : List ℕ) → IsUtf8 text → WritesStyledOnOk took f r text g → OnOk r (ShowsText took f text g)
  shown_text f g (Ok u) text utf8 writes = (λ suffix. lossy_front text suffix utf8, λ flush. writes flush refl)
  shown_text f g (Err e) text utf8 writes = tt

  -- a formatter that took the end of a text shows it, whatever bytes it is
  pub shown_end : (f g : Formatter W) (r : Result (Unit {0}) Error) (end : List ℕ) → WritesStyledOnOk took f r (lossy_text end) g → OnOk r (ShowsEnd took f end g)
  shown_end f g (Ok u) end writes = λ flush. writes flush refl
  shown_end f g (Err e) end writes = tt

  -- a text that was put to its end was shown
  pub shown_whole : (f g : Formatter W) (r : Result (Unit {0}) Error) (text : List ℕ) → OnOk r (ShowsEnd took f text g) → WritesStyledOnOk took f r (lossy_text text) g
  shown_whole f g (Ok u) text shows = λ flush ok. shows flush
  shown_whole f g (Err e) text shows = λ flush ok. absurd (true≢false (sym ok))

  -- a text that is shown whatever options a formatter has is shown without any
  pub shown_plain : (f g : Formatter W) (bs : List ℕ) (r : Result (Unit {0}) Error) → WritesStyledOnOk took f r bs g → WritesOnOk took f r bs g
  shown_plain f g bs r shown = λ plain ok.
      let written = shown plain.flush ok in
      record { wrote = written.wrote; plain = record { bare = subst IsDefaultSpec (sym written.spec) plain.bare; flush = written.flush } }
