-- Plain texts: printable ASCII without `%`. The results of the other tests for them.
use Rattle.std.proofs.Common.{◌≡◌, ◌∙◌, ◌<◌, ◌++◌, ℕ, true, List, refl, sym, arith}
use Rattle.std.specs.Str.{IsUtf8}
use Rattle.std.proofs.lemmas.Bool.{and_parts}
use Rattle.std.proofs.lemmas.Bool.Decides.{nat_tests}
use Rattle.std.proofs.lemmas.List.Folds.{list_all-append}
use Rattle.percent_encoding.specs.Percent.{percent_decode}
use Rattle.git_syntax.specs.Bytes.{percent_sign, FreeOf, LacksWhiteSpace}
use Rattle.git_syntax.specs.Escapes.{is_plain, is_plain_byte, is_sound}
use Rattle.git_syntax.proofs.Texts.CutLemmas.{free_of_all, lacks_of_all}
use Rattle.git_syntax.proofs.Texts.EscapeLemmas.{ascii_class, utf8_class, white_space_ascii, sound_free, decode_kept}

-- a plain byte is ASCII
plain_ascii : (b : ℕ) → is_plain_byte b ≡ true → b < 128
plain_ascii b plain = grind (arith, nat_tests)

-- a plain text is UTF-8
pub plain_utf8 : (t : List ℕ) → is_plain t ≡ true → IsUtf8 t
plain_utf8 t plain = utf8_class is_plain_byte plain_ascii t plain

-- it holds no white space
pub plain_white_space : (t : List ℕ) → is_plain t ≡ true → LacksWhiteSpace t
plain_white_space t plain = grind (arith, nat_tests, plain_ascii, ascii_class, lacks_of_all, white_space_ascii)

-- it is free of `%`
pub plain_free : (t : List ℕ) → is_plain t ≡ true → FreeOf percent_sign t
plain_free t plain = free_of_all is_plain_byte percent_sign t plain refl

-- so it is sound
pub plain_sound : (t : List ℕ) → is_plain t ≡ true → is_sound t ≡ true
plain_sound t plain = sound_free t (plain_free t plain)

-- it decodes to itself, so its decoding is UTF-8
pub plain_means_utf8 : (t : List ℕ) → is_plain t ≡ true → IsUtf8 (percent_decode t)
plain_means_utf8 t plain = grind (arith, nat_tests, plain_utf8, plain_free, decode_kept)

-- the pieces of a plain text are plain
pub plain_parts : (x y : List ℕ) → is_plain (x ++ y) ≡ true → (is_plain x ≡ true) × (is_plain y ≡ true)
plain_parts x y plain = and_parts _ _ (sym (list_all-append is_plain_byte x y) ∙ plain)
