-- Schemes, the lengths of URLs, and file URLs: the flaws that the checks find, and the form of a text in
-- which they find nothing.
use Rattle.std.proofs.Common.{◌≡◌, ℕ, true, false, List, [], ◌∷◌, length, Some, None, inl, inr, refl, sym, ap, subst, ◌∙◌, codes}
use Rattle.std.specs.Prelude.{IsUtf8, chars, slice_get}
use Rattle.std.specs.List.{list_any, list_all}
use Rattle.std.specs.Char.{is_ascii_alphabetic}
use Rattle.std.proofs.Math.Utf8.{encodes}
use Rattle.std.proofs.lemmas.Bool.{false≢true, and_from, and_parts}
use Rattle.std.proofs.lemmas.Str.{encodes-chars}
use Rattle.git_syntax.specs.Location.{path_alone}
use Rattle.git_syntax.specs.Location.Scheme.{file}
use Rattle.git_syntax.specs.Bytes.{slash, FreeOf, is_name_byte, is_scheme_text}
use Rattle.git_syntax.specs.Authority.{unless_empty}
use Rattle.git_syntax.specs.Flaws.{UrlForm}
use Rattle.git_syntax.proofs.Texts.CutLemmas.{free_or_cut}
use Rattle.git_syntax.proofs.Parsing.ClassifierLemmas.{file_found, name_byte_ascii}
use Rattle.git_refusals.specs.Characters.{IsCharacterAt, is_no_scheme_character}
use Rattle.git_refusals.specs.Internal.Readable.{IsFileUrl, IsScheme}
use Rattle.git_refusals.proofs.Refusing.CharacterLemmas.{class_bytes}

-- ---- file URLs

-- text that has a `/` after the mark of a file URL is one
pub file_read : (b rest : List ℕ) → UrlForm b (codes "file") rest → IsUtf8 b → ¬ FreeOf slash rest → IsFileUrl b
file_read b rest form text held =
    elim (free_or_cut slash rest) [
      | inl free ↦ absurd (held free)
      | inr (host, suffix, free, e) ↦
          let path = slash ∷ suffix in
          (record (path_alone file false path) { host = unless_empty host }, file_found b rest host path _ form text free e refl refl)
    ]

-- ---- schemes

-- a text without a first byte is empty
pub nothing_first : (text : List ℕ) → None ≡ slice_get text 0 → text ≡ []
nothing_first [] e = refl
nothing_first (c ∷ text) e = cc

-- a text with a first byte is that byte and a rest
pub starts : (text : List ℕ) (b : ℕ) → Some b ≡ slice_get text 0 → (rest : List ℕ) × (text ≡ b ∷ rest)
starts [] b e = cc
starts (c ∷ text) b e = (text, cc)

-- a text that begins with a letter and holds nothing that a scheme doesn't is one
pub scheme_read : (text : List ℕ) (b : ℕ) (rest : List ℕ) → IsUtf8 text → text ≡ b ∷ rest → is_ascii_alphabetic b ≡ true → list_any is_no_scheme_character (chars text) ≡ false → IsScheme text
scheme_read text b rest utf8 e letter none =
    let names : list_all is_name_byte (b ∷ rest) ≡ true = subst (λ t. list_all is_name_byte t ≡ true) e (class_bytes is_name_byte name_byte_ascii text utf8 none) in
    ap is_scheme_text e ∙ and_from (is_ascii_alphabetic b) (list_all is_name_byte rest) letter (and_parts (is_name_byte b) (list_all is_name_byte rest) names).1

-- if no character is any, there is none
none_any : (cs : List ℕ) → list_any (λ _. true) cs ≡ false → cs ≡ []
none_any [] h = refl
none_any (c ∷ cs) h = absurd (false≢true (sym h))

-- a text of which no character is any is empty
pub no_character : (text : List ℕ) → IsUtf8 text → list_any (λ _. true) (chars text) ≡ false → text ≡ []
no_character text utf8 none = sym (encodes-chars text utf8) ∙ ap encodes (none_any (chars text) none)

-- the first of all characters is at the front
pub first_at_front : (text : List ℕ) (at len : ℕ) → IsCharacterAt (λ _. true) text at len → at ≡ 0
first_at_front text at len h = h.offset ∙ ap (λ t. length (encodes t)) (none_any h.before h.first)
