-- How a URL is cut at its scheme and its authority.
use Rattle.std.proofs.Common.{◌≡◌, ◌∙◌, ◌∷◌, ◌++◌, ℕ, false, List, refl, sym, ap}
use Rattle.std.proofs.lemmas.Bool.{false≢true}
use Rattle.git_syntax.specs.Bytes.{colon, slash, FreeOf, begins_with, is_scheme_text}
use Rattle.git_syntax.proofs.Texts.CutLemmas.{tails, cut_unique, scheme_text_free}
use Rattle.git_rules.specs.Normal.{UrlCut}

url_pieces : (text scheme suffix s a b : List ℕ) → FreeOf colon scheme → text ≡ scheme ++ colon ∷ suffix → UrlCut text s a b → (scheme ≡ s) × (suffix ≡ slash ∷ slash ∷ (a ++ b))
url_pieces text scheme suffix s a b free joined h =
    cut_unique colon scheme s suffix (slash ∷ slash ∷ (a ++ b)) free (scheme_text_free s colon h.scheme_text refl) (sym joined ∙ h.joined)

pub no_scheme_no_url : (text scheme suffix s a b : List ℕ) → FreeOf colon scheme → text ≡ scheme ++ colon ∷ suffix → is_scheme_text scheme ≡ false → UrlCut text s a b → ⊥
no_scheme_no_url text scheme suffix s a b free joined other h =
    false≢true (sym other ∙ ap is_scheme_text (url_pieces text scheme suffix s a b free joined h).0 ∙ h.scheme_text)

pub no_slash_no_url : (text scheme suffix s a b : List ℕ) → FreeOf colon scheme → text ≡ scheme ++ colon ∷ suffix → begins_with slash suffix ≡ false → UrlCut text s a b → ⊥
no_slash_no_url text scheme suffix s a b free joined other h =
    false≢true (sym other ∙ ap (begins_with slash) (url_pieces text scheme suffix s a b free joined h).1)

pub one_slash_no_url : (text scheme suffix more s a b : List ℕ) → FreeOf colon scheme → text ≡ scheme ++ colon ∷ suffix → suffix ≡ slash ∷ more → begins_with slash more ≡ false → UrlCut text s a b → ⊥
one_slash_no_url text scheme suffix more s a b free joined first other h =
    false≢true (sym other ∙ ap (begins_with slash) (tails (sym first ∙ (url_pieces text scheme suffix s a b free joined h).1)))
