-- The URL that curl would get for a URL: the text determines it.
use Rattle.std.proofs.Common.{◌≡◌, ◌∙◌, ℕ, true, false, ◌||◌, inl, inr, List, ◌∷◌, ◌++◌, refl, sym, ap, subst, bytes_eq, codes}
use Rattle.std.proofs.lemmas.Bool.{eq-eqb}
use Rattle.std.proofs.lemmas.Slice.Eq.{bytes_eq-Decides}
use Rattle.git_syntax.specs.Bytes.{colon, slash, FreeOf, begins_with}
use Rattle.git_syntax.proofs.Texts.CutLemmas.{begins_cut, cut_unique, different_bytes, not_free, tails}
use Rattle.git_modules.proofs.Urls.FeedLemmas.{clash, one_holds}
use Rattle.git_modules.specs.SubmoduleUrls.{IsForCurl, is_curl_scheme}

-- a scheme that the helper for curl serves has no colon
pub curl_free : (s : List ℕ) → is_curl_scheme s ≡ true → FreeOf colon s
curl_free s h =
    let free : (word : List ℕ) → FreeOf colon word → bytes_eq s word ≡ true → FreeOf colon s = λ word plain e. subst (λ t. FreeOf colon t) (sym ((bytes_eq-Decides s word).0 e)) plain in
    elim (one_holds (bytes_eq s (codes "http")) (bytes_eq s (codes "https") || (bytes_eq s (codes "ftp") || bytes_eq s (codes "ftps"))) h) [
      | inl e ↦ free (codes "http") refl e
      | inr h' ↦ elim (one_holds (bytes_eq s (codes "https")) (bytes_eq s (codes "ftp") || bytes_eq s (codes "ftps")) h') [
        | inl e ↦ free (codes "https") refl e
        | inr h'' ↦ elim (one_holds (bytes_eq s (codes "ftp")) (bytes_eq s (codes "ftps")) h'') [
          | inl e ↦ free (codes "ftp") refl e
          | inr e ↦ free (codes "ftps") refl e
        ]
      ]
    ]

-- the text after the first colon of a URL for curl
pub data AfterScheme (t suffix text : List ℕ) : Type 0 where
  named : suffix ≡ colon ∷ text → AfterScheme t suffix text
  whole : (rest : List ℕ) → suffix ≡ slash ∷ slash ∷ rest → text ≡ t → AfterScheme t suffix text

-- a URL for curl, cut at its first colon
pub curl_cut : (t scheme suffix text : List ℕ) → FreeOf colon scheme → t ≡ scheme ++ colon ∷ suffix → IsForCurl t text → (is_curl_scheme scheme ≡ true) × AfterScheme t suffix text
curl_cut t scheme suffix text free e (IsForCurl.named s is joined) =
    let same = cut_unique colon scheme s suffix (colon ∷ text) free (curl_free s is) (sym e ∙ joined) in
    (subst (λ x. is_curl_scheme x ≡ true) (sym same.0) is, AfterScheme.named same.1)
curl_cut t scheme suffix text free e (IsForCurl.whole s rest is joined all) =
    let same = cut_unique colon scheme s suffix (slash ∷ slash ∷ rest) free (curl_free s is) (sym e ∙ joined) in
    (subst (λ x. is_curl_scheme x ≡ true) (sym same.0) is, AfterScheme.whole rest same.1 all)

-- curl would get one text
pub curl_unique : (t text other : List ℕ) → IsForCurl t text → IsForCurl t other → text ≡ other
curl_unique t text other (IsForCurl.named s is joined) (IsForCurl.named s' is' joined') =
    tails (cut_unique colon s s' (colon ∷ text) (colon ∷ other) (curl_free s is) (curl_free s' is') (sym joined ∙ joined')).1
curl_unique t text other (IsForCurl.named s is joined) (IsForCurl.whole s' rest is' joined' all) =
    different_bytes colon slash refl (cut_unique colon s s' (colon ∷ text) (slash ∷ slash ∷ rest) (curl_free s is) (curl_free s' is') (sym joined ∙ joined')).1
curl_unique t text other (IsForCurl.whole s rest is joined all) (IsForCurl.named s' is' joined') =
    different_bytes slash colon refl (cut_unique colon s s' (slash ∷ slash ∷ rest) (colon ∷ other) (curl_free s is) (curl_free s' is') (sym joined ∙ joined')).1
curl_unique t text other (IsForCurl.whole s rest is joined all) (IsForCurl.whole s' rest' is' joined' all') = all ∙ sym all'

-- another scheme than those that the helper for curl serves
pub curl_other : (t scheme suffix : List ℕ) → FreeOf colon scheme → t ≡ scheme ++ colon ∷ suffix → is_curl_scheme scheme ≡ false → (text : List ℕ) → ¬ IsForCurl t text
curl_other t scheme suffix free e other text h = clash (is_curl_scheme scheme) (curl_cut t scheme suffix text free e h).0 other

-- a second colon
pub curl_named : (t scheme suffix text : List ℕ) → t ≡ scheme ++ colon ∷ suffix → is_curl_scheme scheme ≡ true → suffix ≡ colon ∷ text → IsForCurl t text
curl_named t scheme suffix text e is second = IsForCurl.named scheme is (e ∙ ap (λ x. scheme ++ colon ∷ x) second)

-- two slashes
pub curl_whole : (t scheme suffix rest : List ℕ) → t ≡ scheme ++ colon ∷ suffix → is_curl_scheme scheme ≡ true → suffix ≡ slash ∷ rest → begins_with slash rest ≡ true → IsForCurl t t
curl_whole t scheme suffix rest e is first second =
    let more = begins_cut slash rest second in
    IsForCurl.whole scheme more.0 is (e ∙ ap (λ x. scheme ++ colon ∷ x) (first ∙ ap (λ x. slash ∷ x) more.1)) refl
