-- The results of cuts: the pieces joined are the text, and one of them lacks the mark that was searched for.
use Rattle.std.specs.Prelude.{◌≡◌, ℕ, false, List, [], ◌∷◌, ◌++◌, Option, MatchOption, codes}
use Rattle.std.specs.Borrow.{Bor}
use Rattle.git_syntax.specs.Bytes.{FreeOf, Holds, begins_with}

-- the mark after the scheme of a URL
abbrev pub url_mark : List ℕ
url_mark = codes "://"

-- the pieces around the first c, or `None` if the text lacks c
abbrev pub CutsAt : ℕ → List ℕ → Option (Bor (List ℕ) × Bor (List ℕ)) → Type 0
CutsAt c b r = MatchOption r (FreeOf c b) (λ p. FreeOf c p.0.now × (b ≡ p.0.now ++ c ∷ p.1.now))

-- the pieces around the last c, or `None` if the text lacks c
abbrev pub CutsAtLast : ℕ → List ℕ → Option (Bor (List ℕ) × Bor (List ℕ)) → Type 0
CutsAtLast c b r = MatchOption r (FreeOf c b) (λ p. FreeOf c p.1.now × (b ≡ p.0.now ++ c ∷ p.1.now))

-- the pieces around the first `://`, or `None` if the text lacks it
abbrev pub CutsAtMark : List ℕ → Option (Bor (List ℕ) × Bor (List ℕ)) → Type 0
CutsAtMark b r = MatchOption r (¬ Holds url_mark b)
    (λ p. (¬ Holds url_mark p.0.now) × (b ≡ p.0.now ++ (url_mark ++ p.1.now)))

-- the text after a first c, or `None` if the first byte isn't c
abbrev pub StripsFirst : ℕ → List ℕ → Option (Bor (List ℕ)) → Type 0
StripsFirst c b r = MatchOption r (begins_with c b ≡ false) (λ rest. b ≡ c ∷ rest.now)

-- the text before a last c, or `None` if the last byte isn't c
abbrev pub StripsLast : ℕ → List ℕ → Option (Bor (List ℕ)) → Type 0
StripsLast c b r = MatchOption r ((front : List ℕ) → ¬ (b ≡ front ++ c ∷ []))
    (λ front. b ≡ front.now ++ c ∷ [])
