-- Pieces of which each token of their text lies in a hidden one.
use Rattle.std.proofs.Common.{◌≡◌, ◌∙◌, ℕ, ◌+◌, ◌<◌, ◌≤◌, ◌⊎◌, inl, inr, Bool, true, false, if◌then◌else◌, List, [], ◌∷◌, ◌++◌, length, map, refl, sym, ap, subst, append_assoc, append-nil, arith, length-append}
use Rattle.std.proofs.lemmas.Bool.{not_from_true}
use Rattle.std.proofs.lemmas.List.{map-append}
use Rattle.git_syntax.specs.Bytes.{Lacks, begins_by}
use Rattle.git_syntax.proofs.Texts.CutLemmas.{lacks_of_all}
use Rattle.git_secrets.specs.Tokens.{is_gap, is_token_byte}
use Rattle.git_secrets.specs.declared.Secret.{Secret}
use Rattle.git_secrets.specs.declared.Secret.TheVariants as secret
use Rattle.git_secrets.specs.declared.mark.Class.{Class}
use Rattle.git_secrets.specs.declared.mark.Class.TheVariants as class
use Rattle.git_secrets.specs.Secrets.{Part, hidden, hidden_part, is_of, joined, onto_run, runs, shown, tokens, word_part}
use Rattle.git_secrets.specs.TokenLaws.{BeginsApart, EndsApart}
use Rattle.git_secrets.proofs.Cuts.ApartLemmas.{Apart, IsToken, apart_rest, cut_two, token_long}
use Rattle.git_secrets.proofs.Cuts.CutLemmas.{onto_by, runs_by}
use Rattle.git_secrets.proofs.Cuts.JoinLemmas.{joined_both, whole_tokens}
use Rattle.git_secrets.proofs.Cuts.RunLemmas.{front_run}

-- ---- pieces

-- so many bytes from an index lie in a hidden one of the pieces
abbrev pub Lies : List Part → ℕ → ℕ → Type 0
Lies parts at len = (fronts : List Part) × (kind : Secret) × (bytes : List ℕ) × (rest : List Part)
    × (parts ≡ fronts ++ hidden kind bytes ∷ rest)
    × (length (joined fronts) ≤ at) × (at + len ≤ length (joined fronts) + length bytes)

-- each token of the text lies in a hidden one of its pieces
abbrev pub Keeps : List Part → Type 0
Keeps parts = (front word rest : List ℕ) → joined parts ≡ front ++ (word ++ rest) → IsToken word → EndsApart front → BeginsApart rest → Lies parts (length front) (length word)

-- what lies in a piece does so with pieces after it
lies_before : (xs ys : List Part) (at len : ℕ) → Lies xs at len → Lies (xs ++ ys) at len
lies_before xs ys at len (fronts, kind, bytes, rest, e, starts, ends) =
    (fronts, kind, bytes, rest ++ ys, ap (λ t. t ++ ys) e ∙ append_assoc fronts (hidden kind bytes ∷ rest) ys, starts, ends)

-- and with pieces before it
lies_after : (xs ys : List Part) (n at len : ℕ) → n ≡ length (joined xs) + at → Lies ys at len → Lies (xs ++ ys) n len
lies_after xs ys n at len moved (fronts, kind, bytes, rest, e, starts, ends) =
    let long : length (joined (xs ++ fronts)) ≡ length (joined xs) + length (joined fronts) = ap length (joined_both xs fronts) ∙ length-append (joined xs) (joined fronts) in
    (xs ++ fronts, kind, bytes, rest, ap (λ t. xs ++ t) e ∙ sym (append_assoc xs fronts (hidden kind bytes ∷ rest)), omega (arith, long, moved, starts), omega (arith, long, moved, ends))

-- the front of a text that is empty or begins with a byte that no token contains is so as well
begins_front : (m b : List ℕ) → BeginsApart (m ++ b) → BeginsApart m
begins_front [] b begins = inl refl
begins_front (c ∷ m) b (inl none) = cc
begins_front (c ∷ m) b (inr begins) = inr begins

-- a token of two texts is in the first, in the second, or cut
abbrev Stands : List ℕ → List ℕ → List ℕ → List ℕ → List ℕ → Type 0
Stands a b front word rest = ((m : List ℕ) × (a ≡ front ++ (word ++ m)) × (rest ≡ m ++ b))
    ⊎ (((m : List ℕ) × (front ≡ a ++ m) × (b ≡ m ++ (word ++ rest)))
    ⊎ ((m : List ℕ) × (n : List ℕ) × (word ≡ m ++ n) × (a ≡ front ++ m) × (b ≡ n ++ rest) × (0 < length m) × (0 < length n)))

-- a word that begins in the first of two texts
stands_cut : (a b front word rest m n : List ℕ) → a ≡ front ++ m → word ≡ m ++ n → b ≡ n ++ rest → Stands a b front word rest
stands_cut a b front word rest [] n first is second =
    inr (inl ([], sym (append-nil front) ∙ sym first ∙ sym (append-nil a), second ∙ ap (λ t. t ++ rest) (sym is)))
stands_cut a b front word rest (c ∷ m) [] first is second =
    inl ([], first ∙ ap (λ t. front ++ t) (sym (append-nil (c ∷ m)) ∙ sym is ∙ sym (append-nil word)), sym second)
stands_cut a b front word rest (c ∷ m) (d ∷ n) first is second =
    inr (inr (c ∷ m, d ∷ n, is, first, second, omega arith, omega arith))

-- a word of two texts
stands : (a b front word rest : List ℕ) → a ++ b ≡ front ++ (word ++ rest) → Stands a b front word rest
stands a b front word rest e = elim (cut_two a b front (word ++ rest) e) [
  | inr (m, before, second) ↦ inr (inl (m, before, second))
  | inl (m, first, more) ↦ elim (cut_two word rest m b more) [
    | inl (n, is, second) ↦ stands_cut a b front word rest m n first is second
    | inr (n, is, after) ↦ inl (n, first ∙ ap (λ t. front ++ t) is, after)
  ]
]

-- two lists of pieces, between which no token is cut
pub keeps_both : (a b : List ℕ) (xs ys : List Part) → joined xs ≡ a → joined ys ≡ b → Apart a b → Keeps xs → Keeps ys → Keeps (xs ++ ys)
keeps_both a b xs ys first second apart one two front word rest e is before after =
    elim (stands a b front word rest (ap (λ t. t ++ b) (sym first) ∙ ap (λ t. joined xs ++ t) (sym second) ∙ sym (joined_both xs ys) ∙ e)) [
      | inl (m, cut, more) ↦
          lies_before xs ys (length front) (length word) (one front word m (first ∙ cut) is before (begins_front m b (subst BeginsApart more after)))
      | inr (inl (m, cut, more)) ↦
          lies_after xs ys (length front) (length m) (length word) (ap length cut ∙ length-append a m ∙ ap (λ t. length t + length m) (sym first)) (two m word rest (second ∙ more) is (apart_rest a m front cut before) after)
      | inr (inr (m, n, whole, cut, more, some, others)) ↦
          absurd (apart front m n rest (subst IsToken whole is) before cut more some others)
    ]

-- a text of a byte or none has no token
pub keeps_short : (parts : List Part) → length (joined parts) ≤ 1 → Keeps parts
keeps_short parts short front word rest e is before after =
    absurd (omega (arith, token_long word is, ap length e, length-append front (word ++ rest), length-append word rest, short))

-- a text that is hidden
pub keeps_one : (kind : Secret) (bytes : List ℕ) → Keeps (hidden kind bytes ∷ [])
keeps_one kind bytes front word rest e is before after =
    ([], kind, bytes, [], refl, omega arith, omega (arith, ap length e, length-append bytes [], length-append front (word ++ rest), length-append word rest))

-- a hidden text, unless it is empty
pub keeps_hidden : (kind : Secret) (bytes : List ℕ) → Keeps (hidden_part kind bytes)
keeps_hidden kind [] = keeps_short [] (omega arith)
keeps_hidden kind (b ∷ bytes) = keeps_one kind (b ∷ bytes)

-- ---- tokens

-- a byte before runs, if more runs follow them
onto_more : (c : Class) (b g : ℕ) (fronts rest : List (List ℕ)) → is_of c g ≡ true → onto_run c b (fronts ++ (g ∷ []) ∷ rest) ≡ onto_run c b fronts ++ (g ∷ []) ∷ rest
onto_more c b g [] rest gap = onto_by c b g [] rest true gap
onto_more c b g (run ∷ fronts) rest gap = onto_more_by (begins_by (is_of c) run)
  where
    onto_more_by : (is : Bool) → (if is then (b ∷ []) ∷ run ∷ (fronts ++ (g ∷ []) ∷ rest) else (b ∷ run) ∷ (fronts ++ (g ∷ []) ∷ rest)) ≡ (if is then (b ∷ []) ∷ run ∷ fronts else (b ∷ run) ∷ fronts) ++ (g ∷ []) ∷ rest
    onto_more_by true = refl
    onto_more_by false = refl

-- the runs of a text with a byte of the class in it, if those of the text after its first byte are known
runs_around_by : (c : Class) (b : ℕ) (front rest : List ℕ) (g : ℕ) (is : Bool) → is_of c b ≡ is → is_of c g ≡ true → runs c (front ++ g ∷ rest) ≡ runs c front ++ (g ∷ []) ∷ runs c rest → runs c (b ∷ (front ++ g ∷ rest)) ≡ runs c (b ∷ front) ++ (g ∷ []) ∷ runs c rest
runs_around_by c b front rest g true e gap more =
    runs_by c b (front ++ g ∷ rest) true e ∙ ap (λ t. (b ∷ []) ∷ t) more ∙ ap (λ t. t ++ (g ∷ []) ∷ runs c rest) (sym (runs_by c b front true e))
runs_around_by c b front rest g false e gap more =
    runs_by c b (front ++ g ∷ rest) false e ∙ ap (onto_run c b) more ∙ onto_more c b g (runs c front) (runs c rest) gap
    ∙ ap (λ t. t ++ (g ∷ []) ∷ runs c rest) (sym (runs_by c b front false e))

-- a byte of the class is a run between those of the texts around it
runs_around : (c : Class) (front rest : List ℕ) (g : ℕ) → is_of c g ≡ true → runs c (front ++ g ∷ rest) ≡ runs c front ++ (g ∷ []) ∷ runs c rest
runs_around c [] rest g gap = runs_by c g rest true gap
runs_around c (b ∷ front) rest g gap = runs_around_by c b front rest g (is_of c b) refl gap (runs_around c front rest g gap)

-- the runs of a text that is empty or ends with a byte that no token contains, and those of another after it
runs_both : (front rest : List ℕ) → EndsApart front → runs class.Gap (front ++ rest) ≡ runs class.Gap front ++ runs class.Gap rest
runs_both front rest (inl none) = ap (λ t. runs class.Gap (t ++ rest)) none ∙ ap (λ t. runs class.Gap t ++ runs class.Gap rest) (sym none)
runs_both front rest (inr (start, g, e, gap)) =
    ap (λ t. runs class.Gap (t ++ rest)) e ∙ ap (runs class.Gap) (append_assoc start (g ∷ []) rest) ∙ runs_around class.Gap start rest g gap
    ∙ sym (append_assoc (runs class.Gap start) ((g ∷ []) ∷ []) (runs class.Gap rest))
    ∙ ap (λ t. t ++ runs class.Gap rest) (sym (runs_around class.Gap start [] g gap))
    ∙ ap (λ t. runs class.Gap t ++ runs class.Gap rest) (sym e)

-- a word of the bytes of tokens has no other byte
lacks_gap : (word : List ℕ) → IsToken word → Lacks is_gap word
lacks_gap word is = lacks_of_all is_token_byte is_gap (λ b h. not_from_true (is_token_byte b) h) word is.1

-- a token is a run between those of the texts around it
token_run : (front word rest : List ℕ) → IsToken word → EndsApart front → BeginsApart rest → runs class.Gap (front ++ (word ++ rest)) ≡ runs class.Gap front ++ word ∷ runs class.Gap rest
token_run front word rest is before after =
    runs_both front (word ++ rest) before
    ∙ ap (λ t. runs class.Gap front ++ t) (front_run class.Gap word rest (omega (arith, token_long word is)) (lacks_gap word is) after)

-- which is hidden
word_hidden : (word : List ℕ) → IsToken word → word_part word ≡ hidden secret.Token word
word_hidden word is = ap (λ (t : Bool). if t then hidden secret.Token word else shown word) is.0

-- each token of a text is hidden
pub keeps_tokens : (text : List ℕ) → Keeps (tokens text)
keeps_tokens text front word rest e is before after =
    let whole : text ≡ front ++ (word ++ rest) = sym (whole_tokens text) ∙ e in
    let cut : tokens text ≡ tokens front ++ hidden secret.Token word ∷ tokens rest =
    ap tokens whole ∙ ap (map word_part) (token_run front word rest is before after) ∙ map-append word_part (runs class.Gap front) (word ∷ runs class.Gap rest)
    ∙ ap (λ t. tokens front ++ t ∷ tokens rest) (word_hidden word is) in
    let size : length (joined (tokens front)) ≡ length front = ap length (whole_tokens front) in
    (tokens front, secret.Token, word, tokens rest, cut, omega (arith, size), omega (arith, size))
