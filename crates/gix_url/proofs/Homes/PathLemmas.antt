-- Paths as text, as the code walks them: cuts at slashes, idle segments, and pieces one after another.
use Rattle.std.proofs.Common.{◌≡◌, ℕ, ◌<◌, false, ◌==◌, ◌⊎◌, inl, inr, List, [], ◌∷◌, ◌++◌, length, take, drop, Option, Some, None, MatchOption, refl, sym, ap, subst, ◌∙◌, arith, append_assoc, append-nil, Bor}
use Rattle.std.specs.List.{list_any, join_with_byte}
use Rattle.std.specs.Str.{NoCharPasses}
use Rattle.std.specs.Str.Pattern.{FindsChar, RFindsChar, HasCharAt, SplitsAroundMatch}
use Rattle.std.proofs.lemmas.Bool.{eqb-true, false≢true, false_from_ne_true, or_from}
use Rattle.std.proofs.lemmas.List.{take-append-drop, length-append}
use Rattle.std.proofs.lemmas.Str.Pattern.{NoCharPasses-char, drop_at_char}
use Rattle.git_syntax.specs.Bytes.{slash, FreeOf, begins_with}
use Rattle.git_syntax.specs.Internal.Cuts.{CutsAt, CutsAtLast}
use Rattle.git_syntax.specs.Grammar.{or_root}
use Rattle.gix_url.specs.Paths.{counts, IsPiece, IsIdle, HoldsPieces, WithoutFirst, LiesBelow, Opens, Joins, EndsInPiece, IsParent}
use Rattle.gix_url.specs.HomeReadings.{CutsSegment, UpToLast}
use Rattle.git_syntax.proofs.Texts.CutLemmas.{lacks_after, free_begins, last_cut_unique, not_free}

-- ---- cuts of texts

-- a text in which no character is c is free of it
free_of_char : (c : ℕ) (bs : List ℕ) → c < 128 → NoCharPasses (λ d. d == c) bs → FreeOf c bs
free_of_char c bs small h = lacks_after (λ b. b == c) bs 0 (λ k l m e. NoCharPasses-char c bs k h small m (eqb-true _ _ e))

-- a text is the text before a character of one byte, that byte, and the text after it
char_cut : (c : ℕ) (bs : List ℕ) (i j : ℕ) → c < 128 → HasCharAt c bs i j → bs ≡ take i bs ++ c ∷ drop j bs
char_cut c bs i j small h = sym (take-append-drop i bs) ∙ ap (λ r. take i bs ++ r) (drop_at_char c bs i j h small)

-- the pieces around the first c of a text
pub text_cut : (c : ℕ) (bs : List ℕ) (r : Option (Bor (List ℕ) × Bor (List ℕ))) → c < 128 → MatchOption r (FindsChar c bs None) (λ x. SplitsAroundMatch (FindsChar c) bs x.0.now x.1.now) → CutsAt c bs r
text_cut c bs None small h = free_of_char c bs small h
text_cut c bs (Some x) small (i, j, found, front, suffix, l, m, n) = rw (front, suffix) (free_of_char c (take i bs) small found.0, char_cut c bs i j small found.1)

-- the pieces around its last c
pub text_last_cut : (c : ℕ) (bs : List ℕ) (r : Option (Bor (List ℕ) × Bor (List ℕ))) → c < 128 → MatchOption r (RFindsChar c bs None) (λ x. SplitsAroundMatch (RFindsChar c) bs x.0.now x.1.now) → CutsAtLast c bs r
text_last_cut c bs None small h = free_of_char c bs small h
text_last_cut c bs (Some x) small (i, j, found, front, suffix, l, m, n) = rw (front, suffix) (free_of_char c (drop j bs) small found.0, char_cut c bs i j small found.1)

-- ---- idle segments

-- nothing is idle
pub idle_none : IsIdle []
idle_none = ([], refl, refl)

-- a segment that doesn't count is idle before idle ones
pub idle_more : (segment text : List ℕ) → counts segment ≡ false → IsIdle text → IsIdle (slash ∷ (segment ++ text))
idle_more segment text h (segments, k, e) = (segment ∷ segments, or_from (counts segment) (list_any counts segments) h k, ap (λ t. slash ∷ (segment ++ t)) e)

-- ---- the last piece

-- after the last piece a segment that doesn't count is idle
pub tail_more : (text front before segment : List ℕ) → front ≡ before ++ slash ∷ segment → counts segment ≡ false
    → (tail : List ℕ) × IsIdle tail × (text ≡ front ++ tail) → (tail : List ℕ) × IsIdle tail × (text ≡ before ++ tail)
tail_more text front before segment e h (tail, idle, whole) =
    (slash ∷ (segment ++ tail), idle_more segment tail h idle, whole ∙ ap (λ t. t ++ tail) e ∙ append_assoc before (slash ∷ segment) tail)

-- a text that ends in a piece and holds a `/` ends in a piece after a `/`
pub piece_after : (text above last : List ℕ) → FreeOf slash last → text ≡ above ++ slash ∷ last → EndsInPiece text ⊎ (text ≡ []) → IsPiece last
piece_after text above last free e (inl (EndsInPiece.last_piece front piece h f)) =
    subst IsPiece (last_cut_unique slash front above piece last h.0 free (sym f ∙ e)).1 h
piece_after text above last free e (inl (EndsInPiece.lone_piece h some)) = absurd (not_free slash above last (subst (FreeOf slash) e h))
piece_after text [] last free e (inr h) = let wrong = sym h ∙ e in cc
piece_after text (a ∷ above) last free e (inr h) = let wrong = sym h ∙ e in cc

-- the last piece is in a folder that ends in another, or in the root
parent_in : (text upper gap piece tail : List ℕ) → EndsInPiece upper ⊎ (upper ≡ []) → IsIdle gap → IsPiece piece → IsIdle tail → text ≡ upper ++ (gap ++ (slash ∷ (piece ++ tail))) → IsParent text (Some (or_root upper))
parent_in text [] gap piece tail h g p t e = IsParent.in_root gap piece tail g p t e refl
parent_in text (b ∷ bs) gap piece tail (inl h) g p t e = IsParent.above_last (b ∷ bs) gap piece tail h g p t e refl
parent_in text (b ∷ bs) gap piece tail (inr h) g p t e = cc

-- the front that ends with the last piece, cut at its last `/`, and again up to the piece before
pub parent_above : (text whole above last upper : List ℕ) → UpToLast text whole → FreeOf slash last → whole ≡ above ++ slash ∷ last → UpToLast above upper → IsParent text (Some (or_root upper))
parent_above text whole above last upper t free e u =
    parent_in text upper u.tail last t.tail u.last u.idle (piece_after whole above last free e t.last) t.idle
    (t.whole ∙ ap (λ x. x ++ t.tail) (e ∙ ap (λ x. x ++ slash ∷ last) u.whole) ∙ simp append_assoc)

-- the only piece is the first segment
pub parent_of_first : (text first : List ℕ) → UpToLast text first → FreeOf slash first → 0 < length first → IsParent text (Some [])
parent_of_first text first t free some = IsParent.above_first first t.tail free some t.idle t.whole refl

-- ---- folders

-- a text that isn't empty has a last byte
pub last_byte : (bs : List ℕ) → 0 < length bs → (front : List ℕ) × (last : ℕ) × (bs ≡ front ++ last ∷ [])
last_byte [] some = absurd (omega arith)
last_byte (b ∷ []) some = ([], b, refl)
last_byte (b ∷ c ∷ bs) some = let (front, last, e) = last_byte (c ∷ bs) (omega arith) in (b ∷ front, last, ap (λ t. b ∷ t) e)

-- one that doesn't end in `/` is with a `/` after it
pub opens_name : (folder : List ℕ) → 0 < length folder → ((front : List ℕ) → ¬ (folder ≡ front ++ slash ∷ [])) → Opens folder (folder ++ slash ∷ [])
opens_name folder some no_slash =
    let (front, last, e) = last_byte folder some in
    Opens.after_name front last (false_from_ne_true (last == slash) (λ same. no_slash front (e ∙ ap (λ b. front ++ b ∷ []) (eqb-true last slash same)))) e refl

-- ---- pieces, one after another

-- the text that a reader of segments has still to read: the `/` that it skipped, and the rest
abbrev pub unread : Option (Bor (List ℕ)) → List ℕ
unread None = []
unread (Some suffix) = slash ∷ suffix.now

-- the text before the next piece: a `/`, but not before the first
abbrev pub separator_of : List (List ℕ) → List ℕ
separator_of [] = []
separator_of (piece ∷ others) = slash ∷ []

-- a segment and the text after it
pub segment_cut : (text : List ℕ) (segment : Bor (List ℕ)) (suffix : Option (Bor (List ℕ))) → CutsSegment text segment suffix → text ≡ segment.now ++ unread suffix
segment_cut text segment None h = h.1 ∙ sym (append-nil segment.now)
segment_cut text segment (Some more) h = h.1

-- if nothing is passed, nothing is left
pub unread_none : (left : Option (Bor (List ℕ))) → ((suffix : Bor (List ℕ)) → left ≡ Some suffix → ⊥) → unread left ≡ []
unread_none None h = refl
unread_none (Some suffix) h = absurd (h suffix refl)

-- the rest after a segment is shorter than the rest with the `/` before it
pub shorter : (left : Option (Bor (List ℕ))) (text : Bor (List ℕ)) (segment : Bor (List ℕ)) (suffix : Option (Bor (List ℕ))) → left ≡ Some text → CutsSegment text.now segment suffix → length (unread suffix) < length (unread left)
shorter left text segment suffix e h = rw (e, segment_cut text.now segment suffix h) (omega (arith, length-append segment.now (unread suffix)))

-- a segment that doesn't count adds no piece
pub pieces_past : (pieces : List (List ℕ)) (segment text : List ℕ) → counts segment ≡ false → HoldsPieces pieces text → HoldsPieces pieces (slash ∷ (segment ++ text))
pieces_past [] segment text h k = idle_more segment text h k
pieces_past (piece ∷ others) segment text h (gap, rest, idle, is, more, e) =
    (slash ∷ (segment ++ gap), rest, idle_more segment gap h idle, is, more, ap (λ t. slash ∷ (segment ++ t)) e ∙ sym (append_assoc (slash ∷ segment) gap (slash ∷ (piece ++ rest))))

-- pieces joined, and one more
joined_more : (done : List (List ℕ)) (piece : List ℕ) → join_with_byte slash done ++ (separator_of done ++ piece) ≡ join_with_byte slash (done ++ piece ∷ [])
joined_more [] piece = refl
joined_more (x ∷ []) piece = refl
joined_more (x ∷ y ∷ ys) piece =
    append_assoc x (slash ∷ join_with_byte slash (y ∷ ys)) (slash ∷ piece) ∙ ap (λ t. x ++ slash ∷ t) (joined_more (y ∷ ys) piece)

-- after a piece comes a `/`
separator_more : (done : List (List ℕ)) (piece : List ℕ) → separator_of (done ++ piece ∷ []) ≡ slash ∷ []
separator_more [] piece = refl
separator_more (x ∷ xs) piece = refl

-- the pieces of the start that were read are joined after the old
-- text; with those of the rest they are its pieces
pub record Gathers (old out separator start left : List ℕ) : Type 0 where
  pub done : List (List ℕ)
  pub separated : separator ≡ separator_of done
  pub written : out ≡ old ++ join_with_byte slash done
  pub follow : (more : List (List ℕ)) → HoldsPieces more left → HoldsPieces (done ++ more) start

-- at first none is read
pub gathers_none : (old start : List ℕ) → Gathers old old [] start start
gathers_none old start = record { done = []; separated = refl; written = sym (append-nil old); follow = λ more h. h }

-- a segment that doesn't count is passed
pub gathers_past : (old out separator start left segment rest : List ℕ) → left ≡ slash ∷ (segment ++ rest) → counts segment ≡ false → Gathers old out separator start left → Gathers old out separator start rest
gathers_past old out separator start left segment rest e h g = record {
  done = g.done;
  separated = g.separated;
  written = g.written;
  follow = λ more k. g.follow more (subst (HoldsPieces more) (sym e) (pieces_past more segment rest h k));
}

-- a piece is appended
pub gathers_more : (old out separator start left segment rest : List ℕ) → left ≡ slash ∷ (segment ++ rest) → IsPiece segment → Gathers old out separator start left → Gathers old (out ++ (separator ++ segment)) (slash ∷ []) start rest
gathers_more old out separator start left segment rest e h g = record {
  done = g.done ++ segment ∷ [];
  separated = sym (separator_more g.done segment);
  written = rw (g.written, g.separated) (append_assoc old (join_with_byte slash g.done) (separator_of g.done ++ segment) ∙ ap (λ t. old ++ t) (joined_more g.done segment));
  follow = λ more k. rw append_assoc (g.follow (segment ∷ more) (subst (HoldsPieces (segment ∷ more)) (sym e) ([], rest, idle_none, h, k, refl)));
}

-- at the end the whole is there, without its first component
pub gathers_all : (old out separator path first start : List ℕ) → FreeOf slash first → path ≡ first ++ start → Gathers old out separator start [] → (rest : List ℕ) × WithoutFirst path rest × (out ≡ old ++ rest)
gathers_all old out separator path first start free e g =
    let each : HoldsPieces g.done start = subst (λ p. HoldsPieces p start) (append-nil g.done) (g.follow [] idle_none) in
    (join_with_byte slash g.done, (first, g.done, record { suffix = start; no_slash = free; each = each; whole = e }, refl), g.written)

-- ---- a path below a folder

-- pieces joined begin with no `/`
joined_begins : (pieces : List (List ℕ)) (text : List ℕ) → HoldsPieces pieces text → begins_with slash (join_with_byte slash pieces) ≡ false
joined_begins [] text h = refl
joined_begins (piece ∷ []) text (gap, rest, idle, is, more, e) = free_begins slash piece is.0
joined_begins ([] ∷ other ∷ others) text (gap, rest, idle, is, more, e) = absurd (false≢true is.1)
joined_begins ((b ∷ bs) ∷ other ∷ others) text (gap, rest, idle, is, more, e) = free_begins slash (b ∷ bs) is.0

-- a folder made ready, and the path without its first component after it
pub lies_below : (folder ready path whole : List ℕ) → Opens folder ready → (rest : List ℕ) × WithoutFirst path rest × (whole ≡ ready ++ rest) → LiesBelow folder path whole
lies_below folder ready path whole o (rest, (first, pieces, h, e), f) =
    (rest, (first, pieces, h, e), Joins.within (ap (begins_with slash) e ∙ joined_begins pieces h.suffix h.each) ready o f)
