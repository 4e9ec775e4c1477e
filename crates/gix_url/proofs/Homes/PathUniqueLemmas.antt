-- A text has one first segment and one list of pieces after it, one parent, and one place below a folder.
use Rattle.std.proofs.Common.{◌≡◌, ℕ, ◌<◌, true, false, ◌==◌, ◌⊎◌, inl, inr, List, [], ◌∷◌, ◌++◌, length, filter, if◌then◌else◌, Option, Some, None, refl, sym, ap, subst, ◌∙◌, arith, append_assoc, append-nil}
use Rattle.std.specs.List.{list_any, join_with_byte}
use Rattle.std.proofs.lemmas.Bool.{both_ways, cases_Bool, eqb-true, eq-eqb, false≢true, not-false, or_from, or_parts}
use Rattle.std.proofs.lemmas.List.Concat.{flat_map-append}
use Rattle.git_syntax.specs.Bytes.{dot, slash, FreeOf, begins_by, begins_with}
use Rattle.git_syntax.specs.Grammar.{or_root}
use Rattle.gix_url.specs.Paths.{counts, IsPiece, with_slashes, IsIdle, HoldsPieces, HasPieces, WithoutFirst, Opens, Joins, LiesBelow, EndsInPiece, IsParent}
use Rattle.git_syntax.proofs.ByMasks.SimpleTextLemmas.{kept_root}
use Rattle.git_syntax.proofs.Texts.CutLemmas.{tails, class_cut_unique, free-cons}
use Rattle.gix_url.proofs.Homes.PathLemmas.{idle_none, last_byte, pieces_past}
use Rattle.std.proofs.lemmas.List.{same_from_push}
use Rattle.std.proofs.lemmas.List.Elements.{filter-append}

-- ---- segments

-- each segment is free of `/`
abbrev pub FreeEach : List (List ℕ) → Type 0
FreeEach [] = Unit {0}
FreeEach (segment ∷ segments) = FreeOf slash segment × FreeEach segments

-- the text is these segments, each after a `/`
pub record Segments (segments : List (List ℕ)) (text : List ℕ) : Type 0 where
  pub each : FreeEach segments
  pub whole : text ≡ with_slashes segments

-- segments in two parts
each_in_parts : (xs ys : List (List ℕ)) → FreeEach xs → FreeEach ys → FreeEach (xs ++ ys)
each_in_parts [] ys h k = k
each_in_parts (x ∷ xs) ys (h, hs) k = (h, each_in_parts xs ys hs k)

-- texts of segments joined
segments-append : (xs ys : List (List ℕ)) (x y : List ℕ) → Segments xs x → Segments ys y → Segments (xs ++ ys) (x ++ y)
segments-append xs ys x y h k = record {
  each = each_in_parts xs ys h.each k.each;
  whole = rw (h.whole, k.whole) (sym (flat_map-append (λ segment. slash ∷ segment) xs ys));
}

-- segments are nothing, or begin with a `/`
starts : (segments : List (List ℕ)) → (with_slashes segments ≡ []) ⊎ (begins_by (λ b. b == slash) (with_slashes segments) ≡ true)
starts [] = inl refl
starts (segment ∷ segments) = inr refl

-- a first segment and those after it
pub first_unique : (a b : List ℕ) (xs ys : List (List ℕ)) → FreeOf slash a → FreeOf slash b → a ++ with_slashes xs ≡ b ++ with_slashes ys → (a ≡ b) × (with_slashes xs ≡ with_slashes ys)
first_unique a b xs ys h k e = class_cut_unique (λ c. c == slash) a b (with_slashes xs) (with_slashes ys) h k (starts xs) (starts ys) e

-- the text determines its segments
segments_unique : (xs ys : List (List ℕ)) → FreeEach xs → FreeEach ys → with_slashes xs ≡ with_slashes ys → xs ≡ ys
segments_unique [] [] h k e = refl
segments_unique [] (y ∷ ys) h k e = cc
segments_unique (x ∷ xs) [] h k e = cc
segments_unique (x ∷ xs) (y ∷ ys) (h, hs) (k, ks) e =
    let cut = first_unique x y xs ys h k (tails e) in
    let rest = segments_unique xs ys hs ks cut.1 in
    λ i. cut.0 i ∷ rest i

-- every text is a first segment and segments after it
pub segmented : (text : List ℕ) → (first : List ℕ) × (segments : List (List ℕ)) × FreeOf slash first × FreeEach segments × (text ≡ first ++ with_slashes segments)
segmented [] = ([], [], refl, tt, refl)
segmented (b ∷ bs) =
    let (first, segments, h, hs, e) = segmented bs in
    elim (cases_Bool (b == slash)) [
      | inl same ↦ ([], first ∷ segments, refl, (h, hs), λ i. eqb-true b slash same i ∷ e i)
      | inr other ↦ (b ∷ first, segments, free-cons slash b first other h, hs, ap (λ t. b ∷ t) e)
    ]

-- ---- pieces

-- a segment that doesn't count holds no `/`
idle_free : (segment : List ℕ) → counts segment ≡ false → FreeOf slash segment
idle_free [] h = refl
idle_free (b ∷ []) h = subst (λ c. FreeOf slash (c ∷ [])) (sym (eqb-true b dot (not-false (b == dot) h))) refl
idle_free (b ∷ c ∷ bs) h = absurd (false≢true (sym h))

idle_each : (segments : List (List ℕ)) → list_any counts segments ≡ false → FreeEach segments
idle_each [] h = tt
idle_each (segment ∷ segments) h =
    let parts = or_parts (counts segment) (list_any counts segments) h in
    (idle_free segment parts.0, idle_each segments parts.1)

-- idle bytes hold no piece
idle_pieces : (segments : List (List ℕ)) → list_any counts segments ≡ false → filter counts segments ≡ []
idle_pieces [] h = refl
idle_pieces (segment ∷ segments) h =
    let parts = or_parts (counts segment) (list_any counts segments) h in
    rw parts.0 (idle_pieces segments parts.1)

-- pieces one after another are segments, and those that count are the pieces
pieces_segments : (pieces : List (List ℕ)) (text : List ℕ) → HoldsPieces pieces text → (segments : List (List ℕ)) × Segments segments text × (filter counts segments ≡ pieces)
pieces_segments [] text (segments, h, e) = (segments, record { each = idle_each segments h; whole = e }, idle_pieces segments h)
pieces_segments (piece ∷ others) text (gap, rest, (gaps, h, e), is, more, whole) =
    let (segments, k, found) = pieces_segments others rest more in (
      gaps ++ piece ∷ segments,
      subst (Segments (gaps ++ piece ∷ segments)) (sym whole)
          (segments-append gaps (piece ∷ segments) gap (slash ∷ (piece ++ rest)) (record { each = idle_each gaps h; whole = e })
          (record { each = (is.0, k.each); whole = ap (λ t. slash ∷ (piece ++ t)) k.whole })),
      filter-append counts gaps (piece ∷ segments) ∙ rw (idle_pieces gaps h, is.1) (ap (λ t. piece ∷ t) found),
    )

-- a text has one first segment, and one list of pieces after it
pub has_pieces_unique : (text first other : List ℕ) (pieces others : List (List ℕ)) → HasPieces text first pieces → HasPieces text other others → (first ≡ other) × (pieces ≡ others)
has_pieces_unique text first other pieces others h k =
    let (xs, hx, fx) = pieces_segments pieces h.suffix h.each in
    let (ys, hy, fy) = pieces_segments others k.suffix k.each in
    let cut = first_unique first other xs ys h.no_slash k.no_slash (sym (h.whole ∙ ap (λ t. first ++ t) hx.whole) ∙ (k.whole ∙ ap (λ t. other ++ t) hy.whole)) in
    (cut.0, sym fx ∙ (ap (filter counts) (segments_unique xs ys hx.each hy.each cut.1) ∙ fy))

-- segments hold the pieces among them
segments_hold : (segments : List (List ℕ)) → FreeEach segments → HoldsPieces (filter counts segments) (with_slashes segments)
segments_hold [] h = idle_none
segments_hold (segment ∷ segments) (h, hs) = elim (cases_Bool (counts segment)) [
  | inl good ↦ rw good ([], with_slashes segments, idle_none, (h, good), segments_hold segments hs, refl)
  | inr never ↦ rw never (pieces_past (filter counts segments) segment (with_slashes segments) never (segments_hold segments hs))
]

-- and every text is something without its first component
pub some_rest : (text : List ℕ) → (rest : List ℕ) × WithoutFirst text rest
some_rest text =
    let (first, segments, h, hs, e) = segmented text in
    let pieces = filter counts segments in
    (join_with_byte slash pieces, (first, pieces, record { suffix = with_slashes segments; no_slash = h; each = segments_hold segments hs; whole = e }, refl))

-- it is one text
pub rest_unique : (text x y : List ℕ) → WithoutFirst text x → WithoutFirst text y → x ≡ y
rest_unique text x y (first, pieces, h, e) (other, others, k, f) =
    e ∙ (ap (join_with_byte slash) (has_pieces_unique text first other pieces others h k).1 ∙ sym f)

-- ---- the last piece

-- segments that a first one comes before, cut at the last piece
onto : List ℕ → Option (List (List ℕ) × List ℕ) → Option (List (List ℕ) × List ℕ)
onto segment None = if counts segment then Some ([], segment) else None
onto segment (Some (front, piece)) = Some (segment ∷ front, piece)

-- the segments before the last piece, and that piece
last_piece : List (List ℕ) → Option (List (List ℕ) × List ℕ)
last_piece [] = None
last_piece (segment ∷ segments) = onto segment (last_piece segments)

-- idle segments have none
no_last : (segments : List (List ℕ)) → list_any counts segments ≡ false → last_piece segments ≡ None
unfolding last_piece onto
no_last [] h = refl
no_last (segment ∷ segments) h =
    let parts = or_parts (counts segment) (list_any counts segments) h in
    rw (no_last segments parts.1, parts.0) refl

-- a piece before idle segments is the last
last_at : (front : List (List ℕ)) (piece : List ℕ) (idle : List (List ℕ)) → counts piece ≡ true → list_any counts idle ≡ false → last_piece (front ++ piece ∷ idle) ≡ Some (front, piece)
unfolding last_piece onto
last_at [] piece idle h k = rw (no_last idle k, h) refl
last_at (segment ∷ front) piece idle h k = rw (last_at front piece idle h k) refl

-- segments are idle, or a piece before idle segments is the last
some_last : (segments : List (List ℕ)) → (list_any counts segments ≡ false) ⊎ ((front : List (List ℕ)) × (piece : List ℕ) × (idle : List (List ℕ)) × (counts piece ≡ true) × (list_any counts idle ≡ false) × (segments ≡ front ++ piece ∷ idle))
some_last [] = inl refl
some_last (segment ∷ segments) = elim (some_last segments) [
  | inr (front, piece, idle, h, k, e) ↦ inr (segment ∷ front, piece, idle, h, k, ap (λ t. segment ∷ t) e)
  | inl none ↦ elim (cases_Bool (counts segment)) [
    | inl good ↦ inr ([], segment, segments, good, none, refl)
    | inr never ↦ inl (or_from (counts segment) (list_any counts segments) never none)
  ]
]

-- ---- parents

-- the text above the last piece, from the last piece in front of it
upper : List ℕ → Option (List (List ℕ) × List ℕ) → List ℕ
upper first None = or_root first
upper first (Some (front, piece)) = first ++ with_slashes (front ++ piece ∷ [])

-- the parent, from the last piece
above : List ℕ → Option (List (List ℕ) × List ℕ) → Option (List ℕ)
above [] None = None
above (b ∷ bs) None = Some []
above first (Some (front, piece)) = Some (upper first (last_piece front))

-- the segments of a text show its parent
record ShowsParent (text : List ℕ) (parent : Option (List ℕ)) : Type 0 where
  first : List ℕ
  segments : List (List ℕ)
  no_slash : FreeOf slash first
  each : FreeEach segments
  whole : text ≡ first ++ with_slashes segments
  shown : parent ≡ above first (last_piece segments)

-- a piece in segments that are in two parts
in_parts : (first : List ℕ) (xs gaps tails : List (List ℕ)) (piece gap tail : List ℕ) → gap ≡ with_slashes gaps → tail ≡ with_slashes tails → (first ++ with_slashes xs) ++ (gap ++ (slash ∷ (piece ++ tail))) ≡ first ++ with_slashes ((xs ++ gaps) ++ piece ∷ tails)
in_parts first xs gaps tails piece gap tail e f =
    rw (e, f) (append_assoc first (with_slashes xs) (with_slashes gaps ++ (slash ∷ (piece ++ with_slashes tails)))
    ∙ ap (λ t. first ++ t) (sym (flat_map-append (λ segment. slash ∷ segment) (xs ++ gaps) (piece ∷ tails)
    ∙ (ap (λ t. t ++ with_slashes (piece ∷ tails)) (flat_map-append (λ segment. slash ∷ segment) xs gaps)
    ∙ append_assoc (with_slashes xs) (with_slashes gaps) (with_slashes (piece ∷ tails))))))

-- after another piece
shows_after : (text front gap piece tail : List ℕ) → EndsInPiece front → IsIdle gap → IsPiece piece → IsIdle tail → text ≡ front ++ (gap ++ (slash ∷ (piece ++ tail))) → ShowsParent text (Some front)
unfolding above upper
shows_after text front gap piece tail (EndsInPiece.last_piece before q isq ef) (gaps, g, eg) is (tails, t, et) e =
    let (first, ss, h, hs, eb) = segmented before in
    let same : front ≡ first ++ with_slashes (ss ++ q ∷ []) =
    ef ∙ (ap (λ x. x ++ slash ∷ q) eb ∙ (append_assoc first (with_slashes ss) (slash ∷ q)
    ∙ ap (λ x. first ++ x) (ap (λ x. with_slashes ss ++ slash ∷ x) (sym (append-nil q)) ∙ sym (flat_map-append (λ segment. slash ∷ segment) ss (q ∷ []))))) in
    record {
      first = first;
      segments = ((ss ++ q ∷ []) ++ gaps) ++ piece ∷ tails;
      no_slash = h;
      each = each_in_parts ((ss ++ q ∷ []) ++ gaps) (piece ∷ tails) (each_in_parts (ss ++ q ∷ []) gaps (each_in_parts ss (q ∷ []) hs (isq.0, tt)) (idle_each gaps g)) (is.0, idle_each tails t);
      whole = e ∙ (ap (λ x. x ++ (gap ++ (slash ∷ (piece ++ tail)))) same ∙ in_parts first (ss ++ q ∷ []) gaps tails piece gap tail eg et);
      shown = rw (last_at ((ss ++ q ∷ []) ++ gaps) piece tails is.1 t, append_assoc ss (q ∷ []) gaps, last_at ss q gaps isq.1 g) (ap Some same);
    }
shows_after text front gap piece tail (EndsInPiece.lone_piece free some) (gaps, g, eg) is (tails, t, et) e = record {
  first = front;
  segments = gaps ++ piece ∷ tails;
  no_slash = free;
  each = each_in_parts gaps (piece ∷ tails) (idle_each gaps g) (is.0, idle_each tails t);
  whole = e ∙ (ap (λ x. x ++ (gap ++ (slash ∷ (piece ++ tail)))) (sym (append-nil front)) ∙ in_parts front [] gaps tails piece gap tail eg et);
  shown = rw (last_at gaps piece tails is.1 t, no_last gaps g) (ap Some (sym (kept_root front some)));
}

-- each case of a parent is shown by segments
shows : (text : List ℕ) (parent : Option (List ℕ)) → IsParent text parent → ShowsParent text parent
unfolding above upper
shows text parent (IsParent.above_last front gap piece tail h g p t e f) = subst (ShowsParent text) (sym f) (shows_after text front gap piece tail h g p t e)
shows text parent (IsParent.in_root gap piece tail (gaps, g, eg) p (tails, t, et) e f) = record {
  first = [];
  segments = gaps ++ piece ∷ tails;
  no_slash = refl;
  each = each_in_parts gaps (piece ∷ tails) (idle_each gaps g) (p.0, idle_each tails t);
  whole = e ∙ in_parts [] [] gaps tails piece gap tail eg et;
  shown = f ∙ rw (last_at gaps piece tails p.1 t, no_last gaps g) refl;
}
shows text parent (IsParent.above_first [] tail free some (tails, t, et) e f) = absurd (omega arith)
shows text parent (IsParent.above_first (b ∷ bs) tail free some (tails, t, et) e f) = record {
  first = b ∷ bs;
  segments = tails;
  no_slash = free;
  each = idle_each tails t;
  whole = e ∙ ap (λ x. (b ∷ bs) ++ x) et;
  shown = f ∙ rw (no_last tails t) refl;
}
shows text parent (IsParent.above_none (idle, t, et) f) = record {
  first = [];
  segments = idle;
  no_slash = refl;
  each = idle_each idle t;
  whole = et;
  shown = f ∙ rw (no_last idle t) refl;
}

-- a text has one parent
pub parent_unique : (text : List ℕ) (x y : Option (List ℕ)) → IsParent text x → IsParent text y → x ≡ y
parent_unique text x y h k =
    let p = shows text x h in
    let q = shows text y k in
    let cut = first_unique p.first q.first p.segments q.segments p.no_slash q.no_slash (sym p.whole ∙ q.whole) in
    let same = segments_unique p.segments q.segments p.each q.each cut.1 in
    p.shown ∙ ((λ i. above (cut.0 i) (last_piece (same i))) ∙ sym q.shown)

-- segments of two parts, each free of `/`
each_parts : (xs ys : List (List ℕ)) → FreeEach (xs ++ ys) → FreeEach xs × FreeEach ys
each_parts [] ys h = (tt, h)
each_parts (x ∷ xs) ys (h, hs) = let parts = each_parts xs ys hs in ((h, parts.0), parts.1)

-- nothing lies above a first segment alone, or above nothing
parent_of_idle : (text first : List ℕ) (idle : List (List ℕ)) → FreeOf slash first → list_any counts idle ≡ false → text ≡ first ++ with_slashes idle → (parent : Option (List ℕ)) × IsParent text parent
parent_of_idle text [] idle h k e = (None, IsParent.above_none (idle, k, e) refl)
parent_of_idle text (b ∷ bs) idle h k e = (Some [], IsParent.above_first (b ∷ bs) (with_slashes idle) h (omega arith) (idle, k, refl) e refl)

-- a lone piece after a first segment, or in the root
parent_of_lone : (text first : List ℕ) (gaps : List (List ℕ)) (piece : List ℕ) (idle : List (List ℕ)) → FreeOf slash first → list_any counts gaps ≡ false → IsPiece piece → list_any counts idle ≡ false
    → text ≡ first ++ (with_slashes gaps ++ (slash ∷ (piece ++ with_slashes idle))) → (parent : Option (List ℕ)) × IsParent text parent
parent_of_lone text [] gaps piece idle h g p k e = (Some (slash ∷ []), IsParent.in_root (with_slashes gaps) piece (with_slashes idle) (gaps, g, refl) p (idle, k, refl) e refl)
parent_of_lone text (b ∷ bs) gaps piece idle h g p k e =
    (Some (b ∷ bs), IsParent.above_last (b ∷ bs) (with_slashes gaps) piece (with_slashes idle) (EndsInPiece.lone_piece h (omega arith)) (gaps, g, refl) p (idle, k, refl) e refl)

-- the front that ends in a piece
ends_at : (first : List ℕ) (front : List (List ℕ)) (piece : List ℕ) → IsPiece piece → EndsInPiece (first ++ with_slashes (front ++ piece ∷ []))
ends_at first front piece h =
    EndsInPiece.last_piece (first ++ with_slashes front) piece h
    (ap (λ x. first ++ x) (flat_map-append (λ segment. slash ∷ segment) front (piece ∷ []) ∙ ap (λ x. with_slashes front ++ slash ∷ x) (append-nil piece))
    ∙ sym (append_assoc first (with_slashes front) (slash ∷ piece)))

-- every text has a parent, or none
pub some_parent : (text : List ℕ) → (parent : Option (List ℕ)) × IsParent text parent
some_parent text =
    let (first, segments, h, hs, e) = segmented text in
    elim (some_last segments) [
      | inl idle ↦ parent_of_idle text first segments h idle e
      | inr (front, piece, idle, good, k, whole) ↦
          let free : FreeEach front × FreeEach (piece ∷ idle) = each_parts front (piece ∷ idle) (subst FreeEach whole hs) in
          let at : text ≡ first ++ with_slashes (front ++ piece ∷ idle) = e ∙ ap (λ t. first ++ with_slashes t) whole in
          elim (some_last front) [
            | inl gaps ↦ parent_of_lone text first front piece idle h gaps (free.1.0, good) k (at ∙ (sym (in_parts first [] front idle piece (with_slashes front) (with_slashes idle) refl refl) ∙ ap (λ x. x ++ (with_slashes front ++ (slash ∷ (piece ++ with_slashes idle)))) (append-nil first)))
            | inr (before, other, gaps, better, g, cut) ↦
                let others : FreeEach before × FreeEach (other ∷ gaps) = each_parts before (other ∷ gaps) (subst FreeEach cut free.0) in
                let parts : text ≡ first ++ with_slashes (((before ++ other ∷ []) ++ gaps) ++ piece ∷ idle) = at ∙ ap (λ t. first ++ with_slashes (t ++ piece ∷ idle)) (cut ∙ sym (append_assoc before (other ∷ []) gaps)) in (
                  Some (first ++ with_slashes (before ++ other ∷ [])),
                  IsParent.above_last (first ++ with_slashes (before ++ other ∷ [])) (with_slashes gaps) piece (with_slashes idle)
                      (ends_at first before other (others.1.0, better)) (gaps, g, refl) (free.1.0, good) (idle, k, refl)
                      (parts ∙ sym (in_parts first (before ++ other ∷ []) gaps idle piece (with_slashes gaps) (with_slashes idle) refl refl)) refl,
                )
          ]
    ]

-- ---- joined paths

-- a text that ends in a byte isn't empty
ended : {A : Type 0} (front : List ℕ) (last : ℕ) → [] ≡ front ++ last ∷ [] → A
ended [] last e = cc
ended (b ∷ front) last e = cc

-- a folder is made ready in one way
opens_unique : (folder x y : List ℕ) → Opens folder x → Opens folder y → x ≡ y
opens_unique folder x y (Opens.empty_folder e f) (Opens.empty_folder g h) = f ∙ sym h
opens_unique folder x y (Opens.empty_folder e f) (Opens.after_slash front g h) = ended front slash (sym e ∙ g)
opens_unique folder x y (Opens.empty_folder e f) (Opens.after_name front last n g h) = ended front last (sym e ∙ g)
opens_unique folder x y (Opens.after_slash front e f) (Opens.empty_folder g h) = ended front slash (sym g ∙ e)
opens_unique folder x y (Opens.after_slash front e f) (Opens.after_slash other g h) = f ∙ sym h
opens_unique folder x y (Opens.after_slash front e f) (Opens.after_name other last n g h) =
    absurd (both_ways (last == slash) n (eq-eqb last slash (sym (same_from_push front other slash last (sym e ∙ g)).1)))
opens_unique folder x y (Opens.after_name front last n e f) (Opens.empty_folder g h) = ended front last (sym g ∙ e)
opens_unique folder x y (Opens.after_name front last n e f) (Opens.after_slash other g h) =
    absurd (both_ways (last == slash) n (eq-eqb last slash (same_from_push front other last slash (sym e ∙ g)).1))
opens_unique folder x y (Opens.after_name front last n e f) (Opens.after_name other byte m g h) = f ∙ sym h

-- and it can be
some_open : (folder : List ℕ) → (ready : List ℕ) × Opens folder ready
some_open [] = ([], Opens.empty_folder refl refl)
some_open (b ∷ bs) =
    let (front, last, e) = last_byte (b ∷ bs) (omega arith) in
    elim (cases_Bool (last == slash)) [
      | inl same ↦ (b ∷ bs, Opens.after_slash front (e ∙ ap (λ c. front ++ c ∷ []) (eqb-true last slash same)) refl)
      | inr other ↦ ((b ∷ bs) ++ slash ∷ [], Opens.after_name front last other e refl)
    ]

-- a path is joined to a folder in one way
pub joins_unique : (folder path x y : List ℕ) → Joins folder path x → Joins folder path y → x ≡ y
joins_unique folder path x y (Joins.alone h e) (Joins.alone k f) = e ∙ sym f
joins_unique folder path x y (Joins.alone h e) (Joins.within k ready o f) = absurd (both_ways (begins_with slash path) k h)
joins_unique folder path x y (Joins.within h ready o e) (Joins.alone k f) = absurd (both_ways (begins_with slash path) h k)
joins_unique folder path x y (Joins.within h ready o e) (Joins.within k other p f) = e ∙ (ap (λ t. t ++ path) (opens_unique folder ready other o p) ∙ sym f)

-- and it can be
pub some_joined : (folder path : List ℕ) → (whole : List ℕ) × Joins folder path whole
some_joined folder path = elim (cases_Bool (begins_with slash path)) [
  | inl rooted ↦ (path, Joins.alone rooted refl)
  | inr not_rooted ↦ let (ready, o) = some_open folder in (ready ++ path, Joins.within not_rooted ready o refl)
]

-- a path lies below a folder in one place
pub below_unique : (folder path x y : List ℕ) → LiesBelow folder path x → LiesBelow folder path y → x ≡ y
below_unique folder path x y (rest, h, j) (other, k, l) =
    joins_unique folder rest x y j (subst (λ t. Joins folder t y) (rest_unique path other rest k h) l)

-- and it does
pub some_below : (folder path : List ℕ) → (whole : List ℕ) × LiesBelow folder path whole
some_below folder path =
    let (rest, h) = some_rest path in
    let (whole, j) = some_joined folder rest in
    (whole, (rest, h, j))
