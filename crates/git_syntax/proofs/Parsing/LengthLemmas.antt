-- The length test: the bytes that count of a text in pieces, and that the check over it is the definition.
use Rattle.std.proofs.Common.{◌↔◌, ◌-◌, codes, zero, suc, length-append, ◌≡◌, ℕ, ◌+◌, ◌<◌, ◌≤◌, Bool, true, false, not, ◌==◌, ◌||◌, inl, inr, List, [], ◌∷◌, ◌++◌, length, take, drop, refl, sym, ap, subst, ◌∙◌, arith, append_assoc, Option, None, Some, IsTrue}
use Rattle.std.proofs.lemmas.Bool.Decides.{nat_tests}
use Rattle.std.specs.Prelude.{nat_le}
use Rattle.std.specs.List.{list_all, list_any, count_by, position_or_len}
use Rattle.std.specs.Char.{is_ascii_whitespace}
use Rattle.std.specs.Option.{is_some}
use Rattle.std.proofs.Math.Seq.{drop-append-add, take-nil}
use Rattle.std.proofs.lemmas.Bool.{cases_Bool, and_from, and_parts, or_left, or_right, or_cases, eqb-true, cases_lt, leb-true, le-leb, lt-leb, false≢true}
use Rattle.std.proofs.lemmas.List.Elements.{filter-append}
use Rattle.std.proofs.lemmas.List.Filters.{length-filter_both}
use Rattle.std.proofs.lemmas.List.Folds.{list_any_at}
use Rattle.std.proofs.lemmas.List.Sums.{length-filter}
use Rattle.memchr.specs.Find.{IsFirstByte, is_byte2, is_byte3}
use Rattle.git_syntax.specs.declared.length.Stage.TheVariants.{Slashes, Front}
use Rattle.git_syntax.specs.Bytes.{Lacks, FreeOf, colon, begins_by, is_path_start, StartsPath, is_any_slash}
use Rattle.git_syntax.specs.Schemes.{is_web_scheme}
use Rattle.git_syntax.specs.Authority.{without_white_space, IsWithinLimit, Fits, FitsText}
use Rattle.git_syntax.specs.Internal.LengthChecks.{without_slashes, starts_within, is_in_time, is_rest_short}
use Rattle.git_syntax.proofs.Texts.CutLemmas.{cut_at_first, cut_unique, lacks-cons, lacks_after, lacks_head_tail, lacks_weaker}

-- ---- white space

-- white space is left out of a text
white_left_out : (b : ℕ) (bs : List ℕ) → is_ascii_whitespace b ≡ true → without_white_space (b ∷ bs) ≡ without_white_space bs
white_left_out b bs white = rw white refl

-- and any other byte is not
pub other_left_in : (b : ℕ) (bs : List ℕ) → is_ascii_whitespace b ≡ false → without_white_space (b ∷ bs) ≡ b ∷ without_white_space bs
other_left_in b bs other = rw other refl

-- a text is no shorter than the rest of it without white space
pub without_shorter : (text : List ℕ) → length (without_white_space text) ≤ length text
without_shorter text =
    let both = length-filter_both (λ b. not (is_ascii_whitespace b)) (λ b. not (not (is_ascii_whitespace b))) (λ b. refl) text in
    omega (arith, both)

-- if no path starts, none starts without the white space
lacks_without : (web : Bool) (bs : List ℕ) → Lacks (is_path_start web) bs → Lacks (is_path_start web) (without_white_space bs)
lacks_without web [] lacks = refl
lacks_without web (b ∷ bs) lacks =
    let parts = lacks_head_tail (is_path_start web) b bs lacks in
    let rest = lacks_without web bs parts.1 in
    elim (cases_Bool (is_ascii_whitespace b)) [
      | inl white ↦ ap (list_any (is_path_start web)) (white_left_out b bs white) ∙ rest
      | inr other ↦ ap (list_any (is_path_start web)) (other_left_in b bs other) ∙ rw parts.0 rest
    ]

-- a text without white space is left as a whole
nothing_left_out : (bs : List ℕ) → Lacks is_ascii_whitespace bs → without_white_space bs ≡ bs
nothing_left_out [] lacks = refl
nothing_left_out (b ∷ bs) lacks =
    let parts = lacks_head_tail is_ascii_whitespace b bs lacks in
    other_left_in b bs parts.0 ∙ ap (λ t. b ∷ t) (nothing_left_out bs parts.1)

-- so each byte of it counts
pub all_visible : (bs : List ℕ) → Lacks is_ascii_whitespace bs → length bs ≡ count_by (λ b. not (is_ascii_whitespace b)) bs
all_visible bs lacks = sym (ap length (nothing_left_out bs lacks)) ∙ length-filter (λ b. not (is_ascii_whitespace b)) bs

-- a byte that is none of these five is not white space
not_white : (b : ℕ) → is_byte3 32 9 10 b ≡ false → is_byte2 13 12 b ≡ false → is_ascii_whitespace b ≡ false
not_white b three two = grind (arith, nat_tests)

-- a text that has none of the five has no white space
nothing_white : (bs : List ℕ) → Lacks (is_byte3 32 9 10) bs → Lacks (is_byte2 13 12) bs → Lacks is_ascii_whitespace bs
nothing_white [] three two = refl
nothing_white (b ∷ bs) three two =
    let threes = lacks_head_tail (is_byte3 32 9 10) b bs three in
    let twos = lacks_head_tail (is_byte2 13 12) b bs two in
    lacks-cons is_ascii_whitespace b bs (not_white b threes.0 twos.0) (nothing_white bs threes.1 twos.1)

-- if no white space is in a text, neither of the last two is
neither_of_two : (bs : List ℕ) → Lacks is_ascii_whitespace bs → Lacks (is_byte2 13 12) bs
neither_of_two bs lacks = lacks_weaker (is_byte2 13 12) is_ascii_whitespace (λ b two. grind (arith, nat_tests)) bs lacks

-- a search finds a place exactly if some byte passes its test
pub search_decides : (test : ℕ → Bool) (bs : List ℕ) (found : Option ℕ) → IsFirstByte test bs found → is_some found ≡ list_any test bs
search_decides test bs None first = sym (lacks_after test bs 0 (λ k l m. first k l m))
search_decides test bs (Some at) first = sym (list_any_at test bs at 0 first.0.high first.1)

-- a text has no white space if two searches find none of the five, and only there
pub white_space_searched : (bs : List ℕ) (three two : Option ℕ) (lacking : Bool) → IsFirstByte (is_byte3 32 9 10) bs three → IsFirstByte (is_byte2 13 12) bs two → is_some three ≡ false → is_some two ≡ not lacking
    → IsTrue lacking ↔ Lacks is_ascii_whitespace bs
white_space_searched bs three two lacking first_three first_two none is =
    let three_lack : Lacks (is_byte3 32 9 10) bs = sym (search_decides (is_byte3 32 9 10) bs three first_three) ∙ none in
    let two_decided : list_any (is_byte2 13 12) bs ≡ not lacking = sym (search_decides (is_byte2 13 12) bs two first_two) ∙ is in
    (grind (arith, nat_tests, nothing_white), grind (arith, nat_tests, neither_of_two))

-- ---- a path among the first bytes

-- a front in which no path starts leaves fewer bytes among which one may start
starts_after : (web : Bool) (n : ℕ) (front y : List ℕ) → Lacks (is_path_start web) front → starts_within web n (front ++ y) ≡ starts_within web (n - length front) y
starts_after web n [] y lacks = let e : n ≡ n - 0 = omega arith in ap (λ m. starts_within web m y) e
starts_after web zero (b ∷ front) y lacks = let e : zero ≡ zero - length (b ∷ front) = omega arith in ap (λ m. starts_within web m y) e
starts_after web (suc n) (b ∷ front) y lacks =
    let parts = lacks_head_tail (is_path_start web) b front lacks in
    let e : n - length front ≡ suc n - length (b ∷ front) = omega arith in
    rw parts.0 (starts_after web n front y parts.1 ∙ ap (λ m. starts_within web m y) e)

-- a path that starts at the first byte starts among any
starts_now : (web : Bool) (n b : ℕ) (bs : List ℕ) → is_path_start web b ≡ true → starts_within web (suc n) (b ∷ bs) ≡ true
starts_now web n b bs starts = rw starts refl

-- ---- slashes at the front

-- a slash is left out
slash_left_out : (b : ℕ) (bs : List ℕ) → is_any_slash b ≡ true → without_slashes (b ∷ bs) ≡ without_slashes bs
slash_left_out b bs slash = rw slash refl

-- and any other byte ends the slashes
other_reached : (b : ℕ) (bs : List ℕ) → is_any_slash b ≡ false → without_slashes (b ∷ bs) ≡ b ∷ bs
other_reached b bs other = rw other refl

-- all that are there are left out
slashes_left_out : (slashes bs : List ℕ) → list_all is_any_slash slashes ≡ true → begins_by is_any_slash bs ≡ false → without_slashes (slashes ++ bs) ≡ bs
slashes_left_out [] [] all reached = refl
slashes_left_out [] (b ∷ bs) all reached = other_reached b bs reached
slashes_left_out (b ∷ slashes) bs all reached =
    let parts = and_parts (is_any_slash b) (list_all is_any_slash slashes) all in
    slash_left_out b (slashes ++ bs) parts.0 ∙ slashes_left_out slashes bs parts.1 reached

-- ---- a walk past bytes

-- a front in which no path starts is counted
front_counted : (web : Bool) (within : ℕ) (front y : List ℕ) → Lacks (is_path_start web) front → is_in_time web (Front within) (front ++ y) ≡ is_in_time web (Front (within - count_by (λ b. not (is_ascii_whitespace b)) front)) y
front_counted web within front y lacks =
    ap (starts_within web within) (filter-append _ front y) ∙ starts_after web within (without_white_space front) (without_white_space y) (lacks_without web front lacks)
    ∙ ap (λ n. starts_within web (within - n) (without_white_space y)) (length-filter (λ b. not (is_ascii_whitespace b)) front)

-- a window is tested in two pieces
pub past_window : (web : Bool) (within left count : ℕ) (rest window front path back : List ℕ) → rest ≡ window ++ back → window ≡ front ++ path → Lacks (is_path_start web) front → count ≡ count_by (λ b. not (is_ascii_whitespace b)) front → left ≡ within - count → (y : List ℕ)
    → is_in_time web (Front left) (path ++ (back ++ y)) ≡ is_in_time web (Front within) (rest ++ y)
past_window web within left count rest window front path back whole joined lacks counted is y =
    let pieces : rest ++ y ≡ front ++ (path ++ (back ++ y)) = ap (λ t. t ++ y) (whole ∙ ap (λ t. t ++ back) joined) ∙ append_assoc (front ++ path) back y ∙ append_assoc front path (back ++ y) in
    ap (λ n. is_in_time web (Front n) (path ++ (back ++ y))) (is ∙ ap (λ n. within - n) counted) ∙ sym (front_counted web within front (path ++ (back ++ y)) lacks) ∙ sym (ap (is_in_time web (Front within)) pieces)

-- if no byte is left, none is tested
pub none_left : (web : Bool) (left : ℕ) (bs : List ℕ) → left ≡ 0 → is_in_time web (Front left) bs ≡ false
none_left web left bs none = ap (λ n. is_in_time web (Front n) bs) none

-- and if one is left, a path may start there
pub starts_in_time : (web : Bool) (left : ℕ) (path y : List ℕ) → 0 < left → StartsPath web path → (length path == 0) ≡ false → is_in_time web (Front left) (path ++ y) ≡ true
starts_in_time web left path y some starts there = grind arith

-- if no path starts in the window, the text after it is left
pub window_after : (web : Bool) (left : ℕ) (path y : List ℕ) → (length path == 0) ≡ true → is_in_time web (Front left) y ≡ is_in_time web (Front left) (path ++ y)
window_after web left [] y there = refl
window_after web left (b ∷ path) y there = let none = eqb-true (length (b ∷ path)) 0 there in absurd (omega (arith, none))

-- a front that is longer than a text is left out of it and of the rest
pub drop_joined : (n : ℕ) (x y : List ℕ) → length x ≤ n → drop n (x ++ y) ≡ drop (n - length x) y
drop_joined n x y short = grind (arith, nat_tests, drop-append-add)

-- ---- the parts that the test distinguishes

-- a text without white space: slashes, a front, and the text after it
record Parts (web : Bool) (text : List ℕ) : Type 0 where
  slashes : List ℕ
  front : List ℕ
  back : List ℕ
  joined : text ≡ slashes ++ (front ++ back)
  skipped : list_all is_any_slash slashes ≡ true
  reached : begins_by is_any_slash (front ++ back) ≡ false
  before_path : Lacks (is_path_start web) front
  path : StartsPath web back

-- the slashes at the front of a text, and the rest
slashes_cut : (text : List ℕ) → (slashes : List ℕ) × (rest : List ℕ) × (text ≡ slashes ++ rest) × (list_all is_any_slash slashes ≡ true) × (begins_by is_any_slash rest ≡ false)
slashes_cut [] = ([], [], refl, refl, refl)
slashes_cut (b ∷ bs) =
    elim (cases_Bool (is_any_slash b)) [
      | inl slash ↦ let (slashes, rest, e, all, other) = slashes_cut bs in (b ∷ slashes, rest, ap (λ t. b ∷ t) e, and_from (is_any_slash b) (list_all is_any_slash slashes) slash all, other)
      | inr other ↦ ([], b ∷ bs, refl, refl, other)
    ]

-- each text has such parts
parts_of_text : (web : Bool) (text : List ℕ) → Parts web text
parts_of_text web text =
    let (slashes, rest, e, all, other) = slashes_cut text in
    let cut = cut_at_first (is_path_start web) rest in
    record {
      slashes = slashes;
      front = take (position_or_len (is_path_start web) rest) rest;
      back = drop (position_or_len (is_path_start web) rest) rest;
      joined = e ∙ ap (λ t. slashes ++ t) cut.0;
      skipped = all;
      reached = subst (λ t. begins_by is_any_slash t ≡ false) cut.0 other;
      before_path = cut.1;
      path = cut.2;
    }

-- ---- the test

-- a front is short enough if it and the whole are no longer than the limit
limit_by_lengths : (front back whole : List ℕ) → length front ≤ 1024 → length whole ≤ 1024 → IsWithinLimit front back whole
limit_by_lengths front back whole short all = grind arith

-- and if a path starts in time
limit_by_start : (web : Bool) (front back whole : List ℕ) → Lacks (is_path_start web) front → starts_within web 1025 (front ++ back) ≡ true → IsWithinLimit front back whole
limit_by_start web front [] whole lacks found =
    absurd (false≢true (sym (ap (list_any (is_path_start web)) (take-nil (1025 - length front))) ∙ sym (starts_after web 1025 front [] lacks) ∙ found))
limit_by_start web front (b ∷ back) whole lacks found =
    elim (cases_lt 1024 (length front)) [
      | inl long ↦
          let none : 1025 - length front ≡ 0 = omega arith in
          absurd (false≢true (sym (ap (λ n. starts_within web n (b ∷ back)) none) ∙ sym (starts_after web 1025 front (b ∷ back) lacks) ∙ found))
      | inr short ↦ short
    ]

-- one of these is so if it is short enough
start_by_limit : (web : Bool) (front back whole : List ℕ) → Lacks (is_path_start web) front → StartsPath web back → IsWithinLimit front back whole → (nat_le (length whole) 1024 || starts_within web 1025 (front ++ back)) ≡ true
start_by_limit web front [] whole lacks starts short = or_left _ _ (le-leb _ 1024 short)
start_by_limit web front (b ∷ back) whole lacks (inl e) short = let wrong : b ∷ back ≡ [] = e in cc
start_by_limit web front (b ∷ back) whole lacks (inr starts) short =
    let some : 1025 - length front ≡ suc (1024 - length front) = omega arith in
    or_right _ _ (starts_after web 1025 front (b ∷ back) lacks ∙ ap (λ n. starts_within web n (b ∷ back)) some ∙ starts_now web (1024 - length front) b back starts)

-- a scheme and the text after it fit if the test says so
fits_from_test : (scheme rest : List ℕ) → length scheme ≤ 1024 → is_rest_short (is_web_scheme scheme) rest ≡ true → Fits scheme rest
fits_from_test scheme rest known short =
    let web = is_web_scheme scheme in
    let parts = parts_of_text web (without_white_space rest) in
    let counted = ap without_slashes parts.joined ∙ slashes_left_out parts.slashes (parts.front ++ parts.back) parts.skipped parts.reached in
    let lengths = ap length parts.joined ∙ length-append parts.slashes (parts.front ++ parts.back) in
    record {
      slashes = parts.slashes;
      front = parts.front;
      back = parts.back;
      scheme_length = known;
      joined = parts.joined;
      skipped = parts.skipped;
      reached = parts.reached;
      before_path = parts.before_path;
      path = parts.path;
      short = elim (or_cases (nat_le (length rest) 1024) (is_in_time web Slashes rest) short) [
        | inl all ↦
            let whole = leb-true (length rest) 1024 all in
            limit_by_lengths parts.front parts.back rest (omega (arith, lengths, length-append parts.front parts.back, without_shorter rest, whole)) whole
        | inr found ↦ limit_by_start web parts.front parts.back rest parts.before_path (sym (ap (starts_within web 1025) counted) ∙ found)
      ];
    }

-- the test decides
pub fits_tested : (scheme rest : List ℕ) → length scheme ≤ 1024 → (is_rest_short (is_web_scheme scheme) rest ≡ true) ↔ Fits scheme rest
fits_tested scheme rest known = grind (arith, nat_tests, fits_from_test, slashes_left_out, start_by_limit)

-- of a text that isn't short as a whole, the walk decides
pub long_tested : (web : Bool) (rest : List ℕ) → 1024 < length rest → is_rest_short web rest ≡ is_in_time web Slashes rest
long_tested web rest long = ap (λ b. b || is_in_time web Slashes rest) (lt-leb (length rest) 1024 long)

-- ---- whole texts

-- if a text is short enough, its scheme and its rest are
pub fits_from_text : (scheme rest t : List ℕ) → FreeOf colon scheme → t ≡ scheme ++ (codes "://" ++ rest) → FitsText t → Fits scheme rest
fits_from_text scheme rest t free joined text = grind (arith, nat_tests, cut_unique)

-- a text with a scheme is short enough if the scheme and the text after its mark are
pub fits_text : (scheme rest t : List ℕ) → FreeOf colon scheme → t ≡ scheme ++ (codes "://" ++ rest) → Fits scheme (drop (length scheme + 3) t) ↔ FitsText t
fits_text scheme rest t free joined = grind (arith, nat_tests, fits_from_text, drop-append-add)
