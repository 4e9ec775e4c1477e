-- The path of a stack of segments, as it is written and cut.
use Rattle.std.proofs.Common.{◌≡◌, ◌∙◌, ◌+◌, ◌-◌, ◌≤◌, ◌∷◌, ◌++◌, ℕ, Bool, true, false, ◌&&◌, ◌||◌, ◌==◌, List, [], length, take, drop, map, refl, sym, ap, subst, arith, ⊎_elim, ◌⊎◌, inl, inr, Option, Some, None, All, cond}
use Rattle.std.proofs.lemmas.Bool.{cases_Bool, eqb-true}
use Rattle.std.proofs.lemmas.Bool.Decides.{nat_tests}
use Rattle.std.proofs.lemmas.List.{append-nil, append_assoc, length-append, length-take, drop-take, take-take}
use Rattle.std.proofs.Math.Seq.{take-append_seam, drop-append_seam}
use Rattle.std.proofs.lemmas.List.Elements.{All-cons, All-nil, All-head, All-tail}
use Rattle.std.proofs.lemmas.List.Splits.{slice_split_at, slice_split_none}
use Rattle.std.specs.Prelude.{option_and_then, codes, bytes_eq, IfSome}
use Rattle.std.specs.Char.{is_digit}
use Rattle.percent_encoding.specs.Percent.{percent_encode_byte}
use Rattle.percent_encoding.proofs.PercentLemmas.{IsEscapeByte, All-percent_encode_byte}
use Rattle.git_syntax.specs.Bytes.{slash, percent_sign, FreeOf, begins_by, is_query_start, unrooted}
use Rattle.git_syntax.specs.Escapes.{is_sound}
use Rattle.git_syntax.proofs.Texts.EscapeLemmas.{sound_parts, sound_tail}
use Rattle.git_syntax.proofs.Texts.CutLemmas.{free-append, free-cons, free_head_tail, last_cut_unique}
use Rattle.git_rules.specs.Normal.{is_unsafe, is_reserved, normal_byte, normal_text, stacked_path, without_top, write_segment, write_segments, normal_segments}
use Rattle.git_rules.specs.NormalPieces.{ShowsStack, ShowsFront, CutsBefore}
use Rattle.git_reads.specs.Git.{escaped_byte}

-- ---- no segment gets a `/`

-- a byte of an escape isn't `/`
escape_no_slash : (b : ℕ) → IsEscapeByte b → (b == slash) ≡ false
escape_no_slash b h = grind (arith, nat_tests)

flat_bytes : (bs : List ℕ) → All IsEscapeByte bs → FreeOf slash bs
flat_bytes [] all = refl
flat_bytes (b ∷ bs) all = free-cons slash b bs (escape_no_slash b (All-head IsEscapeByte b bs all)) (flat_bytes bs (All-tail IsEscapeByte b bs all))

-- the escape of a byte holds no `/`
flat_escape : (b : ℕ) → FreeOf slash (percent_encode_byte b)
flat_escape b = flat_bytes (percent_encode_byte b) (All-percent_encode_byte b)

-- nor does the normal form of a byte that is none or was an escape
flat_byte : (escaped : Bool) (b : ℕ) → (b == slash) ≡ false → FreeOf slash (normal_byte escaped b)
flat_byte escaped b other = elim (is_unsafe b || (escaped && is_reserved b)) as (λ v. FreeOf slash (cond v (percent_encode_byte b) (b ∷ []))) [ true ↦ flat_escape b | false ↦ free-cons slash b [] other refl ]

flat_escaped : (b : ℕ) → FreeOf slash (normal_byte true b)
flat_escaped b = ⊎_elim (λ e. subst (λ x. FreeOf slash (normal_byte true x)) (sym (eqb-true b slash e)) (flat_escape slash)) (λ e. flat_byte true b e) (cases_Bool (b == slash))

-- the normal form of a segment without a `/` has none
pub normal_flat : (text : List ℕ) → FreeOf slash text → FreeOf slash (normal_text text)
unfolding normal_text
normal_flat [] free = refl
normal_flat (b ∷ []) free = flat_byte false b (free_head_tail slash b [] free).0
normal_flat (b ∷ c ∷ []) free =
    let parts = free_head_tail slash b (c ∷ []) free in
    free-append slash (normal_byte false b) (normal_byte false c) (flat_byte false b parts.0) (flat_byte false c (free_head_tail slash c [] parts.1).0)
normal_flat (b ∷ high ∷ low ∷ rest) free =
    let one = free_head_tail slash b (high ∷ low ∷ rest) free in
    let two = free_head_tail slash high (low ∷ rest) one.1 in
    let three = free_head_tail slash low rest two.1 in
    let escape = free-append slash (normal_byte true (escaped_byte high low)) (normal_text rest) (flat_escaped (escaped_byte high low)) (normal_flat rest three.1) in
    let kept = free-append slash (normal_byte false b) (normal_text (high ∷ low ∷ rest)) (flat_byte false b one.0) (normal_flat (high ∷ low ∷ rest) one.1) in
    elim (b == percent_sign) as (λ v. FreeOf slash (cond v (normal_byte true (escaped_byte high low) ++ normal_text rest) (normal_byte false b ++ normal_text (high ∷ low ∷ rest)))) [ true ↦ escape | false ↦ kept ]

-- ---- segments

fails_each : (text : List ℕ) → FreeOf slash text → All (λ b. (b == slash) ≡ false) text
fails_each [] free = All-nil (λ b. (b == slash) ≡ false)
fails_each (b ∷ bs) free =
    let parts = free_head_tail slash b bs free in
    All-cons (λ b. (b == slash) ≡ false) b bs parts.0 (fails_each bs parts.1)

-- the segments of a text begin with the text before its first `/`
pub segments_at : (segment rest : List ℕ) → FreeOf slash segment → normal_segments (segment ++ slash ∷ rest) ≡ normal_text segment ∷ normal_segments rest
segments_at segment rest free = ap (map normal_text) (slice_split_at (λ b. b == slash) segment slash rest (fails_each segment free) refl)

-- a text without a `/` is one segment
pub segments_alone : (segment : List ℕ) → FreeOf slash segment → normal_segments segment ≡ normal_text segment ∷ []
segments_alone segment free = ap (map normal_text) (slice_split_none (λ b. b == slash) segment (fails_each segment free))

-- the outcome after a segment
write_step : (segment : List ℕ) (rest stack : List (List ℕ)) (outcome : Option (List (List ℕ))) → write_segment stack segment ≡ outcome → write_segments (segment ∷ rest) stack ≡ option_and_then (λ left. write_segments rest left) outcome
write_step segment rest stack outcome e = ap (option_and_then (λ left. write_segments rest left)) e

-- if a segment is put, the rest is put on the resulting stack
pub write_first : (segment rest : List ℕ) (stack left : List (List ℕ)) → FreeOf slash segment → write_segment stack (normal_text segment) ≡ Some left → write_segments (normal_segments (segment ++ slash ∷ rest)) stack ≡ write_segments (normal_segments rest) left
write_first segment rest stack left free e = ap (λ s. write_segments s stack) (segments_at segment rest free) ∙ write_step (normal_text segment) (normal_segments rest) stack (Some left) e

-- if it can't be put, there is no outcome
pub write_none : (segment rest : List ℕ) (stack : List (List ℕ)) → FreeOf slash segment → write_segment stack (normal_text segment) ≡ None → write_segments (normal_segments (segment ++ slash ∷ rest)) stack ≡ None
write_none segment rest stack free e = ap (λ s. write_segments s stack) (segments_at segment rest free) ∙ write_step (normal_text segment) (normal_segments rest) stack None e

option_back : (o : Option (List (List ℕ))) → option_and_then (λ left. Some left) o ≡ o
option_back None = refl
option_back (Some x) = refl

-- the last segment's outcome is that of all
pub write_last : (segment : List ℕ) (stack : List (List ℕ)) → FreeOf slash segment → write_segments (normal_segments segment) stack ≡ write_segment stack (normal_text segment)
write_last segment stack free = ap (λ s. write_segments s stack) (segments_alone segment free) ∙ option_back (write_segment stack (normal_text segment))

-- ---- the path of a stack is cut at its last `/`

nil_no_cut : (front back : List ℕ) → [] ≡ front ++ slash ∷ back → ⊥
nil_no_cut front back e = let long = length-append front (slash ∷ back) in let none = ap length e in omega (arith, long, none)

-- the text before the last `/` of a path is the path of the stack without its top
pub top_cut : (path front back : List ℕ) (stack : List (List ℕ)) → ShowsStack path stack → FreeOf slash back → path ≡ front ++ slash ∷ back → ShowsFront (without_top stack) path (Some (length front))
top_cut path front back [] shows free e = absurd (nil_no_cut front back (sym shows.0 ∙ e))
top_cut path front back (top ∷ below) shows free e =
    let pieces = last_cut_unique slash front (stacked_path below) back top free shows.1.0 (sym e ∙ shows.0) in
    (below, refl, (ap (take (length front)) e ∙ take-append_seam front (slash ∷ back) ∙ pieces.0, shows.1.1))

-- ---- a segment in a buffer

-- the text that is written between two places of a buffer
pub written_between : (buffer front form : List ℕ) (start end : ℕ) → take end buffer ≡ front ++ form → length front ≡ start → start ≤ end → end ≤ length buffer → take (end - start) (drop start buffer) ≡ form
written_between buffer front form start end whole place order within =
    let sum : start + (end - start) ≡ end = omega (arith, order) in
    sym (drop-take start (end - start) buffer) ∙ ap (λ n. drop start (take n buffer)) sum ∙ ap (drop start) whole ∙ ap (λ n. drop n (front ++ form)) (sym place) ∙ drop-append_seam front form

-- the front of a buffer before the text that was written after it
pub front_kept : (buffer front form : List ℕ) (at end : ℕ) → take end buffer ≡ front ++ form → length front ≡ at → at ≤ end → take at buffer ≡ front
front_kept buffer front form at end whole place order =
    sym (take-take at end buffer order) ∙ ap (take at) whole ∙ ap (λ n. take n (front ++ form)) (sym place) ∙ take-append_seam front form

-- how long a front is
pub front_length : (buffer : List ℕ) (at : ℕ) → at ≤ length buffer → length (take at buffer) ≡ at
front_length buffer at within = omega (arith, length-take at buffer, within)

-- a segment `.` leaves the stack
write_dot : (stack : List (List ℕ)) (segment : List ℕ) → bytes_eq segment (codes ".") ≡ true → write_segment stack segment ≡ Some stack
write_dot stack segment e = ap (λ v. cond v (Some stack) (cond (bytes_eq segment (codes "..")) (without_top stack) (Some (segment ∷ stack)))) e

-- a segment `..` takes its top off
write_dots : (stack : List (List ℕ)) (segment : List ℕ) → bytes_eq segment (codes ".") ≡ false → bytes_eq segment (codes "..") ≡ true → write_segment stack segment ≡ without_top stack
write_dots stack segment one two =
    ap (λ v. cond v (Some stack) (cond (bytes_eq segment (codes "..")) (without_top stack) (Some (segment ∷ stack)))) one ∙ ap (λ v. cond v (without_top stack) (Some (segment ∷ stack))) two

-- any other goes on top
write_other : (stack : List (List ℕ)) (segment : List ℕ) → bytes_eq segment (codes ".") ≡ false → bytes_eq segment (codes "..") ≡ false → write_segment stack segment ≡ Some (segment ∷ stack)
write_other stack segment one two =
    ap (λ v. cond v (Some stack) (cond (bytes_eq segment (codes "..")) (without_top stack) (Some (segment ∷ stack)))) one ∙ ap (λ v. cond v (without_top stack) (Some (segment ∷ stack))) two

-- a segment was written after the path of a stack
pub record WritesAfter (front form new : List ℕ) (at start end : ℕ) : Type 0 where
  pub whole : take end new ≡ (front ++ slash ∷ []) ++ form
  pub place : length front ≡ at
  pub start_is : start ≡ at + 1
  pub order : start ≤ end
  pub within : end ≤ length new

written_form : (front form new : List ℕ) (at start end : ℕ) → WritesAfter front form new at start end → take (end - start) (drop start new) ≡ form
written_form front form new at start end w =
    let long : length (front ++ slash ∷ []) ≡ start = omega (arith, length-append front (slash ∷ []), w.place, w.start_is) in
    written_between new (front ++ slash ∷ []) form start end w.whole long w.order w.within

written_front : (front form new : List ℕ) (at start end : ℕ) → WritesAfter front form new at start end → take at new ≡ front
written_front front form new at start end w =
    front_kept new front (slash ∷ [] ++ form) at end (w.whole ∙ append_assoc front (slash ∷ []) form) w.place (omega (arith, w.order, w.start_is))

-- if it is `.`, the path is that of before
pub after_dot : (front form new : List ℕ) (at start end : ℕ) (stack : List (List ℕ)) → WritesAfter front form new at start end → ShowsStack front stack → bytes_eq (take (end - start) (drop start new)) (codes ".") ≡ true → ShowsFront (write_segment stack form) new (Some at)
after_dot front form new at start end stack w shows dot =
    let is = written_form front form new at start end w in
    (stack, write_dot stack form (ap (λ x. bytes_eq x (codes ".")) (sym is) ∙ dot), (written_front front form new at start end w ∙ shows.0, shows.1))

outcome_within : (outcome : Option (List (List ℕ))) (new : List ℕ) (at : ℕ) (r : Option ℕ) → IfSome r (λ n. n ≤ at) → ShowsFront outcome (take at new) r → ShowsFront outcome new r
outcome_within outcome new at None small shows = shows
outcome_within outcome new at (Some n) small shows = (shows.0, shows.1, (sym (take-take n at new small) ∙ shows.2.0, shows.2.1))

small_in_front : (r : Option ℕ) (new : List ℕ) (at : ℕ) → IfSome r (λ n. n ≤ length (take at new)) → IfSome r (λ n. n ≤ at)
small_in_front None new at small = tt
small_in_front (Some n) new at small = omega (arith, length-take at new, small)

-- if it is `..`, the path is that without the top
pub after_dots : (front form new : List ℕ) (at start end : ℕ) (stack : List (List ℕ)) (r : Option ℕ) → WritesAfter front form new at start end → ShowsStack front stack → bytes_eq (take (end - start) (drop start new)) (codes ".") ≡ false → bytes_eq (take (end - start) (drop start new)) (codes "..") ≡ true
    → ((below : List (List ℕ)) → ShowsStack (take at new) below → ShowsFront (without_top below) (take at new) r) → IfSome r (λ n. n ≤ length (take at new)) → ShowsFront (write_segment stack form) new r
after_dots front form new at start end stack r w shows one two cut small =
    let is = written_form front form new at start end w in
    let first = ap (λ x. bytes_eq x (codes ".")) (sym is) ∙ one in
    let second = ap (λ x. bytes_eq x (codes "..")) (sym is) ∙ two in
    let below = outcome_within (without_top stack) new at r (small_in_front r new at small) (cut stack (written_front front form new at start end w ∙ shows.0, shows.1)) in
    subst (λ o. ShowsFront o new r) (sym (write_dots stack form first second)) below

-- if it is neither, it is on top
pub after_other : (front form new : List ℕ) (at start end : ℕ) (stack : List (List ℕ)) → WritesAfter front form new at start end → ShowsStack front stack → FreeOf slash form → bytes_eq (take (end - start) (drop start new)) (codes ".") ≡ false → bytes_eq (take (end - start) (drop start new)) (codes "..") ≡ false
    → ShowsFront (write_segment stack form) new (Some end)
after_other front form new at start end stack w shows flat one two =
    let is = written_form front form new at start end w in
    let first = ap (λ x. bytes_eq x (codes ".")) (sym is) ∙ one in
    let second = ap (λ x. bytes_eq x (codes "..")) (sym is) ∙ two in
    (form ∷ stack, write_other stack form first second, (w.whole ∙ append_assoc front (slash ∷ []) form ∙ ap (λ x. x ++ slash ∷ form) shows.0, (flat, shows.1)))

-- ---- the whole path

-- a text without its first `/` is as sound, and no longer
pub sound_unrooted : (text : List ℕ) → is_sound text ≡ true → is_sound (unrooted text) ≡ true
sound_unrooted [] sound = sound
sound_unrooted (b ∷ bs) sound = elim (b == slash) as (λ v. is_sound (cond v bs (b ∷ bs)) ≡ true) [ true ↦ sound_tail b bs sound | false ↦ sound ]

pub length-unrooted : (text : List ℕ) → length (unrooted text) ≤ length text
length-unrooted [] = omega arith
length-unrooted (b ∷ bs) = elim (b == slash) as (λ v. length (cond v bs (b ∷ bs)) ≤ length (b ∷ bs)) [ true ↦ omega arith | false ↦ omega arith ]

rest_no_digit : (c : ℕ) → is_query_start c ≡ true → is_digit c 16 ≡ false
rest_no_digit c h = grind (arith, nat_tests)

sound_around_rest : (front back : List ℕ) → (back ≡ []) ⊎ (begins_by is_query_start back ≡ true) → is_sound (front ++ back) ≡ true → (is_sound front ≡ true) × (is_sound back ≡ true)
sound_around_rest front [] begins sound = (ap is_sound (sym (append-nil front)) ∙ sound, refl)
sound_around_rest front (c ∷ cs) (inl none) sound = absurd (let long = ap length none in omega (arith, long))
sound_around_rest front (c ∷ cs) (inr begins) sound = sound_parts front cs c (rest_no_digit c begins) sound

-- a sound text is cut before its rest into sound ones
pub sound_cut : (text front back : List ℕ) → CutsBefore is_query_start text front back → is_sound text ≡ true → (is_sound front ≡ true) × (is_sound back ≡ true)
sound_cut text front back cut sound = sound_around_rest front back cut.begins (ap is_sound (sym cut.joined) ∙ sound)

-- how long the pieces are
pub length-cut : (text front back : List ℕ) → CutsBefore is_query_start text front back → length text ≡ length front + length back
length-cut text front back cut = ap length cut.joined ∙ length-append front back

-- the text after the authority is cut into pieces that are no longer
pub length-pieces : (suffix text front back : List ℕ) → text ≡ unrooted suffix → CutsBefore is_query_start text front back → length front + length back ≤ length suffix
length-pieces suffix text front back is cut = omega (arith, length-cut text front back cut, ap length is, length-unrooted suffix)
