-- Lines and their answers, one after another.
use Rattle.std.proofs.Common.{◌≡◌, ℕ, ◌≤◌, max, Bool, true, false, List, [], ◌∷◌, ◌++◌, refl, sym, ap, subst, ◌∙◌, append_assoc, append-nil, All, length, length-append, arith, eqb-true}
use Rattle.std.specs.Prelude.{◌&&◌, ◌==◌, ◌↔◌, Result, Ok, Err}
use Rattle.std.proofs.lemmas.List.Elements.{All-append, All-cons, All-nil}
use Rattle.git_syntax.specs.Location.{Location}
use Rattle.git_syntax.specs.Bytes.{newline, FreeOf}
use Rattle.git_refusals.specs.declared.refusal.Refusal.{Refusal}
use Rattle.git_location.specs.declared.lines.RunError.{RunError}
use Rattle.git_syntax.specs.Grammar.{Spells}
use Rattle.git_refusals.specs.Reasons.{Refused}
use Rattle.git_location.specs.Answers.{ended_lines, IsAnswer, AnswersEach, Answers, HasLinesWithin}
use Rattle.git_location.specs.Answers.{AppendsAnswer, AppendsReport, AppendsRefusal}
use Rattle.git_location.specs.Answers.IsAnswer.{reported, refused}
use Rattle.std.proofs.Math.Bool.{and_comm}
use Rattle.git_syntax.proofs.Texts.CutLemmas.{tails, different_bytes, free_head_tail}

-- one more line, at the end
pub answers_push : (lines : List (List ℕ)) (out : List ℕ) (good : Bool) (line answer : List ℕ) (first : Bool) → AnswersEach lines out good → IsAnswer line answer first → AnswersEach (lines ++ line ∷ []) (out ++ answer) (good && first)
answers_push [] out good line answer first each one =
    (answer, [], first, true, one, (refl, refl), ap (λ o. o ++ answer) each.0 ∙ sym (append-nil answer), ap (λ g. g && first) each.1 ∙ and_comm true first)
answers_push (l ∷ ls) out good line answer first (a, m, f, o, is, others, joined, all) one = (
  a,
  m ++ answer,
  f,
  (o && first),
  is,
  answers_push ls m o line answer first others one,
  ap (λ t. t ++ answer) joined ∙ append_assoc a m answer,
  ap (λ g. g && first) all ∙ and_grouped f o first,
)
  where
    and_grouped : (x y z : Bool) → ((x && y) && z) ≡ (x && (y && z))
    and_grouped true y z = refl
    and_grouped false y z = refl

-- a line and its end go from the rest to the lines that are done
pub ended_push : (done : List (List ℕ)) (line rest : List ℕ) → ended_lines (done ++ line ∷ []) ++ rest ≡ ended_lines done ++ (line ++ newline ∷ rest)
ended_push [] line rest = append_assoc (line ++ newline ∷ []) [] rest ∙ append_assoc line (newline ∷ []) rest
ended_push (l ∷ ls) line rest =
    append_assoc (l ++ newline ∷ []) (ended_lines (ls ++ line ∷ [])) rest
    ∙ ap (λ t. (l ++ newline ∷ []) ++ t) (ended_push ls line rest)
    ∙ sym (append_assoc (l ++ newline ∷ []) (ended_lines ls) (line ++ newline ∷ rest))

-- the text after some lines: the lines that are done, and their answers
pub record Done (whole rest out : List ℕ) (good : Bool) : Type 0 where
  pub lines : List (List ℕ)
  pub each : All (FreeOf newline) lines
  pub joined : whole ≡ ended_lines lines ++ rest
  pub answered : AnswersEach lines out good

pub done_more : (whole rest out line suffix answer : List ℕ) (good first : Bool) → Done whole rest out good → FreeOf newline line → rest ≡ line ++ newline ∷ suffix → IsAnswer line answer first → Done whole suffix (out ++ answer) (good && first)
done_more whole rest out line suffix answer good first done free cut one = record {
  lines = done.lines ++ line ∷ [];
  each = All-append (FreeOf newline) done.lines (line ∷ []) done.each (All-cons (FreeOf newline) line [] free (All-nil (FreeOf newline)));
  joined = done.joined ∙ ap (λ t. ended_lines done.lines ++ t) cut ∙ sym (ended_push done.lines line suffix);
  answered = answers_push done.lines out good line answer first done.answered one;
}

-- one more line, as the loop takes it
pub done_step : (whole rest out line suffix new : List ℕ) (good first : Bool) → Done whole rest out good → FreeOf newline line × (rest ≡ line ++ newline ∷ suffix) → AppendsAnswer line out new (Ok first) → Done whole suffix new (good && first)
done_step whole rest out line suffix new good first done (free, cut) (answer, one, joined) =
    subst (λ t. Done whole suffix t (good && first)) (sym joined) (done_more whole rest out line suffix answer good first done free cut one)

-- the last line is empty
pub done_all : (whole rest out : List ℕ) (good : Bool) → Done whole rest out good → FreeOf newline rest → (length rest == 0) ≡ true → Answers whole out good
done_all whole [] out good done free empty = (
  done.lines,
  record {
    full = done.lines;
    last = [];
    each = done.each;
    open_ended = free;
    joined = done.joined;
    counted = sym (append-nil done.lines);
  },
  done.answered,
)
done_all whole (b ∷ bs) out good done free empty = absurd (omega (arith, eqb-true _ _ empty))

-- the last line has no end
pub done_last : (whole rest out new : List ℕ) (good first : Bool) → Done whole rest out good → FreeOf newline rest → (length rest == 0) ≡ false → AppendsAnswer rest out new (Ok first) → Answers whole new (good && first)
done_last whole [] out new good first done free filled one = absurd (cc)
done_last whole (b ∷ bs) out new good first done free filled (answer, one, joined) =
    subst (λ t. Answers whole t (good && first)) (sym joined) (
      done.lines ++ (b ∷ bs) ∷ [],
      record {
        full = done.lines;
        last = b ∷ bs;
        each = done.each;
        open_ended = free;
        joined = done.joined;
        counted = refl;
      },
      answers_push done.lines out good (b ∷ bs) answer first done.answered one,
    )

-- the line that is printed for a location is the answer to a line that spells it
pub reported_answer : (line old new : List ℕ) (v : Location) (r : Result Bool RunError) → Spells line v → AppendsReport v old new r → AppendsAnswer line old new r
reported_answer line old new v (Ok good) spelled (answer, is, joined) = (answer, reported v spelled is, joined)
reported_answer line old new v (Err fault) spelled memory = memory

-- the line that is printed for a refusal is the answer to a line that is refused so
pub refused_answer : (line old new : List ℕ) (refusal : Refusal) (r : Result Bool RunError) → Refused line refusal → AppendsRefusal refusal old new r → AppendsAnswer line old new r
refused_answer line old new refusal (Ok good) flaw (bad, joined) = (_, refused refusal flaw refl bad, joined)
refused_answer line old new refusal (Err fault) flaw memory = memory

-- ---- the longest line

-- a front of a text that has no line end is no longer than its first line
first_within : (line suffix first after : List ℕ) → FreeOf newline first → line ++ newline ∷ suffix ≡ first ++ after → length first ≤ length line
first_within line suffix [] after free joined = omega arith
first_within [] suffix (b ∷ bs) after free joined = different_bytes b newline (free_head_tail newline b bs free).0 (sym joined)
first_within (l ∷ ls) suffix (b ∷ bs) after free joined =
    let shorter = first_within ls suffix bs after (free_head_tail newline b bs free).1 (tails joined) in
    omega arith

-- a part of a text without a line end is no longer than its first line, or follows that line
within_cut : (most : ℕ) (line suffix : List ℕ) → length line ≤ most → HasLinesWithin most suffix → HasLinesWithin most (line ++ newline ∷ suffix)
within_cut most line suffix short others [] other rest free joined =
    let shorter = first_within line suffix other rest free joined in
    omega arith
within_cut most [] suffix short others (b ∷ bs) other rest free joined = others bs other rest free (tails joined)
within_cut most (l ∷ ls) suffix short others (b ∷ bs) other rest free joined =
    let shorter : length ls ≤ most = omega arith in
    within_cut most ls suffix shorter others bs other rest free (tails joined)

-- the lines after a cut are lines of the text
within_after : (most : ℕ) (line suffix : List ℕ) → HasLinesWithin most (line ++ newline ∷ suffix) → HasLinesWithin most suffix
within_after most line suffix within before other rest free joined =
    within (line ++ newline ∷ before) other rest free (ap (λ t. line ++ newline ∷ t) joined ∙ sym (append_assoc line (newline ∷ before) (other ++ rest)))

-- a text has lines within a length exactly if its first line and those after it are
pub lines_cut : (most : ℕ) (b line suffix : List ℕ) → FreeOf newline line → b ≡ line ++ newline ∷ suffix → HasLinesWithin most b ↔ ((length line ≤ most) × HasLinesWithin most suffix)
lines_cut most b line suffix free cut = (
  λ within. (within [] line (newline ∷ suffix) free cut, within_after most line suffix (subst (HasLinesWithin most) cut within)),
  λ (short, others). subst (HasLinesWithin most) (sym cut) (within_cut most line suffix short others),
)

-- one line alone is within a length exactly if it is no longer
pub line_alone : (most : ℕ) (b : List ℕ) → FreeOf newline b → HasLinesWithin most b ↔ (length b ≤ most)
line_alone most b free = (
  λ within. within [] b [] free (sym (append-nil b)),
  λ short before line rest whole joined. omega (arith, ap length joined, length-append {A = ℕ}),
)

-- so the lines after a cut are within it
pub within_next : (most buffer_len : ℕ) (b line suffix : List ℕ) → HasLinesWithin most b → FreeOf newline line × (b ≡ line ++ newline ∷ suffix) → buffer_len ≡ most → HasLinesWithin buffer_len suffix
within_next most buffer_len b line suffix within (free, cut) same = subst (λ n. HasLinesWithin n suffix) (sym same) ((lines_cut most b line suffix free cut).0 within).1

-- the whole and its rest: the lines of the whole are within a length exactly if those of the rest are
-- no shorter than the longest of those in front, and the lines of the rest are within it
abbrev pub Measured : List ℕ → List ℕ → ℕ → Type 0
Measured whole rest longest = (most : ℕ) → HasLinesWithin most whole ↔ ((longest ≤ most) × HasLinesWithin most rest)

-- one more line
pub measured_step : (whole rest line suffix : List ℕ) (longest : ℕ) → Measured whole rest longest → FreeOf newline line × (rest ≡ line ++ newline ∷ suffix) → Measured whole suffix (max longest (length line))
measured_step whole rest line suffix longest measured (free, cut) most =
    let cuts = lines_cut most rest line suffix free cut in (
      λ within. let (least, others) = (measured most).0 within in let (short, after_it) = cuts.0 others in (omega (arith, least, short), after_it),
      λ (least, others). (measured most).1 (omega (arith, least), cuts.1 (omega (arith, least), others)),
    )

-- the last line
pub measured_all : (whole rest : List ℕ) (longest most : ℕ) → Measured whole rest longest → FreeOf newline rest → HasLinesWithin most whole ↔ (max longest (length rest) ≤ most)
measured_all whole rest longest most measured free =
    let alone = line_alone most rest free in (
      λ within. let (least, others) = (measured most).0 within in let short = alone.0 others in omega (arith, least, short),
      λ least. (measured most).1 (omega (arith, least), alone.1 (omega (arith, least))),
    )
