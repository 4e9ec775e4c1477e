-- The first word of a command line, read byte by byte.
use Rattle.std.proofs.Common.{◌≡◌, ◌∙◌, ℕ, Bool, true, false, List, [], ◌∷◌, ◌++◌, Option, Some, None, refl, sym, ap, append-nil, append_assoc}
use Rattle.std.specs.Prelude.{if◌then◌else◌}
use Rattle.git_rules.specs.CommandLines.{LineWords, after_end, in_bare, is_gap, line_words_from, with_byte}
use Rattle.git_rules.specs.CommandLines.Spot.{between, bare}
use Rattle.git_rules.specs.BaseNames.{word_by}

-- if a word ends, the first one is over
after_over : (going : Bool) (read : List ℕ) (words : Option LineWords) → word_by going read (after_end words) ≡ word_by false read words
after_over true read None = refl
after_over true read (Some w) = ap (λ t. Some t) (append-nil read)
after_over false read None = refl
after_over false read (Some w) = refl

-- then it doesn't matter whether another one begins at once
over_by : (t : Bool) (read : List ℕ) (a b : Option LineWords) → word_by false read (if t then a else b) ≡ word_by false read (if t then after_end a else b)
over_by true read a b = sym (after_over false read a)
over_by false read a b = refl

over_alike : (read rest : List ℕ) → word_by false read (line_words_from between rest) ≡ word_by false read (line_words_from bare rest)
over_alike read [] = refl
over_alike read (b ∷ rest) = over_by (is_gap b) read (line_words_from between rest) (in_bare b (λ s. line_words_from s rest))

pub gap_read : (going : Bool) (read rest : List ℕ) → word_by going read (after_end (line_words_from between rest)) ≡ word_by false read (line_words_from bare rest)
gap_read going read rest = after_over going read (line_words_from between rest) ∙ over_alike read rest

-- a byte more of the first word
part_read : (read : List ℕ) (b : ℕ) (words : Option LineWords) → word_by true read (with_byte b words) ≡ word_by true (read ++ b ∷ []) words
part_read read b None = refl
part_read read b (Some w) = ap (λ t. Some t) (sym (append_assoc read (b ∷ []) w.first))

-- a byte more of the first word, if the word goes on
pub part_going : (going : Bool) (read : List ℕ) (b : ℕ) (words : Option LineWords) → going ≡ true → word_by going (read ++ b ∷ []) words ≡ word_by going read (with_byte b words)
part_going true read b words h = sym (part_read read b words)
part_going false read b words h = absurd (cc)
