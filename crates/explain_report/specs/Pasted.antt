-- Conditions of hints about texts that people paste together with a location.
use Rattle.std.specs.Prelude.{ℕ, ◌-◌, Bool, false, not, ◌&&◌, ◌||◌, ◌==◌, if◌then◌else◌, List, [], ◌∷◌, length, take, drop, codes, Option, Some, None}
use Rattle.std.specs.List.{list_all, prefix_len, suffix_len}
use Rattle.std.specs.Char.{is_ascii_whitespace}
use Rattle.git_syntax.specs.Bytes.{is_one_of, space}
use Rattle.git_audit.specs.Dangers.{has_front}
use Rattle.explain_report.specs.Marks.{begins_with_some, halves, has_end, holds, is_among_in_any_case, is_empty, last_halves, passes}

-- the commands with which a location is pasted
abbrev pub commands : List (List ℕ)
commands = codes "git clone " ∷ codes "git fetch " ∷ codes "git pull " ∷ codes "git push " ∷ codes "git ls-remote "
    ∷ codes "git remote add " ∷ codes "git remote set-url " ∷ codes "git submodule add " ∷ []

-- a line without a prompt before it: `$`, `%`, `#` or `>`, and a space
abbrev pub without_prompt : List ℕ → List ℕ
without_prompt [] = []
without_prompt (mark ∷ []) = mark ∷ []
without_prompt (mark ∷ blank ∷ typed) = if is_one_of (codes "$%#>") mark && blank == space then typed else mark ∷ blank ∷ typed

-- the line begins with a command, with or without a prompt before it
abbrev pub begins_with_command : List ℕ → Bool
begins_with_command line = begins_with_some commands (without_prompt line)

-- the text begins with one byte, and the rest of it ends with the other
abbrev pub is_within : ℕ → ℕ → List ℕ → Bool
is_within begin end [] = false
is_within begin end (b ∷ rest) = b == begin && has_end rest (end ∷ [])

-- the line is in quotes or in angle brackets
abbrev pub is_quoted : List ℕ → Bool
is_quoted line = is_within 34 34 line || (is_within 39 39 line || (is_within 96 96 line || is_within 60 62 line))

-- the line begins with `[`, ends with `)`, and contains `](`
abbrev pub is_markdown_link : List ℕ → Bool
is_markdown_link line = has_front line (codes "[") && (has_end line (codes ")") && holds (codes "](") line)

-- the line ends like those of `git remote -v`
abbrev pub is_listed_remote : List ℕ → Bool
is_listed_remote line = has_end line (codes " (fetch)") || has_end line (codes " (push)")

-- a text without white space at its front
abbrev pub without_front_blanks : List ℕ → List ℕ
without_front_blanks text = drop (prefix_len is_ascii_whitespace text) text

-- a text without white space at its end
abbrev pub without_end_blanks : List ℕ → List ℕ
without_end_blanks text = take (length text - suffix_len is_ascii_whitespace text) text

-- the name of the URL of a remote or of a submodule, in any letter case
abbrev pub is_name_of_url : List ℕ → Bool
is_name_of_url name = is_among_in_any_case (codes "url" ∷ codes "pushurl" ∷ []) name

-- such a name, or the section of a remote or of a submodule before the last `.` and such a name after it
abbrev pub is_key_cut_so : List ℕ → Option (List ℕ × List ℕ) → Bool
is_key_cut_so key None = is_name_of_url key
is_key_cut_so key (Some p) = begins_with_some (codes "remote." ∷ codes "submodule." ∷ []) p.0 && is_name_of_url p.1

-- the key of a URL
abbrev pub is_key_of_url : List ℕ → Bool
is_key_of_url key = is_key_cut_so key (last_halves (codes ".") key)

-- before its first `=` the line has the key of a URL, with or without white space around it
abbrev pub is_setting : List ℕ → Bool
is_setting line = passes (λ key value. is_key_of_url (without_end_blanks (without_front_blanks key))) (halves (codes "=") line)

-- the byte ends a part of a sentence
abbrev pub ends_clause : ℕ → Bool
ends_clause b = is_one_of (codes ",;).") b

-- one or more such bytes, and no others, follow the last `.git` of the line
abbrev pub ends_like_sentence : List ℕ → Bool
ends_like_sentence line = passes (λ front rest. not (is_empty rest) && list_all ends_clause rest) (last_halves (codes ".git") line)
