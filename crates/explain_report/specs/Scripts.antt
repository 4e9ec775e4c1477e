-- Labels of hosts with letters of two scripts, some of which look alike.
use Rattle.std.specs.Prelude.{ℕ, Bool, true, false, ◌&&◌, List}
use Rattle.std.specs.List.{list_any}
use Rattle.std.specs.Char.{is_ascii_alphabetic}
use Rattle.bstr.specs.Utf8.{lossy_chars}
use Rattle.unicode.specs.Script.{script}
use Rattle.ucd_script.specs.declared.Script.{Script}
use Rattle.ucd_script.specs.declared.Script.TheVariants as named
use Rattle.explain_report.specs.HostNames.{labels}
use Rattle.explain_report.specs.Slips.{is_wide}

-- the script has letters that look like ASCII letters
abbrev pub has_letters_alike : Script → Bool
has_letters_alike named.Greek = true
has_letters_alike named.Cyrillic = true
has_letters_alike named.Armenian = true
has_letters_alike named.Cherokee = true
has_letters_alike _ = false

-- the character is of such a script
abbrev pub is_drawn_alike : ℕ → Bool
is_drawn_alike c = has_letters_alike (script c)

-- the label has an ASCII letter, and a character of such a script
abbrev pub is_mixed_label : List ℕ → Bool
is_mixed_label label = list_any is_ascii_alphabetic label && list_any is_drawn_alike (lossy_chars label)

-- a label of the host is such a label
abbrev pub is_mixed : List ℕ → Bool
is_mixed host = is_wide host && list_any is_mixed_label (labels host)
