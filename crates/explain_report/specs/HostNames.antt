-- Host names as people write them.
use Rattle.std.specs.Prelude.{ℕ, Bool, not, ◌&&◌, ◌==◌, nat_lt, List, [], ◌∷◌, length, codes}
use Rattle.std.specs.List.{list_all, slice_split}
use Rattle.std.specs.Char.{is_ascii_alphabetic}
use Rattle.git_syntax.specs.Bytes.{dot}
use Rattle.explain_report.specs.Hints.{is_label, is_user}
use Rattle.explain_report.specs.Marks.{halves, is_among, is_word, last_halves, passes}

-- the last labels of the names of most services
abbrev pub services : List (List ℕ)
services = codes "com" ∷ codes "org" ∷ codes "net" ∷ codes "io" ∷ codes "dev" ∷ codes "app" ∷ codes "edu" ∷ codes "gov"
    ∷ codes "info" ∷ codes "cloud" ∷ []

-- `.` separates labels
abbrev pub is_dot : ℕ → Bool
is_dot b = b == dot

-- the labels of a host
abbrev pub labels : List ℕ → List (List ℕ)
labels host = slice_split is_dot host

-- a last label: two letters or more, and not the end of the name of a bare repository
abbrev pub is_last_label : List ℕ → Bool
is_last_label label = nat_lt 1 (length label) && (not (is_word label (codes "git")) && list_all is_ascii_alphabetic label)

-- a host name: labels, `.` and a last label
abbrev pub is_host_name : List ℕ → Bool
is_host_name name = passes (λ front last. is_last_label last && list_all is_label (labels front)) (last_halves (codes ".") name)

-- a host name that ends as those of services do
abbrev pub is_name_of_service : List ℕ → Bool
is_name_of_service name = is_host_name name && passes (λ front last. is_among services last) (last_halves (codes ".") name)

-- a plain user, `@` and a host name
abbrev pub is_user_and_host : List ℕ → Bool
is_user_and_host bytes = passes (λ user host. is_user user && is_host_name host) (halves (codes "@") bytes)
