-- Rows: what Git reads in texts that are written out, as git 2.39.5 reports it (`git fetch-pack --diag-url`,
-- `git ls-remote`); for the end of a line in `git://`, with that transport allowed. OpenSSH 9.2 reports that it
-- refuses the word `@h`, and reads `ssh://u@x:22` as user `u`, host `x` and port 22 (`ssh -G`). For `~/x`, `git
-- clone` uses another repository than `git fetch`. A text with byte 0 can't be an argument of a command. `git
-- credential fill` shows what Git's credential code reads.
use Rattle.std.specs.Prelude.{ℕ, List, [], ◌∷◌, ◌++◌, codes, Option, Some, None}
use Rattle.git_syntax.specs.Location.Scheme.{git, ssh}
use Rattle.git_syntax.specs.Bytes.{tab}
use Rattle.git_reads.specs.Git.{GitReading, GitReads, on_this_machine}
use Rattle.git_reads.specs.Credentials.{CredentialReading, CredentialReads}

-- a place that Secure Shell reaches
abbrev pub by_ssh : Option (List ℕ) → Option (List ℕ) → Option ℕ → List ℕ → GitReading
by_ssh name place number whole = record { protocol = ssh; user = name; host = place; port = number; path = whole }

-- a place that Git's own protocol reaches
abbrev pub by_git : List ℕ → Option ℕ → List ℕ → GitReading
by_git place number whole = record { protocol = git; user = None; host = Some place; port = number; path = whole }

-- URLs
abbrev pub GitUrlRows : Type 0
GitUrlRows =
    GitReads (codes "ssh://u:p@h:22/p") (by_ssh (Some (codes "u:p")) (Some (codes "h:22")) None (codes "/p"))
    × GitReads (codes "ssh://h: +022/p") (by_ssh None (Some (codes "h")) (Some 22) (codes "/p"))
    × GitReads (codes "ssh://h:" ++ tab ∷ codes "22/p") (by_ssh None (Some (codes "h")) (Some 22) (codes "/p"))
    × GitReads (codes "ssh://h:-0/p") (by_ssh None (Some (codes "h")) (Some 0) (codes "/p"))
    × GitReads (codes "ssh://h:-5/p") (by_ssh None (Some (codes "h:-5")) None (codes "/p"))
    × GitReads (codes "ssh://h:65535/p") (by_ssh None (Some (codes "h")) (Some 65535) (codes "/p"))
    × GitReads (codes "ssh://h:65536/p") (by_ssh None (Some (codes "h:65536")) None (codes "/p"))
    × GitReads (codes "ssh://h:/p") (by_ssh None (Some (codes "h")) None (codes "/p"))
    × GitReads (codes "ssh://[h/p") (by_ssh None (Some (codes "[h")) None (codes "/p"))
    × GitReads (codes "ssh://h/@[x]/p") (by_ssh (Some (codes "h/")) (Some (codes "x")) None (codes "/p"))
    × GitReads (codes "ssh://[h:22]/p") (by_ssh None (Some (codes "h")) (Some 22) (codes "/p"))
    × GitReads (codes "ssh://[::1]:22/p") (by_ssh None (Some (codes "::1")) (Some 22) (codes "/p"))
    × GitReads (codes "ssh://[x]u@h/p") (by_ssh None (Some (codes "x")) None (codes "/p"))
    × GitReads (codes "ssh:///~") (by_ssh None None None (codes "~"))
    × GitReads (codes "git://h%2Fx/p") (by_git (codes "h") None (codes "/x/p"))
    × GitReads (codes "git://h/p%00q") (by_git (codes "h") None (codes "/p%00q"))
    × GitReads (codes "git://u@h:22/p") (by_git (codes "u@h") (Some 22) (codes "/p"))
    × GitReads (codes "git://%5B%3A%3A1%5D:22/p") (by_git (codes "::1") (Some 22) (codes "/p"))
    × GitReads (codes "file://h/p") (on_this_machine (codes "/p"))
    × GitReads (codes "file://~/x") (on_this_machine (codes "/x"))
    × GitReads (codes "file:///~/x") (on_this_machine (codes "/~/x"))

-- other texts
abbrev pub GitTextRows : Type 0
GitTextRows =
    GitReads (codes "[u@h]:p") (by_ssh (Some (codes "u")) (Some (codes "h")) None (codes "p"))
    × GitReads (codes "u:p@[h]:q") (by_ssh (Some (codes "u:p")) (Some (codes "h")) None (codes "q"))
    × GitReads (codes "u@[::1]:p") (by_ssh (Some (codes "u")) (Some (codes "::1")) None (codes "p"))
    × GitReads (codes "h:a~u/p") (by_ssh None (Some (codes "h")) None (codes "~u/p"))
    × GitReads (codes "/srv/a@[b]/c") (on_this_machine (codes "]/c"))
    × GitReads (codes "./a:b") (on_this_machine (codes "./a:b"))
    × GitReads (codes "./~/x") (on_this_machine (codes "./~/x"))
    × GitReads (codes "/~root/x") (on_this_machine (codes "/~root/x"))

-- texts that Git refuses, reads as an option or passes to a remote helper, and one that it doesn't receive
-- whole
abbrev pub NoGitRows : Type 0
NoGitRows =
    ((reading : GitReading) → ¬ GitReads (codes "-h:p") reading)
    × ((reading : GitReading) → ¬ GitReads (codes "-@[x]/p") reading)
    × ((reading : GitReading) → ¬ GitReads (codes "ssh://-h/p") reading)
    × ((reading : GitReading) → ¬ GitReads (codes "u@h:-p") reading)
    × ((reading : GitReading) → ¬ GitReads (codes "@h:p") reading)
    × ((reading : GitReading) → ¬ GitReads (codes "ssh://[ssh://u@x:22]/p") reading)
    × ((reading : GitReading) → ¬ GitReads (codes "~/x") reading)
    × ((reading : GitReading) → ¬ GitReads (codes "~root/x") reading)
    × ((reading : GitReading) → ¬ GitReads (codes "rsync:p") reading)
    × ((reading : GitReading) → ¬ GitReads (codes "h::p") reading)
    × ((reading : GitReading) → ¬ GitReads (codes "::p") reading)
    × ((reading : GitReading) → ¬ GitReads (codes "http://h/p") reading)
    × ((reading : GitReading) → ¬ GitReads (codes "git://h%0Ax/p") reading)
    × ((reading : GitReading) → ¬ GitReads (codes "git://h/p%0Aq") reading)
    × ((reading : GitReading) → ¬ GitReads (codes "h:p" ++ 0 ∷ codes "q") reading)

-- what Git's credential code reads in a text with a user and a password
abbrev pub asked : List ℕ → List ℕ → List ℕ → List ℕ → Option (List ℕ) → CredentialReading
asked scheme name secret place below =
    record { protocol = scheme; user = Some name; password = Some secret; host = place; path = below }

-- texts of HTTP
abbrev pub CredentialRows : Type 0
CredentialRows =
    CredentialReads (codes "http://u:p@h:8080/a/b") (asked (codes "http") (codes "u") (codes "p") (codes "h:8080") (Some (codes "a/b")))
    × CredentialReads (codes "https://u:p@h/") (asked (codes "https") (codes "u") (codes "p") (codes "h") None)
    × CredentialReads (codes "http://u:p@h//a//") (asked (codes "http") (codes "u") (codes "p") (codes "h") (Some (codes "a")))
    × CredentialReads (codes "http://a:b@c@h/x") (asked (codes "http") (codes "a") (codes "b") (codes "c@h") (Some (codes "x")))
    × CredentialReads (codes "http://u%3Av:p@h/%2Fa:%2Fb") (asked (codes "http") (codes "u:v") (codes "p") (codes "h") (Some (codes "%2Fa:/b")))
    × CredentialReads (codes "http://u:p%00@[::1]:80?q#f") (asked (codes "http") (codes "u") (codes "p%00") (codes "[::1]:80") (Some (codes "?q#f")))
    × CredentialReads (codes "http://:p@h") (asked (codes "http") [] (codes "p") (codes "h") None)
