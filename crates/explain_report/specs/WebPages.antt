-- Addresses of web pages about a part of a repository, as forges write them.
use Rattle.std.specs.Prelude.{ℕ, Bool, false, not, ◌&&◌, ◌||◌, ◌==◌, List, [], ◌∷◌, codes, Option}
use Rattle.git_syntax.specs.Bytes.{slash}
use Rattle.explain_report.specs.Marks.{before, halves, is_among, is_empty, passes, some_passes}

-- the forges at which each repository has a path of two segments
abbrev pub forges : List (List ℕ)
forges = codes "github.com" ∷ codes "codeberg.org" ∷ codes "gitea.com" ∷ codes "bitbucket.org" ∷ codes "git.sr.ht" ∷ []

-- the third segments of pages there that another segment follows
abbrev pub details : List (List ℕ)
details = codes "tree" ∷ codes "blob" ∷ codes "raw" ∷ codes "blame" ∷ codes "edit" ∷ codes "pull" ∷ codes "commit"
    ∷ codes "compare" ∷ codes "src" ∷ codes "branch" ∷ codes "log" ∷ codes "item" ∷ []

-- the third segments of pages there that may be the last one
abbrev pub lists : List (List ℕ)
lists = codes "pulls" ∷ codes "pull-requests" ∷ codes "issues" ∷ codes "releases" ∷ codes "tags" ∷ codes "branches"
    ∷ codes "commits" ∷ codes "actions" ∷ codes "wiki" ∷ codes "refs" ∷ []

-- the segments after the first `/-/` in pages of GitLab
abbrev pub pages_of_gitlab : List (List ℕ)
pages_of_gitlab = codes "tree" ∷ codes "blob" ∷ codes "raw" ∷ codes "blame" ∷ codes "commit" ∷ codes "commits"
    ∷ codes "compare" ∷ codes "merge_requests" ∷ codes "issues" ∷ codes "tags" ∷ codes "branches" ∷ codes "releases"
    ∷ codes "pipelines" ∷ codes "wikis" ∷ []

-- the first `/-/` precedes the name of a page
abbrev pub is_page_of_gitlab : List ℕ → Bool
is_page_of_gitlab path = passes (λ front rest. is_among pages_of_gitlab (before (codes "/") rest)) (halves (codes "/-/") path)

-- the text begins with a byte other than `/`
abbrev pub begins_segment : List ℕ → Bool
begins_segment [] = false
begins_segment (b ∷ bs) = not (b == slash)

-- the first segment is one of the lists, or one of the details and another segment follows it
abbrev pub is_name_of_page : List ℕ → Bool
is_name_of_page path = is_among lists (before (codes "/") path)
    || passes (λ kind rest. begins_segment rest && is_among details kind) (halves (codes "/") path)

-- a repository and the name of a page
abbrev pub is_below_owner : List ℕ → Bool
is_below_owner path = passes (λ repository rest. not (is_empty repository) && is_name_of_page rest) (halves (codes "/") path)

-- `/`, an owner, a repository and the name of a page
abbrev pub is_page_of_forge : List ℕ → Bool
is_page_of_forge [] = false
is_page_of_forge (b ∷ path) = b == slash
    && passes (λ owner rest. not (is_empty owner) && is_below_owner rest) (halves (codes "/") path)

-- a path without query and fragment
abbrev pub path_alone : List ℕ → List ℕ
path_alone path = before (codes "#") (before (codes "?") path)

-- the path is that of a page of GitLab, or the host is a forge and the path is that of a page there
abbrev pub is_page : Option (List ℕ) → List ℕ → Bool
is_page host path = is_page_of_gitlab (path_alone path) || (some_passes (is_among forges) host && is_page_of_forge (path_alone path))
