-- Rows of exceptions, and one row for each error in a definition that the laws would not detect.
use Rattle.std.specs.Prelude.{◌≡◌, ℕ, true, false, List, codes, Some, None}
use Rattle.git_syntax.specs.Location.{Scheme, Location, path_alone}
use Rattle.git_syntax.specs.Location.Scheme.{file, git, http, https}
use Rattle.git_syntax.specs.Schemes.{requires_host}
use Rattle.git_laws.specs.Components.{ComponentsOf}
use Rattle.git_laws.specs.Records.{migrated}
use Rattle.git_laws.specs.Laws.{IsException}

-- a location with a host
abbrev pub at_host : Scheme → List ℕ → List ℕ → Location
at_host scheme host path = record (path_alone scheme false path) { host = Some host }

-- FTP needs a host; in a path without a spelling, an escape is literal; in a legacy record, a `%` without
-- digits is not an escape
abbrev pub SlipRows : Type 0
SlipRows =
    (requires_host (codes "ftps") ≡ true)
    × ComponentsOf (at_host https (codes "h") (codes "/a%20b"))
    (record { path = codes "/a%20b"; query = None; fragment = None })
    × (migrated (record (at_host https (codes "h") (codes "/%%41")) { spelling = Some (codes "/%%41") })
    ≡ record (at_host https (codes "h") (codes "/%A")) { spelling = Some (codes "/%25%41") })

-- ---- exceptions

-- locations that are exceptions
abbrev pub ExceptionRows : Type 0
ExceptionRows = IsException (at_host file (codes "a:%") (codes "/p"))
    × IsException (at_host http (codes "h%41:") (codes "/p"))

-- unsettled locations that are not exceptions
abbrev pub NoExceptionRows : Type 0
NoExceptionRows =
    ¬ IsException (at_host file (codes "a:b/c") (codes "/p"))
    × ¬ IsException (at_host file (codes "a%b/c") (codes "/p"))
    × ¬ IsException (at_host git (codes "h%41:") (codes "p"))
    × ¬ IsException (at_host https (codes "H") (codes "/p"))
