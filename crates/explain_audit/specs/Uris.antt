-- The URIs of files.
use Rattle.std.specs.Prelude.{List, ℕ, Bool, bytes_eq, codes, if◌then◌else◌, ◌++◌, []}
use Rattle.git_syntax.specs.Bytes.{begins_with, slash}
use Rattle.percent_encoding.specs.Percent.{percent_encode}
use Rattle.explain_audit.specs.declared.uri.TheConstants.{ESCAPED}

-- the name is that of standard input
abbrev pub is_input : List ℕ → Bool
is_input name = bytes_eq name (codes "-")

-- the front of the URI: `file://` if the name is absolute
abbrev pub front : List ℕ → List ℕ
front name = if begins_with slash name then codes "file://" else []

-- the URI of a file
abbrev pub uri_of : List ℕ → List ℕ
uri_of name = if is_input name then codes "file:///dev/stdin" else front name ++ percent_encode ESCAPED name
