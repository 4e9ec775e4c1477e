-- Readers of the family by their choices: RFC 3986, the URL Standard of the WHATWG, and Git.
use Rattle.std.specs.Prelude.{◌≡◌, ℕ, Bool, false, true, ◌==◌, List, map, if◌then◌else◌}
use Rattle.std.specs.List.{list_all}
use Rattle.percent_encoding.specs.Percent.{percent_decode}
use Rattle.git_syntax.specs.Bytes.{slash, backslash, lowercase, is_query_start}
use Rattle.git_reads.specs.Git.{git_decode}
use Rattle.git_readers.specs.Unambiguous.{HasDots, IsCommonHost, is_path_byte}
use Rattle.git_readers.specs.Readers.{LeavesPlain, UrlReader}
use Rattle.git_readers.specs.Readers.Which.{first, last}

-- a text, unchanged
abbrev pub as_it_is : List ℕ → List ℕ
as_it_is t = t

-- no byte
abbrev pub never : ℕ → Bool
never b = false

-- RFC 3986: an authority ends at `/`, `?` or `#`, and a path at `?` or `#`; pieces are decoded after they are
-- cut, and a host has no letter case
abbrev pub rfc3986 : UrlReader
rfc3986 = record {
  prepares = as_it_is;
  ends_authority = is_query_start;
  ends_path = is_query_start;
  user_cut = first;
  password_cut = first;
  port_cut = last;
  word = percent_decode;
  host = lowercase;
  path = percent_decode;
}

-- `\` as `/`
abbrev pub slashed_byte : ℕ → ℕ
slashed_byte b = if b == backslash then slash else b

-- the URL Standard: `\` is a `/`, the last `@` ends user information, and hosts and paths are normalized
abbrev pub whatwg : (List ℕ → List ℕ) → (List ℕ → List ℕ) → UrlReader
whatwg normal_host normal_path = record {
  prepares = map slashed_byte;
  ends_authority = is_query_start;
  ends_path = is_query_start;
  user_cut = last;
  password_cut = first;
  port_cut = first;
  word = as_it_is;
  host = normal_host;
  path = normal_path;
}

-- Git's transports: a URL is decoded before it is cut, and only `/` ends its authority
abbrev pub git_transports : UrlReader
git_transports = record {
  prepares = git_decode;
  ends_authority = never;
  ends_path = never;
  user_cut = last;
  password_cut = first;
  port_cut = first;
  word = as_it_is;
  host = as_it_is;
  path = as_it_is;
}

-- Git's credential code: the first `@` ends user information, and pieces are decoded after they are cut
abbrev pub git_credentials : UrlReader
git_credentials = record {
  prepares = as_it_is;
  ends_authority = is_query_start;
  ends_path = never;
  user_cut = first;
  password_cut = first;
  port_cut = first;
  word = percent_decode;
  host = percent_decode;
  path = percent_decode;
}

-- the normalizer doesn't change plain hosts
abbrev pub KeepsHosts : (List ℕ → List ℕ) → Type 0
KeepsHosts normal = (host : List ℕ) → IsCommonHost host → normal host ≡ host

-- the normalizer doesn't change plain paths without segments of dots
abbrev pub KeepsPaths : (List ℕ → List ℕ) → Type 0
KeepsPaths normal = (path : List ℕ) → list_all is_path_byte path ≡ true → ¬ HasDots path
    → normal path ≡ path

-- `LeavesPlain` holds for the reader of the URL Standard with any normalizers that don't change plain hosts and
-- plain paths
abbrev pub WhatwgLeaves : Type 0
WhatwgLeaves = (normal_host normal_path : List ℕ → List ℕ) → KeepsHosts normal_host
    → KeepsPaths normal_path → LeavesPlain (whatwg normal_host normal_path)
