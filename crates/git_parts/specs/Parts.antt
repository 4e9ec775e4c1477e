-- The places of the parts of a location in its text. Each part is a slice of the text, not decoded.
use Rattle.std.specs.Prelude.{◌≡◌, ℕ, ◌+◌, ◌<◌, true, false, List, [], ◌∷◌, ◌++◌, length, take, drop, codes, Option, Some, None}
use Rattle.std.specs.Str.Parse.{digits_value}
use Rattle.percent_encoding.specs.Percent.{percent_decode}
use Rattle.git_syntax.specs.Bytes.{slash, colon, at_sign, left_bracket, right_bracket, FreeOf, begins_with}
use Rattle.git_syntax.specs.Location.{Location}
use Rattle.git_syntax.specs.Hosts.{IsManyColoned, IsPlainHost}
use Rattle.git_syntax.specs.Grammar.{HelperCut, ScpForm, AddressedForm, IsAddressed, LocalForm, Spells}
use Rattle.git_syntax.specs.Flaws.{UrlForm, OtherUrlForm, UrlCut}
use Rattle.git_parts.specs.declared.parts.Span.{Span}
use Rattle.git_parts.specs.declared.parts.Parts.{Parts}
use Rattle.git_parts.specs.declared.parts.PartForm.{PartForm}
use Rattle.git_parts.specs.declared.parts.PartForm.TheVariants as form

-- `len` bytes from index `at`
abbrev pub span : ℕ → ℕ → Span
span at len = record { at = at; len = len }

-- the bytes of the text in this span
abbrev pub slice_of : List ℕ → Span → List ℕ
slice_of b s = take s.len (drop s.at b)

-- the piece that starts at index `start`, if it isn't empty
abbrev pub span_unless_empty : ℕ → List ℕ → Option Span
span_unless_empty start [] = None
span_unless_empty start (c ∷ cs) = Some (span start (length (c ∷ cs)))

-- a host and a port, in a piece that starts at index `start`: the host has its brackets, and the colon that
-- stays with it
pub data HostSpans (start : ℕ) (piece : List ℕ) (host port : Option Span) : Type 0 where
  nothing : piece ≡ [] → host ≡ None → port ≡ None → HostSpans start piece host port
  bracketed : (x : List ℕ) → FreeOf right_bracket x → piece ≡ left_bracket ∷ (x ++ right_bracket ∷ [])
      → host ≡ Some (span start (length piece)) → port ≡ None → HostSpans start piece host port
  bracketed_colon : (x : List ℕ) → FreeOf right_bracket x
      → piece ≡ left_bracket ∷ (x ++ right_bracket ∷ (colon ∷ []))
      → host ≡ Some (span start (length piece)) → port ≡ None → HostSpans start piece host port
  bracketed_port : (x digits : List ℕ) → FreeOf right_bracket x → 0 < length digits
      → piece ≡ left_bracket ∷ (x ++ right_bracket ∷ (colon ∷ digits))
      → host ≡ Some (span start (length x + 2))
      → port ≡ Some (span (start + (length x + 3)) (length digits)) → HostSpans start piece host port
  plain : IsPlainHost piece → host ≡ Some (span start (length piece)) → port ≡ None
      → HostSpans start piece host port
  plain_colon : (text : List ℕ) → IsPlainHost text → piece ≡ text ++ colon ∷ []
      → host ≡ Some (span start (length piece)) → port ≡ None → HostSpans start piece host port
  plain_port : (text digits : List ℕ) → IsPlainHost text → FreeOf colon digits → 0 < length digits
      → piece ≡ text ++ colon ∷ digits → host ≡ Some (span start (length text))
      → port ≡ Some (span (start + (length text + 1)) (length digits)) → HostSpans start piece host port
  -- colons that don't begin a port
  colons : begins_with left_bracket piece ≡ false → IsManyColoned piece
      → host ≡ Some (span start (length piece)) → port ≡ None → HostSpans start piece host port

-- a user and a password, in user information that starts at index `start`
pub data UserSpans (start : ℕ) (information : List ℕ) (user password : Option Span) : Type 0 where
  alone : FreeOf colon information → user ≡ Some (span start (length information)) → password ≡ None
      → UserSpans start information user password
  with_password : (u w : List ℕ) → FreeOf colon u → information ≡ u ++ colon ∷ w
      → user ≡ Some (span start (length u)) → password ≡ Some (span (start + (length u + 1)) (length w))
      → UserSpans start information user password

-- the parts of an authority that starts at index `start`
pub data AuthoritySpans (start : ℕ) (authority : List ℕ) (user password host port : Option Span)
    : Type 0 where
  alone : FreeOf at_sign authority → user ≡ None → password ≡ None → HostSpans start authority host port
      → AuthoritySpans start authority user password host port
  with_user : (information piece : List ℕ) → FreeOf at_sign piece
      → authority ≡ information ++ at_sign ∷ piece → UserSpans start information user password
      → HostSpans (start + (length information + 1)) piece host port
      → AuthoritySpans start authority user password host port

-- the front of the scp form: a host, or a user and a host
pub data FrontSpans (front : List ℕ) (user host : Option Span) : Type 0 where
  alone : FreeOf at_sign front → user ≡ None → host ≡ Some (span 0 (length front)) → FrontSpans front user host
  with_user : (u h : List ℕ) → FreeOf at_sign h → front ≡ u ++ at_sign ∷ h
      → user ≡ Some (span 0 (length u)) → host ≡ Some (span (length u + 1) (length h))
      → FrontSpans front user host

-- a text that is one part, the path
abbrev pub path_span : PartForm → List ℕ → Parts
path_span taken_for b = record {
  form = taken_for;
  scheme = None;
  user = None;
  password = None;
  host = None;
  port = None;
  path = span 0 (length b);
}

-- the parts of the text are these, by its form
pub data HasParts (b : List ℕ) (parts : Parts) : Type 0 where
  local : LocalForm b → parts ≡ path_span form.Local b → HasParts b parts
  remote_helper : (name address : List ℕ) → HelperCut b name address
      → parts ≡ record (path_span form.RemoteHelper b) {
        scheme = Some (span 0 (length name));
        path = span (length name + 2) (length address);
      }
      → HasParts b parts
  -- the helper `ext` receives its whole URL
  ext_url : (rest : List ℕ) → OtherUrlForm b (codes "ext") rest → parts ≡ path_span form.RemoteHelper b
      → HasParts b parts
  file_url : (host path : List ℕ) → UrlForm b (codes "file") (host ++ path) → FreeOf slash host
      → begins_with slash path ≡ true
      → parts ≡ record (path_span form.Url b) {
        scheme = Some (span 0 4);
        host = span_unless_empty 7 host;
        path = span (7 + length host) (length path);
      }
      → HasParts b parts
  url : (scheme authority path : List ℕ) (user password host port : Option Span)
      → UrlCut b scheme authority path → ¬ (scheme ≡ codes "ext")
      → AuthoritySpans (length scheme + 3) authority user password host port
      → parts ≡ record {
        form = form.Url;
        scheme = Some (span 0 (length scheme));
        user = user;
        password = password;
        host = host;
        port = port;
        path = span (length scheme + 3 + length authority) (length path);
      }
      → HasParts b parts
  addressed : (user address path : List ℕ) → AddressedForm b user address path
      → parts ≡ record (path_span form.Scp b) {
        user = Some (span 0 (length user));
        host = Some (span (length user + 1) (length address + 2));
        path = span (length user + length address + 4) (length path);
      }
      → HasParts b parts
  scp : (front path : List ℕ) (user host : Option Span) → ScpForm b front path → ¬ IsAddressed b
      → FrontSpans front user host
      → parts ≡ record (path_span form.Scp b) {
        user = user;
        host = host;
        path = span (length front + 1) (length path);
      }
      → HasParts b parts

-- ---- laws

-- a text has at most one cut into parts
abbrev pub OneCut : Type 0
OneCut = (b : List ℕ) (p q : Parts) → HasParts b p → HasParts b q → p ≡ q

-- the text has this part, and its bytes decode to `decoded`
abbrev pub Decodes : List ℕ → Option Span → List ℕ → Type 0
Decodes b part decoded = (s : Span) × (part ≡ Some s) × (percent_decode (slice_of b s) ≡ decoded)

-- the password of a location is the part `password`, decoded
abbrev pub PasswordIsPart : Type 0
PasswordIsPart = (b : List ℕ) (parts : Parts) (v : Location) (password : List ℕ) → HasParts b parts
    → Spells b v → v.password ≡ Some password → Decodes b parts.password password

-- the port of a location is the number of the digits in the part `port`
abbrev pub PortIsPart : Type 0
PortIsPart = (b : List ℕ) (parts : Parts) (v : Location) (port : ℕ) → HasParts b parts → Spells b v
    → v.port ≡ Some port → (s : Span) × (parts.port ≡ Some s) × (digits_value 10 (slice_of b s) ≡ port)
