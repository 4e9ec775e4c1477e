-- The reason for which a text spells no location, and its place: the first flaw in the order of checks. Each
-- check finds at most one place, so a text has at most one refusal.
use Rattle.std.specs.Prelude.{◌≡◌, ℕ, ◌+◌, ◌<◌, ◌≤◌, Bool, true, false, ◌⊎◌, List, [], ◌∷◌, ◌++◌, length, take, drop, codes, IsUtf8}
use Rattle.std.specs.List.{list_all}
use Rattle.std.specs.Char.{is_whitespace, is_ascii_alphabetic, is_ascii_digit}
use Rattle.std.specs.Str.Lossy.{utf8_valid_len, utf8_invalid_len}
use Rattle.std.specs.Str.Parse.{digits_value}
use Rattle.percent_encoding.specs.Percent.{percent_decode}
use Rattle.git_syntax.specs.declared.refusal.UrlKind.TheVariants.{Url, Scp, Local}
use Rattle.git_syntax.specs.Bytes.{slash, colon, at_sign, left_bracket, backslash, right_bracket, Lacks, FreeOf, begins_with, is_path_start, StartsPath}
use Rattle.git_syntax.specs.Addresses.{IsIpv6Text}
use Rattle.git_syntax.specs.Hosts.{HostSyntax, IsLiteral, IsDigits, IsAddressPiece, ReadsAddress, IsManyColoned, IsPlainHost}
use Rattle.git_syntax.specs.Hosts.HostSyntax.{http_hosts, git_hosts, other_hosts}
use Rattle.git_syntax.specs.Schemes.{is_web_scheme, scheme_of, host_syntax_of, requires_host, requires_path}
use Rattle.git_syntax.specs.Authority.{Fits}
use Rattle.git_syntax.specs.Flaws.{BracketsAround, UrlForm, OtherUrlForm}
use Rattle.git_syntax.specs.Grammar.{ScpForm, AddressedForm, IsAddressed}
use Rattle.git_refusals.specs.declared.place.Place.{Place}
use Rattle.git_refusals.specs.declared.reason.Reason.{Reason}
use Rattle.git_refusals.specs.declared.reason.Reason.TheVariants as reason
use Rattle.git_refusals.specs.declared.refusal.Refusal.{Refusal}
use Rattle.git_refusals.specs.Kinds.{refusal_of}
use Rattle.git_refusals.specs.Characters.{IsFirstAt, IsBrokenAt, IsCharacterAt, is_no_scheme_character, is_no_host_character, undecodable_at, undecodable_len}

-- ---- places, and the order of checks

-- the reason is this one, at this place
pub record IsAt (why : Reason) (at len : ℕ) (p : Place) : Type 0 where
  pub named : p.reason ≡ why
  pub start : p.at ≡ at
  pub size : p.len ≡ len

-- the place that a check finds in a piece, which starts at index `before`
pub record Shifted (before : ℕ) (check : Place → Type 0) (p : Place) : Type 0 where
  pub inside : Place
  pub found : check inside
  pub stands : IsAt inside.reason (before + inside.at) inside.len p

-- a check finds nothing
abbrev pub Passes : (Place → Type 0) → Type 0
Passes check = (p : Place) → ¬ check p

-- the place that the first check finds; if it finds none, the place that the second one finds
pub data Then (first second : Place → Type 0) (p : Place) : Type 0 where
  at_first : first p → Then first second p
  at_second : Passes first → second p → Then first second p

-- ---- characters

-- the first bytes or escapes of a piece that don't decode to UTF-8
pub record Undecodable (text : List ℕ) (p : Place) : Type 0 where
  pub undecodable : ¬ IsUtf8 (percent_decode text)
  pub stands : IsAt reason.EscapesNotUtf8 (undecodable_at text) (undecodable_len (drop (undecodable_at text) text)) p

-- the first bytes that are not UTF-8
pub record NotText (text : List ℕ) (p : Place) : Type 0 where
  pub no_text : ¬ IsUtf8 text
  pub stands : IsAt reason.NotUtf8 (utf8_valid_len text) (utf8_invalid_len (drop (utf8_valid_len text) text)) p

-- the first character of a text that passes the test
pub record HasCharacter (why : Reason) (wrong : ℕ → Bool) (text : List ℕ) (p : Place) : Type 0 where
  pub named : p.reason ≡ why
  pub stands : IsCharacterAt wrong text p.at p.len

-- the first backslash
pub record HasBackslash (why : Reason) (text : List ℕ) (p : Place) : Type 0 where
  pub first : IsFirstAt backslash text p.at
  pub stands : IsAt why p.at 1 p

-- the first `%` that doesn't begin an escape
pub record HasBrokenEscape (text : List ℕ) (p : Place) : Type 0 where
  pub first : IsBrokenAt text p.at
  pub stands : IsAt reason.BrokenEscape p.at 1 p

-- ---- hosts and ports

-- a text outside brackets that denotes no host
abbrev pub NoHostText : HostSyntax → List ℕ → Place → Type 0
NoHostText http_hosts text = HasCharacter reason.HostCharacter is_no_host_character text
NoHostText git_hosts text = Undecodable text
NoHostText other_hosts text = Undecodable text

-- a text in brackets that isn't a literal and denotes no host
abbrev pub NoOther : HostSyntax → List ℕ → Place → Type 0
NoOther http_hosts text = IsAt reason.NotAnAddress 0 (length text)
NoOther git_hosts text = Undecodable text
NoOther other_hosts text = Undecodable text

-- a text in brackets that denotes no host
pub record NoInner (syntax : HostSyntax) (text : List ℕ) (p : Place) : Type 0 where
  pub no_literal : ¬ IsLiteral text
  pub no_other : NoOther syntax text p

-- the text after the colon of a port isn't a decimal number
pub record NoDigits (text : List ℕ) (p : Place) : Type 0 where
  pub other : list_all is_ascii_digit text ≡ false
  pub stands : IsAt reason.PortNotANumber 0 (length text) p

-- decimal digits that are not a port
pub data PortOutside (syntax : HostSyntax) (digits : List ℕ) (p : Place) : Type 0 where
  too_large : IsDigits digits → 65535 < digits_value 10 digits
      → IsAt reason.PortTooLarge 0 (length digits) p → PortOutside syntax digits p
  is_zero : syntax ≡ http_hosts → IsDigits digits → digits_value 10 digits ≡ 0
      → IsAt reason.PortZero 0 (length digits) p → PortOutside syntax digits p

-- a piece of HTTP whose colons don't begin a port
pub data WebColons (piece : List ℕ) (p : Place) : Type 0 where
  bare : IsIpv6Text piece → IsAt reason.AddressWithoutBrackets 0 (length piece) p → WebColons piece p
  bare_colon : (address : List ℕ) → ¬ IsIpv6Text piece → IsIpv6Text address → piece ≡ address ++ colon ∷ []
      → IsAt reason.AddressWithoutBrackets 0 (length address) p → WebColons piece p
  no_host : (digits : List ℕ) → ¬ IsAddressPiece piece → FreeOf colon digits → piece ≡ colon ∷ digits
      → IsAt reason.HostBeforePort 0 0 p → WebColons piece p
  second_colon : (x y z : List ℕ) → ¬ IsAddressPiece piece → FreeOf colon x → FreeOf colon y
      → piece ≡ x ++ colon ∷ (y ++ colon ∷ z)
      → IsAt reason.SecondColon (length x + 1 + length y) 1 p → WebColons piece p

-- a piece whose colons don't begin a port, and that denotes no host
abbrev pub BadColons : HostSyntax → List ℕ → Place → Type 0
BadColons http_hosts piece = WebColons piece
BadColons git_hosts piece = Undecodable piece
BadColons other_hosts piece = Undecodable piece

-- the flaw of a host and a port, by the marks in the piece
pub data BadHost (syntax : HostSyntax) (piece : List ℕ) (p : Place) : Type 0 where
  -- a bracket is not closed
  unclosed : (suffix : List ℕ) → FreeOf right_bracket suffix → piece ≡ left_bracket ∷ suffix
      → IsAt reason.UnclosedBracket 0 1 p → BadHost syntax piece p
  -- the text after a closed bracket, up to a colon or the end
  after_bracket : (x wrong rest : List ℕ) → FreeOf right_bracket x → FreeOf colon wrong → 0 < length wrong
      → (rest ≡ []) ⊎ (begins_with colon rest ≡ true)
      → piece ≡ left_bracket ∷ (x ++ right_bracket ∷ (wrong ++ rest))
      → IsAt reason.BehindBracket (length x + 2) (length wrong) p → BadHost syntax piece p
  -- the text between brackets
  between : (x rest : List ℕ) → BracketsAround piece x rest → Shifted 1 (NoInner syntax x) p
      → BadHost syntax piece p
  -- the text after brackets and a colon: not a number, or not one that a port may have
  port_after : (x digits : List ℕ) → FreeOf right_bracket x → Passes (NoInner syntax x)
      → piece ≡ left_bracket ∷ (x ++ right_bracket ∷ (colon ∷ digits))
      → Shifted (length x + 3) (Then (NoDigits digits) (PortOutside syntax digits)) p
      → BadHost syntax piece p
  -- colons that don't begin a port
  colons : begins_with left_bracket piece ≡ false → IsManyColoned piece → ¬ ReadsAddress syntax piece
      → BadColons syntax piece p → BadHost syntax piece p
  -- a host alone
  plain : IsPlainHost piece → NoHostText syntax piece p → BadHost syntax piece p
  -- `host:port`: the port isn't a number, then the host, then a number that a port may not have
  with_port : (text digits : List ℕ) → IsPlainHost text → FreeOf colon digits
      → piece ≡ text ++ colon ∷ digits
      → Then (Shifted (length text + 1) (NoDigits digits))
      (Then (NoHostText syntax text) (Shifted (length text + 1) (PortOutside syntax digits))) p
      → BadHost syntax piece p

-- ---- authorities

-- user information with a user or a password that doesn't decode to text: the password is checked first
pub data BadUser (information : List ℕ) (p : Place) : Type 0 where
  alone : FreeOf colon information → Undecodable information p → BadUser information p
  with_password : (u w : List ℕ) → FreeOf colon u → information ≡ u ++ colon ∷ w
      → Then (Shifted (length u + 1) (Undecodable w)) (Undecodable u) p → BadUser information p

-- nothing follows the user information
pub record NoHostAfter (authority piece : List ℕ) (p : Place) : Type 0 where
  pub empty : piece ≡ []
  pub stands : IsAt reason.HostBehindUser (length authority) 0 p

-- a host is needed, and the authority is empty
pub record NoHostAtAll (needed : Bool) (authority : List ℕ) (p : Place) : Type 0 where
  pub wanted : needed ≡ true
  pub empty : authority ≡ []
  pub stands : IsAt reason.HostMissing 0 0 p

-- the flaw of an authority without a backslash, for a scheme that needs a host or doesn't
pub data BadParts (syntax : HostSyntax) (needed : Bool) (authority : List ℕ) (p : Place) : Type 0 where
  alone : FreeOf at_sign authority → Then (BadHost syntax authority) (NoHostAtAll needed authority) p
      → BadParts syntax needed authority p
  with_user : (information piece : List ℕ) → FreeOf at_sign piece → authority ≡ information ++ at_sign ∷ piece
      → Then (BadUser information)
      (Then (Shifted (length information + 1) (BadHost syntax piece)) (NoHostAfter authority piece)) p
      → BadParts syntax needed authority p

-- the flaw of an authority
abbrev pub BadAuthority : HostSyntax → Bool → List ℕ → Place → Type 0
BadAuthority syntax needed authority = Then (HasBackslash reason.Backslash authority)
    (BadParts syntax needed authority)

-- ---- URLs

-- the scheme is too long, or the text after `://`; the first 1,024 bytes of that text are reported
pub data TooLong (scheme rest : List ℕ) (p : Place) : Type 0 where
  long_scheme : 1024 < length scheme → IsAt reason.SchemeTooLong 0 (length scheme) p → TooLong scheme rest p
  long_rest : length scheme ≤ 1024 → ¬ Fits scheme rest
      → IsAt reason.AuthorityTooLong (length scheme + 3) (length (take 1024 rest)) p → TooLong scheme rest p

-- the text before `://` is not a scheme
pub data BadScheme (scheme : List ℕ) (p : Place) : Type 0 where
  missing : scheme ≡ [] → IsAt reason.SchemeMissing 0 0 p → BadScheme scheme p
  -- the character at its front, if it isn't a letter
  bad_start : (c : ℕ) (rest : List ℕ) (size : ℕ) → scheme ≡ c ∷ rest → is_ascii_alphabetic c ≡ false
      → IsCharacterAt (λ _. true) scheme 0 size → IsAt reason.SchemeStart 0 size p → BadScheme scheme p
  bad_character : (c : ℕ) (rest : List ℕ) → scheme ≡ c ∷ rest → is_ascii_alphabetic c ≡ true
      → HasCharacter reason.SchemeCharacter is_no_scheme_character scheme p → BadScheme scheme p

-- a URL of one of Git's own transports has no path
pub record NoPath (scheme b path : List ℕ) (p : Place) : Type 0 where
  pub wanted : requires_path (scheme_of scheme) ≡ true
  pub empty : path ≡ []
  pub stands : IsAt reason.PathMissing (length b) 0 p

-- the flaw after a scheme: of the path, then of the authority, then the missing path
pub record BadRest (b scheme rest : List ℕ) (p : Place) : Type 0 where
  pub authority : List ℕ
  pub path : List ℕ
  pub joined : rest ≡ authority ++ path
  pub before_path : Lacks (is_path_start (is_web_scheme scheme)) authority
  pub path_starts : StartsPath (is_web_scheme scheme) path
  pub found : Then (Shifted (length scheme + 3 + length authority) (Undecodable path))
      (Then (Shifted (length scheme + 3)
      (BadAuthority (host_syntax_of scheme) (requires_host scheme) authority)) (NoPath scheme b path)) p

-- the flaw of a URL that is not a file URL
abbrev pub BadUrl : List ℕ → List ℕ → List ℕ → Place → Type 0
BadUrl b scheme rest = Then (TooLong scheme rest) (Then (NotText b)
    (Then (HasCharacter reason.WhiteSpace is_whitespace b) (Then (HasBrokenEscape b)
    (Then (BadScheme scheme) (BadRest b scheme rest)))))

-- no `/` follows the mark of a file URL
pub record NoFilePath (b rest : List ℕ) (p : Place) : Type 0 where
  pub no_slash : FreeOf slash rest
  pub stands : IsAt reason.FilePathMissing (length b) 0 p

-- the flaw of a file URL
abbrev pub BadFile : List ℕ → List ℕ → Place → Type 0
BadFile b rest = Then (NotText b) (NoFilePath b rest)

-- ---- the scp form

-- nothing follows its colon
pub record NoScpPath (b path : List ℕ) (p : Place) : Type 0 where
  pub empty : path ≡ []
  pub stands : IsAt reason.ScpPathMissing (length b) 0 p

-- a host that is empty
pub record NoScpHost (host : List ℕ) (p : Place) : Type 0 where
  pub empty : host ≡ []
  pub stands : IsAt reason.HostMissing 0 0 p

-- the brackets of a host, or the text in a port's place
pub data BadScpName (host : List ℕ) (p : Place) : Type 0 where
  unclosed : (suffix : List ℕ) → FreeOf right_bracket suffix → host ≡ left_bracket ∷ suffix
      → IsAt reason.UnclosedBracket 0 1 p → BadScpName host p
  after_bracket : (x rest : List ℕ) → FreeOf right_bracket x → 0 < length rest
      → host ≡ left_bracket ∷ (x ++ right_bracket ∷ rest)
      → IsAt reason.BehindBracket (length x + 2) (length rest) p → BadScpName host p
  port_place : (text digits : List ℕ) → IsPlainHost text → FreeOf colon digits → host ≡ text ++ colon ∷ digits
      → IsAt reason.PortNotANumber (length text + 1) (length digits) p → BadScpName host p

-- the flaw of the host of the scp form
abbrev pub BadScpHost : List ℕ → Place → Type 0
BadScpHost host = Then (HasCharacter reason.WhiteSpaceInHost is_whitespace host)
    (Then (HasBackslash reason.BackslashInHost host) (Then (NoScpHost host) (BadScpName host)))

-- the flaw of the front of the scp form: its host follows the last `@`, or is the whole front
pub data BadFront (front : List ℕ) (p : Place) : Type 0 where
  alone : FreeOf at_sign front → BadScpHost front p → BadFront front p
  with_user : (user host : List ℕ) → FreeOf at_sign host → front ≡ user ++ at_sign ∷ host
      → Shifted (length user + 1) (BadScpHost host) p → BadFront front p

-- the flaw of the scp form
abbrev pub BadScp : List ℕ → List ℕ → List ℕ → Place → Type 0
BadScp b front path = Then (NotText b) (Then (NoScpPath b path) (BadFront front))

-- the flaw of the form `user@[address]:path`
abbrev pub BadAddressed : List ℕ → List ℕ → Place → Type 0
BadAddressed b path = Then (NotText b) (NoScpPath b path)

-- ---- all texts

-- the text has this form, and this refusal is its first flaw in the order of checks
pub data Refused (b : List ℕ) (r : Refusal) : Type 0 where
  empty : (p : Place) → b ≡ [] → IsAt reason.Empty 0 0 p → r ≡ refusal_of Local p → Refused b r
  file : (rest : List ℕ) (p : Place) → UrlForm b (codes "file") rest → BadFile b rest p
      → r ≡ refusal_of Url p → Refused b r
  url : (scheme rest : List ℕ) (p : Place) → OtherUrlForm b scheme rest → BadUrl b scheme rest p
      → r ≡ refusal_of Url p → Refused b r
  addressed : (user address path : List ℕ) (p : Place) → AddressedForm b user address path
      → BadAddressed b path p → r ≡ refusal_of Scp p → Refused b r
  scp : (front path : List ℕ) (p : Place) → ScpForm b front path → ¬ IsAddressed b → BadScp b front path p
      → r ≡ refusal_of Scp p → Refused b r
