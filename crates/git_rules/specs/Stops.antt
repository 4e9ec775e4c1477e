-- Entries at which Git stops because of their values.
use Rattle.std.specs.Prelude.{ℕ, Bool, true, false, ◌&&◌, ◌||◌, bytes_eq, codes, List, [], ◌∷◌, Option, Some, None, option_and_then, if◌then◌else◌}
use Rattle.std.specs.List.{list_any}
use Rattle.std.specs.Option.{is_some}
use Rattle.git_syntax.specs.Bytes.{begins_with, slash}
use Rattle.git_rules.specs.declared.stops.ValueKind.{ValueKind}
use Rattle.git_rules.specs.declared.stops.ValueKind.TheVariants as kind
use Rattle.git_rules.specs.declared.stops.Stop.{Stop}
use Rattle.git_rules.specs.declared.stops.Stop.TheVariants as stop
use Rattle.git_rules.specs.Words.{is_word}
use Rattle.git_rules.specs.Numbers.{greatest_int, greatest_size, number_of}
use Rattle.git_rules.specs.Booleans.{boolean_of}
use Rattle.git_rules.specs.Config.{ConfigEntry, is_of_section}

-- the text is one of the words, ignoring letter case
abbrev pub is_one_of : List (List ℕ) → List ℕ → Bool
is_one_of words text = list_any (is_word text) words

-- ---- the table

-- names of `http.*` that need a text
abbrev pub http_texts : List (List ℕ)
http_texts = codes "version" ∷ codes "sslcipherlist" ∷ codes "sslversion" ∷ codes "sslcert" ∷ codes "sslkey"
    ∷ codes "sslcapath" ∷ codes "sslcainfo" ∷ codes "proxy" ∷ codes "proxyauthmethod" ∷ codes "proxysslcert"
    ∷ codes "proxysslkey" ∷ codes "proxysslcainfo" ∷ codes "cookiefile" ∷ codes "useragent" ∷ codes "delegation"
    ∷ codes "pinnedpubkey" ∷ codes "extraheader" ∷ codes "curloptresolve" ∷ []

-- names of `http.*` that Git reads as boolean values
abbrev pub http_booleans : List (List ℕ)
http_booleans = codes "sslverify" ∷ codes "sslcertpasswordprotected" ∷ codes "ssltry" ∷ codes "schannelcheckrevoke"
    ∷ codes "schannelusesslcainfo" ∷ codes "noepsv" ∷ codes "proxysslcertpasswordprotected" ∷ codes "savecookies"
    ∷ []

-- names of `http.*` that Git reads as numbers
abbrev pub http_integers : List (List ℕ)
http_integers = codes "minsessions" ∷ codes "maxrequests" ∷ codes "lowspeedlimit" ∷ codes "lowspeedtime" ∷ []

-- names of `remote.<name>.*` that need a text
abbrev pub remote_texts : List (List ℕ)
remote_texts = codes "url" ∷ codes "pushurl" ∷ codes "push" ∷ codes "fetch" ∷ codes "receivepack"
    ∷ codes "uploadpack" ∷ codes "proxy" ∷ codes "proxyauthmethod" ∷ codes "vcs" ∷ []

-- names of `remote.<name>.*` that Git reads as boolean values
abbrev pub remote_booleans : List (List ℕ)
remote_booleans = codes "mirror" ∷ codes "skipdefaultupdate" ∷ codes "skipfetchall" ∷ codes "prune"
    ∷ codes "prunetags" ∷ []

-- names of `url.<base>.*` that need a text
abbrev pub rewriting_texts : List (List ℕ)
rewriting_texts = codes "insteadof" ∷ codes "pushinsteadof" ∷ []

-- the values of `protocol.allow`
abbrev pub allowances : List (List ℕ)
allowances = codes "always" ∷ codes "user" ∷ codes "never" ∷ []

-- the kind of value that an entry of `http.*` with this name needs
abbrev pub http_kind : List ℕ → Option ValueKind
http_kind name = if is_one_of http_texts name then Some kind.Text
    else (if is_one_of http_booleans name then Some kind.Boolean
    else (if is_word name (codes "emptyauth") then Some kind.BooleanOrAuto
    else (if is_word name (codes "followredirects") then Some kind.BooleanOrInitial
    else (if is_one_of http_integers name then Some kind.Integer
    else (if is_word name (codes "postbuffer") then Some kind.Size else None)))))

-- the kind of value that an entry of `credential.*` with this name needs
abbrev pub credential_kind : List ℕ → ValueKind
credential_kind name = if is_word name (codes "usehttppath") then kind.WrittenBoolean else kind.Text

-- the kind of value that this entry of `url.*` needs
abbrev pub rewriting_kind : ConfigEntry → Option ValueKind
rewriting_kind e = if is_some e.subsection && is_one_of rewriting_texts e.name then Some kind.Text else None

-- the kind of value that an entry of `remote.*` with this name and without a remote needs
abbrev pub default_remote_kind : List ℕ → Option ValueKind
default_remote_kind name = if is_word name (codes "pushdefault") then Some kind.Text else None

-- the kind of value that an entry of `remote.<name>.*` with this name needs
abbrev pub own_remote_kind : List ℕ → Option ValueKind
own_remote_kind name = if is_one_of remote_texts name then Some kind.Text
    else (if is_one_of remote_booleans name then Some kind.Boolean else None)

-- the kind of value that an entry of `remote.*` needs, by the remote and the entry's name; Git ignores remotes
-- whose name begins with `/`
abbrev pub kind_for_remote : Option (List ℕ) → List ℕ → Option ValueKind
kind_for_remote None name = default_remote_kind name
kind_for_remote (Some remote) name = if begins_with slash remote then None else own_remote_kind name

-- the kind of value that this entry of `remote.*` needs
abbrev pub remote_kind : ConfigEntry → Option ValueKind
remote_kind e = kind_for_remote e.subsection e.name

-- the kind of value that an entry of `protocol.*` with this name needs
abbrev pub protocol_kind : List ℕ → Option ValueKind
protocol_kind name = if is_word name (codes "allow") then Some kind.Allowance else None

-- the kind of value that an entry needs, if Git stops at other values
abbrev pub kind_of : ConfigEntry → Option ValueKind
kind_of e = if is_of_section (codes "http") e then http_kind e.name
    else (if is_of_section (codes "credential") e then Some (credential_kind e.name)
    else (if is_of_section (codes "url") e then rewriting_kind e
    else (if is_of_section (codes "remote") e then remote_kind e
    else (if is_of_section (codes "protocol") e then protocol_kind e.name else None))))

-- ---- values

-- the reason, unless the value is accepted
abbrev pub stop_unless : Bool → Stop → Option Stop
stop_unless taken reason = if taken then None else Some reason

-- the reason why Git stops at a missing value
abbrev pub stop_without : ValueKind → Option Stop
stop_without kind.Text = Some stop.NoValue
stop_without kind.Boolean = None
stop_without kind.BooleanOrAuto = None
stop_without kind.BooleanOrInitial = None
stop_without kind.WrittenBoolean = Some stop.NoValue
stop_without kind.Integer = Some stop.NoNumber
stop_without kind.Size = Some stop.NoNumber
stop_without kind.Allowance = Some stop.NoValue

-- the text is a boolean value
abbrev pub is_boolean : List ℕ → Bool
is_boolean value = is_some (boolean_of value)

-- the reason why Git stops at this value
abbrev pub stop_with : ValueKind → List ℕ → Option Stop
stop_with kind.Text value = None
stop_with kind.Boolean value = stop_unless (is_boolean value) stop.NoBoolean
stop_with kind.BooleanOrAuto value =
    stop_unless (bytes_eq value (codes "auto") || is_boolean value) stop.NoBoolean
stop_with kind.BooleanOrInitial value =
    stop_unless (bytes_eq value (codes "initial") || is_boolean value) stop.NoBoolean
stop_with kind.WrittenBoolean value = stop_unless (is_boolean value) stop.NoBoolean
stop_with kind.Integer value = stop_unless (is_some (number_of greatest_int value)) stop.NoNumber
stop_with kind.Size value = stop_unless (is_some (number_of greatest_size value)) stop.NoNumber
stop_with kind.Allowance value = stop_unless (is_one_of allowances value) stop.NoAllowance

-- the reason why Git stops at an optional value
abbrev pub stop_by : ValueKind → Option (List ℕ) → Option Stop
stop_by kind None = stop_without kind
stop_by kind (Some value) = stop_with kind value

-- the reason why Git stops at an entry, if it does
abbrev pub stop_at : ConfigEntry → Option Stop
stop_at e = option_and_then (λ kind. stop_by kind e.value) (kind_of e)
