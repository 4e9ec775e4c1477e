-- Every reader of the family finds a location's own parts in its text: of a URL, of the scp form and of a local
-- path.
use Rattle.std.proofs.Common.{◌≡◌, ◌∙◌, ◌<◌, ℕ, true, false, not, ◌||◌, ◌==◌, List, [], ◌∷◌, ◌++◌, Option, Some, None, IfSome, Ok, if◌then◌else◌, option_map, decimal, drop, codes, inl, inr, refl, sym, ap, subst, append_assoc}
use Rattle.std.specs.List.{list_all}
use Rattle.std.specs.Char.{is_ascii_digit}
use Rattle.std.proofs.lemmas.Bool.{cases_Bool, cond-true, cond-false, and_from, and_parts, and_right, or_right, both_ways, false≢true}
use Rattle.git_syntax.specs.Location.{Scheme, Location}
use Rattle.git_syntax.specs.Location.Scheme.{file, git, ssh, http, https, ext, helper, helper_url}
use Rattle.git_syntax.specs.Bytes.{slash, colon, at_sign, FreeOf, Lacks, begins_by, begins_with, is_scheme_text}
use Rattle.git_syntax.specs.Schemes.{scheme_text}
use Rattle.git_syntax.proofs.Texts.CutLemmas.{all_weaker, begins_cut, free-append, free-cons, free_head_tail, free_of_all, free_of_lacked, lacks-cons, not_free, scheme_text_free}
use Rattle.git_syntax.specs.Hosts.{raw_user}
use Rattle.git_location.specs.Text.{text}
use Rattle.git_location.specs.Settled.{IsSettledBy, IsSettledLocal, IsSettledScp, IsValue, begins_with_slashes}
use Rattle.git_class.specs.GitClass.{AgreesBy, SuitsTransport}
use Rattle.git_location.proofs.Writing.WrittenAsUrlLemmas.{one_text}
use Rattle.git_laws.proofs.GitReadings.GitPieceLemmas.{scp_host_raw}
use Rattle.git_laws.proofs.GitReadings.GitTransportLemmas.{word_of}
use Rattle.git_laws.proofs.Writing.KeptLemmas.{flagged_text}
use Rattle.git_laws.proofs.Writing.WrittenScpLemmas.{scp_value_of, scp_written}
use Rattle.git_readers.specs.declared.unambiguous.Condition.TheVariants as condition
use Rattle.git_readers.specs.Conditions.{HasScpSlash, IsUnambiguous, form_of}
use Rattle.git_readers.specs.Readers.{LeavesPlain, Parts, Reader, ScpTest, UrlReader, UrlTest, at_colon, at_user, begins_mark, begins_port, cut, cut_first, ends_authority, from, front_of, front_or, has_port, has_slash, is_colon, is_no_digit, is_scp_cut, is_url, local_parts, own_parts, parts_of, path_in_text, reads, reads_prepared, reads_scp, reads_url, rest_or, scp_front, scp_host, scp_rest, scp_user, until}
use Rattle.git_readers.specs.Readers.UrlTest.{anywhere, past_scheme}
use Rattle.git_readers.specs.Readers.ScpTest.{any_colon, before_slash, slash_after}
use Rattle.git_readers.specs.Unambiguous.{BeginsWithPort, HasDots, HasInnerSlash, IsCommonHost, IsPlainWord, is_odd_local, is_path_byte, is_scp_byte, is_unreserved}
use Rattle.git_readers.proofs.PlainBytes.{all-append, host_plain, plain_path, port_plain, scp_path}
use Rattle.git_readers.proofs.ReaderCuts.{cut_at, cut_first_at, cut_first_none, cut_none, from_cut, from_whole, mark_held, no_mark, no_mark_at, slashes_mark, until_cut, until_from}
use Rattle.git_readers.proofs.ReaderTexts.{IsPlainUrl, path_meets, url_of, url_path, url_text, users_plain}
use Rattle.git_readers.proofs.ReaderUrls.{ArePlain, authority_of, parts_found, plain_information, place_text, with_at, plain_parts}

-- ---- the bytes of a URL of plain parts

information_all : (user password : Option (List ℕ)) → IfSome user IsPlainWord → IfSome password IsPlainWord → list_all is_path_byte (with_at (plain_information user password)) ≡ true
information_all None password plain hidden = refl
information_all (Some u) None plain hidden = all-append is_path_byte u (at_sign ∷ []) (plain_path u plain.bytes) refl
information_all (Some u) (Some p) plain hidden =
    all-append is_path_byte (u ++ colon ∷ p) (at_sign ∷ []) (all-append is_path_byte u (colon ∷ p) (plain_path u plain.bytes) (plain_path p hidden.bytes)) refl

place_all : (host : Option (List ℕ)) (port : Option ℕ) → IfSome host IsCommonHost → IfSome port (λ p. p < 65536) → list_all is_path_byte (place_text host port) ≡ true
place_all None None plain small = refl
place_all None (Some n) plain small = plain_path (decimal n) (port_plain n small)
place_all (Some h) None plain small = all-append is_path_byte h [] (plain_path h (host_plain h plain)) refl
place_all (Some h) (Some n) plain small = all-append is_path_byte h (colon ∷ decimal n) (plain_path h (host_plain h plain)) (plain_path (decimal n) (port_plain n small))

authority_all : (u w h : Option (List ℕ)) (n : Option ℕ) → ArePlain u w h n → list_all is_path_byte (authority_of u w h n) ≡ true
authority_all u w h n plain = all-append is_path_byte (with_at (plain_information u w)) (place_text h n) (information_all u w plain.user plain.password) (place_all h n plain.host plain.port)

word_free : (t : List ℕ) → list_all is_unreserved t ≡ true → FreeOf slash t
word_free t plain = free_of_all is_unreserved slash t plain refl

information_free : (user password : Option (List ℕ)) → IfSome user IsPlainWord → IfSome password IsPlainWord → FreeOf slash (with_at (plain_information user password))
information_free None password plain hidden = refl
information_free (Some u) None plain hidden = free-append slash u (at_sign ∷ []) (word_free u plain.bytes) refl
information_free (Some u) (Some p) plain hidden =
    free-append slash (u ++ colon ∷ p) (at_sign ∷ []) (free-append slash u (colon ∷ p) (word_free u plain.bytes) (word_free p hidden.bytes)) refl

place_free : (host : Option (List ℕ)) (port : Option ℕ) → IfSome host IsCommonHost → IfSome port (λ p. p < 65536) → FreeOf slash (place_text host port)
place_free None None plain small = refl
place_free None (Some n) plain small = word_free (decimal n) (port_plain n small)
place_free (Some h) None plain small = free-append slash h [] (word_free h (host_plain h plain)) refl
place_free (Some h) (Some n) plain small = free-append slash h (colon ∷ decimal n) (word_free h (host_plain h plain)) (word_free (decimal n) (port_plain n small))

authority_free : (u w h : Option (List ℕ)) (n : Option ℕ) → ArePlain u w h n → FreeOf slash (authority_of u w h n)
authority_free u w h n plain = free-append slash (with_at (plain_information u w)) (place_text h n) (information_free u w plain.user plain.password) (place_free h n plain.host plain.port)

-- nothing of an authority ends it
ends_lacked : (r : UrlReader) → LeavesPlain r → (t : List ℕ) → list_all is_path_byte t ≡ true → FreeOf slash t → Lacks (ends_authority r) t
ends_lacked r leaves [] plain free = refl
ends_lacked r leaves (b ∷ bs) plain free =
    let bytes = and_parts (is_path_byte b) (list_all is_path_byte bs) plain in
    let parts = free_head_tail slash b bs free in
    let none : (b == slash || r.ends_authority b) ≡ false = rw parts.0 (leaves.authority b bytes.0) in
    lacks-cons (ends_authority r) b bs none (ends_lacked r leaves bs bytes.1 parts.1)

url_all : (v : Location) → IsPlainUrl v → list_all is_path_byte (url_of v) ≡ true
url_all v u =
    all-append is_path_byte (scheme_text v.scheme) _ (plain_path (scheme_text v.scheme) u.plain) (all-append is_path_byte (authority_of v.user v.password v.host v.port) (url_path v) (authority_all v.user v.password v.host v.port u.parts) u.path.bytes)

-- ---- a URL

-- the parts that a reader cuts out are the parts that were joined
url_cut : (r : UrlReader) → LeavesPlain r → (scheme authority path rest : List ℕ) → FreeOf colon scheme → list_all is_path_byte authority ≡ true → FreeOf slash authority → path ≡ slash ∷ rest → reads_prepared r (scheme ++ (codes "://" ++ (authority ++ path))) ≡ parts_of r scheme authority path
url_cut r leaves scheme authority path rest free plain no_slash rooted =
    let suffix = authority ++ path in
    let before = until_cut is_colon scheme colon (slash ∷ (slash ∷ suffix)) free refl in
    let after = ap (λ t. drop 3 t) (from_cut is_colon scheme colon (slash ∷ (slash ∷ suffix)) free refl) in
    let lacked = ends_lacked r leaves authority plain no_slash in
    let joined = ap (λ p. authority ++ p) rooted in
    let front = ap (λ t. until (ends_authority r) t) (after ∙ joined) ∙ until_cut (ends_authority r) authority slash rest lacked refl in
    let back = ap (λ t. from (ends_authority r) t) (after ∙ joined) ∙ from_cut (ends_authority r) authority slash rest lacked refl ∙ sym rooted in
    λ i. parts_of r (before i) (front i) (back i)

-- the parts of a URL are the location's own
url_own : (v : Location) → v.flag ≡ false → plain_parts (scheme_text v.scheme) v.user v.password v.host v.port (url_path v) ≡ own_parts v
url_own v unflagged = ap (λ b. plain_parts (scheme_text v.scheme) v.user v.password v.host v.port (path_in_text b v.path)) (sym unflagged)

url_found : (v : Location) → v.flag ≡ false → IsPlainUrl v → (r : UrlReader) → LeavesPlain r → reads_url r (url_of v) ≡ own_parts v
url_found v unflagged u r leaves =
    let (rest, rooted) = begins_cut slash (url_path v) u.rooted in
    let prepared = ap (λ t. reads_prepared r t) (leaves.text (url_of v) (url_all v u)) in
    let cuts = url_cut r leaves (scheme_text v.scheme) (authority_of v.user v.password v.host v.port) (url_path v) rest (scheme_text_free (scheme_text v.scheme) colon u.scheme refl) (authority_all v.user v.password v.host v.port u.parts) (authority_free v.user v.password v.host v.port u.parts) rooted in
    prepared ∙ cuts ∙ parts_found r leaves (scheme_text v.scheme) v.user v.password v.host v.port (url_path v) u.parts u.path ∙ url_own v unflagged

-- both tests take it for a URL
url_tested : (test : UrlTest) (v : Location) → IsPlainUrl v → is_url test (url_of v) ≡ true
url_tested anywhere v u = mark_held (scheme_text v.scheme) (authority_of v.user v.password v.host v.port ++ url_path v)
url_tested past_scheme v u =
    let suffix = authority_of v.user v.password v.host v.port ++ url_path v in
    let free = scheme_text_free (scheme_text v.scheme) colon u.scheme refl in
    and_from _ _ (ap (λ t. is_scheme_text t) (until_cut is_colon (scheme_text v.scheme) colon (slash ∷ (slash ∷ suffix)) free refl) ∙ u.scheme) (ap (λ t. begins_mark t) (from_cut is_colon (scheme_text v.scheme) colon (slash ∷ (slash ∷ suffix)) free refl))

pub urls_read : (v : Location) → IsValue v → IsUnambiguous v → v.flag ≡ false → (r : UrlReader) → LeavesPlain r → (t : List ℕ) → text v ≡ Ok t → reads_url r t ≡ own_parts v
urls_read v is clear unflagged r leaves t written =
    let u = url_text v is clear unflagged in
    ap (λ x. reads_url r x) (one_text written u.written) ∙ url_found v unflagged u r leaves

pub url_by_all : (v : Location) → IsValue v → IsUnambiguous v → v.flag ≡ false → (r : Reader) → LeavesPlain r.url → (t : List ℕ) → text v ≡ Ok t → reads r t ≡ own_parts v
url_by_all v is clear unflagged r leaves t written =
    let u = url_text v is clear unflagged in
    ap (λ x. reads r x) (one_text written u.written) ∙ cond-true _ _ _ (url_tested r.url_test v u) ∙ url_found v unflagged u r.url leaves

-- ---- digits after a colon

-- the text before the first byte that isn't a digit is of digits
until_digits : (t : List ℕ) → list_all is_ascii_digit (until is_no_digit t) ≡ true
until_digits [] = refl
until_digits (b ∷ bs) = elim (cases_Bool (is_ascii_digit b)) [
  | inl digit ↦
      let more : until is_no_digit (b ∷ bs) ≡ b ∷ until is_no_digit bs = cond-false _ _ _ (ap not digit) in
      ap (λ x. list_all is_ascii_digit x) more ∙ and_from _ _ digit (until_digits bs)
  | inr other ↦
      let none : until is_no_digit (b ∷ bs) ≡ [] = cond-true _ _ _ (ap not other) in
      ap (λ x. list_all is_ascii_digit x) none
]

-- and begins with one if the whole does
until_begins : (t : List ℕ) → begins_by is_ascii_digit t ≡ true → begins_by is_ascii_digit (until is_no_digit t) ≡ true
until_begins [] begins = absurd (false≢true begins)
until_begins (b ∷ bs) begins =
    let more : until is_no_digit (b ∷ bs) ≡ b ∷ until is_no_digit bs = cond-false _ _ _ (ap not begins) in
    ap (λ x. begins_by is_ascii_digit x) more ∙ begins

-- a path without a colon that doesn't begin with digits and `/` begins with no port
port_by : (path : List ℕ) → FreeOf colon path → begins_by is_ascii_digit path ≡ true → (begins_with slash (from is_no_digit path) || begins_with colon (from is_no_digit path)) ≡ true → BeginsWithPort path
port_by path free begins marked = elim (cases_Bool (begins_with slash (from is_no_digit path))) [
  | inl slashed ↦
      let (rest, cut) = begins_cut slash (from is_no_digit path) slashed in record {
        digits = until is_no_digit path;
        rest = rest;
        nonempty = until_begins path begins;
        number = until_digits path;
        joined = until_from is_no_digit path ∙ ap (λ x. until is_no_digit path ++ x) cut;
      }
  | inr other ↦
      let (rest, cut) = begins_cut colon (from is_no_digit path) (sym (ap (λ x. x || begins_with colon (from is_no_digit path)) other) ∙ marked) in
      absurd (not_free colon (until is_no_digit path) rest (subst (λ x. FreeOf colon x) (until_from is_no_digit path ∙ ap (λ x. until is_no_digit path ++ x) cut) free))
]

no_port : (path : List ℕ) → FreeOf colon path → ¬ BeginsWithPort path → begins_port path ≡ false
no_port path free none = elim (cases_Bool (begins_port path)) [
  | inl begins ↦
      let parts = and_parts (begins_by is_ascii_digit path) _ begins in
      absurd (none (port_by path free parts.0 parts.1))
  | inr other ↦ other
]

-- ---- the scp form

-- a text of the scp form: a word or none with its `@`, a plain host, and a path
pub record IsScpText (user : Option (List ℕ)) (host path : List ℕ) : Type 0 where
  pub named : IfSome user IsPlainWord
  pub place : IsCommonHost host
  pub bytes : list_all is_scp_byte path ≡ true
  pub no_port : ¬ BeginsWithPort path
  pub inner : HasInnerSlash path
  pub no_dots : ¬ HasDots path
  pub no_slashes : begins_with_slashes path ≡ false

-- the text
abbrev pub scp_of : Option (List ℕ) → List ℕ → List ℕ → List ℕ
scp_of user host path = word_of user host ++ colon ∷ path

-- the texts of it that are free of a byte
host_lacks : (c : ℕ) → is_unreserved c ≡ false → (host : List ℕ) → IsCommonHost host → FreeOf c host
host_lacks c other host plain = free_of_all is_unreserved c host (host_plain host plain) other

path_lacks : (c : ℕ) → is_scp_byte c ≡ false → (path : List ℕ) → list_all is_scp_byte path ≡ true → FreeOf c path
path_lacks c other path plain = free_of_all is_scp_byte c path plain other

front_lacks : (c : ℕ) → is_unreserved c ≡ false → (at_sign == c) ≡ false → (user : Option (List ℕ)) (host : List ℕ) → IfSome user IsPlainWord → IsCommonHost host → FreeOf c (word_of user host)
front_lacks c other no_at None host named plain = host_lacks c other host plain
front_lacks c other no_at (Some u) host named plain =
    free-append c (u ++ at_sign ∷ []) host (free-append c u (at_sign ∷ []) (free_of_all is_unreserved c u named.bytes other) (free-cons c at_sign [] no_at refl)) (host_lacks c other host plain)

-- the whole text is cut at its `@`, if there is one
whole_user : (r : Reader) (user : Option (List ℕ)) (host path : List ℕ) → IsScpText user host path → (front_of (at_user r (scp_of user host path)) ≡ user) × (rest_or (scp_of user host path) (at_user r (scp_of user host path)) ≡ host ++ colon ∷ path)
whole_user r None host path t =
    let none = cut_none r.url.user_cut at_sign (host ++ colon ∷ path) (free-append at_sign host (colon ∷ path) (host_lacks at_sign refl host t.place) (free-cons at_sign colon path refl (path_lacks at_sign refl path t.bytes))) in
    (ap (λ x. front_of x) none, ap (λ x. rest_or (host ++ colon ∷ path) x) none)
whole_user r (Some u) host path t =
    let suffix = host ++ colon ∷ path in
    let joined = append_assoc (u ++ at_sign ∷ []) host (colon ∷ path) ∙ append_assoc u (at_sign ∷ []) suffix in
    let free = free-append at_sign host (colon ∷ path) (host_lacks at_sign refl host t.place) (free-cons at_sign colon path refl (path_lacks at_sign refl path t.bytes)) in
    let at = ap (λ x. at_user r x) joined ∙ cut_at r.url.user_cut at_sign u suffix (free_of_all is_unreserved at_sign u t.named.bytes refl) free in
    (ap (λ x. front_of x) at, ap (λ x. rest_or (scp_of (Some u) host path) x) at)

-- so is the text before the colon
front_user : (r : Reader) (user : Option (List ℕ)) (host path : List ℕ) → IsScpText user host path → (front_of (at_user r (word_of user host)) ≡ user) × (rest_or (word_of user host) (at_user r (word_of user host)) ≡ host)
front_user r None host path t =
    let none = cut_none r.url.user_cut at_sign host (host_lacks at_sign refl host t.place) in
    (ap (λ x. front_of x) none, ap (λ x. rest_or host x) none)
front_user r (Some u) host path t =
    let at = ap (λ x. at_user r x) (append_assoc u (at_sign ∷ []) host) ∙ cut_at r.url.user_cut at_sign u host (free_of_all is_unreserved at_sign u t.named.bytes refl) (host_lacks at_sign refl host t.place) in
    (ap (λ x. front_of x) at, ap (λ x. rest_or (word_of (Some u) host) x) at)

-- the text is cut at its colon
whole_colon : (r : Reader) (user : Option (List ℕ)) (host path : List ℕ) → IsScpText user host path → at_colon r (scp_of user host path) ≡ Some (word_of user host, path)
whole_colon r user host path t = cut_at r.host_cut colon (word_of user host) path (front_lacks colon refl refl user host t.named t.place) (path_lacks colon refl path t.bytes)

-- so is the text after the user
rest_colon : (r : Reader) (user : Option (List ℕ)) (host path : List ℕ) → IsScpText user host path → at_colon r (host ++ colon ∷ path) ≡ Some (host, path)
rest_colon r user host path t = cut_at r.host_cut colon host path (host_lacks colon refl host t.place) (path_lacks colon refl path t.bytes)

user_read : (r : Reader) (user : Option (List ℕ)) (host path : List ℕ) → IsScpText user host path → scp_user r (scp_of user host path) ≡ user
user_read r user host path t =
    let text = scp_of user host path in
    let cut_front = ap (λ x. front_or text x) (whole_colon r user host path t) in
    elim (cases_Bool r.user_first) [
      | inl first ↦ ap (λ b. front_of (at_user r (if b then text else scp_front r text))) first ∙ (whole_user r user host path t).0
      | inr later ↦ ap (λ b. front_of (at_user r (if b then text else scp_front r text))) later ∙ ap (λ x. front_of (at_user r x)) cut_front ∙ (front_user r user host path t).0
    ]

host_read : (r : Reader) (user : Option (List ℕ)) (host path : List ℕ) → IsScpText user host path → scp_host r (scp_of user host path) ≡ host
host_read r user host path t =
    let text = scp_of user host path in
    let cut_front = ap (λ x. front_or text x) (whole_colon r user host path t) in
    let suffix = (whole_user r user host path t).1 in
    elim (cases_Bool r.user_first) [
      | inl first ↦ cond-true _ _ _ first ∙ ap (λ x. scp_front r x) suffix ∙ ap (λ x. front_or (host ++ colon ∷ path) x) (rest_colon r user host path t)
      | inr later ↦ cond-false _ _ _ later ∙ ap (λ x. rest_or x (at_user r x)) cut_front ∙ (front_user r user host path t).1
    ]

rest_read : (r : Reader) (user : Option (List ℕ)) (host path : List ℕ) → IsScpText user host path → scp_rest r (scp_of user host path) ≡ path
rest_read r user host path t =
    let text = scp_of user host path in
    let suffix = (whole_user r user host path t).1 in
    elim (cases_Bool r.user_first) [
      | inl first ↦ cond-true _ _ _ first ∙ ap (λ x. rest_or x (at_colon r x)) suffix ∙ ap (λ x. rest_or (host ++ colon ∷ path) x) (rest_colon r user host path t)
      | inr later ↦ cond-false _ _ _ later ∙ ap (λ x. rest_or text x) (whole_colon r user host path t)
    ]

-- no digits of the path are a port
port_read : (r : Reader) (user : Option (List ℕ)) (host path : List ℕ) → IsScpText user host path → has_port r path ≡ false
port_read r user host path t = and_right r.digits_are_port _ (no_port path (path_lacks colon refl path t.bytes) t.no_port)

-- the user is left alone
word_read : (r : UrlReader) → LeavesPlain r → (user : Option (List ℕ)) → IfSome user IsPlainWord → option_map r.word user ≡ user
word_read r leaves None named = refl
word_read r leaves (Some u) named = ap Some (leaves.word u named.bytes)

-- bytes of the scp form are bytes of a path
all_plain : (path : List ℕ) → list_all is_scp_byte path ≡ true → list_all is_path_byte path ≡ true
all_plain path bytes = all_weaker is_scp_byte is_path_byte scp_path path bytes

-- the parts of the scp form
abbrev scp_parts : Option (List ℕ) → List ℕ → List ℕ → Parts
scp_parts name place suffix = record {
  scheme = codes "ssh";
  user = name;
  password = None;
  host = Some place;
  port = None;
  path = suffix;
}

scp_found : (r : Reader) → LeavesPlain r.url → (name : Option (List ℕ)) (place suffix : List ℕ) → IsScpText name place suffix → reads_scp r (scp_of name place suffix) ≡ scp_parts name place suffix
scp_found r leaves name place suffix t =
    let text = scp_of name place suffix in
    let rest = rest_read r name place suffix t in
    let none : has_port r (scp_rest r text) ≡ false = ap (λ x. has_port r x) rest ∙ port_read r name place suffix t in
    let user_part = ap (λ x. option_map r.url.word x) (user_read r name place suffix t) ∙ word_read r.url leaves name t.named in
    let host_part = ap (λ x. Some (r.url.host x)) (host_read r name place suffix t) ∙ ap Some (leaves.host place t.place) in
    let port_part = cond-false _ (Some (until is_no_digit (scp_rest r text))) None none in
    let plain = leaves.path suffix (all_plain suffix t.bytes) t.no_dots in
    let path_part = ap (λ x. r.url.path x) (cond-false _ (drop 1 (from is_no_digit (scp_rest r text))) (scp_rest r text) none ∙ rest) ∙ plain in
    λ i. record { scheme = codes "ssh"; user = user_part i; password = None; host = host_part i; port = port_part i; path = path_part i }

-- no test takes it for a URL
scp_untested : (test : UrlTest) (user : Option (List ℕ)) (host path : List ℕ) → IsScpText user host path → is_url test (scp_of user host path) ≡ false
scp_untested anywhere user host path t =
    no_mark_at (word_of user host) path (front_lacks colon refl refl user host t.named t.place) (path_lacks colon refl path t.bytes) (slashes_mark path t.no_slashes)
scp_untested past_scheme user host path t =
    and_right (is_scheme_text (until is_colon (scp_of user host path))) _ (ap (λ x. begins_mark x) (from_cut is_colon (word_of user host) colon path (front_lacks colon refl refl user host t.named t.place) refl) ∙ slashes_mark path t.no_slashes)

-- a path with an inner slash has one
inner_slash : (path : List ℕ) → HasInnerSlash path → has_slash path ≡ true
inner_slash [] inner = absurd inner
inner_slash (b ∷ rest) inner = elim (cases_Bool (has_slash rest)) [
  | inl there ↦ or_right (b == slash) _ there
  | inr none ↦ absurd (not_free slash inner.front inner.suffix (subst (λ x. FreeOf slash x) inner.joined none))
]

tested_by : (test : ScpTest) (user : Option (List ℕ)) (host path : List ℕ) → IsScpText user host path → is_scp_cut test (Some (word_of user host, path)) ≡ true
tested_by any_colon user host path t = refl
tested_by before_slash user host path t = ap not (front_lacks slash refl refl user host t.named t.place)
tested_by slash_after user host path t = inner_slash path t.inner

-- each test takes it for the scp form
scp_tested : (test : ScpTest) (user : Option (List ℕ)) (host path : List ℕ) → IsScpText user host path → is_scp_cut test (cut_first colon (scp_of user host path)) ≡ true
scp_tested test user host path t =
    ap (λ x. is_scp_cut test x) (cut_first_at colon (word_of user host) path (front_lacks colon refl refl user host t.named t.place)) ∙ tested_by test user host path t

pub scp_read : (r : Reader) → LeavesPlain r.url → (user : Option (List ℕ)) (host path : List ℕ) → IsScpText user host path → reads r (scp_of user host path) ≡ scp_parts user host path
scp_read r leaves user host path t =
    cond-false _ _ _ (scp_untested r.url_test user host path t) ∙ cond-true _ _ _ (scp_tested r.scp_test user host path t) ∙ scp_found r leaves user host path t

-- ---- a location in the scp form

-- the conditions on its parts
scp_text_of : (v : Location) (host : List ℕ) → v.scheme ≡ ssh → v.flag ≡ true → IsUnambiguous v → v.host ≡ Some host → IsSettledScp v → IsScpText v.user host v.path
scp_text_of v host e flagged clear there s =
    let path = path_meets v clear ssh true e flagged in record {
      named = users_plain v.user (clear condition.User);
      place = subst (λ o. IfSome o IsCommonHost) there (clear condition.Host);
      bytes = path.bytes;
      no_port = path.start;
      inner = subst (λ p. HasScpSlash (form_of p true) v.path) e (subst (λ f. HasScpSlash (form_of v.scheme f) v.path) flagged (clear condition.ScpPath));
      no_dots = path.dots;
      no_slashes = s.path.not_slashes;
    }

-- its text
scp_text_written : (v : Location) (host : List ℕ) → v.scheme ≡ ssh → IsSettledScp v → v.host ≡ Some host → IsCommonHost host → text v ≡ Ok (scp_of v.user host v.path)
scp_text_written v host e s there plain =
    let raw = ap (λ x. raw_user v.user ++ (x ++ colon ∷ v.path)) (scp_host_raw host (host_lacks colon refl host plain)) in
    ap (λ l. text l) (scp_value_of v host e s there) ∙ scp_written v.user host v.path v.spelling ∙ ap Ok (raw ∙ sym (append_assoc (raw_user v.user) host (colon ∷ v.path)))

-- its own parts
scp_own : (v : Location) (host : List ℕ) → v.scheme ≡ ssh → v.flag ≡ true → v.host ≡ Some host → v.password ≡ None → v.port ≡ None → scp_parts v.user host v.path ≡ own_parts v
scp_own v host e flagged there no_password no_port =
    λ i. record { scheme = scheme_text (sym e i); user = v.user; password = sym no_password i; host = sym there i; port = option_map decimal (sym no_port i); path = path_in_text (sym flagged i) v.path }

scp_by_all : (v : Location) → v.scheme ≡ ssh → v.flag ≡ true → IsUnambiguous v → IsSettledScp v → (r : Reader) → LeavesPlain r.url → (t : List ℕ) → text v ≡ Ok t → reads r t ≡ own_parts v
scp_by_all v e flagged clear s r leaves t written =
    let (host, there, kind, other) = s.host in
    let found = scp_text_of v host e flagged clear there s in
    ap (λ x. reads r x) (one_text written (scp_text_written v host e s there found.place)) ∙ scp_read r leaves v.user host v.path found ∙ scp_own v host e flagged there s.no_password s.no_port

-- ---- a local path

-- no test takes a text without a colon for a URL
local_untested : (test : UrlTest) (t : List ℕ) → FreeOf colon t → is_url test t ≡ false
local_untested anywhere t free = no_mark t free
local_untested past_scheme t free = and_right (is_scheme_text (until is_colon t)) _ (ap (λ x. begins_mark x) (from_whole is_colon t free))

local_own : (v : Location) → v.scheme ≡ file → IsSettledLocal v → local_parts v.path ≡ own_parts v
local_own v e h =
    λ i. record { scheme = scheme_text (sym e i); user = sym h.bare.1.0 i; password = sym h.bare.1.1 i; host = sym h.bare.2 i; port = option_map decimal (sym h.bare.1.2 i); path = path_in_text (sym h.bare.0 i) v.path }

local_by_all : (v : Location) → v.scheme ≡ file → v.flag ≡ true → IsUnambiguous v → IsSettledLocal v → (r : Reader) → (t : List ℕ) → text v ≡ Ok t → reads r t ≡ own_parts v
local_by_all v e flagged clear h r t written =
    let path = path_meets v clear file true e flagged in
    let free = free_of_lacked is_odd_local colon v.path path.bytes.1 refl in
    let no_cut : is_scp_cut r.scp_test (cut_first colon v.path) ≡ false = ap (λ x. is_scp_cut r.scp_test x) (cut_first_none colon v.path free) in
    ap (λ x. reads r x) (one_text written (flagged_text v e h)) ∙ cond-false _ _ _ (local_untested r.url_test v.path free) ∙ cond-false _ _ _ no_cut ∙ local_own v e h

-- ---- every location of the class

-- the flag is that of Secure Shell or of a file
secure_by : (v : Location) → v.scheme ≡ ssh → v.flag ≡ true → IsUnambiguous v → IsSettledBy ssh v → (r : Reader) → LeavesPlain r.url → (t : List ℕ) → text v ≡ Ok t → reads r t ≡ own_parts v
secure_by v e flagged clear (inl scp) r leaves t written = scp_by_all v e flagged clear scp r leaves t written
secure_by v e flagged clear (inr url) r leaves t written = absurd (both_ways v.flag url.url.common.unflagged flagged)

file_by : (v : Location) → v.scheme ≡ file → v.flag ≡ true → IsUnambiguous v → IsSettledBy file v → (r : Reader) → (t : List ℕ) → text v ≡ Ok t → reads r t ≡ own_parts v
file_by v e flagged clear (inl path) r t written = local_by_all v e flagged clear path r t written
file_by v e flagged clear (inr url) r t written = absurd (both_ways v.flag url.unflagged flagged)

-- a URL has no such form
unflagged_by : {A : Type 0} (v : Location) → v.flag ≡ false → v.flag ≡ true → A
unflagged_by v unflagged flagged = absurd (both_ways v.flag unflagged flagged)

flagged_by : (p : Scheme) (v : Location) → v.scheme ≡ p → v.flag ≡ true → IsUnambiguous v → AgreesBy p v → (r : Reader) → LeavesPlain r.url → (t : List ℕ) → text v ≡ Ok t → reads r t ≡ own_parts v
flagged_by file v e flagged clear a r leaves t written = file_by v e flagged clear (subst (λ s. IsSettledBy s v) e a.settled) r t written
flagged_by git v e flagged clear a r leaves t written = unflagged_by v (subst (λ s. IsSettledBy s v) e a.settled).url.common.unflagged flagged
flagged_by ssh v e flagged clear a r leaves t written = secure_by v e flagged clear (subst (λ s. IsSettledBy s v) e a.settled) r leaves t written
flagged_by http v e flagged clear a r leaves t written = unflagged_by v (subst (λ s. IsSettledBy s v) e a.settled).common.unflagged flagged
flagged_by https v e flagged clear a r leaves t written = unflagged_by v (subst (λ s. IsSettledBy s v) e a.settled).common.unflagged flagged
flagged_by ext v e flagged clear a r leaves t written = absurd (subst (λ s. SuitsTransport s v) e a.suits)
flagged_by (helper name) v e flagged clear a r leaves t written = absurd (subst (λ s. SuitsTransport s v) e a.suits)
flagged_by (helper_url name) v e flagged clear a r leaves t written = absurd (subst (λ s. SuitsTransport s v) e a.suits)

-- in the text of each every reader finds the location's own parts
pub read_by_all : (v : Location) → IsValue v → IsUnambiguous v → (r : Reader) → LeavesPlain r.url → (t : List ℕ) → text v ≡ Ok t → reads r t ≡ own_parts v
read_by_all v is clear r leaves t written = elim (cases_Bool v.flag) [
  | inl flagged ↦ flagged_by v.scheme v refl flagged clear (clear condition.Git) r leaves t written
  | inr unflagged ↦ url_by_all v is clear unflagged r leaves t written
]
