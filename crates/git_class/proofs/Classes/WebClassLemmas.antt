-- The class of HTTP locations by its tests: hosts by their last label, paths by their bytes and segments, and
-- the text that is written for a text, by its bytes.
use Rattle.std.proofs.Common.{⊎_elim, ◌≡◌, ◌≢◌, ◌↔◌, ◌∙◌, ◌<◌, ℕ, Bool, true, false, not, ◌&&◌, ◌||◌, ◌==◌, ◌+◌, ◌⊎◌, inl, inr, List, [], ◌∷◌, ◌++◌, drop, get_or, length, codes, decimal, Option, Some, None, IfSome, IsUtf8, if◌then◌else◌, refl, sym, ap, subst, append_assoc, length-append, arith}
use Rattle.std.specs.List.{list_all, list_any, count_by}
use Rattle.std.specs.Char.{is_ascii_digit, is_ascii_lowercase, is_whitespace, to_ascii_lowercase}
use Rattle.std.proofs.lemmas.Bool.{agree_below_at, and_from, and_parts, both_ways, cases_Bool, cond-false, cond-true, eqb-true, false_from_ne_true, false≢true, not-false, or_from, or_left, or_parts, true≢false}
use Rattle.std.proofs.lemmas.Bool.Decides.{nat_tests}
use Rattle.std.proofs.lemmas.List.{at_drop_more}
use Rattle.std.proofs.lemmas.List.Elements.{All-weaker}
use Rattle.std.proofs.lemmas.List.Folds.{list_all-append, map_fixed}
use Rattle.std.proofs.lemmas.List.Sums.{AllPass-from_list_all, list_all-from_AllPass}
use Rattle.std.proofs.lemmas.Option.{same_Some}
use Rattle.std.proofs.lemmas.Slice.Eq.{bytes_eq-Decides}
use Rattle.percent_encoding.specs.declared.ascii_set.AsciiSet.{AsciiSet}
use Rattle.percent_encoding.specs.AsciiSet.{contains, should_percent_encode}
use Rattle.percent_encoding.specs.Percent.{percent_decode, percent_encode, percent_encode_byte}
use Rattle.percent_encoding.proofs.AsciiSetLemmas.{ascii_from_kept, kept_from_outside, outside_from_kept}
use Rattle.percent_encoding.proofs.PercentLemmas.{IsEscapeByte, All-percent_encode_byte, percent_encode-nil, percent_encode_escaped, percent_encode_kept}
use Rattle.git_syntax.specs.declared.escape.TheConstants.{PATH}
use Rattle.git_syntax.specs.Location.{Location}
use Rattle.git_syntax.specs.Bytes.{colon, dot, number_sign, percent_sign, slash, FreeOf, IsLowercase, Lacks, begins_by, begins_with, is_path_start}
use Rattle.git_syntax.specs.Escapes.{DecodesTo, matches}
use Rattle.git_syntax.specs.Addresses.{IsOctet}
use Rattle.git_syntax.specs.Addresses.Literal.{address}
use Rattle.git_syntax.specs.Hosts.{is_http_host_byte}
use Rattle.git_syntax.specs.Schemes.{requires_path}
use Rattle.git_syntax.proofs.Parsing.HostLemmas.{decimal_digits}
use Rattle.git_syntax.proofs.Parsing.BufferLemmas.{normal_host_kept}
use Rattle.git_syntax.proofs.Texts.CutLemmas.{all_weaker, cut_unique, free-append, free_of_all, free_of_lacked, free_or_cut, lacks_of_all, lacks_weaker, last_cut_unique, not_free}
use Rattle.git_syntax.proofs.Texts.EscapeLemmas.{ascii_class, encode_lacks_kept, lacks_from_encode, sound_free, utf8_class, white_space_ascii}
use Rattle.git_location.specs.Settled.{HasUrlPath, IsBracketedAddress, IsFairSpelling, IsWeb, IsWebHost}
use Rattle.git_location.specs.Settled.IsWebHost.{literal, named}
use Rattle.git_location.specs.Internal.SettledPieces.{IsSettledBesidePath}
use Rattle.git_location.specs.Text.{canonical_path, matching_or, plain_path}
use Rattle.git_class.specs.WebClass.{AgreesOverWeb, HasDotSegment, HasUnambiguousHost, HasUnambiguousPath, IsDecodedWhole, IsLastLabel, IsPlainName, IsUnambiguousHost, IsUnambiguousPassword, IsUnambiguousUser, is_control, is_plain_host_byte, is_segment_end, is_uri_byte}
use Rattle.git_class.specs.Internal.WebPieces.{EndsSecondDot, IsDotSegment, IsUriPath, SpellsUriPath, ends_segment, is_common_path_byte, is_stray}
use Rattle.git_location.proofs.SettledClass.SettledLemmas.{settled_as_web, url_by_parts, web_settled}
use Rattle.git_location.proofs.SettledClass.SimpleTextLemmas.{rooted_starts}
use Rattle.git_location.proofs.Writing.PieceLemmas.{counted}

-- ---- hosts

-- a name has one last label
one_label : (name a b : List ℕ) → IsLastLabel name a → IsLastLabel name b → a ≡ b
one_label name a b (inl (free, whole)) (inl (free_too, same)) = whole ∙ sym same
one_label name a b (inl (free, whole)) (inr (front, last, joined)) = absurd (not_free dot front b (subst (λ x. FreeOf dot x) joined free))
one_label name a b (inr (front, last, joined)) (inl (free, whole)) = absurd (not_free dot front a (subst (λ x. FreeOf dot x) joined free))
one_label name a b (inr (front, last, joined)) (inr (other, last_too, same)) = (last_cut_unique dot front other a b last last_too (sym joined ∙ same)).1

-- a name is plain by its bytes and the first of its last label
pub plain_by_label : (name label : List ℕ) → IsLastLabel name label → ((list_all is_plain_host_byte name ≡ true) × (begins_by is_ascii_lowercase label ≡ true)) ↔ IsPlainName name
plain_by_label name label last = (
  λ parts. record { bytes = parts.0; label = label; last = last; letter = parts.1 },
  λ plain. (plain.bytes, ap (begins_by is_ascii_lowercase) (one_label name label plain.label last plain.last) ∙ plain.letter),
)

-- a text that begins by a test has a byte
begun : (test : ℕ → Bool) (t : List ℕ) → begins_by test t ≡ true → 0 < length t
begun test [] begins = absurd (false≢true begins)
begun test (b ∷ bs) begins = omega arith

-- so has a plain name
some_name : (name label : List ℕ) → IsLastLabel name label → 0 < length label → 0 < length name
some_name name label (inl (free, whole)) some = subst (λ t. 0 < length t) whole some
some_name name label (inr (front, last, joined)) some = omega (arith, ap length joined, length-append front (dot ∷ label))

-- an octet is of bytes of a plain host
octet_plain : (t : List ℕ) → IsOctet t → list_all is_plain_host_byte t ≡ true
octet_plain t (n, small, e) = subst (λ x. list_all is_plain_host_byte x ≡ true) (sym e) (all_weaker is_ascii_digit is_plain_host_byte (λ b is. grind (arith, nat_tests)) (decimal n) (decimal_digits n (omega arith)).1)

-- and so are two such texts around a `.`
dot_plain : (x y : List ℕ) → list_all is_plain_host_byte x ≡ true → list_all is_plain_host_byte y ≡ true → list_all is_plain_host_byte (x ++ dot ∷ y) ≡ true
dot_plain x y h k = list_all-append is_plain_host_byte x (dot ∷ y) ∙ and_from _ _ h k

-- a host is of bytes of a plain host, or an address in brackets
abbrev pub IsWebForm : List ℕ → Type 0
IsWebForm host = (list_all is_plain_host_byte host ≡ true) ⊎ IsBracketedAddress host

-- so is each of the class
pub url_host_form : (host : List ℕ) → IsUnambiguousHost host → IsWebForm host
url_host_form host (inl name) = inl name.bytes
url_host_form host (inr (inl h)) =
    let (first, second, third, fourth) = h.octets in
    inl (subst (λ x. list_all is_plain_host_byte x ≡ true) (sym h.joined) (dot_plain h.first _ (octet_plain h.first first) (dot_plain h.second _ (octet_plain h.second second) (dot_plain h.third h.fourth (octet_plain h.third third) (octet_plain h.fourth fourth)))))
url_host_form host (inr (inr h)) = inr h

-- and it has a byte
some_host : (host : List ℕ) → IsUnambiguousHost host → 0 < length host
some_host host (inl name) = some_name host name.label name.last (begun is_ascii_lowercase name.label name.letter)
some_host host (inr (inl h)) = omega (arith, ap length h.joined, length-append h.first (dot ∷ (h.second ++ dot ∷ (h.third ++ dot ∷ h.fourth))))
some_host host (inr (inr (inside, normal, e))) = omega (arith, ap length e)

-- a host of these bytes is in lower case
pub plain_lowercase : (host : List ℕ) → list_all is_plain_host_byte host ≡ true → IsLowercase host
plain_lowercase host h =
    map_fixed to_ascii_lowercase host (All-weaker (λ b. is_plain_host_byte b ≡ true) (λ b. to_ascii_lowercase b ≡ b) (λ b is. grind (arith, nat_tests)) host (AllPass-from_list_all is_plain_host_byte host h))

-- a host of such a form is settled for HTTP
form_settled : (port : Option ℕ) (host : List ℕ) → 0 < length host → IsWebForm host → IsWebHost port host
form_settled port host some (inl h) = named (record {
  nonempty = some;
  bytes = all_weaker is_plain_host_byte is_http_host_byte (λ b is. grind (arith, nat_tests)) host h;
  sound = sound_free host (free_of_all is_plain_host_byte percent_sign host h refl);
  normal = normal_host_kept host (plain_lowercase host h);
})
form_settled port host some (inr (inside, normal, e)) = literal inside (address normal.address (sym normal.lower)) e

-- ---- dot segments

-- a segment ends before a text that is empty or begins by its end
ends_by_cases : (t : List ℕ) → ends_segment t ≡ true → (t ≡ []) ⊎ (begins_by is_segment_end t ≡ true)
ends_by_cases [] ends = inl refl
ends_by_cases (b ∷ bs) ends = inr ends

ends_from_cases : (t : List ℕ) → (t ≡ []) ⊎ (begins_by is_segment_end t ≡ true) → ends_segment t ≡ true
ends_from_cases [] cases = refl
ends_from_cases (b ∷ bs) (inl none) = cc
ends_from_cases (b ∷ bs) (inr ends) = ends

-- dots after a `/` are a dot segment
dots_from : (x suffix : List ℕ) → (ends_segment suffix ≡ true) ⊎ EndsSecondDot suffix → HasDotSegment (x ++ slash ∷ (dot ∷ suffix))
dots_from x suffix (inl ends) = record { front = x; dots = codes "."; suffix = suffix; joined = refl; segment = inl refl; end = ends_by_cases suffix ends }
dots_from x suffix (inr (last, second, ends)) =
    record { front = x; dots = codes ".."; suffix = last; joined = ap (λ y. x ++ slash ∷ (dot ∷ y)) second; segment = inr refl; end = ends_by_cases last ends }

-- a dot segment begins with a dot
dots_to : (dots rest : List ℕ) → (dots ≡ codes ".") ⊎ (dots ≡ codes "..") → (rest ≡ []) ⊎ (begins_by is_segment_end rest ≡ true) → (suffix : List ℕ) × (dots ++ rest ≡ dot ∷ suffix) × ((ends_segment suffix ≡ true) ⊎ EndsSecondDot suffix)
dots_to dots rest (inl one) end = (rest, ap (λ x. x ++ rest) one, inl (ends_from_cases rest end))
dots_to dots rest (inr two) end = (dot ∷ rest, ap (λ x. x ++ rest) two, inr (rest, refl, ends_from_cases rest end))

-- a dot segment of the text after a front is one of the whole
dots_after : (front suffix : List ℕ) → HasDotSegment suffix → HasDotSegment (front ++ dot ∷ suffix)
dots_after front suffix h = record {
  front = front ++ dot ∷ h.front;
  dots = h.dots;
  suffix = h.suffix;
  joined = ap (λ x. front ++ dot ∷ x) h.joined ∙ sym (append_assoc front (dot ∷ h.front) (slash ∷ (h.dots ++ h.suffix)));
  segment = h.segment;
  end = h.end;
}

-- a text without a `.` has no dot segment
pub no_segment : (t : List ℕ) → FreeOf dot t → ¬ HasDotSegment t
no_segment t free h =
    let (suffix, joined, ends) = dots_to h.dots h.suffix h.segment h.end in
    not_free dot (h.front ++ slash ∷ []) suffix (subst (λ x. FreeOf dot x) (h.joined ∙ ap (λ x. h.front ++ slash ∷ x) joined ∙ sym (append_assoc h.front (slash ∷ []) (dot ∷ suffix))) free)

-- a dot segment begins at the first `.`, or follows it
segment_at_cut : (front suffix : List ℕ) → FreeOf dot front → HasDotSegment (front ++ dot ∷ suffix) → IsDotSegment front suffix ⊎ HasDotSegment suffix
segment_at_cut front suffix free h = elim (free_or_cut dot h.front) [
  | inl none ↦
      let (rest, dots, ends) = dots_to h.dots h.suffix h.segment h.end in
      let whole = h.joined ∙ ap (λ x. h.front ++ slash ∷ x) dots ∙ sym (append_assoc h.front (slash ∷ []) (dot ∷ rest)) in
      let same = cut_unique dot front (h.front ++ slash ∷ []) suffix rest free (free-append dot h.front (slash ∷ []) none refl) whole in
      inl (h.front, same.0, subst (λ x. (ends_segment x ≡ true) ⊎ EndsSecondDot x) (sym same.1) ends)
  | inr (x, y, none, cut) ↦
      let whole = h.joined ∙ ap (λ z. z ++ slash ∷ (h.dots ++ h.suffix)) cut ∙ append_assoc x (dot ∷ y) (slash ∷ (h.dots ++ h.suffix)) in
      inr (record { front = y; dots = h.dots; suffix = h.suffix; joined = (cut_unique dot front x suffix (y ++ slash ∷ (h.dots ++ h.suffix)) free none whole).1; segment = h.segment; end = h.end })
]

-- so a text with a `.` has one exactly if it begins at the first `.`, or follows that
pub segment_cut : (t front suffix : List ℕ) → FreeOf dot front → t ≡ front ++ dot ∷ suffix → (IsDotSegment front suffix ⊎ HasDotSegment suffix) ↔ HasDotSegment t
segment_cut t front suffix free joined = (
  λ either. subst HasDotSegment (sym joined) (⊎_elim
      (λ here. subst HasDotSegment (sym (append_assoc here.0 (slash ∷ []) (dot ∷ suffix)) ∙ ap (λ x. x ++ dot ∷ suffix) (sym here.1)) (dots_from here.0 suffix here.2))
      (λ later. dots_after front suffix later) either),
  λ has. segment_at_cut front suffix free (subst HasDotSegment joined has),
)

-- ---- the written text

-- a colon is written if the text has one
pub colon_written : (set : AsciiSet) (t : List ℕ) → contains set 58 ≡ false → FreeOf colon t ↔ FreeOf colon (percent_encode set t)
colon_written set t out = (
  λ free. encode_lacks_kept (λ b. b == colon) set t (λ b escape. grind (arith, nat_tests)) free,
  λ free. lacks_from_encode (λ b. b == colon) set t (λ b escaped. false_from_ne_true _ (λ is. true≢false (sym escaped ∙ ap (should_percent_encode set) (eqb-true b colon is) ∙ kept_from_outside set 58 (omega arith) out))) free,
)

-- no `%` is written if no byte is escaped
no_percent : (set : AsciiSet) (t : List ℕ) → contains set 37 ≡ true → count_by (should_percent_encode set) t ≡ 0 → FreeOf percent_sign (percent_encode set t)
no_percent set [] has none = ap (list_any (λ b. b == percent_sign)) (percent_encode-nil set)
no_percent set (b ∷ bs) has none = elim (cases_Bool (should_percent_encode set b)) [
  | inl escaped ↦
      let one = counted (should_percent_encode set) b bs 1 (cond-true {A = ℕ} (should_percent_encode set b) 1 0 escaped) in
      absurd (omega (arith, one, none))
  | inr kept ↦
      let others = counted (should_percent_encode set) b bs 0 (cond-false {A = ℕ} (should_percent_encode set b) 1 0 kept) in
      let other : (b == percent_sign) ≡ false = false_from_ne_true _ (λ is. both_ways _ (outside_from_kept set b kept) (ap (contains set) (eqb-true b percent_sign is) ∙ has)) in
      ap (list_any (λ c. c == percent_sign)) (percent_encode_kept set b bs kept) ∙ or_from _ _ other (no_percent set bs has (omega (arith, others, none)))
]

-- and an escape begins with `%`
none_escaped : (set : AsciiSet) (t : List ℕ) → FreeOf percent_sign (percent_encode set t) → count_by (should_percent_encode set) t ≡ 0
unfolding percent_encode_byte
none_escaped set [] free = refl
none_escaped set (b ∷ bs) free = elim (cases_Bool (should_percent_encode set b)) [
  | inl escaped ↦ absurd (both_ways _ free (ap (list_any (λ c. c == percent_sign)) (percent_encode_escaped set b bs escaped)))
  | inr kept ↦
      let parts = or_parts (b == percent_sign) _ (sym (ap (list_any (λ c. c == percent_sign)) (percent_encode_kept set b bs kept)) ∙ free) in
      let others = counted (should_percent_encode set) b bs 0 (cond-false {A = ℕ} (should_percent_encode set b) 1 0 kept) in
      omega (arith, others, none_escaped set bs parts.1)
]

-- so the count of escapes decides
pub percent_written : (set : AsciiSet) (t : List ℕ) → contains set 37 ≡ true → (count_by (should_percent_encode set) t ≡ 0) ↔ FreeOf percent_sign (percent_encode set t)
percent_written set t has = (λ none. no_percent set t has none, λ free. none_escaped set t free)

-- ---- bytes of paths

and_joined : (a b c : Bool) → ((a && b) && c) ≡ (a && (b && c))
and_joined true b c = refl
and_joined false b c = refl

-- whether each byte passes a test, one byte on
pub all_more : (p : ℕ → Bool) (t : List ℕ) (i : ℕ) (so_far first : Bool) → i < length t → first ≡ p (get_or t i 0) → (so_far && list_all p (drop i t)) ≡ list_all p t → ((so_far && first) && list_all p (drop (i + 1) t)) ≡ list_all p t
all_more p t i so_far first within is h =
    and_joined so_far first (list_all p (drop (i + 1) t)) ∙ ap (λ f. so_far && (f && list_all p (drop (i + 1) t))) is ∙ ap (λ x. so_far && x) (sym (at_drop_more (list_all p) t i 0 within)) ∙ h

-- the written text passes a test of each byte that escapes pass,
-- if each byte of the text passes it or is escaped
all_written : (test : ℕ → Bool) (set : AsciiSet) (t : List ℕ) → ((b : ℕ) → IsEscapeByte b → test b ≡ true) → list_all test (percent_encode set t) ≡ list_all (λ b. should_percent_encode set b || test b) t
all_written test set [] escapes = ap (list_all test) (percent_encode-nil set)
all_written test set (b ∷ bs) escapes =
    let rest = all_written test set bs escapes in
    elim (cases_Bool (should_percent_encode set b)) [
      | inl escaped ↦
          let escape : list_all test (percent_encode_byte b) ≡ true = list_all-from_AllPass test _ (All-weaker IsEscapeByte (λ c. test c ≡ true) escapes _ (All-percent_encode_byte b)) in
          ap (list_all test) (percent_encode_escaped set b bs escaped) ∙ list_all-append test (percent_encode_byte b) (percent_encode set bs) ∙ simp (escape, escaped, rest) refl
      | inr kept ↦ ap (list_all test) (percent_encode_kept set b bs kept) ∙ simp (kept, rest) refl
    ]

-- the byte is escaped in a path, or one of a URI
abbrev is_written_as_uri : ℕ → Bool
is_written_as_uri b = should_percent_encode PATH b || is_uri_byte b

escape_in_uri : (b : ℕ) → IsEscapeByte b → is_uri_byte b ≡ true
escape_in_uri b h = grind (arith, nat_tests)

stray_in_ascii : (b : ℕ) → is_stray b ≡ true → b < 128
stray_in_ascii b stray = grind (arith, nat_tests)

-- the strays of ASCII are the controls, `#`, and the bytes that are neither escaped nor of a URI
strays : (b : ℕ) → b < 128 → is_stray b ≡ (is_control b || (b == number_sign || not (contains PATH b || is_uri_byte b)))
strays b ascii = agree_below_at is_stray (λ c. is_control c || (c == number_sign || not (contains PATH c || is_uri_byte c))) 128 b refl ascii

-- a byte that isn't a stray is written as a URI
written_from : (b : ℕ) → is_stray b ≡ false → is_written_as_uri b ≡ true
written_from b other = elim (cases_Bool (should_percent_encode PATH b)) [
  | inl escaped ↦ ap (λ x. x || is_uri_byte b) escaped
  | inr kept ↦
      let raw = (or_parts _ _ (or_parts (is_control b) _ (sym (strays b (ascii_from_kept PATH b kept)) ∙ other)).1).1 in
      let either : (contains PATH b || is_uri_byte b) ≡ true = not-false _ raw in
      ap (λ x. x || is_uri_byte b) (kept ∙ sym (outside_from_kept PATH b kept)) ∙ either
]

-- and a byte that is, and neither a control nor `#`, isn't a stray
no_stray : (b : ℕ) → is_control b ≡ false → (b == number_sign) ≡ false → is_written_as_uri b ≡ true → is_stray b ≡ false
no_stray b control fragment written = false_from_ne_true _ (λ stray.
    let ascii = stray_in_ascii b stray in
    elim (cases_Bool (contains PATH b || is_uri_byte b)) [
      | inl some ↦ both_ways _ (or_from _ _ control (or_from _ _ fragment (ap not some))) (sym (strays b ascii) ∙ stray)
      | inr neither ↦
          let parts = or_parts (contains PATH b) _ neither in
          both_ways _ (or_from _ _ (kept_from_outside PATH b ascii parts.0) parts.1) written
    ])

-- the same of texts
all_written_from : (t : List ℕ) → Lacks is_stray t → list_all is_written_as_uri t ≡ true
all_written_from [] lacks = refl
all_written_from (b ∷ bs) lacks =
    let parts = or_parts _ _ lacks in
    and_from _ _ (written_from b parts.0) (all_written_from bs parts.1)

no_strays : (t : List ℕ) → Lacks is_control t → FreeOf number_sign t → list_all is_written_as_uri t ≡ true → Lacks is_stray t
no_strays [] control fragment written = refl
no_strays (b ∷ bs) control fragment written =
    let controls = or_parts _ _ control in
    let fragments = or_parts _ _ fragment in
    let all = and_parts _ _ written in
    or_from _ _ (no_stray b controls.0 fragments.0 all.0) (no_strays bs controls.1 fragments.1 all.1)

-- a path is written as a URI if it has no stray, and is decoded whole
pub uri_path_by_bytes : (t : List ℕ) → (Lacks is_stray t × IsDecodedWhole (percent_encode PATH t)) ↔ IsUriPath t (percent_encode PATH t)
uri_path_by_bytes t = (
  λ parts. record {
    no_control = lacks_weaker is_control is_stray (λ b is. or_left _ _ is) t parts.0;
    no_fragment = free_of_lacked is_stray number_sign t parts.0 refl;
    bytes = all_written is_uri_byte PATH t escape_in_uri ∙ all_written_from t parts.0;
    whole = parts.1;
  },
  λ path. (no_strays t path.no_control path.no_fragment (sym (all_written is_uri_byte PATH t escape_in_uri) ∙ path.bytes), path.whole),
)

-- a text without control characters and `#` is written in the bytes of a URI if it has no stray
bytes_by_strays : (t : List ℕ) → Lacks is_control t → FreeOf number_sign t → not (list_any is_stray t) ≡ list_all is_uri_byte (percent_encode PATH t)
bytes_by_strays t control fragment = elim (cases_Bool (list_any is_stray t)) [
  | inl stray ↦ ap not stray ∙ sym (false_from_ne_true _ (λ all. true≢false (sym stray ∙ no_strays t control fragment (sym (all_written is_uri_byte PATH t escape_in_uri) ∙ all))))
  | inr none ↦ ap not none ∙ sym (all_written is_uri_byte PATH t escape_in_uri ∙ all_written_from t none)
]

simple_no_stray : (b : ℕ) → is_common_path_byte b ≡ true → is_stray b ≡ false
simple_no_stray b simple = grind (arith, nat_tests)

-- a simple path is such a path
pub simple_uri_path : (t : List ℕ) → list_all is_common_path_byte t ≡ true → IsUriPath t (percent_encode PATH t)
simple_uri_path t all =
    (uri_path_by_bytes t).0 (lacks_of_all is_common_path_byte is_stray simple_no_stray t all, inl ((colon_written PATH t refl).0 (free_of_all is_common_path_byte colon t all refl)))

-- and text
pub simple_path_text : (t : List ℕ) → list_all is_common_path_byte t ≡ true → IsUtf8 t
simple_path_text t all = utf8_class is_common_path_byte (λ b simple. grind (arith, nat_tests)) t all

-- ---- spellings

-- a byte of a URI is ASCII
uri_ascii : (b : ℕ) → is_uri_byte b ≡ true → b < 128
uri_ascii b uri = grind (arith, nat_tests)

-- and no white space
uri_no_space : (b : ℕ) → is_uri_byte b ≡ true → is_whitespace b ≡ false
uri_no_space b uri =
    let none : (is_uri_byte b && is_whitespace b) ≡ false = agree_below_at (λ c. is_uri_byte c && is_whitespace c) (λ c. false) 128 b refl (uri_ascii b uri) in
    sym (ap (λ x. x && is_whitespace b) uri) ∙ none

-- a spelling of bytes of a URI is text without white space, so it is fair by the other conditions
pub uri_spelling_by_parts : (path s : List ℕ) → ((list_all is_uri_byte s ≡ true) × SpellsUriPath s path) ↔ (IsUriPath path s × IsFairSpelling s path)
uri_spelling_by_parts path s = (
  λ (bytes, spells). (
    record { no_control = spells.no_control; no_fragment = spells.no_fragment; bytes = bytes; whole = inl spells.no_colon },
    record {
      text = utf8_class is_uri_byte uri_ascii s bytes;
      sound = spells.escapes.0;
      escaped = spells.escapes.1;
      no_white_space = white_space_ascii s (ascii_class is_uri_byte uri_ascii s bytes) (lacks_of_all is_uri_byte is_whitespace uri_no_space s bytes);
      front = spells.front;
    },
  ),
  λ (uri, fair). (
    uri.bytes,
    record {
      no_colon = ⊎_elim (λ free. free) (λ none. absurd (both_ways _ none fair.escaped)) uri.whole;
      escapes = (fair.sound, fair.escaped);
      front = fair.front;
      no_control = uri.no_control;
      no_fragment = uri.no_fragment;
    },
  ),
)

-- the written path of a location of HTTP is the spelling that matches, and else the encoded path
pub web_path : (v : Location) → IsWeb v → canonical_path v ≡ matching_or v.spelling v.path (percent_encode PATH v.path)
web_path v (inl e) = ap (λ p. (if requires_path p && not (begins_with slash v.path) then slash ∷ [] else []) ++ matching_or v.spelling v.path (plain_path p v.path)) e
web_path v (inr e) = ap (λ p. (if requires_path p && not (begins_with slash v.path) then slash ∷ [] else []) ++ matching_or v.spelling v.path (plain_path p v.path)) e

-- a text is no longer one
other_text : (s : List ℕ) → ¬ (s ≡ 0 ∷ s)
other_text s e = omega (arith, ap length e)

-- a spelling that denotes the path whatever else would is the one that matches it
taken : (spelling : Option (List ℕ)) (path s : List ℕ) → ((other : List ℕ) → s ≡ matching_or spelling path other) → (spelling ≡ Some s) × DecodesTo s path
taken None path s is = absurd (other_text s (is (0 ∷ s)))
taken (Some found) path s is = elim (cases_Bool (matches (Some found) path)) [
  | inl matching ↦
      let same : s ≡ found = is s ∙ cond-true _ _ _ matching in
      (ap Some (sym same), subst (λ t. DecodesTo t path) (sym same) ((bytes_eq-Decides (percent_decode found) path).0 matching))
  | inr other ↦ absurd (other_text s (is (0 ∷ s) ∙ cond-false _ _ _ other))
]

-- if anything else is taken, none matches
none_taken : (spelling : Option (List ℕ)) (path s : List ℕ) → ((other : List ℕ) → other ≡ matching_or spelling path other) → spelling ≡ Some s → ¬ DecodesTo s path
none_taken spelling path s is some decodes =
    other_text s (sym (is (0 ∷ s) ∙ ap (λ o. matching_or o path (0 ∷ s)) some ∙ cond-true _ _ _ ((bytes_eq-Decides (percent_decode s) path).1 decodes)))

-- a path without a spelling that matches is one of a settled URL if it is text
pub unspelled_path : (v : Location) (path : List ℕ) → IsWeb v → path ≡ v.path → ((other : List ℕ) → other ≡ matching_or v.spelling v.path other) → (IsUtf8 path × IsUriPath path (percent_encode PATH path)) ↔ (IsUriPath v.path (canonical_path v) × HasUrlPath v)
unspelled_path v path web same is =
    let written = web_path v web ∙ sym (is (percent_encode PATH v.path)) in
    subst (λ p. (IsUtf8 p × IsUriPath p (percent_encode PATH p)) ↔ (IsUriPath v.path (canonical_path v) × HasUrlPath v)) (sym same) (
      λ (utf8, uri). (
        subst (λ w. IsUriPath v.path w) (sym written) uri,
        record { path_text = utf8; spelling = λ s some decodes. absurd (none_taken v.spelling v.path s is some decodes) },
      ),
      λ (uri, url). (url.path_text, subst (λ w. IsUriPath v.path w) written uri),
    )

-- a spelling that matches decodes to the path
pub spelled_decodes : (v : Location) (path s : List ℕ) → path ≡ v.path → ((other : List ℕ) → s ≡ matching_or v.spelling v.path other) → DecodesTo s path
spelled_decodes v path s same is = (taken v.spelling v.path s is).1 ∙ sym same

-- and a path with such a spelling is one if that is fair too
pub spelled_path : (v : Location) (path s : List ℕ) → IsWeb v → path ≡ v.path → ((other : List ℕ) → s ≡ matching_or v.spelling v.path other) → (IsUtf8 path × (IsUriPath path s × IsFairSpelling s path)) ↔ (IsUriPath v.path (canonical_path v) × HasUrlPath v)
spelled_path v path s web same is =
    let written = web_path v web ∙ sym (is (percent_encode PATH v.path)) in
    let (some, decodes) = taken v.spelling v.path s is in
    subst (λ p. (IsUtf8 p × (IsUriPath p s × IsFairSpelling s p)) ↔ (IsUriPath v.path (canonical_path v) × HasUrlPath v)) (sym same) (
      λ (utf8, (uri, fair)). (
        subst (λ w. IsUriPath v.path w) (sym written) uri,
        record { path_text = utf8; spelling = λ t given match. subst (λ x. IsFairSpelling x v.path) (same_Some s t (sym some ∙ given)) fair },
      ),
      λ (uri, url). (url.path_text, (subst (λ w. IsUriPath v.path w) written uri, url.spelling s some decodes)),
    )

-- without such a spelling a path is written in the bytes of a URI if it has no stray
pub unspelled_bytes : (v : Location) (path : List ℕ) → IsWeb v → path ≡ v.path → ((other : List ℕ) → other ≡ matching_or v.spelling v.path other) → Lacks is_control v.path → FreeOf number_sign v.path → not (list_any is_stray path) ≡ list_all is_uri_byte (canonical_path v)
unspelled_bytes v path web same is control fragment =
    ap (λ p. not (list_any is_stray p)) same ∙ bytes_by_strays v.path control fragment ∙ ap (list_all is_uri_byte) (is (percent_encode PATH v.path) ∙ sym (web_path v web))

-- ---- the class

-- a location of HTTP is of the class by its parts, and by the conditions of settled URLs except for those on
-- paths
pub class_by_parts : (v : Location) → IsWeb v
    → ((HasUnambiguousHost v × (v.port ≢ Some 0) × IfSome v.user IsUnambiguousUser × IfSome v.password IsUnambiguousPassword × HasUnambiguousPath v × HasUrlPath v) × IsSettledBesidePath v) ↔ AgreesOverWeb v
class_by_parts v web = (
  λ ((host, port, user, password, path, url), beside). record {
    settled = web_settled v web record {
      common = (url_by_parts v).0 (url, beside);
      host = (host.0, host.1, form_settled v.port host.0 (some_host host.0 host.2) (url_host_form host.0 host.2));
      port = port;
      path = rooted_starts v.path path.rooted;
    };
    host = host;
    user = user;
    password = password;
    path = path;
  },
  λ class.
      let settled = settled_as_web v web class.settled in
      let (url, beside) = (url_by_parts v).1 settled.common in
      ((class.host, settled.port, class.user, class.password, class.path, url), beside),
)
