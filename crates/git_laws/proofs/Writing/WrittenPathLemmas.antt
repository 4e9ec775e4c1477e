-- The written path of a settled URL denotes the same path, and is written the same again.
use Rattle.std.proofs.Common.{◌≡◌, ℕ, ◌<◌, Bool, true, false, not, ◌⊎◌, inl, inr, List, [], ◌∷◌, ◌++◌, length, bytes_eq, Option, Some, None, IsUtf8, if◌then◌else◌, refl, sym, ap, subst, ◌∙◌, arith}
use Rattle.std.proofs.lemmas.Bool.{cases_Bool, cond-true, cond-false, both_ways, false≢true, and_left, and_right, and_from, not_from_true}
use Rattle.std.proofs.lemmas.Bool.Decides.{nat_tests}
use Rattle.std.proofs.lemmas.Option.{none-some, same_Some}
use Rattle.std.proofs.lemmas.Slice.Eq.{bytes_eq-Decides}
use Rattle.percent_encoding.specs.Percent.{percent_decode, percent_encode}
use Rattle.git_syntax.specs.declared.escape.TheConstants.{PATH}
use Rattle.git_syntax.specs.Location.{Scheme, Location}
use Rattle.git_syntax.specs.Location.Scheme.{ssh, git, helper_url}
use Rattle.git_syntax.specs.Bytes.{slash, tilde, begins_by, begins_with, LacksWhiteSpace, is_path_start, StartsPath}
use Rattle.git_syntax.specs.Escapes.{has_percent, is_path_escaped}
use Rattle.git_syntax.specs.Schemes.{requires_path}
use Rattle.git_syntax.specs.Grammar.{path_for, or_root, from_home, retained_spelling}
use Rattle.git_location.specs.Text.{canonical_path, root_part, plain_path, matching_or}
use Rattle.git_location.specs.Settled.{HasMatch, IsFairSpelling, IsRawPath, IsTransportPath, first_byte, IsWeb, HasFairSpelling, HasUrlPath, IsRootedOrEmpty}
use Rattle.git_syntax.specs.Grammar.{begins_at_home}
use Rattle.git_laws.proofs.Writing.WrittenPieces.{IsEscapedPiece, WritesPath, as_read}
use Rattle.git_syntax.proofs.Texts.EscapeLemmas.{decode_kept, decode_encode_utf8, encode_byte_kept, encode_sound, sound_free, sound_kept, utf8_byte, utf8_encode, white_space-append, white_space_byte}
use Rattle.git_syntax.proofs.Texts.EscapeSets.{path_holds, white_space_path}
use Rattle.git_syntax.proofs.ByMasks.SimpleTextLemmas.{home_kept}
use Rattle.std.proofs.lemmas.Str.{IsUtf8-append}

-- ---- a path and its writing

-- the text denotes the path, begins as it does, and is the plain one if it has no escape
pub record IsWriting (path plain t : List ℕ) : Type 0 where
  pub escaped : IsEscapedPiece t
  pub front : first_byte t ≡ first_byte path
  pub decoded : percent_decode t ≡ path
  unescaped : has_percent t ≡ false → t ≡ plain

-- a spelling is there, and denotes the path
abbrev Matches : Option (List ℕ) → List ℕ → Type 0
Matches spelling path = (s : List ℕ) × (spelling ≡ Some s) × (percent_decode s ≡ path)

-- the spelling is fair if it denotes the path
abbrev IsFair : Option (List ℕ) → List ℕ → Type 0
IsFair spelling path = (s : List ℕ) → spelling ≡ Some s → percent_decode s ≡ path → IsFairSpelling s path

-- a spelling that denotes the path is the written text
pub matched : (s path plain : List ℕ) → percent_decode s ≡ path → matching_or (Some s) path plain ≡ s
matched s path plain same = cond-true _ _ _ ((bytes_eq-Decides (percent_decode s) path).1 same)

-- the written text is a spelling that denotes the path, or the text that replaces it if none does
pub matching_cases : (P : List ℕ → Type 0) (spelling : Option (List ℕ)) (path plain : List ℕ) → ((s : List ℕ) → spelling ≡ Some s → percent_decode s ≡ path → P s) → (¬ Matches spelling path → P plain) → P (matching_or spelling path plain)
matching_cases P spelling path plain h4 h5 = grind (arith, nat_tests, none-some, bytes_eq-Decides, matched, both_ways, same_Some, cond-false, cases_Bool, bytes_eq)

-- if none does, the plain path is written
pub unmatched : (spelling : Option (List ℕ)) (path plain : List ℕ) → ¬ Matches spelling path → matching_or spelling path plain ≡ plain
unmatched spelling path plain none = matching_cases (λ t. t ≡ plain) spelling path plain (λ s is same. absurd (none (s, is, same))) (λ apart. refl)

-- a fair spelling is a writing of the path
fair_writing : (s path plain : List ℕ) → IsFairSpelling s path → percent_decode s ≡ path → IsWriting path plain s
fair_writing s path plain fair decoded = record {
  escaped = record { text = fair.text; sound = fair.sound; no_white_space = fair.no_white_space };
  front = fair.front;
  decoded = decoded;
  unescaped = λ none. absurd (both_ways _ none fair.escaped);
}

-- a matching spelling or the text that replaces it is a writing of the path
matching_writing : (spelling : Option (List ℕ)) (path plain : List ℕ) → IsFair spelling path → (¬ Matches spelling path → IsWriting path plain plain) → IsWriting path plain (matching_or spelling path plain)
matching_writing spelling path plain fair other = matching_cases (IsWriting path plain) spelling path plain (λ s is same. fair_writing s path plain (fair s is same) same) other

-- ---- read again

-- a writing with an escape is a fair spelling
writing_fair : (path plain t : List ℕ) → IsWriting path plain t → has_percent t ≡ true → IsFairSpelling t path
writing_fair path plain t w holds = record {
  text = w.escaped.text;
  sound = w.escaped.sound;
  escaped = holds;
  no_white_space = w.escaped.no_white_space;
  front = w.front;
}

-- the spelling that a writing is read with is fair
retained_fair_by : (b : Bool) (path plain t : List ℕ) → has_percent t ≡ b → IsWriting path plain t → IsFair (if b then Some t else None) path
retained_fair_by true path plain t holds w = λ s is same. subst (λ x. IsFairSpelling x path) (same_Some t s is) (writing_fair path plain t w holds)
retained_fair_by false path plain t lacks w = λ s is same. absurd (none-some s is)

-- and the path is written with it the same again
retained_again_by : (b : Bool) (path plain t : List ℕ) → has_percent t ≡ b → IsWriting path plain t → matching_or (if b then Some t else None) path plain ≡ t
retained_again_by true path plain t holds w = matched t path plain w.decoded
retained_again_by false path plain t lacks w = sym (w.unescaped lacks)

-- the retained spelling of a writing is fair
retained_fair : (path plain t : List ℕ) → IsWriting path plain t → IsFair (retained_spelling t) path
retained_fair path plain t w = retained_fair_by (has_percent t) path plain t refl w

-- a writing is written again by its retained spelling
retained_again : (path plain t : List ℕ) → IsWriting path plain t → matching_or (retained_spelling t) path plain ≡ t
retained_again path plain t w = retained_again_by (has_percent t) path plain t refl w

-- ---- fronts

-- a text that begins as another starts a path if that one does
pub starts_alike : (web : Bool) (t path : List ℕ) → first_byte t ≡ first_byte path → StartsPath web path → StartsPath web t
starts_alike web t path h3 h4 = grind (arith, nat_tests, false≢true)

-- and isn't empty if that one isn't
some_alike : (t path : List ℕ) → first_byte t ≡ first_byte path → 0 < length path → 0 < length t
some_alike t path h2 h3 = grind (arith, nat_tests, false≢true)

-- ---- a path without a root before it

-- the conditions on a path that is written as it is, or as one of its spellings
record IsPlainly (web : Bool) (v : Location) : Type 0 where
  root : root_part v ≡ []
  starts : StartsPath web v.path
  text : IsUtf8 v.path
  denoted : path_for v.scheme v.path ≡ v.path
  present : requires_path v.scheme ≡ true → 0 < length v.path
  writing : ¬ HasMatch v → IsWriting v.path (plain_path v.scheme v.path) (plain_path v.scheme v.path)

-- the path of the location is a writing of it
plainly_writing : (web : Bool) (v : Location) → IsPlainly web v → HasFairSpelling v → IsWriting v.path (plain_path v.scheme v.path) (canonical_path v)
plainly_writing web v p fair =
    let plain = plain_path v.scheme v.path in
    subst (IsWriting v.path plain) (ap (λ r. r ++ matching_or v.spelling v.path plain) (sym p.root)) (matching_writing v.spelling v.path plain fair p.writing)

-- and denotes the path, and is written the same again
plainly_written : (web : Bool) (v : Location) → IsPlainly web v → HasFairSpelling v → WritesPath web v
plainly_written web v p fair =
    let plain = plain_path v.scheme v.path in
    let t = canonical_path v in
    let w : IsWriting v.path plain t = plainly_writing web v p fair in
    record {
      starts = starts_alike web t v.path w.front p.starts;
      escaped = w.escaped;
      decoded = subst IsUtf8 (sym w.decoded) p.text;
      denoted = ap (path_for v.scheme) w.decoded ∙ p.denoted;
      present = λ needed. some_alike t v.path w.front (p.present needed);
      again = ap (λ r. r ++ matching_or (retained_spelling t) v.path plain) p.root ∙ retained_again v.path plain t w;
      fair = retained_fair v.path plain t w;
    }

-- ---- HTTP

-- the facts about its path that follow from the scheme of a location of HTTP
record HasWebPaths (scheme : Scheme) : Type 0 where
  plain : (path : List ℕ) → plain_path scheme path ≡ percent_encode PATH path
  denoted : (path : List ℕ) → path_for scheme path ≡ or_root path
  required : requires_path scheme ≡ false

-- both schemes of HTTP say the same of it
web_paths : (v : Location) → IsWeb v → HasWebPaths v.scheme
web_paths v (inl e) = subst HasWebPaths (sym e) record { plain = λ path. refl; denoted = λ path. refl; required = refl }
web_paths v (inr e) = subst HasWebPaths (sym e) record { plain = λ path. refl; denoted = λ path. refl; required = refl }

-- a path that begins by a byte isn't made the root
root_kept : (test : ℕ → Bool) (path : List ℕ) → begins_by test path ≡ true → or_root path ≡ path
root_kept test [] begins = absurd (false≢true begins)
root_kept test (b ∷ path) begins = refl

-- a path of HTTP starts with an ASCII byte
pub start_ascii : (b : ℕ) → is_path_start true b ≡ true → b < 128
start_ascii b start = grind (arith, nat_tests)

-- and with one that isn't escaped
start_kept : (b : ℕ) → is_path_start true b ≡ true → is_path_escaped b ≡ false
start_kept b start = grind (arith, nat_tests)

-- the first byte of a path of HTTP isn't escaped
web_front : (path : List ℕ) → begins_by (is_path_start true) path ≡ true → first_byte (percent_encode PATH path) ≡ first_byte path
web_front path h1 = grind (arith, nat_tests, false≢true, start_ascii, encode_byte_kept, path_holds, start_kept)

-- an escaped path of HTTP is a writing of it
web_writing : (path : List ℕ) → begins_by (is_path_start true) path ≡ true → IsUtf8 path → IsWriting path (percent_encode PATH path) (percent_encode PATH path)
web_writing path begins text = record {
  escaped = record { text = utf8_encode PATH path; sound = encode_sound PATH path refl; no_white_space = white_space_path path };
  front = web_front path begins;
  decoded = decode_encode_utf8 PATH path refl text;
  unescaped = λ none. refl;
}

-- so the plain path of a location of HTTP is one
plain_writing : (v : Location) → IsWeb v → begins_by (is_path_start true) v.path ≡ true → IsUtf8 v.path → IsWriting v.path (plain_path v.scheme v.path) (plain_path v.scheme v.path)
plain_writing v web begins text = subst (λ p. IsWriting v.path p p) (sym ((web_paths v web).plain v.path)) (web_writing v.path begins text)

-- a spelling is fair if it is the writing of the path of a settled location of HTTP, and isn't the path
pub written_fair : (v : Location) → IsWeb v → begins_by (is_path_start true) v.path ≡ true → HasUrlPath v → (s : List ℕ) → matching_or v.spelling v.path (plain_path v.scheme v.path) ≡ s → ¬ (s ≡ v.path) → IsFairSpelling s v.path
written_fair v web begins url s same other =
    let plain = plain_path v.scheme v.path in
    let w : IsWriting v.path plain s = subst (IsWriting v.path plain) same (matching_writing v.spelling v.path plain url.spelling (λ none. plain_writing v web begins url.path_text)) in
    elim (cases_Bool (has_percent s)) [
      | inl holds ↦ writing_fair v.path plain s w holds
      | inr lacks ↦ absurd (other (sym (decode_kept s lacks) ∙ w.decoded))
    ]

-- a path of a location of HTTP is written as it is, or as one of its spellings
web_plainly : (v : Location) → IsWeb v → begins_by (is_path_start true) v.path ≡ true → HasUrlPath v → IsPlainly true v
web_plainly v web begins url =
    let facts = web_paths v web in record {
      root = cond-false _ _ _ (and_left _ _ facts.required);
      starts = inr begins;
      text = url.path_text;
      denoted = facts.denoted v.path ∙ root_kept (is_path_start true) v.path begins;
      present = λ needed. absurd (both_ways _ facts.required needed);
      writing = λ none. plain_writing v web begins url.path_text;
    }

-- the text that is written of it is a writing of it
pub web_path_writing : (v : Location) → IsWeb v → begins_by (is_path_start true) v.path ≡ true → HasUrlPath v → IsWriting v.path (plain_path v.scheme v.path) (canonical_path v)
web_path_writing v web begins url = plainly_writing true v (web_plainly v web begins url) url.spelling

-- the written path of a settled location of HTTP denotes its path, and is written the same again
pub web_path_written : (v : Location) → IsWeb v → begins_by (is_path_start true) v.path ≡ true → HasUrlPath v → WritesPath true v
web_path_written v web begins url = plainly_written true v (web_plainly v web begins url) url.spelling

-- ---- raw paths

-- a path with neither `%` nor white space is a writing of itself
raw_writing : (path : List ℕ) → IsUtf8 path → (has_percent path ≡ false) × LacksWhiteSpace path → IsWriting path path path
raw_writing path text raw = record {
  escaped = record { text = text; sound = sound_free path raw.0; no_white_space = raw.1 };
  front = refl;
  decoded = decode_kept path raw.0;
  unescaped = λ none. refl;
}

-- a writing denotes its path, so if its spelling doesn't match, the path is raw
raw_by : (b : Bool) (path t : List ℕ) → has_percent t ≡ b → IsWriting path path t → ¬ Matches (if b then Some t else None) path → (has_percent path ≡ false) × LacksWhiteSpace path
raw_by true path t holds w none = absurd (none (t, refl, w.decoded))
raw_by false path t lacks w none =
    let same : t ≡ path = w.unescaped lacks in
    (sym (ap has_percent same) ∙ lacks, subst LacksWhiteSpace same w.escaped.no_white_space)

-- the path is raw if the retained spelling of its writing doesn't match it
raw_again : (path t : List ℕ) → IsWriting path path t → ¬ Matches (retained_spelling t) path → (has_percent path ≡ false) × LacksWhiteSpace path
raw_again path t w none = raw_by (has_percent t) path t refl w none

-- the conditions on a path that is written raw, or as one of its spellings
record IsRawly (v : Location) : Type 0 where
  root : root_part v ≡ []
  starts : StartsPath false v.path
  denoted : path_for v.scheme v.path ≡ v.path
  present : requires_path v.scheme ≡ true → 0 < length v.path
  plain : plain_path v.scheme v.path ≡ v.path

-- a path that is written raw is one that is written as it is
rawly_plainly : (v : Location) → IsRawly v → HasUrlPath v → IsRawPath v → IsPlainly false v
rawly_plainly v r url raw = record {
  root = r.root;
  starts = r.starts;
  text = url.path_text;
  denoted = r.denoted;
  present = r.present;
  writing = λ none. subst (λ p. IsWriting v.path p p) (sym r.plain) (raw_writing v.path url.path_text (raw none));
}

-- such a path is written so that it denotes the path, the same again, and raw again
rawly_written : (v : Location) → IsRawly v → HasUrlPath v → IsRawPath v → WritesPath false v × IsRawPath (as_read v)
rawly_written v r url raw =
    let p = rawly_plainly v r url raw in
    let w : IsWriting v.path v.path (canonical_path v) = subst (λ x. IsWriting v.path x (canonical_path v)) r.plain (plainly_writing false v p url.spelling) in
    (plainly_written false v p url.spelling, λ none. raw_again v.path (canonical_path v) w none)

-- ---- other schemes

-- an empty or a rooted path starts as one may
other_starts : (path : List ℕ) → IsRootedOrEmpty path → StartsPath false path
other_starts path h1 = grind (arith, nat_tests)

-- the written path of a settled URL of another scheme denotes its path, and is written the same again
pub other_path_written : (v : Location) (name : List ℕ) → v.scheme ≡ helper_url name → IsRootedOrEmpty v.path → HasUrlPath v → IsRawPath v → WritesPath false v × IsRawPath (as_read v)
other_path_written v name e rooted url raw = rawly_written v record {
  root = cond-false _ _ _ (and_left _ _ (ap requires_path e));
  starts = other_starts v.path rooted;
  denoted = ap (λ p. path_for p v.path) e;
  present = λ needed. absurd (both_ways _ (ap requires_path e) needed);
  plain = ap (λ p. plain_path p v.path) e;
} url raw

-- ---- Secure Shell and Git's own protocol

-- the facts about a path that may be below a home folder that follow from the scheme
record HasHomes (scheme : Scheme) : Type 0 where
  roots : requires_path scheme ≡ true
  plain : (path : List ℕ) → plain_path scheme path ≡ path
  denoted : (path : List ℕ) → path_for scheme path ≡ from_home path

-- both schemes say the same of it
homes : (v : Location) → (v.scheme ≡ ssh) ⊎ (v.scheme ≡ git) → HasHomes v.scheme
homes v (inl e) = subst HasHomes (sym e) record { roots = refl; plain = λ path. refl; denoted = λ path. refl }
homes v (inr e) = subst HasHomes (sym e) record { roots = refl; plain = λ path. refl; denoted = λ path. refl }

-- a rooted path isn't empty
some_rooted : (path : List ℕ) → begins_with slash path ≡ true → 0 < length path
some_rooted [] begins = absurd (false≢true begins)
some_rooted (b ∷ path) begins = omega arith

-- a rooted path that isn't below a home folder is written as it is, or as one of its spellings
rooted_rawly : (v : Location) → HasHomes v.scheme → begins_with slash v.path ≡ true → begins_at_home v.path ≡ false → IsRawly v
rooted_rawly v facts begins other = record {
  root = cond-false _ _ _ (and_right _ _ (not_from_true _ begins));
  starts = other_starts v.path (inr begins);
  denoted = facts.denoted v.path ∙ home_kept v.path other;
  present = λ needed. some_rooted v.path begins;
  plain = facts.plain v.path;
}

-- ---- paths below a home folder

-- a path that begins with `~` isn't rooted
home_unrooted : (path : List ℕ) → begins_with tilde path ≡ true → not (begins_with slash path) ≡ true
home_unrooted [] begins = absurd (false≢true begins)
home_unrooted (b ∷ path) begins = grind (arith, nat_tests)

-- the `/` before a path below a home folder is taken off again
home_denoted : (path : List ℕ) → begins_with tilde path ≡ true → from_home (slash ∷ path) ≡ path
home_denoted [] begins = absurd (false≢true begins)
home_denoted (b ∷ path) begins = cond-true _ _ _ begins

-- a raw path after a `/`
home_piece : (path : List ℕ) → IsUtf8 path → (has_percent path ≡ false) × LacksWhiteSpace path → IsEscapedPiece (slash ∷ path)
home_piece path text raw =
    let byte = utf8_byte slash (omega arith) in
    record {
      text = IsUtf8-append (slash ∷ []) path byte text;
      sound = sound_kept slash path refl ∙ sound_free path raw.0;
      no_white_space = white_space-append (slash ∷ []) path byte (white_space_byte slash (omega arith) refl) raw.1;
    }

-- a raw path below a home folder
record IsRawHome (v : Location) : Type 0 where
  home : begins_with tilde v.path ≡ true
  none : ¬ HasMatch v
  text : IsUtf8 v.path
  raw : (has_percent v.path ≡ false) × LacksWhiteSpace v.path

-- with no spelling it is written after a `/`
home_unspelled : (v : Location) → HasHomes v.scheme → IsRawHome v → root_part v ++ plain_path v.scheme v.path ≡ slash ∷ v.path
home_unspelled v h1 h2 = grind (arith, nat_tests, cond-true, and_from, home_unrooted)

-- and so it is with one that doesn't match
home_whole : (v : Location) → HasHomes v.scheme → IsRawHome v → canonical_path v ≡ slash ∷ v.path
home_whole v facts h =
    ap (λ p. root_part v ++ p) (unmatched v.spelling v.path (plain_path v.scheme v.path) h.none) ∙ home_unspelled v facts h

-- no spelling is retained of it
home_none : (v : Location) → HasHomes v.scheme → IsRawHome v → retained_spelling (canonical_path v) ≡ None
home_none v facts h = ap retained_spelling (home_whole v facts h) ∙ cond-false _ _ _ h.raw.0

-- it denotes the path, and is written the same again
home_written : (v : Location) → HasHomes v.scheme → IsRawHome v → WritesPath false v
home_written v facts h =
    let whole = home_whole v facts h in
    let none = home_none v facts h in
    let denoted : percent_decode (canonical_path v) ≡ slash ∷ v.path = ap percent_decode whole ∙ decode_kept (slash ∷ v.path) h.raw.0 in
    let piece = home_piece v.path h.text h.raw in
    record {
      starts = inr (ap (begins_by (is_path_start false)) whole);
      escaped = subst IsEscapedPiece (sym whole) piece;
      decoded = subst IsUtf8 (sym denoted) piece.text;
      denoted = ap (path_for v.scheme) denoted ∙ facts.denoted (slash ∷ v.path) ∙ home_denoted v.path h.home;
      present = λ needed. subst (λ t. 0 < length t) (sym whole) (omega arith);
      again = ap (λ o. root_part v ++ matching_or o v.path (plain_path v.scheme v.path)) none ∙ home_unspelled v facts h ∙ sym whole;
      fair = λ s is same. absurd (none-some s (sym none ∙ is));
    }

-- by the place of the path
transport_by : (v : Location) → HasHomes v.scheme → IsTransportPath v → HasUrlPath v → IsRawPath v → WritesPath false v × IsTransportPath (as_read v) × IsRawPath (as_read v)
transport_by v facts (inl rooted) url raw =
    let both = rawly_written v (rooted_rawly v facts rooted.0 rooted.1) url raw in
    (both.0, inl rooted, both.1)
transport_by v facts (inr home) url raw =
    let all = raw home.1 in
    let h : IsRawHome v = record { home = home.0; none = home.1; text = url.path_text; raw = all } in
    (home_written v facts h, inr (home.0, λ (s, is, same). none-some s (sym (home_none v facts h) ∙ is)), λ none. all)

-- the written path of a settled URL of Secure Shell or of Git's own
-- protocol denotes its path, and is written the same again
pub transport_path_written : (v : Location) → (v.scheme ≡ ssh) ⊎ (v.scheme ≡ git) → IsTransportPath v → HasUrlPath v → IsRawPath v → WritesPath false v × IsTransportPath (as_read v) × IsRawPath (as_read v)
transport_path_written v transport path url raw = transport_by v (homes v transport) path url raw
