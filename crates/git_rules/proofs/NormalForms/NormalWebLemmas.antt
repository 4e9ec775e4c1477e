-- The text of a location of HTTP in whose text all readers agree
-- has the location's own place as its normal form.
use Rattle.std.proofs.Common.{◌≡◌, ◌≢◌, ◌∙◌, ◌<◌, ◌∷◌, ◌++◌, ℕ, Bool, true, false, ◌==◌, List, [], length, refl, sym, ap, subst, arith, ◌⊎◌, inl, inr, ⊎_elim, Option, Some, None, Result, Ok, Err, decimal}
use Rattle.std.specs.Prelude.{IfSome}
use Rattle.std.specs.List.{list_all}
use Rattle.std.specs.Char.{is_ascii_lowercase, is_ascii_digit}
use Rattle.std.proofs.lemmas.Bool.{and_from, false≢true, eqb-true, cases_Bool}
use Rattle.std.proofs.lemmas.Bool.Decides.{nat_tests}
use Rattle.std.proofs.lemmas.List.{append-nil, append_assoc, length-append, map-append}
use Rattle.std.proofs.lemmas.List.Folds.{list_all-append}
use Rattle.percent_encoding.specs.Percent.{percent_encode}
use Rattle.git_syntax.specs.declared.escape.TheConstants.{USER, PASSWORD}
use Rattle.git_syntax.specs.Location.{Location}
use Rattle.git_syntax.specs.Bytes.{colon, dot, at_sign, left_bracket, right_bracket, percent_sign, FreeOf, IsLowercase, lowercase, begins_by}
use Rattle.std.specs.Char.{to_ascii_lowercase}
use Rattle.git_syntax.specs.Escapes.{is_sound}
use Rattle.git_syntax.specs.Hosts.HostSyntax.{http_hosts}
use Rattle.git_syntax.specs.Schemes.{scheme_text}
use Rattle.git_syntax.specs.Hosts.{port_part}
use Rattle.git_syntax.proofs.Texts.CutLemmas.{tails, all_weaker, free-append, free-cons, free_of_all, not_free}
use Rattle.git_syntax.proofs.Texts.EscapeLemmas.{encode_sound, sound-append, sound_kept}
use Rattle.git_syntax.proofs.Texts.EscapeSets.{password_holds, user_holds}
use Rattle.git_syntax.proofs.Addresses.AddressLemmas.{is_address_byte, address_bytes}
use Rattle.git_syntax.proofs.Parsing.HostLemmas.{decimal_digits, number_written}
use Rattle.git_location.specs.declared.write_error.WriteFault.{WriteFault}
use Rattle.git_location.specs.Text.{user_information, canonical_path, canonical_text, text}
use Rattle.git_location.specs.Settled.{IsValue, IsWeb, IsBracketedAddress}
use Rattle.git_class.specs.WebClass.{IsUnambiguousHost, is_plain_host_byte, AgreesOverWeb}
use Rattle.git_location.proofs.SettledClass.SettledLemmas.{settled_as_web}
use Rattle.git_class.proofs.Classes.WebClassLemmas.{url_host_form, plain_lowercase}
use Rattle.git_laws.proofs.Writing.PieceTextLemmas.{user_piece, password_piece, user_no_colon}
use Rattle.git_laws.proofs.Writing.WrittenPathLemmas.{starts_alike, web_path_writing}
use Rattle.git_laws.proofs.Writing.WrittenUrlLemmas.{authority_text, canonical_cut}
use Rattle.git_laws.proofs.GitReadings.WebTextLemmas.{web_authority, web_scheme, web_text}
use Rattle.git_rules.specs.Normal.{NormalPlace, CutsPort, HostFor, HostPort, IsUserOf, NormalAuthority, UrlCut, IsNormalOf, is_host_byte, lacks_host}
use Rattle.git_rules.specs.NormalLaws.{IsOwnPlace, own_port, own_user}
use Rattle.git_rules.proofs.NormalForms.NormalUnique.{authority_unique, url_cut_unique}

-- ---- user information

-- the user information of a user, and perhaps of a password
written_info : List ℕ → Option (List ℕ) → List ℕ
written_info user None = percent_encode USER user
written_info user (Some password) = percent_encode USER user ++ colon ∷ percent_encode PASSWORD password

info_joined : (user : List ℕ) (password : Option (List ℕ)) (named : List ℕ) → user_information (Some user) password ++ named ≡ written_info user password ++ at_sign ∷ named
unfolding written_info
info_joined u None named = append_assoc (percent_encode USER u) (at_sign ∷ []) named
info_joined u (Some p) named =
    let name = percent_encode USER u in
    let secret = colon ∷ percent_encode PASSWORD p in
    ap (λ t. t ++ named) (sym (append_assoc name secret (at_sign ∷ []))) ∙ append_assoc (name ++ secret) (at_sign ∷ []) named

info_free : (user : List ℕ) (password : Option (List ℕ)) → FreeOf at_sign (written_info user password)
unfolding written_info
info_free u None = (user_piece u).no_at
info_free u (Some p) = free-append at_sign (percent_encode USER u) (colon ∷ percent_encode PASSWORD p) (user_piece u).no_at (free-cons at_sign colon (percent_encode PASSWORD p) refl (password_piece p).no_at)

user_sound : (user : List ℕ) → is_sound (percent_encode USER user) ≡ true
user_sound u = encode_sound USER u (user_holds percent_sign (omega arith))

info_sound : (user : List ℕ) (password : Option (List ℕ)) → is_sound (written_info user password) ≡ true
unfolding written_info
info_sound u None = user_sound u
info_sound u (Some p) =
    let secret = sound_kept colon (percent_encode PASSWORD p) refl ∙ encode_sound PASSWORD p (password_holds percent_sign (omega arith)) in
    sound-append (percent_encode USER u) (colon ∷ percent_encode PASSWORD p) (user_sound u) secret

info_user : (user : List ℕ) (password : Option (List ℕ)) → IsUserOf (written_info user password) (percent_encode USER user)
unfolding written_info
info_user u None = inl (user_no_colon u, refl)
info_user u (Some p) = inr (percent_encode PASSWORD p, user_no_colon u, refl)

-- the authority of user information before a host and a port
authority_own : (globs : Bool) (scheme : List ℕ) (user password : Option (List ℕ)) (named host : List ℕ) (port : Option ℕ) → FreeOf at_sign named → HostPort globs scheme named host port → NormalAuthority globs scheme (user_information user password ++ named) (own_user user) host port
authority_own globs scheme None password named host port free h = NormalAuthority.alone free refl h
authority_own globs scheme (Some u) password named host port free h =
    NormalAuthority.with_user (written_info u password) named (percent_encode USER u) (info_free u password) (info_joined u password named) (info_sound u password) (info_user u password) refl h

-- ---- hosts

-- a host that is its own normal form, with a port after it or without
record IsOwnHost (globs : Bool) (host : List ℕ) : Type 0 where
  bytes : list_all (is_host_byte globs) host ≡ true
  lower : IsLowercase host
  there : (suffix : List ℕ) → lacks_host (host ++ suffix) ≡ false
  ends : CutsPort host host []

-- a text that begins with a plain byte has a host
pub plain_there : (host suffix : List ℕ) → 0 < length host → list_all is_plain_host_byte host ≡ true → lacks_host (host ++ suffix) ≡ false
plain_there [] suffix some h = absurd (omega (arith, some))
plain_there (b ∷ bs) suffix some h = grind (arith, nat_tests)

plain_byte : (globs : Bool) (b : ℕ) → is_plain_host_byte b ≡ true → is_host_byte globs b ≡ true
plain_byte globs b h = grind (arith, nat_tests)

plain_own : (globs : Bool) (host : List ℕ) → 0 < length host → list_all is_plain_host_byte host ≡ true → IsOwnHost globs host
plain_own globs host some h = record {
  bytes = all_weaker is_plain_host_byte (is_host_byte globs) (plain_byte globs) host h;
  lower = plain_lowercase host h;
  there = λ suffix. plain_there host suffix some h;
  ends = CutsPort.no_colon (free_of_all is_plain_host_byte colon host h refl) refl refl;
}

-- a bracket that ends a text follows each colon in it
bracket_after : (x y z : List ℕ) → x ++ colon ∷ y ≡ z ++ right_bracket ∷ [] → FreeOf right_bracket (colon ∷ y) → ⊥
bracket_after [] y z e free = not_free right_bracket z [] (subst (λ t. FreeOf right_bracket t) e free)
bracket_after (d ∷ x) y [] e free = let long = ap length (tails e) in let more = length-append x (colon ∷ y) in omega (arith, long, more)
bracket_after (d ∷ x) y (c ∷ z) e free = bracket_after x y z (tails e) free

-- the last colon of a text, if it has one
last_colon : (text : List ℕ) → FreeOf colon text ⊎ ((x : List ℕ) × (y : List ℕ) × FreeOf colon y × (text ≡ x ++ colon ∷ y))
last_colon [] = inl refl
last_colon (b ∷ bs) = elim (last_colon bs) [
  | inr (x, y, free, e) ↦ inr (b ∷ x, y, free, ap (λ t. b ∷ t) e)
  | inl free ↦ ⊎_elim (λ e. inr ([], bs, free, ap (λ c. c ∷ bs) (eqb-true b colon e))) (λ e. inl (free-cons colon b bs e free)) (cases_Bool (b == colon))
]

-- no port follows the last colon of a text that ends in a bracket
bracketed_ends : (host front : List ℕ) → host ≡ front ++ right_bracket ∷ [] → CutsPort host host []
bracketed_ends host front e = elim (last_colon host) [
  | inl free ↦ CutsPort.no_colon free refl refl
  | inr (x, y, free, joined) ↦ CutsPort.in_brackets x y joined free (λ none. bracket_after x y front (sym joined ∙ e) (free-cons right_bracket colon y refl none)) refl refl
]

address_byte : (globs : Bool) (b : ℕ) → is_address_byte b ≡ true → is_host_byte globs b ≡ true
address_byte globs b h = grind (arith, nat_tests)

bracket_bytes : (globs : Bool) (address : List ℕ) → list_all (is_host_byte globs) address ≡ true → list_all (is_host_byte globs) (left_bracket ∷ (address ++ right_bracket ∷ [])) ≡ true
bracket_bytes globs address h = list_all-append (is_host_byte globs) address (right_bracket ∷ []) ∙ and_from _ _ h refl

bracketed_own : (globs : Bool) (host : List ℕ) → IsBracketedAddress host → IsOwnHost globs host
bracketed_own globs host (address, normal, e) = record {
  bytes = ap (list_all (is_host_byte globs)) e ∙ bracket_bytes globs address (all_weaker is_address_byte (is_host_byte globs) (address_byte globs) address (address_bytes address normal.address));
  lower = subst (λ h. IsLowercase h) (sym e) (ap (λ t. left_bracket ∷ t) (map-append to_ascii_lowercase address (right_bracket ∷ []) ∙ ap (λ t. t ++ right_bracket ∷ []) normal.lower));
  there = λ suffix. ap (λ h. lacks_host (h ++ suffix)) e;
  ends = bracketed_ends host (left_bracket ∷ address) e;
}

-- a label that begins with a letter has a byte
label_there : (label : List ℕ) → begins_by is_ascii_lowercase label ≡ true → 0 < length label
label_there [] h = absurd (false≢true h)
label_there (b ∷ bs) h = omega arith

unambiguous_own : (globs : Bool) (host : List ℕ) → IsUnambiguousHost host → IsOwnHost globs host
unambiguous_own globs host (inl name) =
    let some = label_there name.label name.letter in
    let long : 0 < length host = ⊎_elim (λ h. omega (arith, ap length h.1, some)) (λ h. omega (arith, ap length h.2, length-append h.0 (dot ∷ name.label))) name.last in
    plain_own globs host long name.bytes
unambiguous_own globs host (inr (inl h)) =
    let long : 0 < length host = omega (arith, ap length h.joined, length-append h.first (dot ∷ (h.second ++ dot ∷ (h.third ++ dot ∷ h.fourth)))) in
    ⊎_elim (plain_own globs host long) (bracketed_own globs host) (url_host_form host (inr (inl h)))
unambiguous_own globs host (inr (inr h)) = bracketed_own globs host h

-- the host with its port is that host, and that port if it isn't the scheme's own
host_port_own : (globs : Bool) (scheme host : List ℕ) (port : Option ℕ) → IsOwnHost globs host → IfSome port (λ p. p < 65536) → port ≢ Some 0 → HostPort globs scheme (host ++ port_part port) host (own_port scheme port)
host_port_own globs scheme host None own small other = record {
  name = host;
  digits = [];
  cut = subst (λ t. CutsPort t host []) (sym (append-nil host)) own.ends;
  bytes = own.bytes;
  host_form = HostFor.named (own.there []) (sym own.lower);
  port_form = inl (refl, refl);
}
host_port_own globs scheme host (Some p) own small other =
    let digits = (decimal_digits p small).1 in record {
      name = host;
      digits = decimal p;
      cut = CutsPort.at_colon refl (free_of_all is_ascii_digit colon (decimal p) digits refl) (free_of_all is_ascii_digit right_bracket (decimal p) digits refl);
      bytes = own.bytes;
      host_form = HostFor.named (own.there (colon ∷ decimal p)) (sym own.lower);
      port_form = inr (p, number_written http_hosts p small (grind arith), refl);
    }

-- ---- the text

written_text : Result (List ℕ) WriteFault → List ℕ
written_text (Ok t) = t
written_text (Err fault) = []

same_text : (t s : List ℕ) (r : Result (List ℕ) WriteFault) → r ≡ Ok t → r ≡ Ok s → t ≡ s
unfolding written_text
same_text t s r one two = ap written_text (sym one ∙ two)

-- the text of a location of the class has its place
pub place_kept : (globs : Bool) (v : Location) (t : List ℕ) (n : NormalPlace) → IsWeb v → IsValue v → AgreesOverWeb v → text v ≡ Ok t → IsNormalOf globs t n → IsOwnPlace v n
place_kept globs v t n web is a written h =
    let (host, there, unambiguous) = a.host in
    let w = settled_as_web v web a.settled in
    let scheme = scheme_text v.scheme in
    let authority = web_authority v host web is a there in
    let path = web_path_writing v web w.path w.common.path in
    let cut : UrlCut t scheme (authority_text v) (canonical_path v) = record {
      joined = same_text t (canonical_text v) (text v) written (web_text v web a) ∙ canonical_cut v;
      scheme_text = (web_scheme v web).text;
      before_path = authority.before_path;
      path_starts = starts_alike true (canonical_path v) v.path path.front (inr w.path);
    } in
    let same = url_cut_unique t h.scheme scheme h.authority (authority_text v) h.suffix (canonical_path v) h.cut cut in
    let lower : lowercase h.scheme ≡ scheme = ap lowercase same.0 ∙ (web_scheme v web).lower in
    let text_is : h.authority ≡ user_information v.user v.password ++ (host ++ port_part v.port) = same.1 ∙ authority.written in
    let own = authority_own globs scheme v.user v.password (host ++ port_part v.port) host (own_port scheme v.port) authority.no_at (host_port_own globs scheme host v.port (unambiguous_own globs host unambiguous) is.port w.port) in
    let read = subst (λ z. NormalAuthority globs scheme z n.user n.host n.port) text_is (subst (λ z. NormalAuthority globs z h.authority n.user n.host n.port) lower h.authority_form) in
    let parts = authority_unique globs scheme (user_information v.user v.password ++ (host ++ port_part v.port)) n.user (own_user v.user) n.host host n.port (own_port scheme v.port) read own in
    record {
      scheme = h.scheme_form ∙ lower;
      user = parts.0;
      host = there ∙ ap (λ x. Some x) (sym parts.1);
      port = parts.2;
    }
