-- The place that a pattern picks for the text of a location of the class
-- goes to the pattern's own scheme, host and port.
use Rattle.std.proofs.Common.{◌≡◌, ℕ, ◌<◌, ◌⊎◌, inl, inr, List, [], length, refl, sym, ap, subst, ◌∙◌, arith, append_assoc, Bool, true, false, ◌==◌, ◌||◌, Option, Some, None, codes, unwrap_or, option_map, decimal, if◌then◌else◌, IfSome, ◌++◌, ◌∷◌}
use Rattle.std.proofs.lemmas.Bool.{both_ways, cases_Bool, eqb-true}
use Rattle.std.specs.Char.{is_ascii_digit, is_ascii_lowercase}
use Rattle.git_syntax.specs.Location.{Location}
use Rattle.git_syntax.specs.Addresses.{IsIpv4Text}
use Rattle.git_syntax.specs.Bytes.{dot, left_bracket, right_bracket, FreeOf, begins_by}
use Rattle.git_syntax.specs.Hosts.HostSyntax.{git_hosts}
use Rattle.git_syntax.specs.Schemes.{scheme_text}
use Rattle.git_syntax.proofs.Parsing.HostLemmas.{number_written}
use Rattle.git_syntax.proofs.Texts.CutLemmas.{different_bytes, free_of_all, not_free}
use Rattle.git_location.specs.Settled.{IsBracketedAddress, IsWeb}
use Rattle.git_class.specs.GitClass.{AgreesBy, AgreesWithGit}
use Rattle.git_class.specs.WebClass.{AgreesOverWeb, IsLastLabel, IsUnambiguousHost}
use Rattle.git_laws.specs.GitWeb.{UriReading, ReadsOwnOverWeb, own_credential}
use Rattle.git_laws.specs.GitClass.{ReadsOwn, ReadsOwnBy}
use Rattle.git_laws.proofs.GitReadings.GitLemmas.{read_same}
use Rattle.git_laws.proofs.GitReadings.WebUriUniqueLemmas.{one_uri}
use Rattle.git_reads.proofs.Reading.CredentialUniqueLemmas.{one_credential}
use Rattle.git_rules.specs.Normal.{asterisk, NormalPlace, PortFor, is_own_port}
use Rattle.git_rules.specs.Patterns.{Matches, MatchesHost}
use Rattle.git_rules.specs.PatternLaws.{IsOwnOf, AsksForOwn, ConnectsToOwn, PickedGoesToOwn, reached_port}
use Rattle.git_rules.proofs.Matched.HostLemmas.{own_host}
use Rattle.git_rules.proofs.Matched.PlaceLemmas.{SamePlace, end_held, place_same}

-- of HTTP two readers read the location's own
web_read : (v : Location) (t : List ℕ) → IsWeb v → ReadsOwn t v → ReadsOwnOverWeb t v
web_read v t (inl is) h = subst (λ s. ReadsOwnBy s t v) is h
web_read v t (inr is) h = subst (λ s. ReadsOwnBy s t v) is h

-- a scheme of HTTP
abbrev pub IsWebText : List ℕ → Type 0
IsWebText scheme = (scheme ≡ codes "http") ⊎ (scheme ≡ codes "https")

-- the location's own is one
web_text : (v : Location) → IsWeb v → IsWebText (scheme_text v.scheme)
web_text v (inl is) = inl (ap scheme_text is)
web_text v (inr is) = inr (ap scheme_text is)

-- it isn't that of files
no_file : (scheme : List ℕ) → IsWebText scheme → ¬ (scheme ≡ codes "file")
no_file scheme (inl is) e = different_bytes 104 102 refl (sym is ∙ e)
no_file scheme (inr is) e = different_bytes 104 102 refl (sym is ∙ e)

-- a fact that holds or never does holds
or_left : (b : Bool) → (b || false) ≡ true → b ≡ true
or_left true h = refl
or_left false h = h

-- a scheme's own port is reached if none is there
own_reached : (scheme : List ℕ) (port : ℕ) → IsWebText scheme → is_own_port scheme port ≡ true → Some port ≡ reached_port scheme None
own_reached scheme port (inl is) own =
    let eighty : (port == 80) ≡ true = or_left (port == 80) (subst (λ s. is_own_port s port ≡ true) is own) in
    ap Some (eqb-true port 80 eighty) ∙ sym (ap (λ s. reached_port s None) is)
own_reached scheme port (inr is) own =
    let other : (port == 443) ≡ true = subst (λ s. is_own_port s port ≡ true) is own in
    ap Some (eqb-true port 443 other) ∙ sym (ap (λ s. reached_port s None) is)

-- the port of the normal form is reached as the one that is there
normal_reached : (scheme : List ℕ) (port : ℕ) → IsWebText scheme → reached_port scheme (Some port) ≡ reached_port scheme (if is_own_port scheme port then None else Some port)
normal_reached scheme port web =
    elim (cases_Bool (is_own_port scheme port)) [
      | inl own ↦ rw own (own_reached scheme port web own)
      | inr other ↦ rw other refl
    ]

-- the digits of a port are read as the same
port_same : (scheme : List ℕ) (own number : Option ℕ) → IsWebText scheme → IfSome own (λ p. p < 65536) → PortFor scheme (unwrap_or (option_map decimal own) []) number → reached_port scheme own ≡ reached_port scheme number
port_same scheme None number web within (inl (empty, none)) = sym (ap (reached_port scheme) none)
port_same scheme None number web within (inr (p, is, there)) = absurd (omega (arith, is.digits.0))
port_same scheme (Some port) number web within (inl (empty, none)) =
    absurd (omega (arith, (number_written git_hosts port within tt).digits.0, ap length empty))
port_same scheme (Some port) number web within (inr (p, is, there)) =
    let same : p ≡ port = is.value ∙ sym (number_written git_hosts port within tt).value in
    normal_reached scheme port web ∙ sym (ap (reached_port scheme) (there ∙ ap (λ q. if is_own_port scheme q then None else Some q) same))

-- ---- hosts of the class

-- a text has no `.` at its end if another one without it is there
end_apart : (front name z : List ℕ) → FreeOf dot z → 0 < length z → ¬ (name ++ z ≡ front ++ dot ∷ [])
end_apart front name z free some e = end_held dot front name z free some (sym e)

-- no plain name ends in a `.`
plain_end : (host front : List ℕ) (label : List ℕ) → IsLastLabel host label → begins_by is_ascii_lowercase label ≡ true → ¬ (host ≡ front ++ dot ∷ [])
plain_end host front [] last begins e = absurd (both_ways false refl begins)
plain_end host front (b ∷ label) (inl (free, same)) begins e = not_free dot front [] (subst (FreeOf dot) e free)
plain_end host front (b ∷ label) (inr (before, free, joined)) begins e =
    end_apart front (before ++ dot ∷ []) (b ∷ label) free (omega arith) (append_assoc before (dot ∷ []) (b ∷ label) ∙ sym joined ∙ e)

-- nor does an IPv4 address
ipv4_end : (host front : List ℕ) → IsIpv4Text host → ¬ (host ≡ front ++ dot ∷ [])
ipv4_end host front h e =
    let octet = h.octets.3 in
    let number = number_written git_hosts octet.0 (omega (arith, octet.1)) tt in
    let free : FreeOf dot h.fourth = subst (FreeOf dot) (sym octet.2) (free_of_all is_ascii_digit dot (decimal octet.0) number.digits.1 refl) in
    let some : 0 < length h.fourth = subst (λ t. 0 < length t) (sym octet.2) number.digits.0 in
    end_apart front (h.first ++ dot ∷ (h.second ++ dot ∷ (h.third ++ dot ∷ []))) h.fourth free some (simp append_assoc (sym h.joined ∙ e))

-- nor does a text that ends in a bracket
bracket_end : (host front : List ℕ) → IsBracketedAddress host → ¬ (host ≡ front ++ dot ∷ [])
bracket_end host front h e = end_apart front (left_bracket ∷ h.0) (right_bracket ∷ []) refl (omega arith) (sym h.2 ∙ e)

-- so no host of the class does
no_last_dot : (host front : List ℕ) → IsUnambiguousHost host → ¬ (host ≡ front ++ dot ∷ [])
no_last_dot host front (inl plain) = plain_end host front plain.label plain.last plain.letter
no_last_dot host front (inr (inl address)) = ipv4_end host front address
no_last_dot host front (inr (inr address)) = bracket_end host front address

-- a location of HTTP of the class
over_web : (v : Location) → IsWeb v → AgreesWithGit v → AgreesOverWeb v
over_web v (inl is) h = subst (λ s. AgreesBy s v) is h
over_web v (inr is) h = subst (λ s. AgreesBy s v) is h

-- its host has no `.` at its end
no_dot : (v : Location) (host front : List ℕ) → IsWeb v → AgreesWithGit v → v.host ≡ Some host → ¬ (host ≡ front ++ dot ∷ [])
no_dot v host front web agrees there =
    let own = (over_web v web agrees).host in
    let hosts : Some own.0 ≡ Some host = sym own.1 ∙ there in
    let same : own.0 ≡ host = cc in
    no_last_dot host front (subst IsUnambiguousHost same own.2)

-- the location's own scheme, host and port are the pattern's
own_of : (v : Location) (host : List ℕ) (r : UriReading) (place pattern : NormalPlace) → IsWeb v → IfSome v.port (λ p. p < 65536) → r.scheme ≡ scheme_text v.scheme → r.host ≡ host → r.port ≡ option_map decimal v.port → SamePlace r place → Matches pattern place → FreeOf asterisk pattern.host → ((front : List ℕ) → ¬ (host ≡ front ++ dot ∷ [])) → IsOwnOf pattern (scheme_text v.scheme) host v.port
own_of v host r place pattern web within scheme named digits same h free none =
    let own : place.scheme ≡ scheme_text v.scheme = same.scheme ∙ scheme in
    let ports : PortFor (scheme_text v.scheme) (unwrap_or (option_map decimal v.port) []) place.port = subst (λ d. PortFor (scheme_text v.scheme) (unwrap_or d []) place.port) digits (subst (λ s. PortFor s (unwrap_or r.port []) place.port) scheme same.port) in
    record {
      own_scheme = sym own ∙ h.scheme;
      own_host = own_host pattern.host host none free (subst (MatchesHost pattern.host) (same.host ∙ named) h.host);
      own_port = port_same (scheme_text v.scheme) v.port place.port (web_text v web) within ports ∙ ap (reached_port (scheme_text v.scheme)) h.port ∙ ap (λ s. reached_port s pattern.port) (sym own ∙ h.scheme);
    }

-- the request of a picked text goes to the pattern's own place
pub picked_own : PickedGoesToOwn
picked_own v t place pattern value web agrees has_text normal h free =
    let both : ReadsOwnOverWeb t v = web_read v t web ((read_same v value agrees).read t has_text) in
    let r = both.uri in
    let scheme : r.scheme ≡ scheme_text v.scheme = both.own.scheme in
    let other = no_file (scheme_text v.scheme) (web_text v web) in
    let same = place_same t r place both.reads both.normal (λ e. other (sym scheme ∙ e)) normal in
    let hosts : Some r.host ≡ Some both.host = sym both.own.host ∙ both.there in
    let named : r.host ≡ both.host = cc in
    let own = own_of v both.host r place pattern web value.port scheme named both.own.port same h free (λ front. no_dot v both.host front web agrees both.there) in
    record {
      asked = λ c reads.
          subst (AsksForOwn pattern) (one_credential t (own_credential v both.host) c both.credential reads) (record {
            host = both.host;
            port = v.port;
            joined = refl;
            own = own;
          });
      reached = λ u reads.
          subst (ConnectsToOwn pattern) (one_uri t r u both.reads reads) (record {
            port = v.port;
            digits = both.own.port;
            own = subst (λ s. IsOwnOf pattern s r.host v.port) (sym scheme) (subst (λ n. IsOwnOf pattern (scheme_text v.scheme) n v.port) (sym named) own);
          });
    }
