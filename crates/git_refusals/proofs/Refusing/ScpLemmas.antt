-- The scp form: the flaws that its checks find, and the host that it denotes if they find nothing.
use Rattle.std.proofs.Common.{◌≡◌, ℕ, ◌+◌, ◌<◌, true, false, ◌==◌, ◌⊎◌, inl, inr, List, [], ◌∷◌, ◌++◌, length, Option, Some, None, refl, sym, ap, subst, ◌∙◌, arith, length-append, IsUtf8}
use Rattle.std.proofs.lemmas.Bool.{both_ways, cases_Bool, false≢true}
use Rattle.std.specs.List.{list_all}
use Rattle.std.specs.Char.{is_whitespace}
use Rattle.git_syntax.specs.Addresses.{IsIpv6Text, IsZone, is_zone_byte}
use Rattle.git_syntax.specs.AddressTest.{is_ipv6_text}
use Rattle.git_syntax.specs.Bytes.{percent_sign, colon, at_sign, left_bracket, backslash, right_bracket, FreeOf, LacksWhiteSpace, begins_with, lowercase}
use Rattle.git_syntax.specs.Escapes.{escaped_percents}
use Rattle.git_syntax.specs.Hosts.{IsLiteral}
use Rattle.git_syntax.specs.Grammar.{AddressedForm, ScpUser, scp_location}
use Rattle.git_syntax.specs.Internal.Forms.{PlainScp}
use Rattle.git_syntax.specs.Internal.ScpPieces.{ColonsInside}
use Rattle.git_syntax.proofs.Texts.CutLemmas.{free_or_cut}
use Rattle.git_syntax.proofs.Texts.EscapeLemmas.{escaped_percents_kept}
use Rattle.git_syntax.proofs.Addresses.AddressTestLemmas.{ipv6_text_from, ipv6_text_to}
use Rattle.git_syntax.proofs.Parsing.HostLemmas.{literal_address, literal_alone, literal_zoned, some_tested}
use Rattle.git_syntax.proofs.Parsing.ScpLemmas.{colons_found, inner_kept, literal_found, name_found, scp_host_found, zone_cut, zone_found, zone_parts, zone_unescaped}
use Rattle.git_refusals.specs.declared.place.Place.{Place}
use Rattle.git_refusals.specs.declared.reason.Reason.TheVariants as reason
use Rattle.git_refusals.specs.Reasons.{Then, HasCharacter, HasBackslash, NoScpHost, BadScpName, BadScpHost, BadFront, BadScp, BadAddressed}
use Rattle.git_refusals.specs.Internal.Readable.{Checks, IsAddressedScp, IsScp, IsScpFront, NamesScpHost, DenotesScpHost}
use Rattle.git_refusals.proofs.Refusing.PassLemmas.{found_second, text_passes, character_passes, backslash_passes, scp_path_passes, scp_host_passes}

-- ---- the name of a host

-- a host without a colon and without a bracket in front names one
pub name_read : (host : List ℕ) → 0 < length host → begins_with left_bracket host ≡ false → IsUtf8 host → FreeOf colon host → Checks host (BadScpName host) (NamesScpHost host) None
name_read host some open_front text free = record { found = (_, name_found host some open_front text free); within = tt }

-- so does one whose colons mark no port
pub colons_read : (host front suffix : List ℕ) → begins_with left_bracket host ≡ false → IsUtf8 host → ColonsInside host → host ≡ front ++ colon ∷ suffix → (true ≡ (length front == 0)) ⊎ (¬ FreeOf colon suffix) → Checks host (BadScpName host) (NamesScpHost host) None
colons_read host front suffix open_front text colons e many = record { found = (_, colons_found host front suffix open_front text colons e many); within = tt }

-- the text before a colon in a host without a bracket in front has none there either
front_open : (host front suffix : List ℕ) → begins_with left_bracket host ≡ false → host ≡ front ++ colon ∷ suffix → false ≡ (length front == 0) → begins_with left_bracket front ≡ false
front_open host [] suffix open_front e some = absurd (false≢true some)
front_open host (b ∷ front) suffix open_front e some = sym (ap (begins_with left_bracket) e) ∙ open_front

-- the text after the only colon is in a port's place, if no number may be
pub port_place_found : (host front suffix : List ℕ) → begins_with left_bracket host ≡ false → FreeOf colon front → host ≡ front ++ colon ∷ suffix → false ≡ (length front == 0) → FreeOf colon suffix → Checks host (BadScpName host) (NamesScpHost host) (Some (record { reason = reason.PortNotANumber; at = length front + 1; len = length suffix }))
port_place_found host front suffix open_front first e some last = record {
  found =
      BadScpName.port_place front suffix (record { nonempty = some_tested front some; no_colon = first; no_bracket = front_open host front suffix open_front e some }) last e (record { named = refl; start = refl; size = refl });
  within = omega (arith, ap length e, length-append front (colon ∷ suffix));
}

-- a bracket in front that isn't closed is wrong
pub unclosed_found : (host suffix : List ℕ) → FreeOf right_bracket suffix → host ≡ left_bracket ∷ suffix → Checks host (BadScpName host) (NamesScpHost host) (Some (record { reason = reason.UnclosedBracket; at = 0; len = 1 }))
unclosed_found host suffix free e = record {
  found = BadScpName.unclosed suffix free e (record { named = refl; start = refl; size = refl });
  within = omega (arith, ap length e);
}

-- a text is an IPv6 text, or not
address_or_not : (t : List ℕ) → IsIpv6Text t ⊎ ¬ IsIpv6Text t
address_or_not t =
    elim (cases_Bool (is_ipv6_text t)) [
      | inl e ↦ inl (ipv6_text_from t e)
      | inr e ↦ inr (λ h. both_ways _ e (ipv6_text_to t h))
    ]

-- a text is a zone if each `%` is escaped, or not
zone_or_not : (t : List ℕ) → IsZone (escaped_percents t) ⊎ ¬ IsZone (escaped_percents t)
zone_or_not [] = inr (λ h. absurd (omega (arith, (zone_unescaped [] h).0)))
zone_or_not (b ∷ t) =
    elim (cases_Bool (list_all is_zone_byte (b ∷ t))) [
      | inl all ↦ inl (zone_found (b ∷ t) (omega arith) all)
      | inr other ↦ inr (λ h. both_ways _ other (zone_unescaped (b ∷ t) h).1)
    ]

-- a text is a literal if each `%` is escaped, or not
literal_or_not : (t : List ℕ) → IsLiteral (escaped_percents t) ⊎ ¬ IsLiteral (escaped_percents t)
literal_or_not t =
    elim (free_or_cut percent_sign t) [
      | inl free ↦
          let kept = escaped_percents_kept t free in
          elim (address_or_not t) [
            | inl h ↦ inl (subst IsLiteral (sym kept) (literal_alone t h))
            | inr none ↦ inr (λ h. none (literal_address t free (subst IsLiteral kept h)))
          ]
      | inr (a, z, free, e) ↦
          elim (address_or_not a) [
            | inr none ↦ inr (λ h. none (zone_parts t a z free e h).0)
            | inl address ↦
                elim (zone_or_not z) [
                  | inl zone ↦ inl (literal_zoned (escaped_percents t) a _ (zone_cut t a z free e) address (_, zone, refl))
                  | inr none ↦ inr (λ h. none (zone_parts t a z free e h).1)
                ]
          ]
    ]

-- a text between brackets is named by them, as a literal or as it is
brackets_named : (suffix inner rest : List ℕ) → IsUtf8 (left_bracket ∷ suffix) → FreeOf right_bracket inner → suffix ≡ inner ++ right_bracket ∷ rest → true ≡ (length rest == 0) → NamesScpHost (left_bracket ∷ suffix)
brackets_named suffix inner rest text closed e none =
    elim (literal_or_not inner) [
      | inl h ↦ (_, literal_found suffix inner rest closed e none h)
      | inr other ↦ (_, inner_kept suffix inner rest text closed e none other)
    ]

-- so brackets around the whole host name one
pub brackets_read : (host suffix inner rest : List ℕ) → IsUtf8 host → host ≡ left_bracket ∷ suffix → FreeOf right_bracket inner → suffix ≡ inner ++ right_bracket ∷ rest → true ≡ (length rest == 0) → Checks host (BadScpName host) (NamesScpHost host) None
brackets_read host suffix inner rest text front closed e none = record {
  found = subst NamesScpHost (sym front) (brackets_named suffix inner rest (subst IsUtf8 front text) closed e none);
  within = tt;
}

-- the text after a closed bracket is wrong
pub after_bracket_found : (host suffix inner rest : List ℕ) → host ≡ left_bracket ∷ suffix → FreeOf right_bracket inner → suffix ≡ inner ++ right_bracket ∷ rest → false ≡ (length rest == 0) → Checks host (BadScpName host) (NamesScpHost host) (Some (record { reason = reason.BehindBracket; at = length inner + 2; len = length rest }))
after_bracket_found host suffix inner rest front closed e some = record {
  found =
      BadScpName.after_bracket inner rest closed (some_tested rest some) (front ∙ ap (λ t. left_bracket ∷ t) e) (record { named = refl; start = refl; size = refl });
  within = omega (arith, ap length front, ap length e, length-append inner (right_bracket ∷ rest));
}

-- ---- the host

-- without white space and backslashes, the flaw that is found in its name is found in the host
pub name_checked : (host : List ℕ) (r : Option Place) → FreeOf at_sign host → LacksWhiteSpace host → FreeOf backslash host → 0 < length host → Checks host (BadScpName host) (NamesScpHost host) r → Checks host (BadScpHost host) (DenotesScpHost host) r
name_checked host r at white back some h =
    found_second host (HasCharacter reason.WhiteSpaceInHost is_whitespace host) (Then (HasBackslash reason.BackslashInHost host) (Then (NoScpHost host) (BadScpName host))) (DenotesScpHost host) (DenotesScpHost host) r (character_passes reason.WhiteSpaceInHost is_whitespace host white) (λ k. k)
    (found_second host (HasBackslash reason.BackslashInHost host) (Then (NoScpHost host) (BadScpName host)) (DenotesScpHost host) (DenotesScpHost host) r (backslash_passes reason.BackslashInHost host back) (λ k. k)
    (found_second host (NoScpHost host) (BadScpName host) (NamesScpHost host) (DenotesScpHost host) r (scp_host_passes host some) (λ k. (k.0, scp_host_found host (escaped_percents host) k.0 at back white refl k.1)) h))

-- ---- the front

-- the flaw that is found in a front without an `@` is the flaw that is found in a host
pub front_alone : (front : List ℕ) (r : Option Place) → FreeOf at_sign front → Checks front (BadScpHost front) (DenotesScpHost front) r → Checks front (BadFront front) (IsScpFront front) r
front_alone front None at h = record {
  found = record { user = None; host = front; split = ScpUser.host_alone refl refl; hosted = h.found };
  within = tt;
}
front_alone front (Some p) at h = record { found = BadFront.alone at h.found; within = h.within }

-- a user and a host that denotes one are a front
pub front_with_user : (front user host : List ℕ) → front ≡ user ++ at_sign ∷ host → Checks host (BadScpHost host) (DenotesScpHost host) None → Checks front (BadFront front) (IsScpFront front) None
front_with_user front user host e h = record {
  found = record { user = Some user; host = host; split = ScpUser.with_user user e refl; hosted = h.found };
  within = tt;
}

-- a flaw of the host after a user is one of the front
pub front_flawed : (front user host : List ℕ) (p : Place) → FreeOf at_sign host → front ≡ user ++ at_sign ∷ host → Checks host (BadScpHost host) (DenotesScpHost host) (Some p) → Checks front (BadFront front) (IsScpFront front) (Some (record { reason = p.reason; at = length user + 1 + p.at; len = p.len }))
front_flawed front user host p at e h = record {
  found = BadFront.with_user user host at e (record { inside = p; found = h.found; stands = record { named = refl; start = refl; size = refl } });
  within = omega (arith, h.within, ap length e, length-append user (at_sign ∷ host));
}

-- ---- the whole

-- the flaw that is found in the front of a text with a path is found in the text
pub scp_checked : (b front path : List ℕ) (r : Option Place) → PlainScp b front path → IsUtf8 b → false ≡ (length path == 0) → Checks front (BadFront front) (IsScpFront front) r → Checks b (BadScp b front path) (IsScp b) r
scp_checked b front path None h text some k = record {
  found = (
    scp_location k.found.user k.found.hosted.0 path,
    record { front = front; path = path; user = k.found.user; host = k.found.host; denoted = k.found.hosted.0; form = h.form; text = text; pathed = some_tested path some; split = k.found.split; hosted = k.found.hosted.1; value = refl },
  );
  within = tt;
}
scp_checked b front path (Some p) h text some k = record {
  found = Then.at_second (text_passes b text) (Then.at_second (scp_path_passes b path (some_tested path some)) k.found);
  within = omega (arith, k.within, ap length h.form.joined, length-append front (colon ∷ path));
}

-- ---- `user@[address]:path`

-- a text with a path is spelled
pub addressed_read : (b user address path : List ℕ) → AddressedForm b user address path → IsUtf8 b → false ≡ (length path == 0) → Checks b (BadAddressed b path) (IsAddressedScp b) None
addressed_read b user address path h text some = record {
  found = (
    scp_location (Some user) (lowercase address) path,
    record { user = user; address = address; path = path; form = h; text = text; pathed = some_tested path some; value = refl },
  );
  within = tt;
}
