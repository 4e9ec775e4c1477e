-- The place that each check finds is in the piece that it tests. So the place of a refusal is in its text.
use Rattle.std.proofs.Common.{◌≡◌, ℕ, ◌+◌, ◌≤◌, Bool, List, [], ◌∷◌, ◌++◌, length, drop, refl, sym, ap, subst, ◌∙◌, arith, length-append, length-drop, length-take, codes, IsUtf8, encode_utf8_all, Some, None}
use Rattle.std.specs.Str.Lossy.{utf8_valid_len, utf8_invalid_len, utf8_error_len}
use Rattle.std.proofs.lemmas.Bool.Decides.{nat_tests}
use Rattle.std.proofs.lemmas.Str.{encodes-append, encodes-chars, utf8_valid_len_le}
use Rattle.percent_encoding.specs.Percent.{percent_decode}
use Rattle.git_syntax.specs.Bytes.{colon, at_sign, right_bracket}
use Rattle.git_syntax.specs.Hosts.{HostSyntax}
use Rattle.git_syntax.specs.Hosts.HostSyntax.{http_hosts, git_hosts, other_hosts}
use Rattle.git_syntax.specs.Schemes.{is_web_scheme, host_syntax_of, requires_host}
use Rattle.git_syntax.specs.Grammar.{ScpForm, ScpUser}
use Rattle.git_syntax.proofs.Texts.EscapeLemmas.{utf8_parts}
use Rattle.git_syntax.proofs.Parsing.ScpLemmas.{scp_host_utf8}
use Rattle.git_refusals.specs.declared.place.Place.{Place}
use Rattle.git_refusals.specs.declared.reason.Reason.{Reason}
use Rattle.git_refusals.specs.Characters.{IsCharacterAt, undecodable_at, undecodable_len}
use Rattle.git_refusals.specs.Reasons.{IsAt, Then, Undecodable, NotText, HasBackslash, HasBrokenEscape, NoHostText, NoOther, NoDigits, PortOutside, WebColons, BadColons, BadHost, BadUser, BadParts, BadAuthority, TooLong, BadScheme, BadRest, BadUrl, BadFile, BadScpName, BadScpHost, BadFront, BadScp, BadAddressed, Refused}
use Rattle.git_refusals.specs.Laws.{RefusedWithin}
use Rattle.git_refusals.proofs.Refusing.CharacterLemmas.{character_within}
use Rattle.git_refusals.proofs.Refusing.EscapeLemmas.{spelled_within}
use Rattle.git_refusals.proofs.Refusing.PlaceLemmas.{stands_within}
use Rattle.git_refusals.proofs.Refusing.PassLemmas.{passes_text}
use Rattle.git_refusals.proofs.Refusing.UrlLemmas.{url_pieces_utf8, authority_utf8, FoundAfter}

-- ---- places

-- the place is in the piece
abbrev pub IsWithin : List ℕ → Place → Type 0
IsWithin piece p = p.at + p.len ≤ length piece

-- a place in a piece after others is in a whole that reaches so far
after_inside : (why : Reason) (before : ℕ) (inside p : Place) (piece whole : List ℕ) → IsAt why (before + inside.at) inside.len p → IsWithin piece inside → before + length piece ≤ length whole → IsWithin whole p
after_inside why before inside p piece whole s h long = omega (arith, s.start, s.size, h, long)

-- ---- characters

-- an invalid sequence is in the bytes that it begins
invalid_within : (bs : List ℕ) → utf8_invalid_len bs ≤ length bs
unfolding utf8_error_len
invalid_within bs = grind (arith, nat_tests)

-- the first bytes that aren't UTF-8
no_text_within : (text : List ℕ) (p : Place) → NotText text p → IsWithin text p
no_text_within text p h =
    let n = utf8_valid_len text in
    omega (arith, h.stands.start, h.stands.size, utf8_valid_len_le text, invalid_within (drop n text), length-drop n text)

-- the first bytes or escapes that decode to no UTF-8
undecodable_within : (text : List ℕ) (p : Place) → Undecodable text p → IsWithin text p
undecodable_within text p h =
    let start : undecodable_at text ≤ length text = spelled_within (utf8_valid_len (percent_decode text)) text in
    let rest = drop (undecodable_at text) text in
    let size : undecodable_len rest ≤ length rest = spelled_within (utf8_invalid_len (percent_decode rest)) rest in
    omega (arith, h.stands.start, h.stands.size, start, size, length-drop (undecodable_at text) text)

-- a character of a text
character_inside : (wrong : ℕ → Bool) (text : List ℕ) (at len : ℕ) → IsUtf8 text → IsCharacterAt wrong text at len → at + len ≤ length text
character_inside wrong text at len utf8 h =
    character_within text h.before (encode_utf8_all h.suffix) h.character at len (sym (encodes-chars text utf8) ∙ ap encode_utf8_all h.joined ∙ encodes-append h.before (h.character ∷ h.suffix)) h.offset h.size

-- the first backslash
backslash_within : (why : Reason) (text : List ℕ) (p : Place) → HasBackslash why text p → IsWithin text p
backslash_within why text p h = omega (arith, h.stands.size, stands_within _ text p.at h.first)

-- a broken escape
broken_within : (text : List ℕ) (p : Place) → HasBrokenEscape text p → IsWithin text p
broken_within text p h = omega (arith, h.stands.size, h.first.offset, ap length h.first.joined, length-append h.first.before (37 ∷ h.first.suffix))

-- ---- hosts and ports

-- a text that denotes no host
no_host_within : (syntax : HostSyntax) (text : List ℕ) (p : Place) → IsUtf8 text → NoHostText syntax text p → IsWithin text p
no_host_within http_hosts text p utf8 h = character_inside _ text p.at p.len utf8 h.stands
no_host_within git_hosts text p utf8 h = undecodable_within text p h
no_host_within other_hosts text p utf8 h = undecodable_within text p h

-- a text between brackets
no_other_within : (syntax : HostSyntax) (text : List ℕ) (p : Place) → NoOther syntax text p → IsWithin text p
no_other_within http_hosts text p s = omega (arith, s.start, s.size)
no_other_within git_hosts text p h = undecodable_within text p h
no_other_within other_hosts text p h = undecodable_within text p h

-- the text in the place of a port
no_digits_within : (digits : List ℕ) (p : Place) → NoDigits digits p → IsWithin digits p
no_digits_within digits p h = omega (arith, h.stands.start, h.stands.size)

-- a number that no port may have
outside_within : (syntax : HostSyntax) (digits : List ℕ) (p : Place) → PortOutside syntax digits p → IsWithin digits p
outside_within syntax digits p (PortOutside.too_large _ _ s) = omega (arith, s.start, s.size)
outside_within syntax digits p (PortOutside.is_zero _ _ _ s) = omega (arith, s.start, s.size)

-- the two, in their order
port_within : (syntax : HostSyntax) (digits : List ℕ) (p : Place) → Then (NoDigits digits) (PortOutside syntax digits) p → IsWithin digits p
port_within syntax digits p (Then.at_first h) = no_digits_within digits p h
port_within syntax digits p (Then.at_second _ h) = outside_within syntax digits p h

-- colons of HTTP that mark no port
web_colons_within : (piece : List ℕ) (p : Place) → WebColons piece p → IsWithin piece p
web_colons_within piece p (WebColons.bare _ s) = omega (arith, s.start, s.size)
web_colons_within piece p (WebColons.bare_colon address _ _ e s) = omega (arith, s.start, s.size, ap length e, length-append address (colon ∷ []))
web_colons_within piece p (WebColons.no_host _ _ _ _ s) = omega (arith, s.start, s.size)
web_colons_within piece p (WebColons.second_colon x y z _ _ _ e s) =
    omega (arith, s.start, s.size, ap length e, length-append x (colon ∷ (y ++ colon ∷ z)), length-append y (colon ∷ z))

-- colons that mark no port
colons_within : (syntax : HostSyntax) (piece : List ℕ) (p : Place) → BadColons syntax piece p → IsWithin piece p
colons_within http_hosts piece p h = web_colons_within piece p h
colons_within git_hosts piece p h = undecodable_within piece p h
colons_within other_hosts piece p h = undecodable_within piece p h

-- a host and a port
bad_host_within : (syntax : HostSyntax) (piece : List ℕ) (p : Place) → IsUtf8 piece → BadHost syntax piece p → IsWithin piece p
bad_host_within syntax piece p utf8 (BadHost.unclosed suffix _ e s) = omega (arith, s.start, s.size, ap length e)
bad_host_within syntax piece p utf8 (BadHost.after_bracket x wrong rest _ _ _ _ e s) =
    omega (arith, s.start, s.size, ap length e, length-append x (right_bracket ∷ (wrong ++ rest)), length-append wrong rest)
bad_host_within syntax piece p utf8 (BadHost.between x rest around b) =
    after_inside _ 1 b.inside p x piece b.stands (no_other_within syntax x b.inside b.found.no_other)
    (omega (arith, ap length around.joined, length-append x (right_bracket ∷ rest)))
bad_host_within syntax piece p utf8 (BadHost.port_after x digits _ _ e b) =
    after_inside _ (length x + 3) b.inside p digits piece b.stands (port_within syntax digits b.inside b.found)
    (omega (arith, ap length e, length-append x (right_bracket ∷ (colon ∷ digits))))
bad_host_within syntax piece p utf8 (BadHost.colons _ _ _ h) = colons_within syntax piece p h
bad_host_within syntax piece p utf8 (BadHost.plain _ h) = no_host_within syntax piece p utf8 h
bad_host_within syntax piece p utf8 (BadHost.with_port text digits _ _ e (Then.at_first b)) =
    after_inside _ (length text + 1) b.inside p digits piece b.stands (no_digits_within digits b.inside b.found) (omega (arith, ap length e, length-append text (colon ∷ digits)))
bad_host_within syntax piece p utf8 (BadHost.with_port text digits _ _ e (Then.at_second _ (Then.at_first h))) =
    let front = no_host_within syntax text p (utf8_parts text digits colon (subst IsUtf8 e utf8) (omega arith)).0 h in
    omega (arith, front, ap length e, length-append text (colon ∷ digits))
bad_host_within syntax piece p utf8 (BadHost.with_port text digits _ _ e (Then.at_second _ (Then.at_second _ b))) =
    after_inside _ (length text + 1) b.inside p digits piece b.stands (outside_within syntax digits b.inside b.found) (omega (arith, ap length e, length-append text (colon ∷ digits)))

-- ---- authorities

-- user information
bad_user_within : (information : List ℕ) (p : Place) → BadUser information p → IsWithin information p
bad_user_within information p (BadUser.alone _ h) = undecodable_within information p h
bad_user_within information p (BadUser.with_password u w _ e (Then.at_first b)) =
    after_inside _ (length u + 1) b.inside p w information b.stands (undecodable_within w b.inside b.found) (omega (arith, ap length e, length-append u (colon ∷ w)))
bad_user_within information p (BadUser.with_password u w _ e (Then.at_second _ h)) = omega (arith, undecodable_within u p h, ap length e, length-append u (colon ∷ w))

-- an authority without a backslash
bad_parts_within : (syntax : HostSyntax) (needed : Bool) (authority : List ℕ) (p : Place) → IsUtf8 authority → BadParts syntax needed authority p → IsWithin authority p
bad_parts_within syntax needed authority p utf8 (BadParts.alone _ (Then.at_first h)) = bad_host_within syntax authority p utf8 h
bad_parts_within syntax needed authority p utf8 (BadParts.alone _ (Then.at_second _ h)) = omega (arith, h.stands.start, h.stands.size)
bad_parts_within syntax needed authority p utf8 (BadParts.with_user information piece _ e (Then.at_first h)) =
    omega (arith, bad_user_within information p h, ap length e, length-append information (at_sign ∷ piece))
bad_parts_within syntax needed authority p utf8 (BadParts.with_user information piece _ e (Then.at_second _ (Then.at_first b))) =
    after_inside _ (length information + 1) b.inside p piece authority b.stands (bad_host_within syntax piece b.inside (utf8_parts information piece at_sign (subst IsUtf8 e utf8) (omega arith)).1 b.found)
    (omega (arith, ap length e, length-append information (at_sign ∷ piece)))
bad_parts_within syntax needed authority p utf8 (BadParts.with_user information piece _ e (Then.at_second _ (Then.at_second _ h))) = omega (arith, h.stands.start, h.stands.size)

-- any authority
bad_authority_within : (syntax : HostSyntax) (needed : Bool) (authority : List ℕ) (p : Place) → IsUtf8 authority → BadAuthority syntax needed authority p → IsWithin authority p
bad_authority_within syntax needed authority p utf8 (Then.at_first h) = backslash_within _ authority p h
bad_authority_within syntax needed authority p utf8 (Then.at_second _ h) = bad_parts_within syntax needed authority p utf8 h

-- ---- URLs

-- a scheme or a text that is too long
too_long_within : (b scheme rest : List ℕ) (p : Place) → b ≡ scheme ++ (codes "://" ++ rest) → TooLong scheme rest p → IsWithin b p
too_long_within b scheme rest p e (TooLong.long_scheme _ s) = omega (arith, s.start, s.size, ap length e, length-append scheme (codes "://" ++ rest))
too_long_within b scheme rest p e (TooLong.long_rest _ _ s) =
    omega (arith, s.start, s.size, ap length e, length-append scheme (codes "://" ++ rest), length-append (codes "://") rest, length-take 1024 rest)

-- a scheme
bad_scheme_within : (scheme : List ℕ) (p : Place) → IsUtf8 scheme → BadScheme scheme p → IsWithin scheme p
bad_scheme_within scheme p utf8 (BadScheme.missing _ s) = omega (arith, s.start, s.size)
bad_scheme_within scheme p utf8 (BadScheme.bad_start c rest size _ _ first s) = omega (arith, s.start, s.size, character_inside _ scheme 0 size utf8 first)
bad_scheme_within scheme p utf8 (BadScheme.bad_character _ _ _ _ h) = character_inside _ scheme p.at p.len utf8 h.stands

-- the text after a scheme
bad_rest_within : (b scheme rest : List ℕ) (p : Place) → b ≡ scheme ++ (codes "://" ++ rest) → IsUtf8 rest → BadRest b scheme rest p → IsWithin b p
bad_rest_within b scheme rest p e utf8 h = found h.found
  where
    whole : length b ≡ length scheme + 3 + length h.authority + length h.path
    whole = omega (arith, ap length e, length-append scheme (codes "://" ++ rest), length-append (codes "://") rest, ap length h.joined, length-append h.authority h.path)

    found : FoundAfter b scheme h.authority h.path p → IsWithin b p
    found (Then.at_first k) =
        after_inside _ (length scheme + 3 + length h.authority) k.inside p h.path b k.stands (undecodable_within h.path k.inside k.found) (omega (arith, whole))
    found (Then.at_second _ (Then.at_first k)) =
        let text = authority_utf8 (is_web_scheme scheme) h.authority h.path h.path_starts (subst IsUtf8 h.joined utf8) in
        after_inside _ (length scheme + 3) k.inside p h.authority b k.stands (bad_authority_within (host_syntax_of scheme) (requires_host scheme) h.authority k.inside text k.found) (omega (arith, whole))
    found (Then.at_second _ (Then.at_second _ k)) = omega (arith, k.stands.start, k.stands.size)

-- a URL that isn't a file URL
bad_url_within : (b scheme rest : List ℕ) (p : Place) → b ≡ scheme ++ (codes "://" ++ rest) → BadUrl b scheme rest p → IsWithin b p
bad_url_within b scheme rest p e (Then.at_first h) = too_long_within b scheme rest p e h
bad_url_within b scheme rest p e (Then.at_second _ (Then.at_first h)) = no_text_within b p h
bad_url_within b scheme rest p e (Then.at_second _ (Then.at_second text (Then.at_first h))) = character_inside _ b p.at p.len (passes_text b text) h.stands
bad_url_within b scheme rest p e (Then.at_second _ (Then.at_second _ (Then.at_second _ (Then.at_first h)))) = broken_within b p h
bad_url_within b scheme rest p e (Then.at_second _ (Then.at_second text (Then.at_second _ (Then.at_second _ (Then.at_first h))))) =
    omega (arith, bad_scheme_within scheme p (url_pieces_utf8 b scheme rest e (passes_text b text)).0 h, ap length e, length-append scheme (codes "://" ++ rest))
bad_url_within b scheme rest p e (Then.at_second _ (Then.at_second text (Then.at_second _ (Then.at_second _ (Then.at_second _ h))))) =
    bad_rest_within b scheme rest p e (url_pieces_utf8 b scheme rest e (passes_text b text)).1 h

-- a file URL
bad_file_within : (b rest : List ℕ) (p : Place) → BadFile b rest p → IsWithin b p
bad_file_within b rest p (Then.at_first h) = no_text_within b p h
bad_file_within b rest p (Then.at_second _ h) = omega (arith, h.stands.start, h.stands.size)

-- ---- the scp form

-- the brackets of a host, or the text in the place of a port
bad_scp_name_within : (host : List ℕ) (p : Place) → BadScpName host p → IsWithin host p
bad_scp_name_within host p (BadScpName.unclosed suffix _ e s) = omega (arith, s.start, s.size, ap length e)
bad_scp_name_within host p (BadScpName.after_bracket x rest _ _ e s) = omega (arith, s.start, s.size, ap length e, length-append x (right_bracket ∷ rest))
bad_scp_name_within host p (BadScpName.port_place text digits _ _ e s) = omega (arith, s.start, s.size, ap length e, length-append text (colon ∷ digits))

-- a host
bad_scp_host_within : (host : List ℕ) (p : Place) → IsUtf8 host → BadScpHost host p → IsWithin host p
bad_scp_host_within host p utf8 (Then.at_first h) = character_inside _ host p.at p.len utf8 h.stands
bad_scp_host_within host p utf8 (Then.at_second _ (Then.at_first h)) = backslash_within _ host p h
bad_scp_host_within host p utf8 (Then.at_second _ (Then.at_second _ (Then.at_first h))) = omega (arith, h.stands.start, h.stands.size)
bad_scp_host_within host p utf8 (Then.at_second _ (Then.at_second _ (Then.at_second _ h))) = bad_scp_name_within host p h

-- a front
bad_front_within : (b front path : List ℕ) (p : Place) → ScpForm b front path → IsUtf8 b → BadFront front p → IsWithin front p
bad_front_within b front path p form text (BadFront.alone _ h) =
    bad_scp_host_within front p (scp_host_utf8 b front path None front form text (ScpUser.host_alone refl refl)) h
bad_front_within b front path p form text (BadFront.with_user user host _ e k) =
    after_inside _ (length user + 1) k.inside p host front k.stands (bad_scp_host_within host k.inside (scp_host_utf8 b front path (Some user) host form text (ScpUser.with_user user e refl)) k.found)
    (omega (arith, ap length e, length-append user (at_sign ∷ host)))

-- the scp form
bad_scp_within : (b front path : List ℕ) (p : Place) → ScpForm b front path → BadScp b front path p → IsWithin b p
bad_scp_within b front path p form (Then.at_first h) = no_text_within b p h
bad_scp_within b front path p form (Then.at_second _ (Then.at_first h)) = omega (arith, h.stands.start, h.stands.size)
bad_scp_within b front path p form (Then.at_second text (Then.at_second _ h)) =
    omega (arith, bad_front_within b front path p form (passes_text b text) h, ap length form.joined, length-append front (colon ∷ path))

-- the form `user@[address]:path`
bad_addressed_within : (b path : List ℕ) (p : Place) → BadAddressed b path p → IsWithin b p
bad_addressed_within b path p (Then.at_first h) = no_text_within b p h
bad_addressed_within b path p (Then.at_second _ h) = omega (arith, h.stands.start, h.stands.size)

-- ---- all texts

-- the place of a refusal is in its text
pub refused_within : RefusedWithin
refused_within b r (Refused.empty p _ s is) = subst (λ x. x.at + x.len ≤ length b) (sym is) (omega (arith, s.start, s.size))
refused_within b r (Refused.file rest p _ h is) = subst (λ x. x.at + x.len ≤ length b) (sym is) (bad_file_within b rest p h)
refused_within b r (Refused.url scheme rest p form h is) = subst (λ x. x.at + x.len ≤ length b) (sym is) (bad_url_within b scheme rest p form.form.joined h)
refused_within b r (Refused.addressed user address path p _ h is) = subst (λ x. x.at + x.len ≤ length b) (sym is) (bad_addressed_within b path p h)
refused_within b r (Refused.scp front path p form _ h is) = subst (λ x. x.at + x.len ≤ length b) (sym is) (bad_scp_within b front path p form h)
