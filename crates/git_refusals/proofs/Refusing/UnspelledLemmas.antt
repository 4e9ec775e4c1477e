-- Each check finds the flaw that its error names: the flaw of `git_syntax` that belongs to the reason is in
-- the text. So a text that is refused spells no location.
use Rattle.std.proofs.Common.{◌≡◌, ℕ, ◌<◌, ◌==◌, true, false, inl, inr, List, [], ◌∷◌, ◌++◌, length, Option, Some, None, refl, sym, ap, subst, ◌∙◌, arith, codes, IsUtf8}
use Rattle.std.specs.Str.{chars}
use Rattle.std.specs.List.{list_any}
use Rattle.std.specs.Char.{is_whitespace, is_ascii_alphabetic}
use Rattle.std.proofs.lemmas.Bool.{cases_Bool, false_from_ne_true}
use Rattle.std.proofs.lemmas.Bool.Decides.{nat_tests}
use Rattle.std.proofs.lemmas.List.{append-nil}
use Rattle.git_syntax.specs.declared.refusal.UrlKind.{UrlKind}
use Rattle.git_syntax.specs.declared.refusal.UrlKind.TheVariants.{Url, Scp, Local}
use Rattle.git_syntax.specs.declared.refusal.UrlFault.TheVariants as fault
use Rattle.git_syntax.specs.declared.refusal.Refusal.TheVariants as found
use Rattle.git_syntax.specs.Bytes.{slash, colon, at_sign, left_bracket, backslash, right_bracket, FreeOf, begins_with, is_scheme_text, is_path_start}
use Rattle.git_syntax.specs.Schemes.{is_web_scheme, host_syntax_of, requires_host}
use Rattle.git_syntax.specs.Grammar.{ScpForm, AddressedForm, IsAddressed, ScpUser}
use Rattle.git_syntax.specs.Flaws.{UrlForm, OtherUrlForm, UrlCut, UrlFlaw, ScpNameFlaw, ScpHostFlaw, MissesPath}
use Rattle.git_syntax.specs.Internal.ScpPieces.{ColonsInside}
use Rattle.git_syntax.specs.Refusals.{HasFlaw}
use Rattle.git_syntax.proofs.Texts.CutLemmas.{begins-append, free_of_lacked}
use Rattle.git_syntax.proofs.Parsing.ClassifierLemmas.{file_misses_path}
use Rattle.git_syntax.proofs.Parsing.ScpLemmas.{colons_inside_front, colons_inside_host, no_port_found, open_found, rest_found, scp_host_utf8}
use Rattle.git_syntax.proofs.Errors.RefusalLemmas.{flawless}
use Rattle.git_refusals.specs.declared.place.Place.{Place}
use Rattle.git_refusals.specs.declared.reason.Reason.{Reason}
use Rattle.git_refusals.specs.declared.reason.Reason.TheVariants as reason
use Rattle.git_refusals.specs.declared.reason.RefusalKind.{RefusalKind}
use Rattle.git_refusals.specs.declared.reason.RefusalKind.TheVariants as kind
use Rattle.git_refusals.specs.Kinds.{kind_of}
use Rattle.git_refusals.specs.Characters.{IsCharacterAt, is_no_scheme_character}
use Rattle.git_refusals.specs.Reasons.{Passes, Then, TooLong, BadScheme, BadRest, BadUrl, BadFile, BadScpName, BadScpHost, BadFront, BadScp, BadAddressed, Refused}
use Rattle.git_refusals.specs.Promised.{IsOfKind, NamesKind}
use Rattle.git_refusals.specs.Laws.{RefusedFlaw, RefusedUnspelled}
use Rattle.git_refusals.proofs.Refusing.CharacterLemmas.{no_character_stands, character_stands}
use Rattle.git_refusals.proofs.Refusing.PlaceLemmas.{stands_not_free}
use Rattle.git_refusals.proofs.Refusing.PassLemmas.{passes_text, sound_passes, fits_passes, scheme_passes}
use Rattle.git_refusals.proofs.Refusing.FlawLemmas.{Flawed, flawed, bad_authority_flaw}
use Rattle.git_refusals.proofs.Refusing.SchemeLemmas.{scheme_read, no_character, first_at_front}
use Rattle.git_refusals.proofs.Refusing.UrlLemmas.{url_pieces_utf8, FoundAfter}

-- ---- schemes

-- a text that isn't a scheme
bad_scheme_kind : (scheme : List ℕ) (p : Place) → BadScheme scheme p → kind_of p.reason ≡ kind.BadUrl fault.NoScheme
bad_scheme_kind scheme p (BadScheme.missing e s) = ap kind_of s.named
bad_scheme_kind scheme p (BadScheme.bad_start c rest size e other _ s) = ap kind_of s.named
bad_scheme_kind scheme p (BadScheme.bad_character c rest e letter h) = ap kind_of h.named

-- a text in which the check for schemes finds nothing is one
passes_scheme : (scheme : List ℕ) → IsUtf8 scheme → Passes (BadScheme scheme) → is_scheme_text scheme ≡ true
passes_scheme [] utf8 passes =
    let place : Place = record { reason = reason.SchemeMissing; at = 0; len = 0 } in
    absurd (passes place (BadScheme.missing refl (record { named = refl; start = refl; size = refl })))
passes_scheme (c ∷ rest) utf8 passes =
    elim (cases_Bool (is_ascii_alphabetic c)) [
      | inl letter ↦ elim (cases_Bool (list_any is_no_scheme_character (chars (c ∷ rest)))) [
        | inl some ↦
            let (at, len, first) = character_stands is_no_scheme_character (c ∷ rest) some in
            let place : Place = record { reason = reason.SchemeCharacter; at = at; len = len } in
            absurd (passes place (BadScheme.bad_character c rest refl letter (record { named = refl; stands = first })))
        | inr none ↦ scheme_read (c ∷ rest) c rest utf8 refl letter none
      ]
      | inr other ↦ elim (cases_Bool (list_any (λ _. true) (chars (c ∷ rest)))) [
        | inl some ↦
            let (at, len, first) = character_stands (λ _. true) (c ∷ rest) some in
            let place : Place = record { reason = reason.SchemeStart; at = at; len = len } in
            let front = first_at_front (c ∷ rest) at len first in
            absurd (passes place (BadScheme.bad_start c rest len refl other (subst (λ n. IsCharacterAt (λ _. true) (c ∷ rest) n len) front first) (record { named = refl; start = front; size = refl })))
        | inr none ↦ absurd (omega (arith, ap length (no_character (c ∷ rest) utf8 none)))
      ]
    ]

-- ---- URLs

-- the flaw that the error of a reason names, by that error
of_kind : (b : List ℕ) (form : UrlKind) (why : Reason) (error : RefusalKind) → kind_of why ≡ error → IsOfKind b form error → IsOfKind b form (kind_of why)
of_kind b form why error e h = subst (λ k. IsOfKind b form k) (sym e) h

-- a text that is too long
too_long_of : (b scheme rest : List ℕ) (p : Place) → OtherUrlForm b scheme rest → TooLong scheme rest p → IsOfKind b Url (kind_of p.reason)
too_long_of b scheme rest p form h = of_kind b Url p.reason kind.TooLong (named h) (record { front = scheme; rest = rest; form = form; unfit = λ fits. fits_passes scheme rest fits p h })
  where
    named : TooLong scheme rest p → kind_of p.reason ≡ kind.TooLong
    named (TooLong.long_scheme _ s) = ap kind_of s.named
    named (TooLong.long_rest _ _ s) = ap kind_of s.named

-- a flaw after a scheme
bad_rest_of : (b scheme rest : List ℕ) (p : Place) → OtherUrlForm b scheme rest → is_scheme_text scheme ≡ true → BadRest b scheme rest p → IsOfKind b Url (kind_of p.reason)
bad_rest_of b scheme rest p form is h = found h.found
  where
    joined : b ≡ scheme ++ (codes "://" ++ (h.authority ++ h.path))
    joined = form.form.joined ∙ ap (λ t. scheme ++ (codes "://" ++ t)) h.joined

    cut : UrlCut b scheme h.authority h.path
    cut = record { form = subst (λ t. OtherUrlForm b scheme t) h.joined form; scheme_text = is; before_path = h.before_path; path_starts = h.path_starts }

    found : FoundAfter b scheme h.authority h.path p → IsOfKind b Url (kind_of p.reason)
    found (Then.at_first k) =
        of_kind b Url p.reason (kind.BadUrl fault.BadCharacter) (ap kind_of k.stands.named ∙ ap kind_of k.found.stands.named)
        (UrlFlaw.bad_path scheme h.authority h.path cut k.found.undecodable)
    found (Then.at_second _ (Then.at_first k)) =
        let flaw = bad_authority_flaw (host_syntax_of scheme) (requires_host scheme) h.authority k.inside k.found in
        of_kind b Url p.reason (kind.BadUrl flaw.named) (ap kind_of k.stands.named ∙ flaw.of_kind)
        (UrlFlaw.bad_authority scheme h.authority h.path flaw.named cut flaw.there)
    found (Then.at_second _ (Then.at_second _ k)) =
        of_kind b Url p.reason kind.MissingPath (ap kind_of k.stands.named)
        (MissesPath.in_url scheme h.authority k.wanted (free_of_lacked (is_path_start (is_web_scheme scheme)) slash h.authority h.before_path refl)
        (joined ∙ ap (λ t. scheme ++ (codes "://" ++ (h.authority ++ t))) k.empty ∙ ap (λ t. scheme ++ (codes "://" ++ t)) (append-nil h.authority)))

-- the flaw of a URL that isn't a file URL
bad_url_of : (b scheme rest : List ℕ) (p : Place) → OtherUrlForm b scheme rest → BadUrl b scheme rest p → IsOfKind b Url (kind_of p.reason)
bad_url_of b scheme rest p form (Then.at_first h) = too_long_of b scheme rest p form h
bad_url_of b scheme rest p form (Then.at_second _ (Then.at_first h)) =
    of_kind b Url p.reason kind.NotUtf8 (ap kind_of h.stands.named) (h.no_text, (scheme, rest, form.form))
bad_url_of b scheme rest p form (Then.at_second _ (Then.at_second text (Then.at_first h))) =
    of_kind b Url p.reason (kind.BadUrl fault.BadCharacter) (ap kind_of h.named)
    (UrlFlaw.white_space scheme rest form (passes_text b text) (λ none. no_character_stands is_whitespace b p.at p.len none h.stands))
bad_url_of b scheme rest p form (Then.at_second _ (Then.at_second _ (Then.at_second _ (Then.at_first h)))) =
    of_kind b Url p.reason (kind.BadUrl fault.BadCharacter) (ap kind_of h.stands.named) (UrlFlaw.unsound scheme rest form (false_from_ne_true _ (λ sound. sound_passes b sound p h)))
bad_url_of b scheme rest p form (Then.at_second _ (Then.at_second _ (Then.at_second _ (Then.at_second _ (Then.at_first h))))) =
    of_kind b Url p.reason (kind.BadUrl fault.NoScheme) (bad_scheme_kind scheme p h)
    (UrlFlaw.no_scheme scheme rest form (false_from_ne_true _ (λ named. scheme_passes scheme named p h)))
bad_url_of b scheme rest p form (Then.at_second _ (Then.at_second text (Then.at_second _ (Then.at_second _ (Then.at_second scheme_text h))))) =
    let (utf8, _) = url_pieces_utf8 b scheme rest form.form.joined (passes_text b text) in bad_rest_of b scheme rest p form (passes_scheme scheme utf8 scheme_text) h

-- the flaw of a file URL
bad_file_of : (b rest : List ℕ) (p : Place) → UrlForm b (codes "file") rest → BadFile b rest p → IsOfKind b Url (kind_of p.reason)
bad_file_of b rest p form (Then.at_first h) =
    of_kind b Url p.reason kind.NotUtf8 (ap kind_of h.stands.named) (h.no_text, (codes "file", rest, form))
bad_file_of b rest p form (Then.at_second _ h) = of_kind b Url p.reason kind.MissingPath (ap kind_of h.stands.named) (file_misses_path b rest form h.no_slash)

-- ---- the scp form

-- a text of some length isn't of length 0
some_length : (t : List ℕ) → 0 < length t → false ≡ (length t == 0)
some_length t h = grind (arith, nat_tests)

-- brackets, or the text in the place of a port
bad_scp_name_flaw : (host : List ℕ) (p : Place) → ColonsInside host → BadScpName host p → Flawed (ScpHostFlaw host) p.reason
bad_scp_name_flaw host p colons (BadScpName.unclosed suffix free e s) =
    flawed fault.BadCharacter (ap kind_of s.named) (ScpHostFlaw.bad_name fault.BadCharacter (subst (λ t. ScpNameFlaw t fault.BadCharacter) (sym e) (open_found suffix free)))
bad_scp_name_flaw host p colons (BadScpName.after_bracket x rest free some e s) =
    flawed fault.BadCharacter (ap kind_of s.named)
    (ScpHostFlaw.bad_name fault.BadCharacter (subst (λ t. ScpNameFlaw t fault.BadCharacter) (sym e) (rest_found (x ++ right_bracket ∷ rest) x rest (subst ColonsInside e colons) free refl (some_length rest some))))
bad_scp_name_flaw host p colons (BadScpName.port_place text digits h free e s) =
    flawed fault.BadPort (ap kind_of s.named)
    (ScpHostFlaw.bad_name fault.BadPort (no_port_found host text digits (ap (begins_with left_bracket) e ∙ begins-append left_bracket text (colon ∷ digits) h.nonempty ∙ h.no_bracket) colons h.no_colon e (some_length text h.nonempty) free))

-- a host that is text
bad_scp_host_flaw : (host : List ℕ) (p : Place) → IsUtf8 host → ColonsInside host → BadScpHost host p → Flawed (ScpHostFlaw host) p.reason
bad_scp_host_flaw host p utf8 colons (Then.at_first h) =
    flawed fault.BadCharacter (ap kind_of h.named) (ScpHostFlaw.white_space utf8 (λ none. no_character_stands is_whitespace host p.at p.len none h.stands))
bad_scp_host_flaw host p utf8 colons (Then.at_second _ (Then.at_first h)) =
    flawed fault.BadCharacter (ap kind_of h.stands.named) (ScpHostFlaw.holds_backslash (stands_not_free backslash host p.at h.first))
bad_scp_host_flaw host p utf8 colons (Then.at_second _ (Then.at_second _ (Then.at_first h))) =
    flawed fault.HostRequired (ap kind_of h.stands.named) (ScpHostFlaw.empty h.empty)
bad_scp_host_flaw host p utf8 colons (Then.at_second _ (Then.at_second _ (Then.at_second _ h))) = bad_scp_name_flaw host p colons h

-- a front, cut at its last `@`
bad_split_of : (b front path : List ℕ) (user : Option (List ℕ)) (host : List ℕ) (why : Reason) (q : Place) → ScpForm b front path → ¬ IsAddressed b → IsUtf8 b → ScpUser front user host → FreeOf at_sign host → why ≡ q.reason → BadScpHost host q → IsOfKind b Scp (kind_of why)
bad_split_of b front path user host why q form other text split last e h =
    let flaw = bad_scp_host_flaw host q (scp_host_utf8 b front path user host form text split) (colons_inside_host front user host split (colons_inside_front b front form.form)) h in
    of_kind b Scp why (kind.BadUrl flaw.named) (ap kind_of e ∙ flaw.of_kind) (record {
      not_addressed = other;
      front = front;
      path = path;
      user = user;
      host = host;
      form = form;
      split = split;
      no_at = last;
      flaw = flaw.there;
    })

-- a front
bad_front_of : (b front path : List ℕ) (p : Place) → ScpForm b front path → ¬ IsAddressed b → IsUtf8 b → BadFront front p → IsOfKind b Scp (kind_of p.reason)
bad_front_of b front path p form other text (BadFront.alone last h) = bad_split_of b front path None front p.reason p form other text (ScpUser.host_alone refl refl) last refl h
bad_front_of b front path p form other text (BadFront.with_user user host last e k) =
    bad_split_of b front path (Some user) host p.reason k.inside form other text (ScpUser.with_user user e refl) last k.stands.named k.found

-- the flaw of the scp form
bad_scp_of : (b front path : List ℕ) (p : Place) → ScpForm b front path → ¬ IsAddressed b → BadScp b front path p → IsOfKind b Scp (kind_of p.reason)
bad_scp_of b front path p form other (Then.at_first h) =
    of_kind b Scp p.reason kind.NotUtf8 (ap kind_of h.stands.named) (h.no_text, inl (front, path, form))
bad_scp_of b front path p form other (Then.at_second _ (Then.at_first h)) =
    of_kind b Scp p.reason kind.MissingPath (ap kind_of h.stands.named) (MissesPath.in_scp front (subst (λ t. ScpForm b front t) h.empty form))
bad_scp_of b front path p form other (Then.at_second text (Then.at_second _ h)) = bad_front_of b front path p form other (passes_text b text) h

-- the flaw of the form `user@[address]:path`
bad_addressed_of : (b user address path : List ℕ) (p : Place) → AddressedForm b user address path → BadAddressed b path p → IsOfKind b Scp (kind_of p.reason)
bad_addressed_of b user address path p form (Then.at_first h) =
    of_kind b Scp p.reason kind.NotUtf8 (ap kind_of h.stands.named) (h.no_text, inr (user, address, path, form))
bad_addressed_of b user address path p form (Then.at_second _ h) =
    of_kind b Scp p.reason kind.MissingPath (ap kind_of h.stands.named) (MissesPath.after_address user address (subst (λ t. AddressedForm b user address t) h.empty form))

-- ---- all texts

-- the flaw that the error of a refusal names is in the text
pub refused_names : RefusedFlaw
refused_names b r (Refused.empty p e s is) = subst (λ x. NamesKind b x) (sym is) (of_kind b Local p.reason kind.EmptyLocal (ap kind_of s.named) e)
refused_names b r (Refused.file rest p form h is) = subst (λ x. NamesKind b x) (sym is) (bad_file_of b rest p form h)
refused_names b r (Refused.url scheme rest p form h is) = subst (λ x. NamesKind b x) (sym is) (bad_url_of b scheme rest p form h)
refused_names b r (Refused.addressed user address path p form h is) = subst (λ x. NamesKind b x) (sym is) (bad_addressed_of b user address path p form h)
refused_names b r (Refused.scp front path p form other h is) = subst (λ x. NamesKind b x) (sym is) (bad_scp_of b front path p form other h)

-- a text of which an error names a flaw has it
named_flaw : (b : List ℕ) (form : UrlKind) (error : RefusalKind) → IsOfKind b form error → HasFlaw b
named_flaw b form kind.EmptyLocal h = (found.EmptyLocal, h)
named_flaw b form kind.MissingPath h = (found.MissingPath form, h)
named_flaw b form kind.NotUtf8 h = (found.NotUtf8 form, h)
named_flaw b form kind.TooLong h = (found.TooLong, h)
named_flaw b form (kind.BadUrl named) h = (found.BadUrl form named, h)

-- so a text that is refused spells no location
pub refused_unspelled : RefusedUnspelled
refused_unspelled b r h v s = flawless b v s (named_flaw b r.form (kind_of r.reason) (refused_names b r h))
