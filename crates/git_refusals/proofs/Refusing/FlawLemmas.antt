-- The flaws that the checks find in hosts, ports and authorities: the flaw of `git_syntax` that belongs to
-- the reason.
use Rattle.std.proofs.Common.{◌≡◌, ℕ, Bool, false, inl, inr, List, [], ◌∷◌, ◌++◌, refl, sym, ap, subst, ◌∙◌, arith, length-append, IsUtf8}
use Rattle.std.proofs.lemmas.List.{append-nil}
use Rattle.percent_encoding.specs.Percent.{percent_decode}
use Rattle.git_syntax.specs.declared.refusal.UrlFault.{UrlFault}
use Rattle.git_syntax.specs.declared.refusal.UrlFault.TheVariants as fault
use Rattle.git_syntax.specs.Bytes.{colon, at_sign, left_bracket, backslash, begins_with}
use Rattle.git_syntax.specs.Hosts.{HostSyntax, IsLiteral, Bracketed, IsManyColoned, ReadsAddress, AllowsPort, is_http_host_byte}
use Rattle.git_syntax.specs.Hosts.HostSyntax.{http_hosts, git_hosts, other_hosts}
use Rattle.git_syntax.specs.Flaws.{IsNoPort, HasBadPort, IsNoHost, IsNoInner, HasBadHost, HostPortFlaw, PieceOf, AuthorityFlaw}
use Rattle.git_syntax.specs.Internal.UrlPieces.{HasNoText}
use Rattle.git_syntax.proofs.Texts.CutLemmas.{begins-append, free_begins}
use Rattle.git_syntax.proofs.Parsing.HostLemmas.{bare_not_strict, http_byte_ascii, loose_not_strict, not_digits}
use Rattle.git_syntax.proofs.Parsing.UrlLemmas.{bad_user_flaw}
use Rattle.git_refusals.specs.declared.place.Place.{Place}
use Rattle.git_refusals.specs.declared.reason.Reason.{Reason}
use Rattle.git_refusals.specs.declared.reason.RefusalKind.TheVariants as kind
use Rattle.git_refusals.specs.Kinds.{kind_of}
use Rattle.git_refusals.specs.Reasons.{Then, NoHostText, NoInner, NoDigits, PortOutside, WebColons, BadColons, BadHost, BadUser, BadParts, BadAuthority}
use Rattle.git_refusals.proofs.Refusing.CharacterLemmas.{class_stands}
use Rattle.git_refusals.proofs.Refusing.PlaceLemmas.{stands_not_free}

-- ---- reasons and faults

-- the error of the reason names a fault, and a flaw of that fault is there
pub record Flawed (flaw : UrlFault → Type 0) (why : Reason) : Type 0 where
  pub named : UrlFault
  pub of_kind : kind_of why ≡ kind.BadUrl named
  pub there : flaw named

-- such a flaw, by the reason
pub flawed : {flaw : UrlFault → Type 0} {why : Reason} (named : UrlFault) → kind_of why ≡ kind.BadUrl named → flaw named → Flawed flaw why
flawed named k h = record { named = named; of_kind = k; there = h }

-- ---- ports and hosts

-- a text that isn't a decimal number isn't a port
no_digits_kind : (syntax : HostSyntax) (digits : List ℕ) (p : Place) → NoDigits digits p → (kind_of p.reason ≡ kind.BadUrl fault.BadPort) × IsNoPort syntax digits
no_digits_kind syntax digits p h = (ap kind_of h.stands.named, not_digits syntax digits (sym h.other))

-- a number that no port may have is none
outside_kind : (syntax : HostSyntax) (digits : List ℕ) (p : Place) → PortOutside syntax digits p → (kind_of p.reason ≡ kind.BadUrl fault.BadPort) × IsNoPort syntax digits
outside_kind syntax digits p (PortOutside.too_large d large s) = (ap kind_of s.named, (d.0, λ port n. omega (arith, n.value, n.within, large)))
outside_kind syntax digits p (PortOutside.is_zero e d none s) =
    (ap kind_of s.named, (d.0, λ port n. omega (arith, n.value, subst (λ x. AllowsPort x port) e n.allowed, none)))

-- the two, in their order
port_kind : (syntax : HostSyntax) (digits : List ℕ) (p : Place) → Then (NoDigits digits) (PortOutside syntax digits) p → (kind_of p.reason ≡ kind.BadUrl fault.BadPort) × IsNoPort syntax digits
port_kind syntax digits p (Then.at_first h) = no_digits_kind syntax digits p h
port_kind syntax digits p (Then.at_second _ h) = outside_kind syntax digits p h

-- a text with a wrong character denotes no host
pub no_host_kind : (syntax : HostSyntax) (text : List ℕ) (p : Place) → NoHostText syntax text p → (kind_of p.reason ≡ kind.BadUrl fault.BadCharacter) × IsNoHost syntax text
no_host_kind http_hosts text p h = (ap kind_of h.named, λ host k. class_stands is_http_host_byte http_byte_ascii text p.at p.len k.0 h.stands)
no_host_kind git_hosts text p h = (ap kind_of h.stands.named, λ host k. h.undecodable k.0)
no_host_kind other_hosts text p h = (ap kind_of h.stands.named, λ host k. h.undecodable k.0)

-- brackets around a text that isn't a literal and decodes to no text denote nothing, outside HTTP
not_bracketed : (text inner : List ℕ) → ¬ IsLiteral text → ¬ IsUtf8 (percent_decode text) → ¬ Bracketed text inner
not_bracketed text inner none bad (Bracketed.literal normal h e u) = none (normal, h)
not_bracketed text inner none bad (Bracketed.other _ e u) = bad (subst IsUtf8 e u)

-- a text between brackets that denotes nothing
pub no_inner_kind : (syntax : HostSyntax) (text : List ℕ) (p : Place) → NoInner syntax text p → (kind_of p.reason ≡ kind.BadUrl fault.BadCharacter) × IsNoInner syntax text
no_inner_kind http_hosts text p h = (ap kind_of h.no_other.named, λ inner k. h.no_literal (inner, k))
no_inner_kind git_hosts text p h = (ap kind_of h.no_other.stands.named, λ inner k. not_bracketed text inner h.no_literal h.no_other.undecodable k)
no_inner_kind other_hosts text p h = (ap kind_of h.no_other.stands.named, λ inner k. not_bracketed text inner h.no_literal h.no_other.undecodable k)

-- the colons of HTTP that mark no port are of the fault of a character
web_colons_kind : (piece : List ℕ) (p : Place) → WebColons piece p → kind_of p.reason ≡ kind.BadUrl fault.BadCharacter
web_colons_kind piece p (WebColons.bare _ s) = ap kind_of s.named
web_colons_kind piece p (WebColons.bare_colon _ _ _ _ s) = ap kind_of s.named
web_colons_kind piece p (WebColons.no_host _ _ _ _ s) = ap kind_of s.named
web_colons_kind piece p (WebColons.second_colon _ _ _ _ _ _ _ s) = ap kind_of s.named

-- colons that mark no port, in a piece that denotes no host
colons_flaw : (syntax : HostSyntax) (piece : List ℕ) (p : Place) → begins_with left_bracket piece ≡ false → IsManyColoned piece → ¬ ReadsAddress syntax piece → BadColons syntax piece p → Flawed (HostPortFlaw syntax piece) p.reason
colons_flaw http_hosts piece p front many _ h = flawed fault.BadCharacter (web_colons_kind piece p h) (HasBadHost.colons_on_the_web refl front many)
colons_flaw git_hosts piece p front many none h = flawed fault.BadCharacter (ap kind_of h.stands.named) (HasBadHost.colons bare_not_strict none front many (λ host k. h.undecodable k.0))
colons_flaw other_hosts piece p front many none h = flawed fault.BadCharacter (ap kind_of h.stands.named) (HasBadHost.colons loose_not_strict none front many (λ host k. h.undecodable k.0))

-- the flaw of a host and a port
pub bad_host_flaw : (syntax : HostSyntax) (piece : List ℕ) (p : Place) → BadHost syntax piece p → Flawed (HostPortFlaw syntax piece) p.reason
bad_host_flaw syntax piece p (BadHost.unclosed suffix free e s) = flawed fault.BadCharacter (ap kind_of s.named) (HasBadHost.open_bracket suffix free e)
bad_host_flaw syntax piece p (BadHost.after_bracket x wrong rest closed free some _ e s) =
    flawed fault.BadCharacter (ap kind_of s.named)
    (HasBadHost.after_bracket x (wrong ++ rest) closed e (omega (arith, some, length-append wrong rest)) (begins-append colon wrong rest some ∙ free_begins colon wrong free))
bad_host_flaw syntax piece p (BadHost.between x rest around b) =
    let (k, none) = no_inner_kind syntax x b.inside b.found in flawed fault.BadCharacter (ap kind_of b.stands.named ∙ k) (HasBadHost.brackets x rest around none)
bad_host_flaw syntax piece p (BadHost.port_after x digits closed _ e b) =
    let (k, none) = port_kind syntax digits b.inside b.found in flawed fault.BadPort (ap kind_of b.stands.named ∙ k) (HasBadPort.bracketed x digits closed e none)
bad_host_flaw syntax piece p (BadHost.colons front many none h) = colons_flaw syntax piece p front many none h
bad_host_flaw syntax piece p (BadHost.plain h bad) =
    let (k, none) = no_host_kind syntax piece p bad in flawed fault.BadCharacter k (HasBadHost.plain piece [] h (inl refl) (sym (append-nil piece)) none)
bad_host_flaw syntax piece p (BadHost.with_port text digits h free e (Then.at_first b)) =
    let (k, none) = no_digits_kind syntax digits b.inside b.found in flawed fault.BadPort (ap kind_of b.stands.named ∙ k) (HasBadPort.plain text digits h free e none)
bad_host_flaw syntax piece p (BadHost.with_port text digits h free e (Then.at_second _ (Then.at_first bad))) =
    let (k, none) = no_host_kind syntax text p bad in flawed fault.BadCharacter k (HasBadHost.plain text (colon ∷ digits) h (inr (digits, free, refl)) e none)
bad_host_flaw syntax piece p (BadHost.with_port text digits h free e (Then.at_second _ (Then.at_second _ b))) =
    let (k, none) = outside_kind syntax digits b.inside b.found in flawed fault.BadPort (ap kind_of b.stands.named ∙ k) (HasBadPort.plain text digits h free e none)

-- ---- authorities

-- the flaw of user information is a part of it that is not text
pub bad_user_kind : (information : List ℕ) (p : Place) → BadUser information p → HasNoText information × (kind_of p.reason ≡ kind.BadUrl fault.BadCharacter)
bad_user_kind information p (BadUser.alone free h) = (HasNoText.user free h.undecodable, ap kind_of h.stands.named)
bad_user_kind information p (BadUser.with_password u w free e (Then.at_first b)) =
    (HasNoText.password u w free e b.found.undecodable, ap kind_of b.stands.named ∙ ap kind_of b.found.stands.named)
bad_user_kind information p (BadUser.with_password u w free e (Then.at_second _ h)) = (HasNoText.user_before_password u w free e h.undecodable, ap kind_of h.stands.named)

-- the piece after the user information
bad_piece_flaw : (syntax : HostSyntax) (needed : Bool) (authority piece : List ℕ) (why : Reason) → PieceOf authority piece → Flawed (HostPortFlaw syntax piece) why → Flawed (AuthorityFlaw syntax needed authority) why
bad_piece_flaw syntax needed authority piece why of h = flawed h.named h.of_kind (AuthorityFlaw.bad_name piece h.named of h.there)

-- an authority without a backslash
bad_parts_flaw : (syntax : HostSyntax) (needed : Bool) (authority : List ℕ) (p : Place) → BadParts syntax needed authority p → Flawed (AuthorityFlaw syntax needed authority) p.reason
bad_parts_flaw syntax needed authority p (BadParts.alone free (Then.at_first h)) = bad_piece_flaw syntax needed authority authority p.reason (PieceOf.whole free refl) (bad_host_flaw syntax authority p h)
bad_parts_flaw syntax needed authority p (BadParts.alone free (Then.at_second _ h)) = flawed fault.HostRequired (ap kind_of h.stands.named) (AuthorityFlaw.host_required h.wanted h.empty)
bad_parts_flaw syntax needed authority p (BadParts.with_user information piece free e (Then.at_first h)) =
    let (none, k) = bad_user_kind information p h in flawed fault.BadCharacter k (bad_user_flaw syntax needed authority information piece free e none)
bad_parts_flaw syntax needed authority p (BadParts.with_user information piece free e (Then.at_second _ (Then.at_first b))) =
    let h = bad_host_flaw syntax piece b.inside b.found in
    bad_piece_flaw syntax needed authority piece p.reason (PieceOf.suffix information free e) (subst (λ why. Flawed (HostPortFlaw syntax piece) why) (sym b.stands.named) h)
bad_parts_flaw syntax needed authority p (BadParts.with_user information piece free e (Then.at_second _ (Then.at_second _ h))) =
    flawed fault.BadCharacter (ap kind_of h.stands.named) (AuthorityFlaw.no_host information (e ∙ ap (λ t. information ++ at_sign ∷ t) h.empty))

-- any authority
pub bad_authority_flaw : (syntax : HostSyntax) (needed : Bool) (authority : List ℕ) (p : Place) → BadAuthority syntax needed authority p → Flawed (AuthorityFlaw syntax needed authority) p.reason
bad_authority_flaw syntax needed authority p (Then.at_first h) =
    flawed fault.BadCharacter (ap kind_of h.stands.named) (AuthorityFlaw.holds_backslash (stands_not_free backslash authority p.at h.first))
bad_authority_flaw syntax needed authority p (Then.at_second _ h) = bad_parts_flaw syntax needed authority p h
