-- The normal form of a text that a reader of URIs reads in the
-- normal form has the same scheme, host and port.
use Rattle.std.proofs.Common.{◌≡◌, ℕ, ◌<◌, ◌⊎◌, inl, inr, List, [], ◌∷◌, ◌++◌, length, refl, sym, ap, subst, ◌∙◌, arith, append-nil, length-append, true, false, Option, codes, unwrap_or}
use Rattle.std.specs.List.{list_all}
use Rattle.std.specs.Char.{is_ascii_digit}
use Rattle.git_syntax.specs.Bytes.{slash, colon, at_sign, left_bracket, right_bracket, FreeOf, IsLowercase, lowercase}
use Rattle.git_syntax.proofs.Texts.CutLemmas.{tails, cut_unique, last_cut_unique, not_free, free_of_all, path_cut_unique, scheme_text_free}
use Rattle.git_laws.specs.GitWeb.{UriAuthority, UriHost, UriPort, UriReading, UriReads, IsNormalUri}
use Rattle.git_rules.specs.Normal.{CutsPort, HostFor, HostPort, IsNormalOf, NormalAuthority, NormalPlace, PortFor}

-- the text that names the host follows the user information in both
named_same : (scheme authority named host : List ℕ) (information user : Option (List ℕ)) (port : Option ℕ) → UriAuthority authority information named → NormalAuthority false scheme authority user host port → HostPort false scheme named host port
named_same scheme authority named host information user port (UriAuthority.host_alone free same none) (NormalAuthority.alone free' nobody h) =
    subst (λ n. HostPort false scheme n host port) (sym same) h
named_same scheme authority named host information user port (UriAuthority.host_alone free same none) (NormalAuthority.with_user info rest name free' joined sound of there h) =
    absurd (not_free at_sign info rest (subst (FreeOf at_sign) joined free))
named_same scheme authority named host information user port (UriAuthority.informed i free more joined there) (NormalAuthority.alone free' nobody h) =
    absurd (not_free at_sign i named (subst (FreeOf at_sign) joined free'))
named_same scheme authority named host information user port (UriAuthority.informed i free more joined there) (NormalAuthority.with_user info rest name free' joined' sound of there' h) =
    let cut = cut_unique at_sign i info named rest free free' (sym joined ∙ joined') in
    subst (λ n. HostPort false scheme n host port) (sym cut.1) h

-- a text that ends in a byte has no end without it
pub end_held : (c : ℕ) (a name z : List ℕ) → FreeOf c z → 0 < length z → a ++ c ∷ [] ≡ name ++ z → ⊥
end_held c a [] z free some e = not_free c a [] (subst (FreeOf c) (sym e) free)
end_held c [] (d ∷ name) z free some e = omega (arith, ap length (tails e), length-append name z)
end_held c (b ∷ a) (d ∷ name) z free some e = end_held c a name z free some (tails e)

-- no port is cut off a host alone
no_port : (host name digits : List ℕ) → ((inside : List ℕ) × (host ≡ left_bracket ∷ (inside ++ right_bracket ∷ []))) ⊎ FreeOf colon host → CutsPort host name digits → (name ≡ host) × (digits ≡ [])
no_port host name digits form (CutsPort.no_colon free same none) = (same, none)
no_port host name digits form (CutsPort.in_brackets front back joined free held same none) = (same, none)
no_port host name digits (inl (inside, is)) (CutsPort.at_colon joined free closed) =
    absurd (end_held right_bracket (left_bracket ∷ inside) name (colon ∷ digits) closed (omega arith) (sym is ∙ joined))
no_port host name digits (inr free') (CutsPort.at_colon joined free closed) =
    absurd (not_free colon name digits (subst (FreeOf colon) joined free'))

-- a port is cut off a host before it
port_off : (text host name ds digits : List ℕ) → text ≡ host ++ colon ∷ ds → list_all is_ascii_digit ds ≡ true → CutsPort text name digits → (name ≡ host) × (digits ≡ ds)
port_off text host name ds digits whole all (CutsPort.no_colon free same none) =
    absurd (not_free colon host ds (subst (FreeOf colon) whole free))
port_off text host name ds digits whole all (CutsPort.in_brackets front back joined free held same none) =
    let own = free_of_all is_ascii_digit colon ds all refl in
    let cut = last_cut_unique colon front host back ds free own (sym joined ∙ whole) in
    absurd (held (subst (FreeOf right_bracket) (sym cut.1) (free_of_all is_ascii_digit right_bracket ds all refl)))
port_off text host name ds digits whole all (CutsPort.at_colon joined free closed) =
    last_cut_unique colon name host digits ds free (free_of_all is_ascii_digit colon ds all refl) (sym joined ∙ whole)

-- a host is in brackets, or free of colons
host_form : (named host suffix : List ℕ) → UriHost named host suffix → ((inside : List ℕ) × (host ≡ left_bracket ∷ (inside ++ right_bracket ∷ []))) ⊎ FreeOf colon host
host_form named host suffix (UriHost.bracketed inside address is joined) = inl (inside, is)
host_form named host suffix (UriHost.unbracketed free begins joined) = inr free

-- a host and the text after it are the whole
host_joined : (named host suffix : List ℕ) → UriHost named host suffix → named ≡ host ++ suffix
host_joined named host suffix (UriHost.bracketed inside address is joined) = joined
host_joined named host suffix (UriHost.unbracketed free begins joined) = joined

-- both cut the same port off the same host
cut_same : (named host suffix name digits : List ℕ) (port : Option (List ℕ)) → UriHost named host suffix → UriPort suffix port → CutsPort named name digits → (name ≡ host) × (digits ≡ unwrap_or port [])
cut_same named host suffix name digits port h (UriPort.absent none no_digits) cut =
    let whole : named ≡ host = host_joined named host suffix h ∙ ap (λ z. host ++ z) none ∙ append-nil host in
    let alone = no_port host name digits (host_form named host suffix h) (subst (λ n. CutsPort n name digits) whole cut) in
    (alone.0, alone.1 ∙ sym (ap (λ p. unwrap_or p []) no_digits))
cut_same named host suffix name digits port h (UriPort.there ds is all some_digits) cut =
    let whole : named ≡ host ++ colon ∷ ds = host_joined named host suffix h ∙ ap (λ z. host ++ z) is in
    let both = port_off named host name ds digits whole all cut in
    (both.0, both.1 ∙ sym (ap (λ p. unwrap_or p []) some_digits))

-- a host that is there is the name in lower case
host_named : (scheme text name digits host : List ℕ) → ¬ (scheme ≡ codes "file") → HostFor scheme text name digits host → host ≡ lowercase name
host_named scheme text name digits host other (HostFor.named there same) = same
host_named scheme text name digits host other (HostFor.missing lacking is none empty) = absurd (other is)

-- host and port are the same
host_same : (scheme named own suffix host : List ℕ) (port : Option (List ℕ)) (number : Option ℕ) → UriHost named own suffix → UriPort suffix port → IsLowercase own → ¬ (scheme ≡ codes "file") → HostPort false scheme named host number → (host ≡ own) × PortFor scheme (unwrap_or port []) number
host_same scheme named own suffix host port number h p lower other n =
    let cut = cut_same named own suffix n.name n.digits port h p n.cut in (
      host_named scheme named n.name n.digits host other n.host_form ∙ ap lowercase cut.0 ∙ lower,
      subst (λ d. PortFor scheme d number) cut.1 n.port_form,
    )

-- the scheme, the host and the port of the normal form are those of the URI
pub record SamePlace (r : UriReading) (n : NormalPlace) : Type 0 where
  pub scheme : n.scheme ≡ r.scheme
  pub host : n.host ≡ r.host
  pub port : PortFor r.scheme (unwrap_or r.port []) n.port

-- so it is with each text
pub place_same : (t : List ℕ) (r : UriReading) (n : NormalPlace) → UriReads t r → IsNormalUri r → ¬ (r.scheme ≡ codes "file") → IsNormalOf false t n → SamePlace r n
place_same t r n reads normal other h =
    let first = cut_unique colon r.scheme h.scheme (slash ∷ slash ∷ (reads.authority ++ reads.suffix)) (slash ∷ slash ∷ (h.authority ++ h.suffix)) (scheme_text_free r.scheme colon reads.bytes.scheme refl) (scheme_text_free h.scheme colon h.cut.scheme_text refl) (sym reads.joined ∙ h.cut.joined) in
    let second = path_cut_unique true reads.authority h.authority reads.suffix h.suffix reads.before_path h.cut.before_path reads.path_start h.cut.path_starts (tails (tails first.1)) in
    let lower : lowercase h.scheme ≡ r.scheme = ap lowercase (sym first.0) ∙ normal.scheme in
    let authority : NormalAuthority false r.scheme reads.authority n.user n.host n.port = subst (λ s. NormalAuthority false s reads.authority n.user n.host n.port) lower (subst (λ a. NormalAuthority false (lowercase h.scheme) a n.user n.host n.port) (sym second.0) h.authority_form) in
    let named = named_same r.scheme reads.authority reads.named n.host r.information n.user n.port reads.cut authority in
    let host = host_same r.scheme reads.named r.host reads.after_host n.host r.port n.port reads.host reads.port normal.host other named in
    record { scheme = h.scheme_form ∙ lower; host = host.0; port = host.1 }
