-- Refusals: bytes that hold a flaw spell no location.
use Rattle.std.proofs.Common.{◌≡◌, ℕ, ◌==◌, Bool, true, false, ◌⊎◌, inl, inr, List, [], ◌∷◌, ◌++◌, length, Option, Some, None, refl, sym, ap, subst, ◌∙◌, arith, length-append, IsUtf8, codes}
use Rattle.std.proofs.lemmas.Bool.{both_ways}
use Rattle.std.specs.List.{list_any}
use Rattle.std.proofs.lemmas.List.{append_cancel_left}
use Rattle.git_syntax.specs.declared.refusal.UrlKind.{UrlKind}
use Rattle.git_syntax.specs.declared.refusal.UrlKind.TheVariants as kind
use Rattle.git_syntax.specs.declared.refusal.UrlFault.{UrlFault}
use Rattle.git_syntax.specs.declared.refusal.Refusal.{Refusal}
use Rattle.git_syntax.specs.declared.refusal.Refusal.TheVariants as refusal
use Rattle.git_syntax.specs.Location.{Location}
use Rattle.git_syntax.specs.Bytes.{slash, colon, at_sign, backslash, right_bracket, FreeOf, StartsPath}
use Rattle.git_syntax.specs.Escapes.{escaped_percents}
use Rattle.git_syntax.specs.Hosts.{HostSyntax, SpellsHostPort}
use Rattle.git_syntax.specs.Hosts.HostSyntax.{git_hosts}
use Rattle.git_syntax.specs.Schemes.{is_web_scheme, scheme_of, host_syntax_of, requires_host, requires_path}
use Rattle.git_syntax.specs.Grammar.{ScpForm, AddressedForm, ScpHost, SpellsUrl, Spells}
use Rattle.git_syntax.specs.Flaws.{IsTooLong, MissesPath, HasForm, OtherUrlForm, UrlCut, HostPortFlaw, PieceOf, HasBadUser, AuthorityFlaw, UrlFlaw, ScpHostFlaw, ScpFlaw, KindFlaw, NamesFlaw}
use Rattle.git_syntax.specs.Internal.UrlPieces.{HasNoText, IsNoAuthority}
use Rattle.git_syntax.specs.Refusals.{Flawless}
use Rattle.git_syntax.proofs.Texts.CutLemmas.{not_free}
use Rattle.git_syntax.proofs.Parsing.HostLemmas.{flawed_unnamed}
use Rattle.git_syntax.proofs.Parsing.FormLemmas.{address_cut, addressed_joined}
use Rattle.git_syntax.proofs.Parsing.ClassifierLemmas.{empty_unspelled, url_has_form, no_file_path, unfit_url, spelled_as_file, spelled_as_url, spelled_as_scp, spelled_as_addressed, url_pieces}
use Rattle.git_syntax.proofs.Parsing.UrlLemmas.{empty_names_nothing, none_not_some, no_name_alone, no_name_after, no_text_before, no_host_after, no_host_alone, no_scheme_refutes, bad_path_refutes, parts_cut, no_authority_refutes}
use Rattle.git_syntax.proofs.Parsing.SchemeLemmas.{transport}
use Rattle.git_syntax.proofs.Parsing.UrlLocationLemmas.{no_path_refutes}
use Rattle.git_syntax.proofs.Parsing.ScpLemmas.{scp_no_path, scp_no_host, addressed_no_path}
use Rattle.git_syntax.proofs.Parsing.ScpFrontLemmas.{front_of_addressed}

-- ---- authorities

-- user information with a part that isn't text holds nothing
bad_user_refutes : (syntax : HostSyntax) (needed : Bool) (authority : List ℕ) → HasBadUser authority → IsNoAuthority syntax needed authority
bad_user_refutes syntax needed authority (HasBadUser.user u piece f g e bad) = no_text_before syntax needed authority u piece f e (HasNoText.user g bad)
bad_user_refutes syntax needed authority (HasBadUser.user_before_password u w piece f g e bad) =
    no_text_before syntax needed authority (u ++ colon ∷ w) piece f e (HasNoText.user_before_password u w g refl bad)
bad_user_refutes syntax needed authority (HasBadUser.password u w piece f g e bad) =
    no_text_before syntax needed authority (u ++ colon ∷ w) piece f e (HasNoText.password u w g refl bad)

-- an authority whose piece after the user information is flawed holds nothing
bad_name_refutes : (syntax : HostSyntax) (needed : Bool) (authority piece : List ℕ) (named : UrlFault) → PieceOf authority piece → HostPortFlaw syntax piece named → IsNoAuthority syntax needed authority
bad_name_refutes syntax needed authority piece named (PieceOf.whole free e) h =
    no_name_alone syntax needed authority free (subst (λ t. (host : Option (List ℕ)) (port : Option ℕ) → ¬ SpellsHostPort syntax t host port) e (flawed_unnamed syntax piece named h))
bad_name_refutes syntax needed authority piece named (PieceOf.suffix information free e) h =
    no_name_after syntax needed authority information piece free e (flawed_unnamed syntax piece named h)

-- a flawed authority without a backslash holds nothing, or not the host that is needed
pub flawed_authority : (syntax : HostSyntax) (needed : Bool) (authority : List ℕ) (named : UrlFault) → FreeOf backslash authority → AuthorityFlaw syntax needed authority named → IsNoAuthority syntax needed authority
flawed_authority syntax needed authority named free (AuthorityFlaw.holds_backslash held) = absurd (held free)
flawed_authority syntax needed authority named free (AuthorityFlaw.bad_user bad) = bad_user_refutes syntax needed authority bad
flawed_authority syntax needed authority named free (AuthorityFlaw.bad_name piece n of bad) = bad_name_refutes syntax needed authority piece n of bad
flawed_authority syntax needed authority named free (AuthorityFlaw.no_host information e) = no_host_after syntax needed authority information [] refl e refl
flawed_authority syntax needed authority named free (AuthorityFlaw.host_required need e) =
    no_host_alone syntax needed authority need (ap (λ t. list_any (λ c. c == at_sign) t) e) e

-- ---- URLs

-- a flawed authority makes no URL
authority_flaw_refutes : (b scheme authority path : List ℕ) (named : UrlFault) (v : Location) → UrlCut b scheme authority path → AuthorityFlaw (host_syntax_of scheme) (requires_host scheme) authority named → ¬ SpellsUrl b v
authority_flaw_refutes b scheme authority path named v cut bad h =
    let free : FreeOf backslash authority = subst (λ a. FreeOf backslash a) (parts_cut b scheme authority path h.parts cut h.spelled).1 h.spelled.no_backslash in
    no_authority_refutes b scheme authority path h.parts cut (flawed_authority (host_syntax_of scheme) (requires_host scheme) authority named free bad) h.spelled

-- a flawed URL is none
url_flaw_refutes : (b : List ℕ) (named : UrlFault) (v : Location) → UrlFlaw b named → ¬ Spells b v
url_flaw_refutes b named v (UrlFlaw.no_scheme front rest form bad) k =
    let h = spelled_as_url b front rest form v k in no_scheme_refutes b front rest h.parts form bad h.spelled
url_flaw_refutes b named v (UrlFlaw.white_space front rest form text held) k = held (spelled_as_url b front rest form v k).spelled.no_white_space
url_flaw_refutes b named v (UrlFlaw.unsound front rest form bad) k = both_ways _ bad (spelled_as_url b front rest form v k).spelled.sound
url_flaw_refutes b named v (UrlFlaw.bad_path scheme authority path cut bad) k =
    let h = spelled_as_url b scheme (authority ++ path) cut.form v k in bad_path_refutes b scheme authority path h.parts cut bad h.spelled
url_flaw_refutes b named v (UrlFlaw.bad_authority scheme authority path n cut bad) k =
    authority_flaw_refutes b scheme authority path n v cut bad (spelled_as_url b scheme (authority ++ path) cut.form v k)

-- a URL that is too long is none
too_long_refutes : (b : List ℕ) (v : Location) → IsTooLong b → ¬ Spells b v
too_long_refutes b v h k = unfit_url b h.front h.rest h.form h.unfit v (spelled_as_url b h.front h.rest h.form v k)

-- ---- the scp form

-- a flawed host of the scp form denotes none
scp_host_flaw_refutes : (host : List ℕ) (named : UrlFault) → ScpHostFlaw host named → (denoted : List ℕ) → ¬ ScpHost host denoted
scp_host_flaw_refutes host named (ScpHostFlaw.empty e) denoted h =
    none_not_some (Some h.named) (empty_names_nothing git_hosts (escaped_percents host) (Some h.named) None (ap escaped_percents e) h.names) refl
scp_host_flaw_refutes host named (ScpHostFlaw.holds_backslash held) denoted h = held h.no_backslash
scp_host_flaw_refutes host named (ScpHostFlaw.white_space text held) denoted h = held h.no_white_space
scp_host_flaw_refutes host named (ScpHostFlaw.bad_name n bad) denoted h = flawed_unnamed git_hosts (escaped_percents host) n bad (Some h.named) None h.names

-- a flawed scp form spells nothing
scp_flaw_refutes : (b : List ℕ) (named : UrlFault) (v : Location) → ScpFlaw b named → ¬ Spells b v
scp_flaw_refutes b named v h k =
    elim (spelled_as_scp b h.form.neither (inl (h.front, h.path, h.form)) v k) [
      | inl s ↦ scp_no_host b h.front h.path h.user h.host h.form h.split h.no_at (scp_host_flaw_refutes h.host named h.flaw) v s
      | inr s ↦ h.not_addressed (s.user, s.address, s.path, s.form)
    ]

-- ---- paths

-- a path that starts with only a `/` is empty, or a `/` and a rest
slash_or_none : (path : List ℕ) → StartsPath false path → (path ≡ []) ⊎ ((rest : List ℕ) × (path ≡ slash ∷ rest))
slash_or_none path h = grind arith

-- no path after the scheme and the host of a transport of Git's own
url_misses_path : (b scheme authority : List ℕ) (v : Location) → requires_path (scheme_of scheme) ≡ true → FreeOf slash authority → b ≡ scheme ++ (codes "://" ++ authority) → ¬ Spells b v
url_misses_path b scheme authority v need free e k =
    let own = transport scheme need in
    let form : OtherUrlForm b scheme authority = record { form = url_has_form b scheme authority own.no_colon e; not_file = own.not_file } in
    let h = spelled_as_url b scheme authority form v k in
    let (same, rest) = url_pieces b scheme authority v form.form h in
    elim (slash_or_none h.parts.path (subst (λ w. StartsPath w h.parts.path) (ap is_web_scheme same ∙ own.not_web) h.spelled.path_starts)) [
      | inl none ↦ no_path_refutes h.spelled (ap (λ s. requires_path (scheme_of s)) same ∙ need) none v h
      | inr (tail, is) ↦ not_free slash h.spelled.authority tail (subst (λ t. FreeOf slash t) (sym rest ∙ ap (λ t. h.spelled.authority ++ t) is) free)
    ]

-- a colon with nothing after it is not that of an address with a path after it
scp_path_after : (b front user address path : List ℕ) → ScpForm b front [] → AddressedForm b user address path → path ≡ []
scp_path_after b front user address path form k =
    let (x, y, free, e) = address_cut address k.cut.addressed in
    elim (front_of_addressed b user address path x y front [] k free e form.joined form.form) [
      | inl within ↦
          let whole : front ++ colon ∷ [] ≡ front ++ colon ∷ (y ++ right_bracket ∷ (colon ∷ path)) =
          sym form.joined ∙ k.cut.joined ∙ addressed_joined user address path x y e ∙ ap (λ t. t ++ colon ∷ (y ++ right_bracket ∷ (colon ∷ path))) (sym within) in
          absurd (omega (arith, ap length (append_cancel_left front (colon ∷ []) (colon ∷ (y ++ right_bracket ∷ (colon ∷ path))) whole), length-append y (right_bracket ∷ (colon ∷ path))))
      | inr suffix ↦ sym suffix.1
    ]

-- no path after the colon of the scp form
scp_misses_path : (b front : List ℕ) (v : Location) → ScpForm b front [] → ¬ Spells b v
scp_misses_path b front v form k =
    elim (spelled_as_scp b form.neither (inl (front, [], form)) v k) [
      | inl s ↦ scp_no_path b front form v s
      | inr s ↦ absurd (omega (arith, ap length (scp_path_after b front s.user s.address s.path form s.form), s.pathed))
    ]

-- bytes without a path that is needed spell nothing
no_path_spelled : (b : List ℕ) (k : UrlKind) (v : Location) → MissesPath b k → ¬ Spells b v
no_path_spelled b k v (MissesPath.in_file host free e) s =
    let form = url_has_form b (codes "file") host refl e in no_file_path b host form free v (spelled_as_file b host form v s)
no_path_spelled b k v (MissesPath.in_url scheme authority need free e) s = url_misses_path b scheme authority v need free e s
no_path_spelled b k v (MissesPath.in_scp front form) s = scp_misses_path b front v form s
no_path_spelled b k v (MissesPath.after_address user address form) s =
    addressed_no_path b user address form v (spelled_as_addressed b user address [] form v s)

-- ---- all errors

-- bytes that aren't text aren't a URL, and not of the scp form
no_text_spelled : (b : List ℕ) (k : UrlKind) (v : Location) → ¬ IsUtf8 b → HasForm b k → ¬ Spells b v
no_text_spelled b k v bad form s = grind arith

-- a flawed text of any kind spells nothing
kind_flaw_refutes : (b : List ℕ) (k : UrlKind) (named : UrlFault) (v : Location) → KindFlaw b k named → ¬ Spells b v
kind_flaw_refutes b kind.Url named v h = url_flaw_refutes b named v h
kind_flaw_refutes b kind.Scp named v h = scp_flaw_refutes b named v h
kind_flaw_refutes b kind.Local named v h = absurd h

-- bytes that are refused spell no location
pub refused_unspelled : (b : List ℕ) (r : Refusal) → NamesFlaw b r → (v : Location) → ¬ Spells b v
refused_unspelled b refusal.EmptyLocal e v = subst (λ t. ¬ Spells t v) (sym e) (empty_unspelled v)
refused_unspelled b (refusal.MissingPath k) h v = no_path_spelled b k v h
refused_unspelled b (refusal.NotUtf8 k) h v = no_text_spelled b k v h.0 h.1
refused_unspelled b refusal.TooLong h v = too_long_refutes b v h
refused_unspelled b (refusal.BadUrl k named) h v = kind_flaw_refutes b k named v h

-- so bytes that spell one hold no flaw
pub flawless : Flawless
flawless b v s (r, h) = refused_unspelled b r h v s
