-- A text has at most one normal form, and none if it has a flaw.
use Rattle.std.proofs.Common.{◌≡◌, ◌∙◌, ◌+◌, ◌*◌, ◌≤◌, ◌++◌, ℕ, Bool, true, false, List, [], length, refl, sym, ap, subst, arith, inl, inr, ⊎_elim, Option, Some, None, Result, Ok, Err, MatchResult, codes}
use Rattle.std.specs.Prelude.{if◌then◌else◌, option_map}
use Rattle.std.specs.List.{list_all}
use Rattle.std.specs.Option.{is_some}
use Rattle.std.proofs.lemmas.Bool.{false≢true}
use Rattle.std.proofs.lemmas.Option.{same_Some}
use Rattle.git_syntax.specs.Bytes.{colon, at_sign, right_bracket, FreeOf, lowercase, is_query_start}
use Rattle.git_syntax.specs.Escapes.{is_sound}
use Rattle.git_syntax.specs.Grammar.{or_root}
use Rattle.git_syntax.specs.Hosts.{Number}
use Rattle.git_syntax.specs.Hosts.HostSyntax.{http_hosts}
use Rattle.git_syntax.proofs.Texts.CutLemmas.{class_cut_unique, path_cut_unique, cut_unique, last_cut_unique, not_free, scheme_text_free}
use Rattle.git_syntax.proofs.Parsing.FormLemmas.{scheme_cut_unique}
use Rattle.git_rules.specs.declared.normal.NormalError.{NormalError}
use Rattle.git_rules.specs.declared.normal.NormalError.TheVariants.{NoRoom, NoUrl, BrokenEscape, NoHost, BadHost, BadPort, AboveRoot}
use Rattle.git_rules.specs.Normal.{NormalPlace, CutsPort, HostFor, PortFor, HostPort, IsUserOf, NormalAuthority, NormalPath, UrlCut, IsNormalOf, is_own_port, is_host_byte, lacks_host, normal_text, normal_segments, write_segments, stacked_path}
use Rattle.git_rules.specs.NormalPieces.{HoldsParts, ReadsAuthority}
use Rattle.git_rules.specs.NormalFlaws.{IsBadPort, IsBroken, HostFlaw, AuthorityFlaw, PartFlaw, PathFlaw, NormalizesIn}

-- ---- hosts and ports

-- a text is cut into one name and one port
pub port_cut_unique : (text name other port last : List ℕ) → CutsPort text name port → CutsPort text other last → (name ≡ other) × (port ≡ last)
port_cut_unique text name other port last (CutsPort.no_colon f e n) (CutsPort.no_colon g d m) = (e ∙ sym d, n ∙ sym m)
port_cut_unique text name other port last (CutsPort.no_colon f e n) (CutsPort.in_brackets x y j g b d m) = absurd (not_free colon x y (subst (λ z. FreeOf colon z) j f))
port_cut_unique text name other port last (CutsPort.no_colon f e n) (CutsPort.at_colon j g b) = absurd (not_free colon other last (subst (λ z. FreeOf colon z) j f))
port_cut_unique text name other port last (CutsPort.in_brackets x y j g b d m) (CutsPort.no_colon f e n) = absurd (not_free colon x y (subst (λ z. FreeOf colon z) j f))
port_cut_unique text name other port last (CutsPort.in_brackets x y j g b d m) (CutsPort.in_brackets z w k h c e n) = (d ∙ sym e, m ∙ sym n)
port_cut_unique text name other port last (CutsPort.in_brackets x y j g b d m) (CutsPort.at_colon k h c) =
    absurd (b (subst (λ z. FreeOf right_bracket z) (sym (last_cut_unique colon x other y last g h (sym j ∙ k)).1) c))
port_cut_unique text name other port last (CutsPort.at_colon j g b) (CutsPort.no_colon f e n) = absurd (not_free colon name port (subst (λ z. FreeOf colon z) j f))
port_cut_unique text name other port last (CutsPort.at_colon k h c) (CutsPort.in_brackets x y j g b d m) =
    absurd (b (subst (λ z. FreeOf right_bracket z) (sym (last_cut_unique colon x name y port g h (sym j ∙ k)).1) c))
port_cut_unique text name other port last (CutsPort.at_colon j g b) (CutsPort.at_colon k h c) = last_cut_unique colon name other port last g h (sym j ∙ k)

-- a host is one
host_for_unique : (scheme text name port host other : List ℕ) → HostFor scheme text name port host → HostFor scheme text name port other → host ≡ other
host_for_unique scheme text name port host other (HostFor.named l e) (HostFor.named m d) = e ∙ sym d
host_for_unique scheme text name port host other (HostFor.named l e) (HostFor.missing m f n d) = absurd (false≢true (sym l ∙ m))
host_for_unique scheme text name port host other (HostFor.missing m f n d) (HostFor.named l e) = absurd (false≢true (sym l ∙ m))
host_for_unique scheme text name port host other (HostFor.missing l g o e) (HostFor.missing m f n d) = e ∙ sym d

-- no digits aren't a number
no_digits : (text : List ℕ) (port : ℕ) → text ≡ [] → Number http_hosts text port → ⊥
no_digits text port e h = let none = ap length e in let some = h.digits.0 in omega (arith, none, some)

-- a port is one
port_for_unique : (scheme text : List ℕ) (port last : Option ℕ) → PortFor scheme text port → PortFor scheme text last → port ≡ last
port_for_unique scheme text port last (inl h) (inl k) = h.1 ∙ sym k.1
port_for_unique scheme text port last (inl h) (inr k) = absurd (no_digits text k.0 h.0 k.1)
port_for_unique scheme text port last (inr h) (inl k) = absurd (no_digits text h.0 k.0 h.1)
port_for_unique scheme text port last (inr h) (inr k) =
    h.2 ∙ ap (λ p. if is_own_port scheme p then None else Some p) (h.1.value ∙ sym k.1.value) ∙ sym k.2

-- a text holds one host and one port
host_port_unique : (globs : Bool) (scheme text host other : List ℕ) (port last : Option ℕ) → HostPort globs scheme text host port → HostPort globs scheme text other last → (host ≡ other) × (port ≡ last)
host_port_unique globs scheme text host other port last h k =
    let pieces = port_cut_unique text h.name k.name h.digits k.digits h.cut k.cut in (
      host_for_unique scheme text k.name k.digits host other (subst (λ p. HostFor scheme text k.name p host) pieces.1 (subst (λ n. HostFor scheme text n h.digits host) pieces.0 h.host_form)) k.host_form,
      port_for_unique scheme k.digits port last (subst (λ p. PortFor scheme p port) pieces.1 h.port_form) k.port_form,
    )

-- ---- authorities

-- user information has one user
user_unique : (info user other : List ℕ) → IsUserOf info user → IsUserOf info other → user ≡ other
user_unique info user other (inl h) (inl k) = h.1 ∙ sym k.1
user_unique info user other (inl h) (inr k) = absurd (not_free colon other k.0 (subst (λ z. FreeOf colon z) k.2 h.0))
user_unique info user other (inr h) (inl k) = absurd (not_free colon user h.0 (subst (λ z. FreeOf colon z) h.2 k.0))
user_unique info user other (inr h) (inr k) = (cut_unique colon user other h.0 k.0 h.1 k.1 (sym h.2 ∙ k.2)).0

-- an authority has one user, one host and one port
pub authority_unique : (globs : Bool) (scheme text : List ℕ) (user person : Option (List ℕ)) (host other : List ℕ) (port last : Option ℕ) → NormalAuthority globs scheme text user host port → NormalAuthority globs scheme text person other last → (user ≡ person) × (host ≡ other) × (port ≡ last)
authority_unique globs scheme text user person host other port last (NormalAuthority.alone f u n) (NormalAuthority.alone g v m) =
    let same = host_port_unique globs scheme text host other port last n m in
    (u ∙ sym v, same.0, same.1)
authority_unique globs scheme text user person host other port last (NormalAuthority.alone f u n) (NormalAuthority.with_user i r name g j s c v m) =
    absurd (not_free at_sign i r (subst (λ z. FreeOf at_sign z) j f))
authority_unique globs scheme text user person host other port last (NormalAuthority.with_user i r name g j s c v m) (NormalAuthority.alone f u n) =
    absurd (not_free at_sign i r (subst (λ z. FreeOf at_sign z) j f))
authority_unique globs scheme text user person host other port last (NormalAuthority.with_user i r name g j s c v m) (NormalAuthority.with_user k x second f l t d w n) =
    let pieces = cut_unique at_sign i k r x g f (sym j ∙ l) in
    let given = user_unique k name second (subst (λ z. IsUserOf z name) pieces.0 c) d in
    let same = host_port_unique globs scheme x host other port last (subst (λ z. HostPort globs scheme z host port) pieces.1 m) n in
    (v ∙ ap (λ z. Some (normal_text z)) given ∙ sym w, same.0, same.1)

-- ---- paths

-- the text after an authority has one path
path_unique : (suffix path other : List ℕ) → NormalPath suffix path → NormalPath suffix other → path ≡ other
path_unique suffix path other h k =
    let pieces = class_cut_unique is_query_start h.segments k.segments h.rest k.rest h.before_rest k.before_rest h.rest_starts k.rest_starts (sym h.joined ∙ k.joined) in
    let stack = same_Some h.stack k.stack (sym (subst (λ z. write_segments (normal_segments z) [] ≡ Some h.stack) pieces.0 h.put) ∙ k.put) in
    h.form ∙ ap (λ z. or_root (stacked_path z) ++ normal_text h.rest) stack ∙ ap (λ z. or_root (stacked_path k.stack) ++ normal_text z) pieces.1 ∙ sym k.form

-- ---- URLs

-- a URL is cut in one way
pub url_cut_unique : (text scheme other authority second suffix rest : List ℕ) → UrlCut text scheme authority suffix → UrlCut text other second rest → (scheme ≡ other) × (authority ≡ second) × (suffix ≡ rest)
url_cut_unique text scheme other authority second suffix rest h k =
    let cut = scheme_cut_unique scheme other (authority ++ suffix) (second ++ rest) (scheme_text_free scheme colon h.scheme_text refl) (scheme_text_free other colon k.scheme_text refl) (sym h.joined ∙ k.joined) in
    let pieces = path_cut_unique true authority second suffix rest h.before_path k.before_path h.path_starts k.path_starts cut.1 in
    (cut.0, pieces.0, pieces.1)

-- a text has one normal form
pub normal_unique : (globs : Bool) (text : List ℕ) (n m : NormalPlace) → IsNormalOf globs text n → IsNormalOf globs text m → n ≡ m
normal_unique globs text n m h k =
    let cut = url_cut_unique text h.scheme k.scheme h.authority k.authority h.suffix k.suffix h.cut k.cut in
    let scheme = h.scheme_form ∙ ap lowercase cut.0 ∙ sym k.scheme_form in
    let first = subst (λ z. NormalAuthority globs (lowercase z) h.authority n.user n.host n.port) cut.0 h.authority_form in
    let same = authority_unique globs (lowercase k.scheme) k.authority n.user m.user n.host m.host n.port m.port (subst (λ z. NormalAuthority globs (lowercase k.scheme) z n.user n.host n.port) cut.1 first) k.authority_form in
    let path = path_unique k.suffix n.path m.path (subst (λ z. NormalPath z n.path) cut.2 h.path_form) k.path_form in
    λ i. record { scheme = scheme i; user = same.0 i; host = same.1 i; port = same.2 i; path = path i }

-- ---- flaws

-- if a scheme needs a host, none is missing
no_host_refused : (scheme text name port host : List ℕ) → lacks_host text ≡ true → ¬ (scheme ≡ codes "file") → HostFor scheme text name port host → ⊥
no_host_refused scheme text name port host lacks other (HostFor.named l e) = false≢true (sym l ∙ lacks)
no_host_refused scheme text name port host lacks other (HostFor.missing m f n d) = other f

-- a text that isn't a port has none
port_refused : (scheme text name port digits host : List ℕ) (p : Option ℕ) → port ≡ digits → IsBadPort scheme text port → HostFor scheme text name digits host → PortFor scheme digits p → ⊥
port_refused scheme text name port digits host p same (inl bad) h (inl empty) =
    let none = ap length (same ∙ empty.0) in let some = bad.1.0 in omega (arith, none, some)
port_refused scheme text name port digits host p same (inl bad) h (inr number) = bad.1.1 number.0 (subst (λ z. Number http_hosts z number.0) (sym same) number.1)
port_refused scheme text name port digits host p same (inr some) (HostFor.named l e) k = false≢true (sym l ∙ some.0)
port_refused scheme text name port digits host p same (inr some) (HostFor.missing m f n d) k = some.2 (same ∙ n)

-- a host with a flaw has no normal form
host_refused : (globs : Bool) (scheme text host : List ℕ) (port : Option ℕ) (e : NormalError) → HostFlaw globs scheme text e → HostPort globs scheme text host port → ⊥
host_refused globs scheme text host port NoRoom flaw h = flaw
host_refused globs scheme text host port NoUrl flaw h = flaw
host_refused globs scheme text host port BrokenEscape flaw h = flaw
host_refused globs scheme text host port AboveRoot flaw h = flaw
host_refused globs scheme text host port NoHost flaw h = no_host_refused scheme text h.name h.digits host flaw.1 flaw.2 h.host_form
host_refused globs scheme text host port BadHost flaw h =
    let same = (port_cut_unique text flaw.0 h.name flaw.1 h.digits flaw.2 h.cut).0 in
    false≢true (sym flaw.3 ∙ ap (list_all (is_host_byte globs)) same ∙ h.bytes)
host_refused globs scheme text host port BadPort flaw h =
    let same = (port_cut_unique text flaw.0 h.name flaw.1 h.digits flaw.2 h.cut).1 in
    port_refused scheme text h.name flaw.1 h.digits host port same flaw.4 h.host_form h.port_form

-- user information with a broken escape is not sound
broken_unsound : (info : List ℕ) (e : NormalError) → IsBroken info e → is_sound info ≡ false
broken_unsound info NoRoom broken = absurd broken
broken_unsound info NoUrl broken = absurd broken
broken_unsound info BrokenEscape broken = broken
broken_unsound info NoHost broken = absurd broken
broken_unsound info BadHost broken = absurd broken
broken_unsound info BadPort broken = absurd broken
broken_unsound info AboveRoot broken = absurd broken

-- an authority with a flaw has no normal form
authority_refused : (globs : Bool) (scheme text : List ℕ) (user : Option (List ℕ)) (host : List ℕ) (port : Option ℕ) (e : NormalError) → AuthorityFlaw globs scheme text e → NormalAuthority globs scheme text user host port → ⊥
authority_refused globs scheme text user host port e (inl flaw) (NormalAuthority.alone f u n) = host_refused globs scheme text host port e flaw.1 n
authority_refused globs scheme text user host port e (inl flaw) (NormalAuthority.with_user i r name g j s c v m) = not_free at_sign i r (subst (λ z. FreeOf at_sign z) j flaw.0)
authority_refused globs scheme text user host port e (inr flaw) (NormalAuthority.alone f u n) = not_free at_sign flaw.0 flaw.1 (subst (λ z. FreeOf at_sign z) flaw.3 f)
authority_refused globs scheme text user host port e (inr flaw) (NormalAuthority.with_user i r name g j s c v m) =
    let pieces = cut_unique at_sign flaw.0 i flaw.1 r flaw.2 g (sym flaw.3 ∙ j) in
    ⊎_elim
    (λ broken. false≢true (sym (broken_unsound flaw.0 e broken) ∙ ap is_sound pieces.0 ∙ s))
    (λ k. host_refused globs scheme r host port e (subst (λ z. HostFlaw globs scheme z e) pieces.1 k.1) m)
    flaw.4

-- there is no outcome if there is none
no_outcome : (o : Option (List (List ℕ))) (x : List (List ℕ)) → o ≡ None → o ≡ Some x → ⊥
no_outcome o x none some = false≢true (ap is_some (sym none ∙ some))

-- the text after an authority has no path if it has a flaw
path_refused : (suffix path : List ℕ) (e : NormalError) → PathFlaw suffix e → NormalPath suffix path → ⊥
path_refused suffix path NoRoom flaw h = flaw
path_refused suffix path NoUrl flaw h = flaw
path_refused suffix path BrokenEscape flaw h = false≢true (sym flaw ∙ h.sound)
path_refused suffix path NoHost flaw h = flaw
path_refused suffix path BadHost flaw h = flaw
path_refused suffix path BadPort flaw h = flaw
path_refused suffix path AboveRoot flaw h =
    let pieces = class_cut_unique is_query_start flaw.0 h.segments flaw.1 h.rest flaw.2.lacks h.before_rest flaw.2.begins h.rest_starts (sym flaw.2.joined ∙ h.joined) in
    no_outcome (write_segments (normal_segments h.segments) []) h.stack (ap (λ z. write_segments (normal_segments z) []) (sym pieces.0) ∙ flaw.3) h.put

-- a URL whose authority or path has a flaw has no normal form
cut_refused : (globs : Bool) (text scheme authority suffix : List ℕ) (e : NormalError) → UrlCut text scheme authority suffix → PartFlaw globs (lowercase scheme) authority suffix e → (n : NormalPlace) → IsNormalOf globs text n → ⊥
cut_refused globs text scheme authority suffix e cut (inl flaw) n h =
    let same = url_cut_unique text scheme h.scheme authority h.authority suffix h.suffix cut h.cut in
    let moved = subst (λ z. AuthorityFlaw globs (lowercase z) authority e) same.0 flaw in
    authority_refused globs (lowercase h.scheme) h.authority n.user n.host n.port e (subst (λ z. AuthorityFlaw globs (lowercase h.scheme) z e) same.1 moved) h.authority_form
cut_refused globs text scheme authority suffix e cut (inr flaw) n h =
    let same = url_cut_unique text scheme h.scheme authority h.authority suffix h.suffix cut h.cut in
    path_refused h.suffix n.path e (subst (λ z. PathFlaw z e) same.2 flaw.1) h.path_form

-- a flaw of a part is neither that of the buffer nor that of the text
buffer_no_flaw : (globs : Bool) (scheme text suffix : List ℕ) → PartFlaw globs scheme text suffix NoRoom → ⊥
buffer_no_flaw globs scheme text suffix (inl (inl flaw)) = flaw.1
buffer_no_flaw globs scheme text suffix (inl (inr flaw)) = ⊎_elim (λ b. b) (λ b. b.1) flaw.4
buffer_no_flaw globs scheme text suffix (inr flaw) = flaw.1

url_no_flaw : (globs : Bool) (scheme text suffix : List ℕ) → PartFlaw globs scheme text suffix NoUrl → ⊥
url_no_flaw globs scheme text suffix (inl (inl flaw)) = flaw.1
url_no_flaw globs scheme text suffix (inl (inr flaw)) = ⊎_elim (λ b. b) (λ b. b.1) flaw.4
url_no_flaw globs scheme text suffix (inr flaw) = flaw.1

-- a text whose authority or path has a flaw is refused for that
pub part_flawed : (globs : Bool) (text scheme authority suffix : List ℕ) (buffer_len : ℕ) (e : NormalError) → 3 * length text + 1 ≤ buffer_len → UrlCut text scheme authority suffix → PartFlaw globs (lowercase scheme) authority suffix e → NormalizesIn globs text buffer_len (Err e)
part_flawed globs text s a b buffer_len NoRoom enough cut flaw = absurd (buffer_no_flaw globs (lowercase s) a b flaw)
part_flawed globs text s a b buffer_len NoUrl enough cut flaw = absurd (url_no_flaw globs (lowercase s) a b flaw)
part_flawed globs text s a b buffer_len BrokenEscape enough cut flaw = (enough, (s, a, b, cut, flaw), cut_refused globs text s a b BrokenEscape cut flaw)
part_flawed globs text s a b buffer_len NoHost enough cut flaw = (enough, (s, a, b, cut, flaw), cut_refused globs text s a b NoHost cut flaw)
part_flawed globs text s a b buffer_len BadHost enough cut flaw = (enough, (s, a, b, cut, flaw), cut_refused globs text s a b BadHost cut flaw)
part_flawed globs text s a b buffer_len BadPort enough cut flaw = (enough, (s, a, b, cut, flaw), cut_refused globs text s a b BadPort cut flaw)
part_flawed globs text s a b buffer_len AboveRoot enough cut flaw = (enough, (s, a, b, cut, flaw), cut_refused globs text s a b AboveRoot cut flaw)

-- the text written for the parts is the normal form, or the path has a flaw
pub parts_normalize : (globs : Bool) (text scheme lowered authority suffix : List ℕ) (user : Option (List ℕ)) (host : List ℕ) (port : Option ℕ) (buffer_len : ℕ) (r : Result NormalPlace NormalError) → 3 * length text + 1 ≤ buffer_len → UrlCut text scheme authority suffix → lowered ≡ lowercase scheme → ReadsAuthority globs lowered authority user host port
    → MatchResult r (λ n. HoldsParts lowered user host port suffix n) (λ e. PathFlaw suffix e) → NormalizesIn globs text buffer_len r
parts_normalize globs text scheme lowered authority suffix user host port buffer_len (Ok n) enough cut low read holds =
    let form = read.form in
    let one = subst (λ z. NormalAuthority globs z authority (option_map normal_text user) (lowercase host) port) low form in
    let two = subst (λ z. NormalAuthority globs (lowercase scheme) authority z (lowercase host) port) (sym holds.user_is) one in
    let three = subst (λ z. NormalAuthority globs (lowercase scheme) authority n.user z port) (sym holds.host_is) two in
    let four = subst (λ z. NormalAuthority globs (lowercase scheme) authority n.user n.host z) (sym holds.port_is) three in
    (enough, record { scheme = scheme; authority = authority; suffix = suffix; cut = cut; scheme_form = holds.scheme_is ∙ low; authority_form = four; path_form = holds.path_is })
parts_normalize globs text scheme lowered authority suffix user host port buffer_len (Err e) enough cut low read flaw =
    let form = subst (λ z. NormalAuthority globs z authority (option_map normal_text user) (lowercase host) port) low read.form in
    part_flawed globs text scheme authority suffix buffer_len e enough cut (inr ((option_map normal_text user, lowercase host, port, form), flaw))
