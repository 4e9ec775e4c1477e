-- Locations of HTTP: nothing outside the settled class comes back.
use Rattle.std.proofs.Common.{◌≡◌, ℕ, ◌<◌, Bool, true, false, not, ◌==◌, ◌||◌, ◌⊎◌, inl, inr, List, [], ◌∷◌, ◌++◌, length, Option, Some, None, Ok, IsSome, refl, sym, ap, subst, ◌∙◌, arith, append_assoc, codes}
use Rattle.std.specs.Prelude.{IfSome, IsUtf8, is_some}
use Rattle.std.specs.List.{list_all}
use Rattle.std.proofs.lemmas.Bool.{cond-true, and_from, or_right, both_ways}
use Rattle.std.proofs.lemmas.Bool.Decides.{nat_tests}
use Rattle.std.proofs.lemmas.List.{append-nil}
use Rattle.std.proofs.lemmas.Option.{IfSome_then, same_Some, none-some}
use Rattle.git_syntax.specs.Location.{Scheme, Location, fields}
use Rattle.git_syntax.specs.Location.Scheme.{file, ssh, ext, helper}
use Rattle.git_syntax.specs.Bytes.{at_sign, colon, left_bracket, right_bracket, Lacks, FreeOf, begins_with, is_path_start, StartsPath}
use Rattle.git_syntax.specs.Escapes.{has_percent, escaped_percents}
use Rattle.git_syntax.specs.Hosts.{is_http_host_byte, SpellsHostPort}
use Rattle.git_syntax.specs.Hosts.HostSyntax.{http_hosts}
use Rattle.git_syntax.specs.Hosts.SpellsHostPort.{nothing, bracketed, bracketed_colon, bracketed_port, unbracketed, plain, plain_colon, plain_port, colons}
use Rattle.git_syntax.specs.Schemes.{is_web_scheme, scheme_of, scheme_text, host_syntax_of}
use Rattle.git_syntax.specs.Authority.{Authority, FitsText}
use Rattle.git_syntax.specs.Authority.Authority.{host_alone, with_user}
use Rattle.git_syntax.specs.Grammar.{UrlSyntax, HasUrlSyntax, SpellsUrl, Spells}
use Rattle.git_location.specs.Text.{has_colon, wants_brackets, needs_brackets, user_information, canonical_path, canonical_text, text}
use Rattle.git_location.specs.Settled.{IsSettledWeb, IsWeb}
use Rattle.git_laws.proofs.Writing.WrittenPieces.{WritesInformation}
use Rattle.git_syntax.proofs.Texts.CutLemmas.{begins-append, lacks-append, lacks-cons, lacks_of_all, free_of_all, free_of_lacked, held_free, lacks_weaker, mark_cut_unique, not_free, path_cut_unique, scheme_text_free}
use Rattle.git_syntax.proofs.Texts.EscapeLemmas.{lacks_escaped_percents}
use Rattle.git_syntax.proofs.Parsing.SchemeLemmas.{helper_cases}
use Rattle.git_syntax.proofs.Parsing.UrlLemmas.{authority_alone, authority_cut, scheme_no_mark}
use Rattle.git_syntax.proofs.Parsing.UrlLocationLemmas.{texts}
use Rattle.git_laws.proofs.Writing.WrittenUserLemmas.{information_written}
use Rattle.git_laws.proofs.Writing.WrittenUrlLemmas.{authority_text, canonical_cut}
use Rattle.git_laws.proofs.Writing.WrittenPathLemmas.{web_path_written}
use Rattle.git_laws.proofs.SettledClass.WebClosedLemmas.{denoted_bytes, not_web, web_denoted, web_read, AreCredentials, authority_closed, url_path_closed, web_closed, web_exact_spelling}
use Rattle.git_laws.proofs.Writing.WrittenScpLemmas.{holds_colon}
use Rattle.git_location.proofs.Writing.WrittenAsUrlLemmas.{one_text, written_web}
use Rattle.git_syntax.proofs.Parsing.HostLemmas.{strict_not_bare}

-- ---- hosts with a colon at their end

-- an `@`, or a byte that starts a path
abbrev ends_host : ℕ → Bool
ends_host b = b == at_sign || is_path_start true b

-- a byte of a host of HTTP isn't such a byte
host_byte_inside : (b : ℕ) → is_http_host_byte b ≡ true → ends_host b ≡ false
host_byte_inside b h = grind (arith, nat_tests)

-- a host of such bytes has no colon at its end
no_colon_after : {A : Type 0} (host front named : List ℕ) → list_all is_http_host_byte named ≡ true → host ≡ named → host ≡ front ++ colon ∷ [] → A
no_colon_after host front named bytes same ends =
    absurd (not_free colon front [] (subst (λ t. FreeOf colon t) (sym same ∙ ends) (free_of_all is_http_host_byte colon named bytes refl)))

-- with a colon after it a text still has neither `@` nor a path start
lacks_before_colon : (host named : List ℕ) → host ≡ named ++ colon ∷ [] → Lacks ends_host named → Lacks ends_host host
lacks_before_colon host named e lacks = subst (λ t. Lacks ends_host t) (sym e) (lacks-append ends_host named (colon ∷ []) lacks refl)

-- a host with a colon at its end and without a bracket at its front comes
-- without a port, and is free of `@` and of path starts
colon_named : (piece host front : List ℕ) (port : Option ℕ) → SpellsHostPort http_hosts piece (Some host) port → host ≡ front ++ colon ∷ [] → begins_with left_bracket host ≡ false → (port ≡ None) × Lacks ends_host host
colon_named piece host front port (nothing e named_as at) ends no_bracket = absurd (none-some host (sym named_as))
colon_named piece host front port (bracketed x inner free spelled e named_as at) ends no_bracket = absurd (both_ways _ no_bracket (ap (begins_with left_bracket) (same_Some _ _ named_as)))
colon_named piece host front port (bracketed_colon x inner free spelled e named_as at) ends no_bracket = absurd (both_ways _ no_bracket (ap (begins_with left_bracket) (same_Some _ _ named_as)))
colon_named piece host front port (bracketed_port x inner digits number free spelled numbered e named_as at) ends no_bracket = absurd (both_ways _ no_bracket (ap (begins_with left_bracket) (same_Some _ _ named_as)))
colon_named piece host front port (unbracketed reads named_as at) ends no_bracket = absurd (strict_not_bare reads.0)
colon_named piece host front port (plain named is_plain denoted named_as at) ends no_bracket = no_colon_after host front named (denoted_bytes piece named denoted) (same_Some _ _ named_as) ends
colon_named piece host front port (plain_colon text named is_plain denoted e named_as at) ends no_bracket =
    (at, lacks_before_colon host named (same_Some _ _ named_as) (lacks_of_all is_http_host_byte ends_host host_byte_inside named (denoted_bytes text named denoted)))
colon_named piece host front port (plain_port text named digits number is_plain denoted numbered e named_as at) ends no_bracket = no_colon_after host front named (denoted_bytes text named denoted) (same_Some _ _ named_as) ends
colon_named piece host front port (colons named not_strict other begins many denoted named_as at) ends no_bracket = absurd (not_strict refl)

-- so does such a host in an authority
colon_held : (t : List ℕ) (user password : Option (List ℕ)) (host front : List ℕ) (port : Option ℕ) → Authority http_hosts t user password (Some host) port → host ≡ front ++ colon ∷ [] → begins_with left_bracket host ≡ false → (port ≡ None) × Lacks ends_host host
colon_held t user password host front port (host_alone free names u p) ends no_bracket = colon_named t host front port names ends no_bracket
colon_held t user password host front port (with_user information piece free e credentials names some) ends no_bracket = colon_named piece host front port names ends no_bracket

-- ---- pieces with a bracket at their front

-- a piece that begins as a plain host has no bracket at its front
no_bracket_before : (piece t rest : List ℕ) → piece ≡ t ++ rest → 0 < length t → begins_with left_bracket t ≡ false → begins_with left_bracket piece ≡ false
no_bracket_before piece t rest e some other = ap (begins_with left_bracket) e ∙ begins-append left_bracket t rest some ∙ other

-- in HTTP a piece with a bracket at its front names a host with one
bracket_named : (piece host : List ℕ) (port : Option ℕ) → begins_with left_bracket piece ≡ true → SpellsHostPort http_hosts piece (Some host) port → begins_with left_bracket host ≡ true
bracket_named piece host port h3 h4 = grind (arith, nat_tests, none-some, same_Some, strict_not_bare, both_ways, no_bracket_before)

-- ---- hosts that are written in brackets

-- the host in brackets, as a URL has it
abbrev in_brackets : List ℕ → List ℕ
in_brackets host = left_bracket ∷ (escaped_percents host ++ right_bracket ∷ [])

-- it has neither `@` nor a path start if the host has none
brackets_lack : (host : List ℕ) → Lacks ends_host host → Lacks ends_host (in_brackets host)
brackets_lack host h1 = grind (arith, nat_tests, lacks-cons, lacks-append, lacks_escaped_percents)

-- so it is free of `@`
brackets_no_at : (host : List ℕ) → Lacks ends_host host → FreeOf at_sign (in_brackets host)
brackets_no_at host lacks = free_of_lacked ends_host at_sign (in_brackets host) (brackets_lack host lacks) refl

-- and no path starts in it
brackets_before_path : (host : List ℕ) → Lacks ends_host host → Lacks (is_path_start true) (in_brackets host)
brackets_before_path host lacks = lacks_weaker (is_path_start true) ends_host (λ b e. or_right (b == at_sign) _ e) (in_brackets host) (brackets_lack host lacks)

-- a host with a colon at its end and an escape in it, and without a
-- bracket at its front, is written in brackets
brackets_needed : (port : Option ℕ) (host front : List ℕ) → host ≡ front ++ colon ∷ [] → begins_with left_bracket host ≡ false → has_percent host ≡ true → needs_brackets port host ≡ true
brackets_needed port host front ends no_bracket escaped =
    and_from (wants_brackets host) _ (and_from (has_colon host) _ (ap has_colon ends ∙ holds_colon front []) (ap not no_bracket)) (or_right (is_some port) _ escaped)

-- ---- user information in front of them

-- the user and the password of a URL are written so that they are read
user_written : (user password : Option (List ℕ)) → IfSome user IsUtf8 → IfSome password IsUtf8 → AreCredentials user password → (u : List ℕ) → user ≡ Some u → WritesInformation u password
user_written user password user_text password_text credentials u e =
    information_written u password (subst (λ o. IfSome o IsUtf8) e user_text) password_text (IfSome_then password credentials.0 (λ p parts. parts.0)) (λ empty. credentials.1 (e ∙ ap Some empty))

-- the user information and a host in brackets after it
abbrev bracketed_text : Option (List ℕ) → Option (List ℕ) → List ℕ → List ℕ
bracketed_text user password host = user_information user password ++ in_brackets host

-- with a user it is that information, `@` and the host
bracketed_cut : (u : List ℕ) (password : Option (List ℕ)) (host : List ℕ) → (i : WritesInformation u password) → bracketed_text (Some u) password host ≡ i.information ++ at_sign ∷ in_brackets host
bracketed_cut u password host i = ap (λ t. t ++ in_brackets host) i.written ∙ append_assoc i.information (at_sign ∷ []) (in_brackets host)

-- no path starts in it
bracketed_before_path : (user password : Option (List ℕ)) (host : List ℕ) → ((u : List ℕ) → user ≡ Some u → WritesInformation u password) → Lacks ends_host host → Lacks (is_path_start true) (bracketed_text user password host)
bracketed_before_path None password host information lacks = brackets_before_path host lacks
bracketed_before_path (Some u) password host information lacks =
    let i = information u refl in
    subst (λ t. Lacks (is_path_start true) t) (sym (bracketed_cut u password host i))
    (lacks-append (is_path_start true) i.information (at_sign ∷ in_brackets host) i.piece.before_path (lacks-cons (is_path_start true) at_sign (in_brackets host) refl (brackets_before_path host lacks)))

-- read as an authority it names a host with a bracket at its front
bracketed_names : (user password : Option (List ℕ)) (host : List ℕ) → ((u : List ℕ) → user ≡ Some u → WritesInformation u password) → Lacks ends_host host → (u p : Option (List ℕ)) (named : List ℕ) (port : Option ℕ) → Authority http_hosts (bracketed_text user password host) u p (Some named) port → begins_with left_bracket named ≡ true
bracketed_names None password host information lacks u p named port held =
    bracket_named (in_brackets host) named port refl (authority_alone http_hosts (in_brackets host) u p (Some named) port (brackets_no_at host lacks) held)
bracketed_names (Some x) password host information lacks u p named port held =
    let i = information x refl in
    let parts = authority_cut http_hosts (bracketed_text (Some x) password host) i.information (in_brackets host) u p (Some named) port (brackets_no_at host lacks) (bracketed_cut x password host i) held in
    bracket_named (in_brackets host) named port refl parts.1

-- ---- the text of a location that is read

-- the authority of a URL of HTTP is the written one of a location whose text the URL is
authority_same : {t : List ℕ} {parts : UrlSyntax} → (w : Location) → IsWeb w → is_web_scheme parts.scheme ≡ true → (h : HasUrlSyntax t parts) → canonical_text w ≡ t → Lacks (is_path_start true) (authority_text w) → StartsPath true (canonical_path w) → h.authority ≡ authority_text w
authority_same {t} {parts} w web is_web h same lacks starts =
    let joined : parts.scheme ++ (codes "://" ++ (h.authority ++ parts.path)) ≡ scheme_text w.scheme ++ (codes "://" ++ (authority_text w ++ canonical_path w)) = sym h.joined ∙ sym same ∙ canonical_cut w in
    let pieces = mark_cut_unique parts.scheme (scheme_text w.scheme) (h.authority ++ parts.path) (authority_text w ++ canonical_path w) (scheme_no_mark parts.scheme h.scheme_text) (held_free (scheme_text w.scheme) (written_web w web).no_colon) joined in
    (path_cut_unique true h.authority (authority_text w) parts.path (canonical_path w) (subst (λ b. Lacks (is_path_start b) h.authority) is_web h.before_path) lacks (subst (λ b. StartsPath b parts.path) is_web h.path_starts) starts pieces.1).0

-- the written authority of a location of HTTP whose host goes between brackets, and that has no port
authority_bracketed : (w : Location) (host : List ℕ) → w.host ≡ Some host → w.port ≡ None → needs_brackets w.port host ≡ true → authority_text w ≡ bracketed_text w.user w.password host
authority_bracketed w host h2 h3 h4 = grind (arith, nat_tests, cond-true, append-nil)

-- the path of a location that is read is written with a start of a path
path_shown : {t : List ℕ} {parts : UrlSyntax} → (scheme : Scheme) → IsWeb (web_denoted scheme parts) → is_web_scheme parts.scheme ≡ true → HasUrlSyntax t parts → StartsPath true (canonical_path (web_denoted scheme parts))
path_shown {t} {parts} scheme web is_web h =
    let way = url_path_closed is_web h in
    (web_path_written (web_denoted scheme parts) web way.denoted_starts record { path_text = way.denoted_text; spelling = λ s e matches. way.fair s e }).starts

-- a location that is read has its canonical text
canonical_shown : (t : List ℕ) (scheme : Scheme) (parts : UrlSyntax) → IsWeb (web_denoted scheme parts) → IsSome parts.host → text (web_denoted scheme parts) ≡ Ok t → canonical_text (web_denoted scheme parts) ≡ t
canonical_shown t scheme parts web hosted written =
    one_text ((written_web (web_denoted scheme parts) web).canonical refl (λ given. hosted, λ given. hosted)) written

-- a host with an escape and a colon at its end, and without a
-- bracket at its front, isn't written as it was read
no_exception_syntax : {t : List ℕ} {parts : UrlSyntax} → (scheme : Scheme) → IsWeb (web_denoted scheme parts) → is_web_scheme parts.scheme ≡ true → HasUrlSyntax t parts → text (web_denoted scheme parts) ≡ Ok t → (host front : List ℕ) → parts.host ≡ Some host → host ≡ front ++ colon ∷ [] → begins_with left_bracket host ≡ false → has_percent host ≡ true → ⊥
no_exception_syntax {t} {parts} scheme web is_web h written host front hosted ends no_bracket escaped =
    let w = web_denoted scheme parts in
    let syntax : host_syntax_of parts.scheme ≡ http_hosts = cond-true _ _ _ is_web in
    let held : Authority http_hosts h.authority parts.user parts.password (Some host) parts.port = subst (λ m. Authority m h.authority parts.user parts.password (Some host) parts.port) syntax (subst (λ o. Authority (host_syntax_of parts.scheme) h.authority parts.user parts.password o parts.port) hosted h.named) in
    let facts = colon_held h.authority parts.user parts.password host front parts.port held ends no_bracket in
    let held_texts = texts h in
    let information = user_written parts.user parts.password held_texts.user held_texts.password (authority_closed http_hosts h.authority parts.user parts.password (Some host) parts.port held) in
    let shown = authority_bracketed w host hosted facts.0 (brackets_needed parts.port host front ends no_bracket escaped) in
    let lacks = subst (λ a. Lacks (is_path_start true) a) (sym shown) (bracketed_before_path parts.user parts.password host information facts.1) in
    let same = authority_same w web is_web h (canonical_shown t scheme parts web (ap is_some hosted) written) lacks (path_shown scheme web is_web h) in
    let read : Authority http_hosts (bracketed_text parts.user parts.password host) parts.user parts.password (Some host) parts.port = subst (λ a. Authority http_hosts a parts.user parts.password (Some host) parts.port) (same ∙ shown) held in
    both_ways _ no_bracket (bracketed_names parts.user parts.password host information facts.1 parts.user parts.password host parts.port read)

-- neither is that of a location that is read
no_exception : (t : List ℕ) (w : Location) → SpellsUrl t w → IsWeb w → text w ≡ Ok t → (host front : List ℕ) → w.host ≡ Some host → host ≡ front ++ colon ∷ [] → begins_with left_bracket host ≡ false → has_percent host ≡ true → ⊥
no_exception t w url web written host front hosted ends no_bracket escaped =
    let (is_web, value) = web_read t w url web in
    no_exception_syntax (scheme_of url.parts.scheme) (subst (λ l. IsWeb l) value web) is_web url.spelled (subst (λ l. text l ≡ Ok t) value written) host front (sym (ap (λ l. l.host) value) ∙ hosted) ends no_bracket escaped

-- ---- nothing else comes back

-- a location of HTTP is spelled by a URL
pub spelled_by_url : (t : List ℕ) (w : Location) → IsWeb w → Spells t w → SpellsUrl t w
spelled_by_url t w web (Spells.url h) = h
spelled_by_url t w web (Spells.file_url h) = not_web file w refl (ap (λ l. l.scheme) h.value) web
spelled_by_url t w web (Spells.remote_helper h) = helper_cases (λ p. w.scheme ≡ p → SpellsUrl t w) h.name (λ same e. not_web ext w refl e web) (λ other e. not_web (helper h.name) w refl e web) (ap (λ l. l.scheme) h.value)
spelled_by_url t w web (Spells.scp_form (inl h)) = not_web ssh w refl (ap (λ l. l.scheme) h.value) web
spelled_by_url t w web (Spells.scp_form (inr h)) = not_web ssh w refl (ap (λ l. l.scheme) h.value) web
spelled_by_url t w web (Spells.local_path h) = not_web file w refl (ap (λ l. l.scheme) h.value) web

-- one of two tests passes, if they don't fail together
either_by : (bracket escaped : Bool) → (bracket ≡ false → escaped ≡ true → ⊥) → (bracket ≡ true) ⊎ (escaped ≡ false)
either_by bracket escaped h2 = grind (arith, nat_tests)

-- the text of a URL is short enough
fits_read : {t : List ℕ} {parts : UrlSyntax} → HasUrlSyntax t parts → FitsText t
fits_read {t} {parts} h = record {
  scheme = parts.scheme;
  rest = h.authority ++ parts.path;
  no_colon = scheme_text_free parts.scheme colon h.scheme_text refl;
  joined = h.joined;
  fits = h.fits;
}

-- a location of HTTP that is read from its text is settled
reread_settled : (t : List ℕ) (w : Location) → SpellsUrl t w → IsWeb w → text w ≡ Ok t → IsSettledWeb w
reread_settled t w url web written =
    web_closed t w url web
    (λ h hosted front ends. either_by _ _ (λ no_bracket escaped. no_exception t w url web written h front hosted ends no_bracket escaped))
    (t, written, fits_read url.spelled)

-- locations with the same scheme are of HTTP alike
web_alike : (v w : Location) → w.scheme ≡ v.scheme → IsWeb v → IsWeb w
web_alike v w e (inl h) = inl (e ∙ h)
web_alike v w e (inr h) = inr (e ∙ h)

-- a location of HTTP that comes back is settled, unless its spelling is its path
pub web_exact : (v w : Location) (t : List ℕ) → IsWeb v → (¬ (v.spelling ≡ Some v.path)) → text v ≡ Ok t → Spells t w → fields w ≡ fields v → text w ≡ Ok t → IsSettledWeb v
web_exact v w t web apart written spelled same again =
    let reread : IsWeb w = web_alike v w (ap (λ l. l.scheme) same) web in
    web_exact_spelling v w web apart same (again ∙ sym written) (reread_settled t w (spelled_by_url t w reread spelled) reread again)
