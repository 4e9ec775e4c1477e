-- File URLs: a location that is read as one is settled with one exception, a
-- settled one comes back, and nothing else does.
use Rattle.std.proofs.Common.{◌≡◌, ℕ, Bool, true, false, not, ◌&&◌, ◌⊎◌, inr, List, [], ◌∷◌, ◌++◌, length, Option, Some, None, Ok, Err, refl, sym, ap, subst, ◌∙◌, arith, codes, lit<, if◌then◌else◌}
use Rattle.std.proofs.lemmas.Bool.Decides.{nat_tests}
use Rattle.std.specs.Prelude.{IfSome, IsUtf8}
use Rattle.std.specs.Result.{is_ok}
use Rattle.std.proofs.lemmas.Bool.{cond-true, cond-false, and_left, and_right, and_parts, not-true, false≢true}
use Rattle.std.proofs.lemmas.List.{append_cancel_left}
use Rattle.std.proofs.lemmas.Option.{none-some, same_Some}
use Rattle.std.proofs.lemmas.Str.{IsUtf8-nil, IsUtf8-append}
use Rattle.percent_encoding.specs.Percent.{percent_decode}
use Rattle.git_location.specs.declared.write_error.WriteFault.TheVariants.{UserWithoutHost}
use Rattle.git_syntax.specs.Location.{Location, fields, path_alone}
use Rattle.git_syntax.specs.Location.Scheme.{file}
use Rattle.git_syntax.specs.Bytes.{slash, colon, left_bracket, FreeOf, begins_with}
use Rattle.git_syntax.specs.Escapes.{has_percent}
use Rattle.git_syntax.specs.Authority.{unless_empty}
use Rattle.git_syntax.specs.Grammar.{SpellsFile, Spells}
use Rattle.git_location.specs.Text.{has_colon, needs_brackets, user_information, host_part, matching_or, canonical_path, canonical_text, in_form, text}
use Rattle.git_location.specs.Text.Form.{canonical_form}
use Rattle.git_location.specs.Settled.{IsValue, HasMatch, IsFileHost, IsSettledFile, IsSettled}
use Rattle.git_laws.specs.Laws.{ComesBack}
use Rattle.git_syntax.specs.Flaws.{UrlForm}
use Rattle.git_syntax.specs.Hosts.{port_part}
use Rattle.git_syntax.proofs.Texts.CutLemmas.{different_bytes, begins_cut}
use Rattle.git_syntax.proofs.Texts.EscapeLemmas.{utf8_after, utf8_seam}
use Rattle.git_syntax.proofs.Parsing.UrlLemmas.{some_kept}
use Rattle.git_syntax.proofs.Parsing.ClassifierLemmas.{file_mark_utf8, url_has_form, spelled_as_file}
use Rattle.git_laws.proofs.Writing.WrittenPathLemmas.{matched, unmatched}
use Rattle.git_location.proofs.Writing.WrittenAsUrlLemmas.{one_text}
use Rattle.git_laws.proofs.Writing.KeptLemmas.{value_of}

-- ---- values

-- a file URL with this host, this path and perhaps a spelling
abbrev at_file : Option (List ℕ) → List ℕ → Option (List ℕ) → Location
at_file host path spelling = record (path_alone file false path) { host = host; spelling = spelling }

-- a settled file URL is such a value
file_value : (v : Location) → v.scheme ≡ file → IsSettledFile v → v ≡ at_file v.host v.path v.spelling
file_value v scheme h =
    value_of v file false scheme h.unflagged h.alone.1 h.alone.2 ∙ ap (λ user. record (at_file v.host v.path v.spelling) { user = user }) h.alone.0

-- such a value is settled if its host and its path are, and no spelling matches
settled_at : (host : Option (List ℕ)) (path : List ℕ) (spelling : Option (List ℕ)) → ¬ HasMatch (at_file host path spelling) → IfSome host IsFileHost → IsUtf8 path → begins_with slash path ≡ true → IsSettledFile (at_file host path spelling)
settled_at host path spelling apart hosted is_text rooted = record {
  unflagged = refl;
  alone = (refl, refl, refl);
  no_match = apart;
  host = hosted;
  path_text = is_text;
  rooted = rooted;
}

-- without a spelling none matches
no_spelling : (host : Option (List ℕ)) (path : List ℕ) → ¬ HasMatch (at_file host path None)
no_spelling host path (s, e, d) = none-some s e

-- ---- texts

-- the text of a file URL
file_text : (host : Option (List ℕ)) (path : List ℕ) (spelling : Option (List ℕ)) → text (at_file host path spelling) ≡ Ok (codes "file://" ++ (host_part (at_file host path spelling) host ++ matching_or spelling path path))
file_text host path spelling = refl

-- the host as a file URL spells it
abbrev as_it_is : Option (List ℕ) → List ℕ
as_it_is None = []
as_it_is (Some host) = host

-- brackets at the front, no colon or no escape: no brackets are written
no_brackets_by : (colons bracket percents : Bool) → (bracket ≡ true) ⊎ ((colons ≡ false) ⊎ (percents ≡ false)) → ((colons && not bracket) && percents) ≡ false
no_brackets_by colons bracket percents h3 = grind (arith, nat_tests, and_left, and_right, not)

-- a settled host is written without them
no_brackets : (host : List ℕ) → IsFileHost host → needs_brackets None host ≡ false
no_brackets host h = no_brackets_by _ _ _ h.unbracketed

-- a settled host is written as it is
host_written : (host : Option (List ℕ)) (path : List ℕ) (spelling : Option (List ℕ)) → IfSome host IsFileHost → host_part (at_file host path spelling) host ≡ as_it_is host
host_written None path spelling h = refl
host_written (Some host) path spelling h = cond-false _ _ _ (no_brackets host h)

-- the text of a settled file URL holds its host and its path as they are
settled_text : (host : Option (List ℕ)) (path : List ℕ) (spelling : Option (List ℕ)) → ¬ HasMatch (at_file host path spelling) → IfSome host IsFileHost → text (at_file host path spelling) ≡ Ok (codes "file://" ++ (as_it_is host ++ path))
settled_text host path spelling h3 h4 = grind (arith, nat_tests, file_text, codes, host_written, unmatched)

-- without a host it holds its path alone
pub hostless_text : (v : Location) → v.scheme ≡ file → IsSettledFile v → v.host ≡ None → text v ≡ Ok (codes "file://" ++ v.path)
hostless_text v scheme h none =
    ap (λ l. text l) (file_value v scheme h) ∙ settled_text v.host v.path v.spelling h.no_match h.host ∙ ap (λ o. Ok (codes "file://" ++ (as_it_is o ++ v.path))) none

-- ---- settled file URLs come back

-- a settled host is read as it is written
host_read : (host : Option (List ℕ)) → IfSome host IsFileHost → unless_empty (as_it_is host) ≡ host
host_read None h = refl
host_read (Some host) h = some_kept host (λ e. absurd (omega (arith, ap length e, h.nonempty)))

-- it has no `/`
host_no_slash : (host : Option (List ℕ)) → IfSome host IsFileHost → FreeOf slash (as_it_is host)
host_no_slash None h = refl
host_no_slash (Some host) h = h.no_slash

-- and it is UTF-8
host_utf8 : (host : Option (List ℕ)) → IfSome host IsUtf8 → IsUtf8 (as_it_is host)
host_utf8 None h = IsUtf8-nil
host_utf8 (Some host) h = h

-- the text of a settled file URL spells it without its spelling
settled_spelled : (host : Option (List ℕ)) (path : List ℕ) → IfSome host IsFileHost → IfSome host IsUtf8 → IsUtf8 path → begins_with slash path ≡ true → SpellsFile (codes "file://" ++ (as_it_is host ++ path)) (at_file host path None)
settled_spelled host path hosted is_text path_text rooted = record {
  host = as_it_is host;
  path = path;
  joined = refl;
  text = IsUtf8-append (codes "file://") (as_it_is host ++ path) file_mark_utf8 (IsUtf8-append (as_it_is host) path (host_utf8 host is_text) path_text);
  no_slash = host_no_slash host hosted;
  rooted = rooted;
  value = ap (λ h. at_file h path None) (sym (host_read host hosted));
}

-- such a value comes back
back_at : (host : Option (List ℕ)) (path : List ℕ) (spelling : Option (List ℕ)) → IfSome host IsUtf8 → IsSettledFile (at_file host path spelling) → (back : ComesBack (at_file host path spelling)) × IsSettled back.reread
back_at host path spelling is_text h = (
  record {
    written = codes "file://" ++ (as_it_is host ++ path);
    reread = at_file host path None;
    has_text = settled_text host path spelling h.no_match h.host;
    spelled = Spells.file_url (settled_spelled host path h.host is_text h.path_text h.rooted);
    same_fields = refl;
    same_text = settled_text host path None (no_spelling host path) h.host;
  },
  inr (settled_at host path None (no_spelling host path) h.host h.path_text h.rooted),
)

-- a settled file URL comes back as a settled one
pub file_again : (v : Location) → v.scheme ≡ file → IsValue v → IsSettledFile v → (back : ComesBack v) × IsSettled back.reread
file_again v scheme valid h =
    let value = file_value v scheme h in
    subst (λ l. (back : ComesBack l) × IsSettled back.reread) (sym value) (back_at v.host v.path v.spelling valid.host (subst (λ l. IsSettledFile l) value h))

-- ---- a location that is read is settled

-- a bracket begins the host, or it has no colon or no escape
abbrev pub StaysOpen : List ℕ → Type 0
StaysOpen host = (begins_with left_bracket host ≡ true) ⊎ (FreeOf colon host ⊎ (has_percent host ≡ false))

-- the host of a file URL is settled with one exception
host_settled : (host : List ℕ) → FreeOf slash host → ((h : List ℕ) → unless_empty host ≡ Some h → StaysOpen h) → IfSome (unless_empty host) IsFileHost
host_settled [] free stays = tt
host_settled (b ∷ bs) free stays = record { nonempty = omega arith; no_slash = free; unbracketed = stays (b ∷ bs) refl }

-- the path of a file URL is UTF-8
path_utf8 : (host path : List ℕ) → IsUtf8 (codes "file://" ++ (host ++ path)) → begins_with slash path ≡ true → IsUtf8 path
path_utf8 host path is_text rooted =
    let (rest, cut) = begins_cut slash path rooted in
    let suffix : IsUtf8 (host ++ path) = utf8_after (codes "file://") (host ++ path) is_text file_mark_utf8 in
    subst IsUtf8 (sym cut) (utf8_seam host rest slash (subst (λ p. IsUtf8 (host ++ p)) cut suffix) (lit< tt)).1

-- a location that is read as a file URL is settled, except a host with a colon
-- and an escape that has no bracket at its front
pub file_closed : (b : List ℕ) (v : Location) → SpellsFile b v → ((h : List ℕ) → v.host ≡ Some h → StaysOpen h) → IsSettledFile v
file_closed b v h stays =
    let hosted = host_settled h.host h.no_slash (λ host e. stays host (ap (λ l. l.host) h.value ∙ e)) in
    let is_text = path_utf8 h.host h.path (subst IsUtf8 h.joined h.text) h.rooted in
    subst (λ l. IsSettledFile l) (sym h.value) (settled_at (unless_empty h.host) h.path None (no_spelling (unless_empty h.host) h.path) hosted is_text h.rooted)

-- ---- nothing else comes back

-- the text that is written, if there is one, is that of a URL
canonical_by : (v : Location) (t : List ℕ) (fault : Bool) → in_form (if fault then Err UserWithoutHost else Ok canonical_form) v ≡ Ok t → canonical_text v ≡ t
canonical_by v t true e = absurd (false≢true (ap is_ok e))
canonical_by v t false e = one_text refl e

-- a location with the scheme of file URLs and without the flag is written as a URL
file_canonical : (v : Location) (t : List ℕ) → v.scheme ≡ file → v.flag ≡ false → text v ≡ Ok t → canonical_text v ≡ t
file_canonical v t h2 h3 h4 = grind (arith, nat_tests, cond-false, and_left, canonical_by)

-- the text after `://` in the text of a URL
abbrev after_mark : Location → List ℕ
after_mark v = user_information v.user v.password ++ (host_part v v.host ++ (port_part v.port ++ canonical_path v))

-- the text of such a location has the form of a file URL
file_has_form : (v : Location) (t : List ℕ) → v.scheme ≡ file → v.flag ≡ false → text v ≡ Ok t → UrlForm t (codes "file") (after_mark v)
file_has_form v t h2 h3 h4 = grind (arith, nat_tests, codes, file_canonical, url_has_form)

-- a host that needs no brackets is such a host, by the tests of its bytes
stays_by : (colons bracket percents : Bool) → ((colons && not bracket) && percents) ≡ false → (bracket ≡ true) ⊎ ((colons ≡ false) ⊎ (percents ≡ false))
stays_by colons bracket percents h3 = grind (arith, nat_tests, false≢true)

-- a text that begins with a bracket doesn't begin with a host that has a colon and no bracket at its front
bracket_in_front : (host rest path : List ℕ) → has_colon host ≡ true → begins_with left_bracket host ≡ false → left_bracket ∷ rest ≡ host ++ path → ⊥
bracket_in_front [] rest path colons blank e = false≢true colons
bracket_in_front (b ∷ bs) rest path colons blank e = different_bytes b left_bracket blank (sym e)

-- a host that is written as it was read is such a host, by whether it needs brackets
host_stays_by : (host path : List ℕ) (needs : Bool) → needs_brackets None host ≡ needs → host_part (at_file (Some host) path None) (Some host) ++ path ≡ host ++ path → StaysOpen host
host_stays_by host path needs h3 h4 = grind (arith, nat_tests, stays_by, and_parts, not, cond-true, bracket_in_front, not-true)

-- the host of a file URL that is written as it was read is such a host
host_stays : (host path : List ℕ) → text (at_file (unless_empty host) path None) ≡ Ok (codes "file://" ++ (host ++ path)) → (h : List ℕ) → unless_empty host ≡ Some h → StaysOpen h
host_stays host path h2 h h4 = grind (arith, nat_tests, none-some, append_cancel_left, codes, one_text, same_Some, host_stays_by)

-- a spelling that matches and is written as the path is the path
spelling_is_path : (host : Option (List ℕ)) (path s t : List ℕ) → percent_decode s ≡ path → text (at_file host path (Some s)) ≡ Ok t → text (at_file host path None) ≡ Ok t → s ≡ path
spelling_is_path host path s t h4 h5 h6 = grind (arith, nat_tests, matched, codes, one_text, append_cancel_left)

-- the location that is read from the text of a location is settled if it has that text too
reread_settled : (w : Location) (t : List ℕ) → SpellsFile t w → text w ≡ Ok t → IsSettledFile w
reread_settled w t k written =
    let again : text (at_file (unless_empty k.host) k.path None) ≡ Ok (codes "file://" ++ (k.host ++ k.path)) = ap (λ l. text l) (sym k.value) ∙ written ∙ ap (λ b. Ok b) k.joined in
    file_closed t w k (λ h e. host_stays k.host k.path again h (sym (ap (λ l. l.host) k.value) ∙ e))

-- a location with this spelling
abbrev spelled_with : Option (List ℕ) → Location → Location
spelled_with spelling v = record v { spelling = spelling }

-- a location with the fields of the one that is read from its text is settled
exact_at : (v w : Location) (t : List ℕ) → ¬ (v.spelling ≡ Some v.path) → text v ≡ Ok t → SpellsFile t w → fields w ≡ fields v → text w ≡ Ok t → IsSettledFile v
exact_at v w t apart written k same again =
    let host = unless_empty k.host in
    let value : v ≡ at_file host k.path v.spelling = ap (λ l. spelled_with v.spelling l) (sym same ∙ ap fields k.value) in
    let settled : IsSettledFile (at_file host k.path None) = subst (λ l. IsSettledFile l) k.value (reread_settled w t k again) in
    let plain : text (at_file host k.path None) ≡ Ok t = ap (λ l. text l) (sym k.value) ∙ again in
    let no_match : ¬ HasMatch (at_file host k.path v.spelling) = λ (s, e, d).
    let spelled : text (at_file host k.path (Some s)) ≡ Ok t = ap (λ o. text (at_file host k.path o)) (sym e) ∙ ap (λ l. text l) (sym value) ∙ written in
    apart (e ∙ ap (λ p. Some p) (spelling_is_path host k.path s t d spelled plain ∙ sym (ap (λ l. l.path) value))) in
    subst (λ l. IsSettledFile l) (sym value) (settled_at host k.path v.spelling no_match settled.host settled.path_text settled.rooted)

-- a file URL that comes back is settled, unless its spelling is its path
pub file_exact : (v w : Location) (t : List ℕ) → v.scheme ≡ file → v.flag ≡ false → (¬ (v.spelling ≡ Some v.path)) → text v ≡ Ok t → Spells t w → fields w ≡ fields v → text w ≡ Ok t → IsSettledFile v
file_exact v w t scheme unflagged apart written spelled same again =
    exact_at v w t apart written (spelled_as_file t (after_mark v) (file_has_form v t scheme unflagged written) w spelled) same again
