-- Locations made of parts: a name that no helper can have has no text, and settled parts come back.
use Rattle.std.proofs.Common.{◌≡◌, ℕ, true, false, not, ◌==◌, inl, inr, List, [], ◌∷◌, ◌++◌, codes, bytes_eq, Option, Some, None, Result, Ok, Err, refl, sym, ap, subst, ◌∙◌}
use Rattle.std.specs.Prelude.{cond, Bool, ◌&&◌}
use Rattle.std.proofs.lemmas.Bool.{both_ways, cond-false, cond_both, false≢true}
use Rattle.std.proofs.lemmas.Option.{none-some}
use Rattle.gix_url.specs.declared.error.Error.{Error}
use Rattle.gix_url.specs.declared.error.Error.TheVariants as error
use Rattle.git_location.specs.declared.write_error.WriteFault.{WriteFault}
use Rattle.git_location.specs.declared.write_error.WriteFault.TheVariants.{HelperName}
use Rattle.git_syntax.specs.Location.{Scheme, Location, fields}
use Rattle.git_syntax.specs.Location.Scheme.{file, git, ssh, http, https, ext, helper, helper_url}
use Rattle.git_syntax.specs.Bytes.{percent_sign, slash, begins_with, is_helper_name}
use Rattle.git_syntax.specs.Escapes.{has_percent}
use Rattle.git_syntax.specs.Schemes.{scheme_of, requires_path}
use Rattle.git_syntax.specs.Grammar.{SpellsUrl, Spells, retained_spelling}
use Rattle.git_location.specs.Text.{text, in_form, choice_by, root_part, plain_path, matching_or, canonical_path}
use Rattle.git_location.specs.Settled.{IsValue, IsSettledUrl, IsRawPath, IsSettled, IsSettledBy}
use Rattle.git_location.specs.Internal.SettledPieces.{IsWrittenAsUrl}
use Rattle.gix_url.specs.Readings.{Reads}
use Rattle.git_location.specs.Readings.{IsAgain}
use Rattle.gix_url.specs.FromParts.{BuiltFrom, ReportsName, invalid_name, given_or, with_kept_path, keeping}
use Rattle.git_syntax.proofs.Texts.CutLemmas.{lacks-append}
use Rattle.git_syntax.proofs.Parsing.SchemeLemmas.{scheme_cases, means_cases}
use Rattle.git_syntax.proofs.Unique.UniqueLemmas.{spells_unique}
use Rattle.git_laws.proofs.Writing.WrittenPieces.{as_read}
use Rattle.git_laws.proofs.Writing.WrittenUrlLemmas.{IsReadable, readable_spelled}
use Rattle.git_laws.proofs.Writing.AgainLemmas.{secure_readable, git_readable, other_readable, settled_again}
use Rattle.git_location.proofs.Writing.WrittenAsUrlLemmas.{one_text, written_git, written_secure, written_other}

-- ---- names that no helper can have

-- such a name is that of a remote helper
invalid_test : (p : Scheme) (name : List ℕ) → invalid_name p ≡ Some name → (p ≡ helper name) × (is_helper_name name ≡ false)
invalid_test (helper n) name h = tested (is_helper_name n) refl h
  where
    tested : (b : Bool) → is_helper_name n ≡ b → cond b None (Some n) ≡ Some name → (helper n ≡ helper name) × (is_helper_name name ≡ false)
    tested true e h = absurd (cc)
    tested false e h = let same : n ≡ name = cc in (ap helper same, ap is_helper_name (sym same) ∙ e)
invalid_test (helper_url n) name h = absurd (cc)
invalid_test _ name h = absurd (cc)

-- parts with such a name have no text
invalid_unwritten : (v : Location) (name : List ℕ) → invalid_name v.scheme ≡ Some name → text v ≡ Err HelperName
invalid_unwritten v name h =
    let (named, invalid) = invalid_test v.scheme name h in
    ap (λ p. in_form (choice_by p v) v) named ∙ ap (λ c. in_form c v) (cond-false _ _ _ invalid)

-- and are not settled
invalid_unsettled : (v : Location) (name : List ℕ) → invalid_name v.scheme ≡ Some name → ¬ IsSettled v
invalid_unsettled v name h settled =
    let (named, invalid) = invalid_test v.scheme name h in
    let by_name : IsSettledBy (helper name) v = subst (λ p. IsSettledBy p v) named settled in
    both_ways _ invalid by_name.0.named

-- an error that names such a name is the answer
pub invalid_made : (v : Location) (r : Result Location Error) (e : Error) → r ≡ Err e → (name : List ℕ) × (invalid_name v.scheme ≡ Some name) × ReportsName name e → BuiltFrom v r
invalid_made v r e is (name, invalid, reported) = record {
  helper_name = λ n h. let same : name ≡ n = cc in (e, is, subst (λ m. ReportsName m e) same reported);
  fault = λ valid f h. absurd (cc);
  read = λ t h. let both = sym h ∙ invalid_unwritten v name invalid in absurd (cc);
  settled = λ h. absurd (invalid_unsettled v name invalid h);
}

-- ---- reading without a spelling

-- the kinds that are never read with a spelling: by scheme and alternative-form flag
is_bare_kind : Scheme → Bool → Bool
is_bare_kind file flag = true
is_bare_kind ssh flag = flag
is_bare_kind ext flag = true
is_bare_kind (helper name) flag = true
is_bare_kind _ flag = false

-- no URL is of such a kind, but those of `ext`
url_spelled : (s : List ℕ) → bytes_eq s (codes "file") ≡ false → ¬ (scheme_of s ≡ ext) → is_bare_kind (scheme_of s) false ≡ true → ⊥
unfolding is_bare_kind
url_spelled s other = scheme_cases (λ p. ¬ (p ≡ ext) → is_bare_kind p false ≡ true → ⊥) s
    (λ e not_ext kind. false≢true kind)
    (λ e not_ext kind. both_ways _ other e)
    (λ not_ext kind. false≢true kind)
    (λ e not_ext kind. false≢true kind)
    (λ e not_ext kind. false≢true kind)
    (λ not_ext kind. not_ext refl)
    (λ not_ext kind. false≢true kind)

-- a spelled location of such a kind has no spelling
url_bare : (b : List ℕ) (w : Location) → SpellsUrl b w → is_bare_kind w.scheme w.flag ≡ true → w.spelling ≡ None
url_bare b w h kind =
    elim (means_cases (scheme_of h.parts.scheme) b h.parts w h.means) [
      | inl m ↦ ap (λ l. l.spelling) m.1
      | inr m ↦ absurd (url_spelled h.parts.scheme h.spelled.not_file m.0 (subst (λ l. is_bare_kind l.scheme l.flag ≡ true) m.1.value kind))
    ]

spelled_bare : (b : List ℕ) (w : Location) → Spells b w → is_bare_kind w.scheme w.flag ≡ true → w.spelling ≡ None
spelled_bare b w (Spells.url h) kind = url_bare b w h kind
spelled_bare b w (Spells.file_url h) kind = ap (λ l. l.spelling) h.value
spelled_bare b w (Spells.remote_helper h) kind = ap (λ l. l.spelling) h.value
spelled_bare b w (Spells.scp_form (inl h)) kind = ap (λ l. l.spelling) h.value
spelled_bare b w (Spells.scp_form (inr h)) kind = ap (λ l. l.spelling) h.value
spelled_bare b w (Spells.local_path h) kind = ap (λ l. l.spelling) h.value

-- a raw path is written with no spelling to retain
none_retained : (v : Location) (p : Scheme) → v.scheme ≡ p → plain_path p v.path ≡ v.path → v.spelling ≡ None → has_percent v.path ≡ false → retained_spelling (canonical_path v) ≡ None
none_retained v p e plain bare raw =
    let path : canonical_path v ≡ root_part v ++ v.path = ap (λ o. root_part v ++ matching_or o v.path (plain_path v.scheme v.path)) bare ∙ ap (λ q. root_part v ++ plain_path q v.path) e ∙ ap (λ x. root_part v ++ x) plain in
    let root : has_percent (root_part v) ≡ false = cond_both (requires_path v.scheme && not (begins_with slash v.path)) (slash ∷ []) [] (λ t. has_percent t ≡ false) (λ e. refl) (λ e. refl) in
    cond-false _ _ _ (ap has_percent path ∙ lacks-append (λ b. b == percent_sign) (root_part v) v.path root raw)

-- so the text of a URL with such a path is read without one
readable_bare : (v w : Location) (named : Option (List ℕ)) (t : List ℕ) → IsReadable v named → IsWrittenAsUrl v → IsSettledUrl v → retained_spelling (canonical_path v) ≡ None → text v ≡ Ok t → Spells t w → w.spelling ≡ None
readable_bare v w named t r written h none is spelled =
    let same = one_text (written.canonical h.unflagged h.hosted) is in
    ap (λ l. l.spelling) (spells_unique t w (as_read v) spelled (subst (λ s. Spells s (as_read v)) same (readable_spelled v named r))) ∙ none

-- a path that no spelling matches is raw
raw_alone : (v : Location) → v.spelling ≡ None → IsRawPath v → has_percent v.path ≡ false
raw_alone v bare raw = (raw (λ (s, e, same). none-some s (sym bare ∙ e))).0

-- the text of a settled location without a spelling is read without one, outside HTTP
read_bare : (p : Scheme) (v w : Location) (t : List ℕ) → v.scheme ≡ p → v.spelling ≡ None → ¬ (p ≡ http) → ¬ (p ≡ https) → IsValue v → IsSettledBy p v → fields w ≡ fields v → text v ≡ Ok t → Spells t w → w.spelling ≡ None
unfolding is_bare_kind
read_bare ssh v w t e bare a b is (inl h) same written spelled = spelled_bare t w spelled (ap (λ q. is_bare_kind q w.flag) (ap (λ l. l.scheme) same ∙ e) ∙ ap (λ l. l.flag) same ∙ h.flagged)
read_bare ssh v w t e bare a b is (inr h) same written spelled =
    let (named, r) = secure_readable v e is h in
    readable_bare v w (Some named) t r (written_secure v e h.path) h.url.common (none_retained v ssh e refl bare (raw_alone v bare h.url.raw)) written spelled
read_bare git v w t e bare a b is h same written spelled =
    let (named, r) = git_readable v e is h in
    readable_bare v w (Some named) t r (written_git v e) h.url.common (none_retained v git e refl bare (raw_alone v bare h.url.raw)) written spelled
read_bare http v w t e bare a b is h same written spelled = absurd (a refl)
read_bare https v w t e bare a b is h same written spelled = absurd (b refl)
read_bare (helper_url name) v w t e bare a b is h same written spelled =
    readable_bare v w v.host t (other_readable name v v.host e refl is h) (written_other v name e h.scheme_text) h.url.common (none_retained v (helper_url name) e refl bare (raw_alone v bare h.url.raw)) written spelled
read_bare _ v w t e bare a b is h same written spelled = spelled_bare t w spelled (ap (λ q. is_bare_kind q w.flag) (ap (λ l. l.scheme) same ∙ e))

-- ---- the location that was read

-- a path that is the argument's is kept
given_same : (path : List ℕ) → given_or path path ≡ path
given_same [] = refl
given_same (b ∷ bs) = refl

-- the location that is read of parts without a spelling is that of the parts, with the argument's path in
-- place
with_given_back : (v w : Location) → v.spelling ≡ None → fields w ≡ fields v → with_kept_path v.path w ≡ v
with_given_back v w bare same =
    let path : v.path ≡ w.path = sym (ap (λ l. l.path) same) in
    let kept : given_or v.path w.path ≡ w.path = ap (λ p. given_or p w.path) path ∙ given_same w.path in
    ap (λ p. record w { path = p; spelling = None }) kept ∙ same ∙ ap (λ s. record v { spelling = s }) (sym bare)

-- and so it is if it has no spelling either
bare_back : (v w : Location) → v.spelling ≡ None → w.spelling ≡ None → fields w ≡ fields v → w ≡ v
bare_back v w bare none same = ap (λ s. record w { spelling = s }) none ∙ same ∙ ap (λ s. record v { spelling = s }) (sym bare)

-- by scheme: with the path that is kept
keeping_back : (p : Scheme) (v w : Location) → v.spelling ≡ None → fields w ≡ fields v → (¬ (p ≡ http) → ¬ (p ≡ https) → w.spelling ≡ None) → keeping p v.path w ≡ v
keeping_back http v w bare same none = with_given_back v w bare same
keeping_back https v w bare same none = with_given_back v w bare same
keeping_back _ v w bare same none = bare_back v w bare (none (λ e. cc) (λ e. cc)) same

-- settled parts come back as they are
parts_back : (v w : Location) → v.spelling ≡ None → IsValue v → IsSettled v → IsAgain v w → ((t : List ℕ) → text v ≡ Ok t → Reads t (Ok w)) → keeping v.scheme v.path w ≡ v
parts_back v w bare is h again read =
    let (back, settled) = settled_again v is h in
    keeping_back v.scheme v w bare again.same_fields
    (λ a b. read_bare v.scheme v w back.written refl bare a b is h again.same_fields back.has_text (read back.written back.has_text).found)

-- the location that was read, with the path that is kept, is the result
pub read_made : (v w built : Location) → v.spelling ≡ None → IsValue v → invalid_name v.scheme ≡ None → built ≡ keeping v.scheme v.path w
    → ((t : List ℕ) → text v ≡ Ok t → Reads t (Ok w)) → ((f : WriteFault) → text v ≡ Err f → (let answered : Result Location Error = Ok w in answered ≡ Err (error.Unwritable f))) → (IsSettled v → IsAgain v w)
    → BuiltFrom v (Ok built)
read_made v w built bare is valid kept read fault settled = record {
  helper_name = λ n h. absurd (cc);
  fault = λ also f h. let wrong = fault f h in absurd (cc);
  read = λ t h. (w, read t h, kept);
  settled = λ h. kept ∙ parts_back v w bare is h (settled h) read;
}

-- the refusal of the text is the result
pub refused_made : (v : Location) (r : Result Location Error) (e : Error) → r ≡ Err e → invalid_name v.scheme ≡ None
    → ((t : List ℕ) → text v ≡ Ok t → Reads t (Err e)) → ((f : WriteFault) → text v ≡ Err f → (let answered : Result Location Error = Err e in answered ≡ Err (error.Unwritable f))) → (IsSettled v → e ≡ error.Memory)
    → BuiltFrom v r
refused_made v r e is valid read fault settled = subst (BuiltFrom v) (sym is) record {
  helper_name = λ n h. absurd (cc);
  fault = λ also f h. fault f h;
  read = read;
  settled = settled;
}
