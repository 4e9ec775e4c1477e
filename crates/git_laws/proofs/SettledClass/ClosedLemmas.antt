-- Locations that were read are settled, with exceptions, and of these kinds only settled ones come back.
use Rattle.std.proofs.Common.{◌≡◌, ℕ, Bool, true, false, ◌⊎◌, inl, inr, List, [], ◌∷◌, ◌++◌, Option, Some, None, Ok, refl, sym, ap, subst, ◌∙◌, ◌+◌, length, drop, arith}
use Rattle.std.specs.Prelude.{is_some, IsSome}
use Rattle.std.proofs.lemmas.Bool.{false≢true, or_left}
use Rattle.std.proofs.lemmas.Option.{none-some, same_Some}
use Rattle.git_syntax.specs.Location.{Scheme, Location}
use Rattle.git_syntax.specs.Location.Scheme.{file, http, https, ext, helper}
use Rattle.git_syntax.specs.Bytes.{colon, left_bracket, begins_with}
use Rattle.git_syntax.specs.Escapes.{has_percent}
use Rattle.git_syntax.specs.Schemes.{scheme_text}
use Rattle.git_syntax.specs.Grammar.{SpellsUrl, SpellsFile, Spells}
use Rattle.git_location.specs.Text.{has_colon, canonical_text, text}
use Rattle.git_location.specs.Settled.{IsSettledFile, HasFittingText, IsSettledBy, IsSettled, IsWeb}
use Rattle.git_laws.specs.Laws.{keeps_bytes, ComesBack, is_closed, IsException, Closed, Exact}
use Rattle.git_laws.proofs.Errors.TextDecisions.{fits_or_not}
use Rattle.git_laws.proofs.Writing.KeptLemmas.{kept_closed, kept_exact}
use Rattle.git_laws.proofs.Writing.FileLemmas.{StaysOpen, file_closed, file_exact}
use Rattle.git_laws.proofs.SettledClass.WebClosedLemmas.{StaysBare, IsApart, web_read, web_closed}
use Rattle.git_location.proofs.SettledClass.SettledLemmas.{fitting_text, web_settled}
use Rattle.git_laws.proofs.SettledClass.WebExactLemmas.{spelled_by_url, web_exact}
use Rattle.git_laws.proofs.Writing.AgainLemmas.{settled_again}
use Rattle.git_syntax.proofs.Texts.CutLemmas.{ends_or_not}
use Rattle.git_location.proofs.Writing.WrittenAsUrlLemmas.{written_web}

-- ---- file URLs

-- a host of a file URL is settled, or is an exception
file_host_by : (v : Location) (host : List ℕ) (bracket has_mark escaped : Bool) → v.scheme ≡ file → v.host ≡ Some host → begins_with left_bracket host ≡ bracket → has_colon host ≡ has_mark → has_percent host ≡ escaped → StaysOpen host ⊎ IsException v
file_host_by v host true has_mark escaped e there b c p = inl (inl b)
file_host_by v host false false escaped e there b c p = inl (inr (inl c))
file_host_by v host false true false e there b c p = inl (inr (inr p))
file_host_by v host false true true e there b c p = inr (IsException.file_host host e there b c p)

-- a settled file URL is settled
file_settled : (v : Location) → v.scheme ≡ file → IsSettledFile v → IsSettled v
file_settled v e h = subst (λ p. IsSettledBy p v) (sym e) (inr h)

-- a file URL that is read is settled, or is an exception
file_closed_by : (b : List ℕ) (v : Location) (host : Option (List ℕ)) → v.host ≡ host → v.scheme ≡ file → SpellsFile b v → IsSettled v ⊎ IsException v
file_closed_by b v None there e h = inl (file_settled v e (file_closed b v h (λ host is. absurd (none-some host (sym there ∙ is)))))
file_closed_by b v (Some host) there e h =
    elim (file_host_by v host (begins_with left_bracket host) (has_colon host) (has_percent host) e there refl refl refl) [
      | inl apart ↦ inl (file_settled v e (file_closed b v h (λ other is. subst StaysOpen (same_Some host other (sym there ∙ is)) apart)))
      | inr corner ↦ inr corner
    ]

-- ---- HTTP

-- a host of HTTP that ends in `:` is an exception, or isn't
ending_by : (v : Location) (host front : List ℕ) (bracket escaped : Bool) → IsWeb v → v.host ≡ Some host → host ≡ front ++ colon ∷ [] → begins_with left_bracket host ≡ bracket → has_percent host ≡ escaped → StaysBare host ⊎ IsException v
ending_by v host front true escaped web there ends b p = inl (inl b)
ending_by v host front false false web there ends b p = inl (inr p)
ending_by v host front false true web there ends b p = inr (IsException.web_host front web (there ∙ ap Some ends) (ap (begins_with left_bracket) (sym ends) ∙ b) (ap has_percent (sym ends) ∙ p))

-- any host of HTTP does
web_host_by : (v : Location) (host : List ℕ) → IsWeb v → v.host ≡ Some host → IsApart host ⊎ IsException v
web_host_by v host web there =
    elim (ends_or_not colon host) [
      | inl (front, ends) ↦
          elim (ending_by v host front (begins_with left_bracket host) (has_percent host) web there ends refl refl) [
            | inl apart ↦ inl (λ other same. apart)
            | inr corner ↦ inr corner
          ]
      | inr other ↦ inl (λ front e. absurd (other front e))
    ]

-- a text is short enough to be read again, or isn't
fitting_or_not : (v : Location) → IsWeb v → text v ≡ Ok (canonical_text v) → HasFittingText v ⊎ ¬ HasFittingText v
fitting_or_not v web written =
    let class = fitting_text v (canonical_text v) (written_web v web).no_colon written (sym written) in
    elim (fits_or_not (scheme_text v.scheme) (drop (length (scheme_text v.scheme) + 3) (canonical_text v))) [
      | inl fits ↦ inl (class.0 fits)
      | inr long ↦ inr (λ fits. long (class.1 fits))
    ]

-- a URL of HTTP that is read has a host, and the text of a URL
web_written : (b : List ℕ) (v : Location) → SpellsUrl b v → IsWeb v → IsSome v.host × (text v ≡ Ok (canonical_text v))
web_written b v h web =
    let (is_web, value) = web_read b v h web in
    let hosted : IsSome v.host = subst (λ l. IsSome l.host) (sym value) (h.spelled.hosted (or_left _ _ is_web)) in
    (hosted, (written_web v web).canonical (ap (λ l. l.flag) value) (λ given. hosted, λ given. hosted))

-- a location of HTTP that is read is settled, or is an exception
web_closed_by : (b : List ℕ) (v : Location) (host : Option (List ℕ)) → v.host ≡ host → SpellsUrl b v → IsWeb v → IsSettled v ⊎ IsException v
web_closed_by b v None there h web = absurd (false≢true (ap is_some (sym there) ∙ (web_written b v h web).0))
web_closed_by b v (Some host) there h web =
    let written = (web_written b v h web).1 in
    elim (web_host_by v host web there) [
      | inr corner ↦ inr corner
      | inl apart ↦
          elim (fitting_or_not v web written) [
            | inr long ↦ inr (IsException.web_length web long)
            | inl fits ↦ inl (web_settled v web (web_closed b v h web (λ other is. subst IsApart (same_Some host other (sym there ∙ is)) apart) fits))
          ]
    ]

-- ---- all kinds

-- a location of local files without the flag is spelled by a file URL
spelled_by_file : (b : List ℕ) (v : Location) → v.scheme ≡ file → v.flag ≡ false → Spells b v → SpellsFile b v
spelled_by_file b v e unflagged h = grind arith

-- a location that keeps its bytes is settled
bytes_closed : (b : List ℕ) (v : Location) (p : Scheme) (flag : Bool) → v.scheme ≡ p → v.flag ≡ flag → keeps_bytes p flag ≡ true → Spells b v → IsSettled v ⊎ IsException v
bytes_closed b v p flag e f keeps s = inl (kept_closed b v s (ap (λ q. keeps_bytes q v.flag) e ∙ ap (keeps_bytes p) f ∙ keeps))

-- local files are settled, with the flag or without it
files_closed : (b : List ℕ) (v : Location) (flag : Bool) → v.scheme ≡ file → v.flag ≡ flag → Spells b v → IsSettled v ⊎ IsException v
files_closed b v true e f s = bytes_closed b v file true e f refl s
files_closed b v false e f s = file_closed_by b v v.host refl e (spelled_by_file b v e f s)

-- a location of HTTP is
webs_closed : (b : List ℕ) (v : Location) → IsWeb v → Spells b v → IsSettled v ⊎ IsException v
webs_closed b v web s = web_closed_by b v v.host refl (spelled_by_url b v web s) web

-- by scheme
closed_by : (p : Scheme) (b : List ℕ) (v : Location) → v.scheme ≡ p → is_closed p ≡ true → Spells b v → IsSettled v ⊎ IsException v
closed_by file b v e h s = files_closed b v v.flag e refl s
closed_by http b v e h s = webs_closed b v (inl e) s
closed_by https b v e h s = webs_closed b v (inr e) s
closed_by ext b v e h s = bytes_closed b v ext v.flag e refl refl s
closed_by (helper name) b v e h s = bytes_closed b v (helper name) v.flag e refl refl s
closed_by _ b v e h s = absurd (false≢true h)

-- a location of these kinds that is read is settled, or is an exception
pub closed : Closed
closed b v s h = closed_by v.scheme b v refl h s

-- ---- exactness

-- local files that come back are settled
files_exact : (v : Location) (flag : Bool) → v.scheme ≡ file → v.flag ≡ flag → ¬ (v.spelling ≡ Some v.path) → ComesBack v → IsSettled v
files_exact v true e f other back = kept_exact v (ap (λ q. keeps_bytes q v.flag) e ∙ f) back.written back.reread back.spelled back.same_fields
files_exact v false e f other back = file_settled v e (file_exact v back.reread back.written e f other back.has_text back.spelled back.same_fields back.same_text)

-- so are locations of HTTP
webs_exact : (v : Location) → IsWeb v → ¬ (v.spelling ≡ Some v.path) → ComesBack v → IsSettled v
webs_exact v web other back = web_settled v web (web_exact v back.reread back.written web other back.has_text back.spelled back.same_fields back.same_text)

exact_by : (p : Scheme) (v : Location) → v.scheme ≡ p → is_closed p ≡ true → ¬ (v.spelling ≡ Some v.path) → ComesBack v → IsSettled v
exact_by file v e h other back = files_exact v v.flag e refl other back
exact_by http v e h other back = webs_exact v (inl e) other back
exact_by https v e h other back = webs_exact v (inr e) other back
exact_by ext v e h other back = kept_exact v (ap (λ q. keeps_bytes q v.flag) e) back.written back.reread back.spelled back.same_fields
exact_by (helper name) v e h other back = kept_exact v (ap (λ q. keeps_bytes q v.flag) e) back.written back.reread back.spelled back.same_fields
exact_by _ v e h other back = absurd (false≢true h)

-- a location that is read back is settled, and no other is
pub exact : Exact
exact v is h other = (λ settled. (settled_again v is settled).0, exact_by v.scheme v refl h other)
