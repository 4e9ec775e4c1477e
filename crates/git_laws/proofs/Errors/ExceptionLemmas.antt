-- No location that is an exception is settled.
use Rattle.std.proofs.Common.{◌≡◌, ℕ, true, false, ◌==◌, ◌⊎◌, List, [], ◌∷◌, ◌++◌, Option, Some, refl, sym, ap, subst, ◌∙◌, arith}
use Rattle.std.proofs.lemmas.Bool.{both_ways}
use Rattle.std.proofs.lemmas.Option.{same_Some}
use Rattle.git_syntax.specs.Location.{Location}
use Rattle.git_syntax.specs.Bytes.{colon, left_bracket, percent_sign, FreeOf, begins_with}
use Rattle.git_syntax.specs.Escapes.{has_percent}
use Rattle.git_syntax.specs.Hosts.{is_http_host_byte}
use Rattle.git_location.specs.Text.{has_colon}
use Rattle.git_location.specs.Settled.{IsFileHost, IsSettledFile, IsSettledLocal, IsWebHost, IsSettledBy}
use Rattle.git_laws.specs.Laws.{IsException, Apart}
use Rattle.git_syntax.proofs.Texts.CutLemmas.{lacks-append, free_of_all, not_free}
use Rattle.git_location.proofs.SettledClass.SettledLemmas.{settled_as_web}

-- a host that is an exception of file URLs isn't settled
file_host_apart : (host : List ℕ) → begins_with left_bracket host ≡ false → has_colon host ≡ true → has_percent host ≡ true → ¬ IsFileHost host
file_host_apart host open_front marked escaped h = grind arith

-- nor is its location
file_apart : (v : Location) (host : List ℕ) → v.host ≡ Some host → ¬ IsFileHost host → IsSettledLocal v ⊎ IsSettledFile v → ⊥
file_apart v host there corner h = grind arith

-- a host that is an exception of HTTP isn't settled
web_host_apart : (port : Option ℕ) (front host : List ℕ) → host ≡ front ++ colon ∷ [] → begins_with left_bracket host ≡ false → has_percent host ≡ true → ¬ IsWebHost port host
web_host_apart port front host ends open_front escaped (IsWebHost.literal n h e) = both_ways _ open_front (ap (begins_with left_bracket) e)
web_host_apart port front host ends open_front escaped (IsWebHost.literal_colon n h p e) = both_ways _ open_front (ap (begins_with left_bracket) e)
web_host_apart port front host ends open_front escaped (IsWebHost.named h) =
    not_free colon front [] (subst (λ t. FreeOf colon t) ends (free_of_all is_http_host_byte colon host h.bytes refl))
web_host_apart port front host ends open_front escaped (IsWebHost.named_colon n h plain p e) =
    both_ways _ (ap has_percent e ∙ lacks-append (λ b. b == percent_sign) n (colon ∷ []) plain refl) escaped

-- no exception is settled
pub apart : Apart
apart v (IsException.file_host host is there open_front marked escaped) h =
    file_apart v host there (file_host_apart host open_front marked escaped) (subst (λ p. IsSettledBy p v) is h)
apart v (IsException.web_host front web there open_front escaped) h =
    let (host, is, stays) = (settled_as_web v web h).host in
    web_host_apart v.port front (front ++ colon ∷ []) refl open_front escaped (subst (λ t. IsWebHost v.port t) (same_Some host (front ++ colon ∷ []) (sym is ∙ there)) stays)
apart v (IsException.web_length web long) h = long (settled_as_web v web h).common.fits
