-- The slices that are found in a text: the host that Secure Shell takes, and the location that the parts of a
-- URL denote.
use Rattle.std.proofs.Common.{◌≡◌, ℕ, ◌<◌, ◌==◌, true, false, inl, inr, List, [], ◌∷◌, ◌++◌, length, Option, Some, None, refl, sym, ap, subst, ◌∙◌, append_assoc, eq-eqb, arith}
use Rattle.std.proofs.lemmas.Bool.Decides.{nat_tests}
use Rattle.std.specs.Prelude.{IfSome, IsUtf8, MatchOption, option_map}
use Rattle.std.specs.Option.{unwrap_or}
use Rattle.std.proofs.lemmas.List.{same_from_push}
use Rattle.std.proofs.lemmas.Bool.{both_ways, cases_Bool, eqb-true}
use Rattle.git_syntax.specs.Location.{Scheme}
use Rattle.git_syntax.specs.Location.Scheme.{file, git, ssh, http, https, ext, helper, helper_url}
use Rattle.git_syntax.specs.Bytes.{colon, left_bracket, right_bracket, begins_with}
use Rattle.git_syntax.specs.Schemes.{scheme_of, requires_path}
use Rattle.git_syntax.specs.Grammar.{UrlSyntax, HasUrlSyntax, SpellsUrl, IsSshHost, DenotesByScheme}
use Rattle.git_syntax.specs.Internal.FoundPieces.{text_before_last, colon_dropped, ssh_host, host_for, url_location}
use Rattle.git_syntax.proofs.Texts.CutLemmas.{heads, tails}
use Rattle.git_syntax.proofs.Parsing.UrlLocationLemmas.{ssh_host_utf8, spelled_url}

-- ---- fronts

-- the text doesn't end in c
abbrev pub EndsNot : ℕ → List ℕ → Type 0
EndsNot c t = (front : List ℕ) → ¬ (t ≡ front ++ c ∷ [])

-- how a front before a last c is reported
abbrev pub ReportsFront : ℕ → List ℕ → Option (List ℕ) → Type 0
ReportsFront c t found = MatchOption found (EndsNot c t) (λ front. t ≡ front ++ c ∷ [])

-- a text of one byte
front_of_one : (c b : ℕ) → ReportsFront c (b ∷ []) (text_before_last c (b ∷ []))
front_of_one c b = elim (cases_Bool (b == c)) [ inl same ↦ rw same (ap (λ t. t ∷ []) (eqb-true b c same)) | inr other ↦ rw other (ends_not other) ]
  where
    ends_not : (b == c) ≡ false → EndsNot c (b ∷ [])
    ends_not other [] e = both_ways (b == c) other (eq-eqb b c (heads e))
    ends_not other (d ∷ front) e = joined_some front (tails e)
      where
        joined_some : (front : List ℕ) → [] ≡ front ++ c ∷ [] → ⊥
        joined_some [] e = absurd cc
        joined_some (d ∷ front) e = absurd cc

-- a text with one byte more
front_of_more : (c b d : ℕ) (bs : List ℕ) (found : Option (List ℕ)) → ReportsFront c (d ∷ bs) found → ReportsFront c (b ∷ d ∷ bs) (option_map (λ front. b ∷ front) found)
front_of_more c b d bs (Some front) e = ap (λ t. b ∷ t) e
front_of_more c b d bs None none = ends_not
  where
    ends_not : EndsNot c (b ∷ d ∷ bs)
    ends_not [] e = absurd cc
    ends_not (x ∷ front) e = none front (tails e)

-- the front before a last c is reported as it is
front_reported : (c : ℕ) (t : List ℕ) → ReportsFront c t (text_before_last c t)
front_reported c [] = ends_not
  where
    ends_not : EndsNot c []
    ends_not [] e = absurd cc
    ends_not (x ∷ front) e = absurd cc
front_reported c (b ∷ []) = front_of_one c b
front_reported c (b ∷ d ∷ bs) = front_of_more c b d bs (text_before_last c (d ∷ bs)) (front_reported c (d ∷ bs))

-- ---- the host that Secure Shell takes

-- a host with a bracket in front that ends in no bracket, with or without a colon after it
kept_bracket : (suffix : List ℕ) → EndsNot right_bracket suffix → ((front : List ℕ) → ¬ (suffix ≡ front ++ right_bracket ∷ (colon ∷ []))) → IsSshHost (left_bracket ∷ suffix) (left_bracket ∷ suffix)
kept_bracket suffix closed marked = grind arith

-- a host with a bracket in front
ssh_host_bracket : (suffix : List ℕ) (whole inside : Option (List ℕ)) → ReportsFront colon suffix whole → ReportsFront right_bracket (unwrap_or whole suffix) inside → IsSshHost (left_bracket ∷ suffix) (unwrap_or inside (left_bracket ∷ suffix))
ssh_host_bracket suffix None (Some inside) other e = IsSshHost.brackets (ap (λ t. left_bracket ∷ t) e)
ssh_host_bracket suffix (Some whole) (Some inside) e k =
    IsSshHost.brackets_colon (ap (λ t. left_bracket ∷ t) (e ∙ ap (λ t. t ++ colon ∷ []) k ∙ append_assoc inside (right_bracket ∷ []) (colon ∷ [])))
ssh_host_bracket suffix None None other closed =
    kept_bracket suffix closed (λ front e. other (front ++ right_bracket ∷ []) (e ∙ sym (append_assoc front (right_bracket ∷ []) (colon ∷ []))))
ssh_host_bracket suffix (Some whole) None e closed =
    kept_bracket suffix (λ front k. both_ways (58 == 93) refl (eq-eqb 58 93 (same_from_push whole front colon right_bracket (sym e ∙ k)).1))
    (λ front k. closed front (same_from_push whole (front ++ right_bracket ∷ []) colon colon (sym e ∙ k ∙ sym (append_assoc front (right_bracket ∷ []) (colon ∷ [])))).0)

-- a host without a bracket in front is in no brackets, so it is taken without the colon after it
ssh_host_open : (host : List ℕ) (front : Option (List ℕ)) → begins_with left_bracket host ≡ false → ReportsFront colon host front → IsSshHost host (colon_dropped host front)
ssh_host_open host front open_front e = grind (arith, nat_tests, both_ways, cases_Bool, same_from_push)

-- Secure Shell takes this host out of each
pub peels : (host : List ℕ) → IsSshHost host (ssh_host host)
peels [] = ssh_host_open [] None refl (front_reported colon [])
peels (b ∷ bs) =
    elim (cases_Bool (b == left_bracket)) [
      | inr open_front ↦ rw open_front (ssh_host_open (b ∷ bs) (text_before_last colon (b ∷ bs)) open_front (front_reported colon (b ∷ bs)))
      | inl bracket ↦
          rw bracket (subst (λ c. IsSshHost (c ∷ bs) (unwrap_or (text_before_last right_bracket (unwrap_or (text_before_last colon bs) bs)) (c ∷ bs))) (sym (eqb-true b left_bracket bracket)) (ssh_host_bracket bs (text_before_last colon bs) (text_before_last right_bracket (unwrap_or (text_before_last colon bs) bs)) (front_reported colon bs) (front_reported right_bracket (unwrap_or (text_before_last colon bs) bs))))
    ]

-- which is text if that is
pub host_utf8 : (scheme : Scheme) (named : Option (List ℕ)) → IfSome named IsUtf8 → IfSome (host_for scheme named) IsUtf8
host_utf8 ssh None h = tt
host_utf8 ssh (Some named) h = ssh_host_utf8 (peels named) h
host_utf8 file named h = h
host_utf8 git named h = h
host_utf8 http named h = h
host_utf8 https named h = h
host_utf8 ext named h = h
host_utf8 (helper name) named h = h
host_utf8 (helper_url name) named h = h

-- ---- the location of a URL

-- the parts of a URL denote this location by a scheme
pub means_location : (scheme : Scheme) (parts : UrlSyntax) → (requires_path scheme ≡ true → 0 < length parts.path) → DenotesByScheme scheme parts (url_location scheme parts)
means_location scheme parts pathed = grind (arith, nat_tests, peels)

-- a URL spells it, except one of the helper `ext`
pub found_url : {b : List ℕ} {parts : UrlSyntax} → HasUrlSyntax b parts → ¬ (scheme_of parts.scheme ≡ ext) → (requires_path (scheme_of parts.scheme) ≡ true → 0 < length parts.path) → SpellsUrl b (url_location (scheme_of parts.scheme) parts)
found_url {b} {parts} h other pathed = spelled_url h refl other (means_location (scheme_of parts.scheme) parts pathed)
