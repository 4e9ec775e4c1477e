-- Simple texts, by the pieces that masks cut.
use Rattle.std.proofs.Common.{◌≡◌, ◌∙◌, ◌<◌, ◌≤◌, ◌++◌, ◌∷◌, ℕ, true, false, List, [], Option, Some, length, codes, refl, ap, append_assoc}
use Rattle.git_syntax.specs.Bytes.{FreeOf, begins_with, colon, slash}
use Rattle.git_syntax.specs.Flaws.{UrlForm}
use Rattle.git_syntax.specs.Grammar.{SpellsLocal, begins_at_home}
use Rattle.git_syntax.specs.Location.{Scheme, path_alone}
use Rattle.git_syntax.specs.Location.Scheme.{file, ssh}
use Rattle.git_syntax.specs.Schemes.{scheme_text}
use Rattle.git_syntax.specs.SimpleTexts.{HasSimpleParts, IsRemoteScheme, IsSimpleText}
use Rattle.git_syntax.specs.Hosts.{port_part, raw_user}
use Rattle.git_syntax.specs.Internal.HostPieces.{IsSimpleHost}
use Rattle.git_syntax.specs.Internal.SimplePieces.{CutsSimpleUser, IsSimplePlace}
use Rattle.git_syntax.specs.SimpleTexts.IsSimpleText.{file_text, scp_text, url_text}
use Rattle.git_syntax.specs.Internal.Forms.{ColonCut}
use Rattle.git_syntax.specs.Internal.Masks.{is_common}
use Rattle.git_syntax.proofs.ByMasks.CommonLemmas.{around_colon, common_utf8, neither_by_colon, not_addressed}
use Rattle.git_syntax.proofs.Parsing.ClassifierLemmas.{colon_nonempty, local_form, no_scp_cut}

-- a text with a slash before its only colon is a local path
pub slashed_local : (b front rest : List ℕ) → is_common b ≡ true → ColonCut b front rest → ((suffix : List ℕ) → ¬ (rest ≡ slash ∷ (slash ∷ suffix)))
    → FreeOf colon rest → ¬ FreeOf slash front → SpellsLocal b (path_alone file true b)
slashed_local b front rest common cut no_mark free slashed =
    let neither = neither_by_colon b front rest cut no_mark free in
    let no_scp = no_scp_cut b front rest (around_colon b front rest common cut) slashed in
    let form = local_form b (colon_nonempty b front rest cut) neither (not_addressed b common) no_scp in
    record { nonempty = form.nonempty; neither = form.neither; no_scp = form.no_scp; value = refl }

-- a simple host before the only colon makes the scp form
pub simple_scp : (b front rest : List ℕ) (user : Option (List ℕ)) (host : List ℕ) → is_common b ≡ true → ColonCut b front rest → ((suffix : List ℕ) → ¬ (rest ≡ slash ∷ (slash ∷ suffix)))
    → FreeOf colon rest → 0 < length rest → begins_at_home rest ≡ false → CutsSimpleUser front user host → IsSimpleHost host
    → IsSimpleText b (record (path_alone ssh true rest) { user = user; host = Some host })
simple_scp b front rest user host common cut no_mark free some not_home split simple =
    let parts : HasSimpleParts b user host rest = record { common = common; simple_user = split.simple; simple_host = simple; pathed = some; not_home = not_home } in
    scp_text user host rest parts free no_mark (cut.joined ∙ ap (λ f. f ++ colon ∷ rest) split.joined ∙ append_assoc (raw_user user) host (colon ∷ rest)) refl

-- a remote scheme and a simple host make a URL
pub simple_url : (b scheme rest authority path piece : List ℕ) (p : Scheme) (user : Option (List ℕ)) (host : List ℕ) (port : Option ℕ) → UrlForm b scheme rest → is_common b ≡ true → length b ≤ 64
    → rest ≡ authority ++ path → 0 < length path → begins_with slash path ≡ true → begins_at_home path ≡ false → IsRemoteScheme p → scheme ≡ scheme_text p
    → CutsSimpleUser authority user piece → IsSimplePlace piece host port
    → IsSimpleText b (record (path_alone p false path) { user = user; host = Some host; port = port })
simple_url b scheme rest authority path piece p user host port form common short cut some begins not_home remote named split place =
    let parts : HasSimpleParts b user host path = record { common = common; simple_user = split.simple; simple_host = place.simple; pathed = some; not_home = not_home } in
    let placed = ap (λ q. q ++ path) place.joined ∙ append_assoc host (port_part port) path in
    let whole = cut ∙ ap (λ a. a ++ path) split.joined ∙ append_assoc (raw_user user) piece path ∙ ap (λ t. raw_user user ++ t) placed in
    url_text p user host path port remote parts place.allowed begins short (form.joined ∙ ap (λ s. s ++ (codes "://" ++ rest)) named ∙ ap (λ r. scheme_text p ++ (codes "://" ++ r)) whole) refl

-- `file://` and a path make a file URL without a host
pub simple_file : (b scheme rest authority path : List ℕ) → UrlForm b scheme rest → is_common b ≡ true → scheme ≡ codes "file" → rest ≡ authority ++ path → authority ≡ []
    → begins_with slash path ≡ true → IsSimpleText b (path_alone file false path)
simple_file b scheme rest authority path form common named cut none begins =
    file_text path (common_utf8 b common) begins (form.joined ∙ ap (λ s. s ++ (codes "://" ++ rest)) named ∙ ap (λ r. codes "file://" ++ r) (cut ∙ ap (λ a. a ++ path) none)) refl
