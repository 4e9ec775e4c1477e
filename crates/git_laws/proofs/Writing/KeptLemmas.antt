-- Remote helpers and local paths: a location that is read as one is settled and is written as it was read; a
-- settled one comes back, and nothing else does.
use Rattle.std.proofs.Common.{◌≡◌, ℕ, true, false, inl, List, ◌∷◌, ◌++◌, Option, None, Ok, refl, sym, ap, subst, ◌∙◌, codes, bytes_eq, Bool, arith}
use Rattle.std.proofs.lemmas.Bool.Decides.{nat_tests}
use Rattle.std.proofs.lemmas.Bool.{false≢true}
use Rattle.std.proofs.lemmas.Slice.Eq.{bytes_eq-Decides}
use Rattle.git_syntax.specs.Location.{Scheme, Location, fields, path_alone}
use Rattle.git_syntax.specs.Location.Scheme.{file, ext, helper}
use Rattle.git_syntax.specs.Bytes.{colon, is_helper_name}
use Rattle.git_syntax.specs.Schemes.{scheme_of}
use Rattle.git_syntax.specs.Grammar.{LocalForm, helper_scheme, SpellsHelper, SpellsUrl, SpellsScp, SpellsLocal, Spells}
use Rattle.git_location.specs.Text.{text}
use Rattle.git_location.specs.Settled.{IsFlaggedPath, IsSettledLocal, IsSettledHelper, IsSettledBy, IsSettled}
use Rattle.git_location.proofs.SettledClass.UnchangedLemmas.{helper_unchanged, helper_written, kept, local_unchanged, local_written}
use Rattle.git_laws.specs.Laws.{keeps_bytes, KeepsBytes, ComesBack}
use Rattle.git_syntax.proofs.Parsing.SchemeLemmas.{helper_cases, means_cases}

-- ---- values

-- a location without password and port is made of its other parts
pub value_of : (v : Location) (known : Scheme) (flag : Bool) → v.scheme ≡ known → v.flag ≡ flag → v.password ≡ None → v.port ≡ None → v ≡ record (path_alone known flag v.path) { user = v.user; host = v.host; spelling = v.spelling }
value_of v known flag scheme flagged no_password no_port = grind arith

-- a location without the other parts is such a value
kept_value : (v : Location) (known : Scheme) → v.scheme ≡ known → IsFlaggedPath v → v ≡ kept known v.path v.spelling
kept_value v known scheme h = grind arith

-- the text of a settled local path is the path
pub flagged_text : (v : Location) → v.scheme ≡ file → IsSettledLocal v → text v ≡ Ok v.path
flagged_text v scheme h = grind arith

-- the parts of a remote helper are its name and its path
helper_parts : (name path : List ℕ) → is_helper_name name ≡ true → SpellsHelper (name ++ colon ∷ (colon ∷ path)) (path_alone (helper_scheme name) true path)
helper_parts name path named = record { name = name; address = path; parts = record { named = named; joined = refl }; value = refl }

-- ---- closure

-- no URL but that of `ext` keeps its bytes
url_loses : (s : List ℕ) → ¬ (scheme_of s ≡ ext) → keeps_bytes (scheme_of s) false ≡ true → ⊥
url_loses s h k = grind arith

-- a URL that keeps its bytes is its own path
url_kept : (b : List ℕ) (v : Location) → SpellsUrl b v → KeepsBytes v → v ≡ path_alone ext true b
url_kept b v h keeps = grind (arith, nat_tests, url_loses, means_cases)

-- nothing in the scp form keeps its bytes
scp_not_kept : (b : List ℕ) (v : Location) → SpellsScp b v → KeepsBytes v → ⊥
scp_not_kept b v h keeps = grind arith

-- a spelled location that keeps its bytes is settled
pub kept_closed : (b : List ℕ) (v : Location) → Spells b v → KeepsBytes v → IsSettled v
kept_closed b v (Spells.url h) keeps = subst (λ l. IsSettled l) (sym (url_kept b v h keeps)) (helper_unchanged (codes "ext::" ++ b) (path_alone ext true b) (helper_parts (codes "ext") b refl)).0
kept_closed b v (Spells.file_url h) keeps = absurd (false≢true (subst (λ l. KeepsBytes l) h.value keeps))
kept_closed b v (Spells.remote_helper h) keeps = (helper_unchanged b v h).0
kept_closed b v (Spells.scp_form h) keeps = absurd (scp_not_kept b v h keeps)
kept_closed b v (Spells.local_path h) keeps = (local_unchanged b v h).0

-- ---- exactness

-- of the kinds that keep their bytes, the class depends on the fields alone
pub settled_by_fields : (scheme : Scheme) (v w : Location) → fields w ≡ fields v → keeps_bytes scheme v.flag ≡ true → IsSettledBy scheme w → IsSettledBy scheme v
settled_by_fields scheme v w same keeps h = grind arith

-- a location that keeps its bytes is settled if bytes spell its fields
pub kept_exact : (v : Location) → KeepsBytes v → (b : List ℕ) (w : Location) → Spells b w → fields w ≡ fields v → IsSettled v
kept_exact v keeps b w spelled same =
    let scheme : w.scheme ≡ v.scheme = ap (λ l. l.scheme) same in
    let also : KeepsBytes w = subst (λ l. keeps_bytes l.scheme l.flag ≡ true) (sym same) keeps in
    settled_by_fields v.scheme v w same keeps (subst (λ p. IsSettledBy p w) scheme (kept_closed b w spelled also))

-- ---- settled locations come back

-- a location with a value of this kind comes back as the value without a spelling
kept_back : (v : Location) (scheme : Scheme) (t : List ℕ) → v ≡ kept scheme v.path v.spelling → ((spelling : Option (List ℕ)) → text (kept scheme v.path spelling) ≡ Ok t) → Spells t (path_alone scheme true v.path) → IsSettled (path_alone scheme true v.path) → (back : ComesBack v) × IsSettled back.reread
kept_back v scheme t value writes spelled settled = (
  record {
    written = t;
    reread = path_alone scheme true v.path;
    has_text = ap (λ l. text l) value ∙ writes v.spelling;
    spelled = spelled;
    same_fields = sym (ap (λ l. fields l) value);
    same_text = writes None;
  },
  settled,
)

-- the name, `::` and a path spell a remote helper
helper_spelled : (name path : List ℕ) → is_helper_name name ≡ true → Spells (name ++ colon ∷ (colon ∷ path)) (path_alone (helper_scheme name) true path)
helper_spelled name path named = Spells.remote_helper (helper_parts name path named)

-- a local path spells itself
local_parts : (path : List ℕ) → LocalForm path → SpellsLocal path (path_alone file true path)
local_parts path form = record { nonempty = form.nonempty; neither = form.neither; no_scp = form.no_scp; value = refl }

-- the scheme of a helper that isn't `ext`
other_helper : (name : List ℕ) → bytes_eq name (codes "ext") ≡ false → helper_scheme name ≡ helper name
other_helper name other = rw other refl

-- a settled remote helper comes back
pub helper_again : (name : List ℕ) (v : Location) → v.scheme ≡ helper name → bytes_eq name (codes "ext") ≡ false → IsSettledHelper name v → (back : ComesBack v) × IsSettled back.reread
helper_again name v scheme other h =
    let named : helper_scheme name ≡ helper name = other_helper name other in
    kept_back v (helper name) (name ++ colon ∷ (colon ∷ v.path)) (kept_value v (helper name) scheme h.bare) (λ spelling. helper_written name v.path spelling h.named) (subst (λ p. Spells (name ++ colon ∷ (colon ∷ v.path)) (path_alone p true v.path)) named (helper_spelled name v.path h.named)) (subst (λ p. IsSettled (path_alone p true v.path)) named (helper_unchanged (name ++ colon ∷ (colon ∷ v.path)) (path_alone (helper_scheme name) true v.path) (helper_parts name v.path h.named)).0)

-- so does one of `ext`
pub ext_again : (v : Location) → v.scheme ≡ ext → IsSettledHelper (codes "ext") v → (back : ComesBack v) × IsSettled back.reread
ext_again v scheme h =
    kept_back v ext (codes "ext::" ++ v.path) (kept_value v ext scheme h.bare) (λ spelling. refl) (helper_spelled (codes "ext") v.path refl) (helper_unchanged (codes "ext::" ++ v.path) (path_alone ext true v.path) (helper_parts (codes "ext") v.path refl)).0

-- and a settled local path
pub local_again : (v : Location) → v.scheme ≡ file → IsSettledLocal v → (back : ComesBack v) × IsSettled back.reread
local_again v scheme h =
    kept_back v file v.path (kept_value v file scheme h.bare) (local_written v.path) (Spells.local_path (local_parts v.path h.form)) (local_unchanged v.path (path_alone file true v.path) (local_parts v.path h.form)).0
