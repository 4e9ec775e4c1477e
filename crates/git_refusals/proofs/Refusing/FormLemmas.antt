-- Forms of texts: each that no check refuses spells a location.
use Rattle.std.proofs.Common.{◌≡◌, List, ℕ, true, inl, inr, ◌⊎◌, refl, subst, codes, bytes_eq}
use Rattle.std.specs.Borrow.{Bor}
use Rattle.std.proofs.lemmas.Slice.Eq.{bytes_eq-Decides}
use Rattle.git_syntax.specs.declared.classify.Form.{Form}
use Rattle.git_syntax.specs.declared.classify.Form.TheVariants as form
use Rattle.git_syntax.specs.Location.{path_alone}
use Rattle.git_syntax.specs.Location.Scheme.{file}
use Rattle.git_syntax.specs.Grammar.{HelperCut, helper_scheme, LocalForm, Spells}
use Rattle.git_syntax.specs.Flaws.{UrlForm}
use Rattle.git_syntax.specs.Internal.Forms.{Classifies}
use Rattle.git_refusals.specs.Internal.Readable.{IsScp, IsAddressedScp, IsSpelled}

-- a remote helper spells a location
helper_spelled : (b name address : List ℕ) → HelperCut b name address → IsSpelled b
helper_spelled b name address h = (path_alone (helper_scheme name) true address, Spells.remote_helper (record { name = name; address = address; parts = h; value = refl }))

-- a local path spells one
local_spelled : (b : List ℕ) → LocalForm b → IsSpelled b
local_spelled b h = (path_alone file true b, Spells.local_path (record { nonempty = h.nonempty; neither = h.neither; no_scp = h.no_scp; value = refl }))

-- so both do
pub helper_or_local : (b : List ℕ) (found : Form) → Classifies b found → ((name : Bor (List ℕ)) × (address : Bor (List ℕ)) × (found ≡ form.Helper name address)) ⊎ (found ≡ form.Local) → IsSpelled b
helper_or_local b found h (inl (name, address, e)) = helper_spelled b name.now address.now (subst (Classifies b) e h)
helper_or_local b found h (inr e) = local_spelled b (subst (Classifies b) e h)

-- the scp form spells one
pub scp_spelled : (b : List ℕ) → IsScp b → IsSpelled b
scp_spelled b (v, s) = (v, Spells.scp_form (inl s))

-- the form `user@[address]:path` spells one
pub addressed_spelled : (b : List ℕ) → IsAddressedScp b → IsSpelled b
addressed_spelled b (v, s) = (v, Spells.scp_form (inr s))

-- a URL whose scheme is `file` is a file URL
pub file_form : (b scheme rest : List ℕ) → UrlForm b scheme rest → bytes_eq scheme (codes "file") ≡ true → UrlForm b (codes "file") rest
file_form b scheme rest h same = subst (λ s. UrlForm b s rest) ((bytes_eq-Decides scheme (codes "file")).0 same) h
