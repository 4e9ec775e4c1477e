-- Schemes: the schemes that a text can name, and the locations that a URL denotes by them.
use Rattle.std.proofs.Common.{◌≡◌, ℕ, Bool, true, false, ◌⊎◌, List, sym, subst, codes, bytes_eq, if◌then◌else◌, arith}
use Rattle.std.proofs.lemmas.Bool.Decides.{nat_tests}
use Rattle.std.proofs.lemmas.Bool.{or_cases}
use Rattle.std.proofs.lemmas.Slice.Eq.{bytes_eq-Decides}
use Rattle.git_syntax.specs.Location.{Scheme, Location, path_alone}
use Rattle.git_syntax.specs.Location.Scheme.{file, git, ssh, http, https, ext, helper, helper_url}
use Rattle.git_syntax.specs.Bytes.{colon, FreeOf, is_scheme_text}
use Rattle.git_syntax.specs.Schemes.{is_known_scheme, is_ssh_scheme, is_web_scheme, scheme_of, requires_path}
use Rattle.git_syntax.specs.Grammar.{helper_scheme, UrlSyntax, DenotesByScheme, DenotesAs}

-- a property of both choices holds of the chosen one
chosen : (P : Scheme → Type 0) (b : Bool) (p q : Scheme) → (b ≡ true → P p) → (b ≡ false → P q) → P (if b then p else q)
chosen P b p q first second = grind arith

-- a property of each scheme that a text can name holds of the one that it names
pub scheme_cases : (P : Scheme → Type 0) (s : List ℕ) → (is_ssh_scheme s ≡ true → P ssh) → (bytes_eq s (codes "file") ≡ true → P file) → P git → (bytes_eq s (codes "http") ≡ true → P http) → (bytes_eq s (codes "https") ≡ true → P https) → P ext → P (helper_url s) → P (scheme_of s)
scheme_cases P s of_ssh of_file of_git of_http of_https of_ext other = grind arith

-- the same of those of a remote helper
pub helper_cases : (P : Scheme → Type 0) (name : List ℕ) → (bytes_eq name (codes "ext") ≡ true → P ext) → (bytes_eq name (codes "ext") ≡ false → P (helper name)) → P (helper_scheme name)
helper_cases P name of_ext other = chosen P (bytes_eq name (codes "ext")) _ _ of_ext other

-- the name of a transport of Git's own: it holds no `:`, and is neither `file` nor one of HTTP
pub record IsTransport (scheme : List ℕ) : Type 0 where
  pub no_colon : FreeOf colon scheme
  pub not_file : bytes_eq scheme (codes "file") ≡ false
  pub not_web : is_web_scheme scheme ≡ false

-- a scheme that is one of these names is one of them
same_transport : (s name : List ℕ) → bytes_eq s name ≡ true → IsTransport name → IsTransport s
same_transport s name e h = subst IsTransport (sym ((bytes_eq-Decides s name).0 e)) h

-- a scheme whose URLs need a path is one
pub transport : (s : List ℕ) → requires_path (scheme_of s) ≡ true → IsTransport s
transport s h = grind (arith, nat_tests, chosen, same_transport, bytes_eq, or_cases)

-- a URL keeps its text as the path if its scheme is `ext`, and else its parts decide
pub means_cases : (scheme : Scheme) (b : List ℕ) (parts : UrlSyntax) (v : Location) → DenotesAs scheme b parts v → ((scheme ≡ ext) × (v ≡ path_alone ext true b)) ⊎ ((¬ (scheme ≡ ext)) × DenotesByScheme scheme parts v)
means_cases scheme b parts v h = grind arith

-- a location has the scheme that its URL names
pub means_scheme : (scheme : Scheme) (b : List ℕ) (parts : UrlSyntax) (v : Location) → DenotesAs scheme b parts v → v.scheme ≡ scheme
means_scheme scheme b parts v h = grind arith

-- a text that is one of these names is a scheme
same_scheme : (s name : List ℕ) → bytes_eq s name ≡ true → is_scheme_text name ≡ true → is_scheme_text s ≡ true
same_scheme s name e h = subst (λ t. is_scheme_text t ≡ true) (sym ((bytes_eq-Decides s name).0 e)) h

-- a name of HTTP is one
pub web_scheme : (s : List ℕ) → is_web_scheme s ≡ true → is_scheme_text s ≡ true
web_scheme s h = grind (arith, same_scheme, bytes_eq, or_cases)

-- a name of no known scheme is that of a remote helper
pub unknown_helper : (s : List ℕ) → is_known_scheme s ≡ false → scheme_of s ≡ helper_url s
unknown_helper s h = grind arith

-- it isn't `file`
pub unknown_no_file : (s : List ℕ) → is_known_scheme s ≡ false → bytes_eq s (codes "file") ≡ false
unknown_no_file s h = grind arith

-- and a name of a remote helper is one of no known scheme
pub helper_unknown : (s : List ℕ) → helper_url s ≡ scheme_of s → is_known_scheme s ≡ false
helper_unknown s h = grind arith
