-- Known readers leave plain texts alone.
use Rattle.std.proofs.Common.{◌≡◌, ◌∙◌, ℕ, Bool, true, false, ◌||◌, ◌==◌, List, [], ◌∷◌, map, refl, ap, arith}
use Rattle.std.specs.List.{list_all}
use Rattle.std.specs.Char.{to_ascii_lowercase}
use Rattle.std.proofs.lemmas.Bool.{and_parts, cond-false}
use Rattle.std.proofs.lemmas.Bool.Decides.{nat_tests}
use Rattle.percent_encoding.specs.Percent.{percent_decode}
use Rattle.git_syntax.specs.Bytes.{backslash, percent_sign, slash, lowercase, is_query_start}
use Rattle.git_syntax.proofs.Texts.CutLemmas.{free_of_all}
use Rattle.git_syntax.proofs.Texts.EscapeLemmas.{decode_kept}
use Rattle.git_laws.proofs.GitReadings.GitCutLemmas.{git_decode_kept}
use Rattle.git_readers.specs.KnownReaders.{KeepsHosts, KeepsPaths, git_credentials, git_transports, rfc3986, slashed_byte, whatwg}
use Rattle.git_readers.specs.Readers.{LeavesPlain}
use Rattle.git_readers.specs.Unambiguous.{IsCommonHost, is_label_byte, is_path_byte, is_unreserved}
use Rattle.git_readers.proofs.PlainBytes.{host_pass, host_plain, plain_path}

-- no byte of a path begins a query
no_query : (b : ℕ) → is_path_byte b ≡ true → is_query_start b ≡ false
no_query b h = grind (arith, nat_tests)

-- nor is one a `\`
no_backslash : (b : ℕ) → is_path_byte b ≡ true → (b == backslash) ≡ false
no_backslash b h = grind (arith, nat_tests)

-- so none is changed to `/`
slashed_kept : (t : List ℕ) → list_all is_path_byte t ≡ true → map slashed_byte t ≡ t
slashed_kept [] all = refl
slashed_kept (b ∷ bs) all =
    let parts = and_parts (is_path_byte b) (list_all is_path_byte bs) all in
    ap (λ x. x ∷ map slashed_byte bs) (cond-false _ slash b (no_backslash b parts.0)) ∙ ap (λ x. b ∷ x) (slashed_kept bs parts.1)

-- plain texts have no escape
path_decoded : (t : List ℕ) → list_all is_path_byte t ≡ true → percent_decode t ≡ t
path_decoded t all = decode_kept t (free_of_all is_path_byte percent_sign t all refl)

word_decoded : (t : List ℕ) → list_all is_unreserved t ≡ true → percent_decode t ≡ t
word_decoded t all = path_decoded t (plain_path t all)

-- a byte of a host in lower case, or a dot
abbrev is_lower : ℕ → Bool
is_lower b = is_label_byte b || b == 46

lower_kept : (b : ℕ) → is_lower b ≡ true → to_ascii_lowercase b ≡ b
lower_kept b h = grind (arith, nat_tests)

lower_label : (b : ℕ) → is_label_byte b ≡ true → is_lower b ≡ true
lower_label b h = rw h refl

lowercase_kept : (t : List ℕ) → list_all is_lower t ≡ true → lowercase t ≡ t
lowercase_kept [] all = refl
lowercase_kept (b ∷ bs) all =
    let parts = and_parts (is_lower b) (list_all is_lower bs) all in
    ap (λ x. x ∷ lowercase bs) (lower_kept b parts.0) ∙ ap (λ x. b ∷ x) (lowercase_kept bs parts.1)

-- plain hosts have no capital letter
host_lower : (host : List ℕ) → IsCommonHost host → lowercase host ≡ host
host_lower host plain = lowercase_kept host (host_pass is_lower record { label = lower_label; dot = refl } host plain)

-- ---- the readers

pub rfc_leaves : LeavesPlain rfc3986
rfc_leaves = record {
  text = λ t all. refl;
  authority = no_query;
  path_end = no_query;
  word = word_decoded;
  host = host_lower;
  path = λ t all no_dots. path_decoded t all;
}

pub whatwg_leaves : (normal_host normal_path : List ℕ → List ℕ) → KeepsHosts normal_host → KeepsPaths normal_path → LeavesPlain (whatwg normal_host normal_path)
whatwg_leaves normal_host normal_path hosts paths = record {
  text = slashed_kept;
  authority = no_query;
  path_end = no_query;
  word = λ t all. refl;
  host = hosts;
  path = paths;
}

pub transports_leave : LeavesPlain git_transports
transports_leave = record {
  text = λ t all. git_decode_kept t (free_of_all is_path_byte percent_sign t all refl);
  authority = λ b plain. refl;
  path_end = λ b plain. refl;
  word = λ t all. refl;
  host = λ t plain. refl;
  path = λ t all no_dots. refl;
}

pub credentials_leave : LeavesPlain git_credentials
credentials_leave = record {
  text = λ t all. refl;
  authority = no_query;
  path_end = λ b plain. refl;
  word = word_decoded;
  host = λ t plain. word_decoded t (host_plain t plain);
  path = λ t all no_dots. path_decoded t all;
}
