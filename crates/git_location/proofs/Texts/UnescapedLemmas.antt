-- A text of bytes that need no escape is written as it is.
use Rattle.std.proofs.Common.{◌≡◌, ◌∙◌, ◌<◌, ℕ, Bool, true, false, ◌&&◌, List, [], ◌∷◌, refl, ap, arith}
use Rattle.std.specs.List.{list_all}
use Rattle.std.proofs.lemmas.Bool.{agree_below_at, and_parts}
use Rattle.std.proofs.lemmas.Bool.Decides.{nat_tests}
use Rattle.percent_encoding.specs.declared.ascii_set.AsciiSet.{AsciiSet}
use Rattle.percent_encoding.specs.AsciiSet.{contains, should_percent_encode}
use Rattle.percent_encoding.specs.Percent.{percent_encode}
use Rattle.percent_encoding.proofs.PercentLemmas.{percent_encode-nil, percent_encode_kept}
use Rattle.git_syntax.specs.declared.escape.TheConstants.{PATH, PASSWORD, USER}
use Rattle.git_location.specs.Internal.KeptBytes.{is_unescaped_in_path, is_unescaped_in_user}
use Rattle.git_syntax.specs.Internal.Masks.{is_common, is_common_byte}
use Rattle.percent_encoding.proofs.AsciiSetLemmas.{kept_from_outside}

-- a text of which each byte passes a test that no escaped byte passes is written as it is
kept_by : (set : AsciiSet) (test : ℕ → Bool) → ((b : ℕ) → test b ≡ true → should_percent_encode set b ≡ false) → (bs : List ℕ) → list_all test bs ≡ true → percent_encode set bs ≡ bs
kept_by set test kept [] all = percent_encode-nil set
kept_by set test kept (b ∷ bs) all =
    let parts = and_parts (test b) (list_all test bs) all in
    percent_encode_kept set b bs (kept b parts.0) ∙ ap (λ x. b ∷ x) (kept_by set test kept bs parts.1)

path_ascii : (b : ℕ) → is_unescaped_in_path b ≡ true → b < 128
path_ascii b ready = grind (arith, nat_tests)

user_ascii : (b : ℕ) → is_unescaped_in_user b ≡ true → b < 128
user_ascii b ready = grind (arith, nat_tests)

-- of two tests that no byte passes both, the second fails if the first is passed
other_fails : (p q : Bool) → (p && q) ≡ false → p ≡ true → q ≡ false
other_fails true q none yes_p = none
other_fails false q none yes_p = cc

path_outside : (b : ℕ) → b < 128 → (is_unescaped_in_path b && contains PATH b) ≡ false
path_outside b ascii = agree_below_at (λ d. is_unescaped_in_path d && contains PATH d) (λ d. false) 128 b refl ascii

user_outside : (b : ℕ) → b < 128 → (is_unescaped_in_user b && contains USER b) ≡ false
user_outside b ascii = agree_below_at (λ d. is_unescaped_in_user d && contains USER d) (λ d. false) 128 b refl ascii

password_outside : (b : ℕ) → b < 128 → (is_unescaped_in_user b && contains PASSWORD b) ≡ false
password_outside b ascii = agree_below_at (λ d. is_unescaped_in_user d && contains PASSWORD d) (λ d. false) 128 b refl ascii

-- a path of bytes that need no escape
pub ready_path : (bs : List ℕ) → list_all is_unescaped_in_path bs ≡ true → percent_encode PATH bs ≡ bs
ready_path bs all = kept_by PATH is_unescaped_in_path (λ b ready. kept_from_outside PATH b (path_ascii b ready) (other_fails _ _ (path_outside b (path_ascii b ready)) ready)) bs all

common_outside : (b : ℕ) → b < 128 → (is_common_byte b && contains PATH b) ≡ false
common_outside b ascii = agree_below_at (λ d. is_common_byte d && contains PATH d) (λ d. false) 128 b refl ascii

common_ascii : (b : ℕ) → is_common_byte b ≡ true → b < 128
common_ascii b common = grind (arith, nat_tests)

-- a path of common bytes
pub common_path : (bs : List ℕ) → is_common bs ≡ true → percent_encode PATH bs ≡ bs
common_path bs all = kept_by PATH is_common_byte (λ b common. kept_from_outside PATH b (common_ascii b common) (other_fails _ _ (common_outside b (common_ascii b common)) common)) bs all

-- a user of bytes that need no escape
pub ready_user : (bs : List ℕ) → list_all is_unescaped_in_user bs ≡ true → percent_encode USER bs ≡ bs
ready_user bs all = kept_by USER is_unescaped_in_user (λ b ready. kept_from_outside USER b (user_ascii b ready) (other_fails _ _ (user_outside b (user_ascii b ready)) ready)) bs all

-- a password of bytes that need no escape
pub ready_password : (bs : List ℕ) → list_all is_unescaped_in_user bs ≡ true → percent_encode PASSWORD bs ≡ bs
ready_password bs all = kept_by PASSWORD is_unescaped_in_user (λ b ready. kept_from_outside PASSWORD b (user_ascii b ready) (other_fails _ _ (password_outside b (user_ascii b ready)) ready)) bs all
