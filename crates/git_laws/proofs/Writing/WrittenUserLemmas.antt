-- The written user information of a URL is read as the same user and password.
use Rattle.std.specs.Prelude.{IsSome, IfSome, IsUtf8}
use Rattle.std.proofs.lemmas.Bool.Decides.{nat_tests}
use Rattle.std.proofs.Common.{◌≡◌, ◌∙◌, ℕ, ◌<◌, List, [], ◌∷◌, ◌++◌, length, Option, Some, None, refl, sym, ap, subst, arith, append_assoc}
use Rattle.percent_encoding.specs.Percent.{percent_encode}
use Rattle.git_syntax.specs.declared.escape.TheConstants.{PASSWORD, USER}
use Rattle.git_syntax.specs.Bytes.{colon, at_sign}
use Rattle.git_syntax.specs.Authority.{unless_empty}
use Rattle.git_syntax.specs.Authority.Credentials.{user_alone, with_password}
use Rattle.git_laws.proofs.Writing.WrittenPieces.{WritesInformation}
use Rattle.git_laws.proofs.Writing.PieceTextLemmas.{joined_hosts, host_piece, user_piece, password_piece, user_no_colon, user_decoded, password_decoded}

-- a text that is not empty denotes itself
not_empty_kept : (t : List ℕ) → ¬ (t ≡ []) → Some t ≡ unless_empty t
not_empty_kept t some = grind arith

-- so does a text with a length
lengthy_kept : (t : List ℕ) → 0 < length t → Some t ≡ unless_empty t
lengthy_kept t some = not_empty_kept t (λ e. absurd (omega (arith, ap length e, some)))

-- a user alone is read as that user
alone_written : (user : List ℕ) → IsUtf8 user → ¬ (user ≡ []) → WritesInformation user None
alone_written user text some =
    let decoded = user_decoded user text in record {
      information = percent_encode USER user;
      written = refl;
      credentials = user_alone (user_no_colon user) (subst IsUtf8 (sym decoded) text) refl (not_empty_kept user some ∙ ap unless_empty (sym decoded));
      piece = (user_piece user).piece;
    }

-- a user and a password are read as both
both_written : (user password : List ℕ) → IsUtf8 user → IsUtf8 password → 0 < length password → WritesInformation user (Some password)
both_written user password first second some =
    let name = percent_encode USER user in
    let secret = percent_encode PASSWORD password in
    let user_is = user_decoded user first in
    let password_is = password_decoded password second in record {
      information = name ++ colon ∷ secret;
      written = sym (append_assoc name (colon ∷ secret) (at_sign ∷ []));
      credentials = with_password name secret (user_no_colon user) refl (subst IsUtf8 (sym user_is) first) (subst IsUtf8 (sym password_is) second)
          (lengthy_kept password some ∙ ap unless_empty (sym password_is)) (ap Some (sym user_is));
      piece = (joined_hosts name (colon ∷ secret) (user_piece user) (joined_hosts (colon ∷ []) secret (host_piece (colon ∷ []) refl refl) (password_piece password))).piece;
    }

-- the written user information is read as the same user and password,
-- if neither is an empty text that would be read as none
pub information_written : (user : List ℕ) (password : Option (List ℕ)) → IsUtf8 user → IfSome password IsUtf8 → IfSome password (λ p. 0 < length p) → (user ≡ [] → IsSome password) → WritesInformation user password
information_written user password text secret some given = grind (arith, nat_tests, alone_written, both_written)
