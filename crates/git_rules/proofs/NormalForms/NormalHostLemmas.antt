-- Hosts and ports in their normal form: the pieces that their text is cut into, and that there is one normal
-- form.
use Rattle.std.proofs.Common.{◌≡◌, ◌∙◌, ◌≤◌, ◌∷◌, ℕ, true, List, length, refl, sym, ap, arith, length-append, inl, inr}
use Rattle.git_syntax.specs.Bytes.{colon}
use Rattle.git_syntax.specs.Escapes.{is_sound}
use Rattle.git_syntax.proofs.Texts.EscapeLemmas.{sound_around}
use Rattle.git_rules.specs.Normal.{CutsPort, IsUserOf}

-- the name of a host is no longer than the text that it is cut out of
pub name_fits : (text name port : List ℕ) → CutsPort text name port → length name ≤ length text
name_fits text name port (CutsPort.no_colon free same none) = omega (arith, ap length same)
name_fits text name port (CutsPort.in_brackets front back joined free bracket same none) = omega (arith, ap length same)
name_fits text name port (CutsPort.at_colon joined free flat) = omega (arith, ap length joined, length-append name (colon ∷ port))

-- a user is no longer than the user information
pub user_fits : (info user : List ℕ) → IsUserOf info user → length user ≤ length info
user_fits info user (inl h) = omega (arith, ap length h.1)
user_fits info user (inr h) = omega (arith, ap length h.2, length-append user (colon ∷ h.0))

-- the user of sound user information is sound
pub user_sound : (info user : List ℕ) → IsUserOf info user → is_sound info ≡ true → is_sound user ≡ true
user_sound info user (inl h) sound = ap is_sound h.1 ∙ sound
user_sound info user (inr h) sound = (sound_around user h.0 colon refl (sym (ap is_sound h.2) ∙ sound)).0
