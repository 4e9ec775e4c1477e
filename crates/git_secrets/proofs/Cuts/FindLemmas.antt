-- The kinds of the hidden pieces so far, and of those that are left.
use Rattle.std.proofs.Common.{◌≡◌, ◌∙◌, ◌||◌, ℕ, Bool, true, false, List, [], ◌∷◌, refl, sym, ap}
use Rattle.std.specs.List.{list_any}
use Rattle.git_secrets.specs.declared.Secret.{Secret}
use Rattle.git_secrets.specs.declared.Secret.TheVariants as secret
use Rattle.git_secrets.specs.declared.Kinds.{Kinds}
use Rattle.git_secrets.specs.Secrets.{Part, has_secret, is_hidden_as, kinds_of}

either_of_three : (a b c : Bool) → (a || b) || c ≡ a || (b || c)
either_of_three true b c = refl
either_of_three false b c = refl

neither : (a : Bool) → a || false ≡ a
neither true = refl
neither false = refl

-- one piece more
pub kind_next : (kind : Secret) (part : Part) (from next : List Part) (found new all : Bool) → from ≡ part ∷ next → new ≡ (found || is_hidden_as kind part) → found || list_any (is_hidden_as kind) from ≡ all → new || list_any (is_hidden_as kind) next ≡ all
kind_next kind part from next found new all taken more so_far =
    let later = list_any (is_hidden_as kind) next in
    ap (λ it. it || later) more ∙ either_of_three found (is_hidden_as kind part) later
    ∙ sym (ap (λ parts. found || list_any (is_hidden_as kind) parts) taken) ∙ so_far

-- no piece is left
pub kind_all : (kind : Secret) (from : List Part) (found all : Bool) → from ≡ [] → found || list_any (is_hidden_as kind) from ≡ all → found ≡ all
kind_all kind from found all empty so_far =
    sym (neither found) ∙ sym (ap (λ parts. found || list_any (is_hidden_as kind) parts) empty) ∙ so_far

-- kinds by their two facts
pub same_kinds : (found : Kinds) (text : List ℕ) → found.password ≡ has_secret secret.Password text → found.token ≡ has_secret secret.Token text → found ≡ kinds_of text
same_kinds found text password token =
    ap (λ it. record { password = it; token = found.token }) password
    ∙ ap (λ it. record { password = has_secret secret.Password text; token = it }) token
