-- The pieces of a text, taken one after the other.
use Rattle.std.proofs.Common.{◌≡◌, ◌∙◌, ◌||◌, ℕ, true, false, List, [], ◌∷◌, ◌++◌, refl, sym, ap, append_assoc, append-nil}
use Rattle.std.proofs.lemmas.Bool.{false≢true}
use Rattle.std.specs.List.{list_any}
use Rattle.git_audit.specs.Secrets.{Part, hidden, joined, parts_of, shown}
use Rattle.explain_report.specs.Secrets.{IsShownAround, LeavesSecretsOut, has_secret, is_hidden, outlined, part_shown, parts_shown, shown_of}

-- a piece that is hidden is one of those that are left
pub hidden_now : (part : Part) (from next : List Part) → from ≡ part ∷ next → is_hidden part ≡ true → true ≡ list_any is_hidden from
hidden_now part from next taken hides =
    sym (ap (λ all. list_any is_hidden all) taken ∙ ap (λ it. it || list_any is_hidden next) hides)

-- after a piece that is shown, those that are hidden are left
pub hidden_later : (part : Part) (from next : List Part) → from ≡ part ∷ next → is_hidden part ≡ false → list_any is_hidden from ≡ list_any is_hidden next
hidden_later part from next taken shows =
    ap (λ all. list_any is_hidden all) taken ∙ ap (λ it. it || list_any is_hidden next) shows

-- with a piece appended, the rest is shown after it
pub shown_next : (part : Part) (from next : List Part) (out new all : List ℕ) → from ≡ part ∷ next → new ≡ out ++ part_shown part → out ++ parts_shown from ≡ all → new ++ parts_shown next ≡ all
shown_next part from next out new all taken pushed so_far =
    ap (λ t. t ++ parts_shown next) pushed ∙ append_assoc out (part_shown part) (parts_shown next)
    ∙ sym (ap (λ parts. out ++ parts_shown parts) taken) ∙ so_far

-- if no piece is left, all is shown
pub shown_all : (from : List Part) (out all : List ℕ) → from ≡ [] → out ++ parts_shown from ≡ all → out ≡ all
shown_all from out all empty so_far =
    sym (append-nil out) ∙ sym (ap (λ parts. out ++ parts_shown parts) empty) ∙ so_far

-- pieces of which none is hidden are shown as they are
shown_same : (parts : List Part) → list_any is_hidden parts ≡ false → parts_shown parts ≡ joined parts
shown_same [] none = refl
shown_same (shown bytes ∷ parts) none = ap (λ t. bytes ++ t) (shown_same parts none)
shown_same (hidden bytes ∷ parts) none = absurd (false≢true (sym none))

-- a text in which nothing is hidden is shown as it is
pub shown_plain : (text : List ℕ) → joined (parts_of text) ≡ text → has_secret text ≡ false → shown_of text ≡ text
shown_plain text whole none = shown_same (parts_of text) none ∙ whole

-- a text is shown as itself around nothing, if it is shown as it is
pub shown_alone : (text : List ℕ) → shown_of text ≡ text → IsShownAround text
shown_alone text same = (text, [], [], sym (append-nil text), same ∙ sym (append-nil text))

-- a text in which nothing is hidden is shown as itself
pub shown_whole : (text : List ℕ) → joined (parts_of text) ≡ text → has_secret text ≡ false → IsShownAround text
shown_whole text whole none = shown_alone text (shown_plain text whole none)

-- pieces are shown as those without the bytes that may be secrets
shown_outlined : (parts : List Part) → parts_shown parts ≡ parts_shown (outlined parts)
shown_outlined [] = refl
shown_outlined (shown bytes ∷ parts) = ap (λ t. bytes ++ t) (shown_outlined parts)
shown_outlined (hidden bytes ∷ parts) = ap (λ t. part_shown (hidden bytes) ++ t) (shown_outlined parts)

-- a piece that may be a secret leaves no trace in the shown text
pub leaves_secrets_out : LeavesSecretsOut
leaves_secrets_out a b same =
    shown_outlined (parts_of a) ∙ ap parts_shown same ∙ sym (shown_outlined (parts_of b))
