-- A form that keeps every byte keeps them through a record.
use Rattle.std.proofs.Common.{◌≡◌, ◌⊎◌, inl, inr, ℕ, List, Result, Ok, Err, IfOk, sym, ap, ◌∙◌}
use Rattle.bstr.specs.declared.BString.{BString}
use Rattle.bstr.specs.Owned.{bstring_bytes}
use Rattle.gix_url.specs.Location.{Location}
use Rattle.gix_url.specs.Grammar.{SpellsHelper, SpellsLocal, Spells}
use Rattle.gix_url.specs.Grammar.Spells.{remote_helper, local_path}
use Rattle.gix_url.specs.Text.{text}
use Rattle.gix_url.specs.Laws.{Unique, Unchanged}
use Rattle.gix_url.specs.declared.error.Error.{Error}
use Rattle.user_proofs.proofs.stored.kept_text.Goals as goal

spelled : (b : List ℕ) (v : Location) → SpellsHelper b v ⊎ SpellsLocal b v → Spells b v
spelled b v (inl h) = remote_helper h
spelled b v (inr h) = local_path h

-- the text of the location that is read back is the bytes
same_bytes : Unique → Unchanged → (b s : List ℕ) (url back v : Location) → Spells b url → back ≡ url → text back ≡ Ok s → SpellsHelper b v ⊎ SpellsLocal b v → s ≡ b
same_bytes unique unchanged b s url back v read kept written form =
    let whole : Ok s ≡ Ok b = sym written ∙ ap text (kept ∙ unique b url v read (spelled b v form)) ∙ (unchanged b v form).1 in
    cc

in_result : Unique → Unchanged → (b : List ℕ) (url back : Location) (r : Result BString Error) → Spells b url → back ≡ url → IfOk r (λ s. text back ≡ Ok (bstring_bytes s)) → IfOk r (λ s. (v : Location) → SpellsHelper b v ⊎ SpellsLocal b v → bstring_bytes s ≡ b)
in_result unique unchanged b url back (Ok s) read kept written = λ v form. same_bytes unique unchanged b (bstring_bytes s) url back v read kept written form
in_result unique unchanged b url back (Err e) read kept written = tt

pub returns : goal.returns
returns c = record {
  unchanged = in_result c.law_separation.ensures.unique c.law_closed.ensures.unchanged _ c.in_ok-url.url c.in_ok-back.back c.to_bstring.result c.in_ok-url.ensures.found (c.in_ok-back.ensures.same _ c.in_ok-url.ensures.found) c.to_bstring.ensures.text;
}
