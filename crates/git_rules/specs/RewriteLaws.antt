-- Laws on rewriting.
use Rattle.std.specs.Prelude.{◌≡◌, ℕ, Bool, List}
use Rattle.git_rules.specs.Rewrites.{IsRewritten, IsRewrittenToPush, Outcome, Rule, Rules}

-- rules have one outcome for a text
abbrev pub OneOutcome : Type 0
OneOutcome = (rules : List Rule) (text : List ℕ) (o p : Outcome)
    → IsRewritten rules text o → IsRewritten rules text p → o ≡ p

-- rules have one outcome for a text to push to
abbrev pub OneOutcomeToPush : Type 0
OneOutcomeToPush = (rules : Rules) (has_push_url : Bool) (text : List ℕ) (o p : Outcome)
    → IsRewrittenToPush rules has_push_url text o → IsRewrittenToPush rules has_push_url text p → o ≡ p
