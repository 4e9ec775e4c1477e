-- The colon of the scp form is before any slash.
use Rattle.std.proofs.Common.{refl}
use Rattle.std.proofs.lemmas.Bool.{false≢true}
use Rattle.git_syntax.proofs.Parsing.ClassifierLemmas.{no_scp_cut, no_scp_uncut}
use Rattle.git_syntax.proofs.classify.cut_scp.Goals as goal

pub returns-in-None : goal.returns-in-None
returns-in-None c = no_scp_uncut c.args.bytes.now c.in-None.ensures

pub returns-then-is_free_of : goal.returns-then-is_free_of
returns-then-is_free_of c = record { around = c.in-Some.ensures; no_slash = c.if-is_free_of.ensures.0 refl }

pub returns-else-is_free_of : goal.returns-else-is_free_of
returns-else-is_free_of c =
    no_scp_cut c.args.bytes.now c.in-Some.front.now c.in-Some.path.now c.in-Some.ensures (λ h. false≢true (c.if-is_free_of.ensures.1 h))
