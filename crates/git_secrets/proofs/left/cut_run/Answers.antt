-- Up to the first byte of the class, or that byte alone.
use Rattle.std.proofs.Common.{length}
use Rattle.git_secrets.proofs.Cuts.CutLemmas.{byte_run, cut_named, first_run, whole_run}
use Rattle.git_secrets.proofs.left.cut_run.Goals as goal

pub returns-in-None-clause-cut : goal.returns-in-None-clause-cut
returns-in-None-clause-cut c =
    cut_named c.args.class c.args.text.now _ _ (length c.args.text.now) c.split_at.ensures.front c.split_at.ensures.back (whole_run c.args.class c.args.text.now c.requires c.in-None.ensures.place)

pub returns-in-Some-eq0-clause-cut : goal.returns-in-Some-eq0-clause-cut
returns-in-Some-eq0-clause-cut c =
    cut_named c.args.class c.args.text.now _ _ 1 c.split_at-in-Some-eq0.ensures.front c.split_at-in-Some-eq0.ensures.back (byte_run c.args.class c.args.text.now c.in-Some-eq0.field-0 c.in-Some-eq0.field-0-test c.in-Some-eq0.ensures.place)

pub returns-in-Some-clause-cut : goal.returns-in-Some-clause-cut
returns-in-Some-clause-cut c =
    cut_named c.args.class c.args.text.now _ _ c.in-Some.at c.split_at-in-Some.ensures.front c.split_at-in-Some.ensures.back (first_run c.args.class c.args.text.now c.in-Some.at c.in-Some.at-test.1 c.in-Some.ensures.place)
