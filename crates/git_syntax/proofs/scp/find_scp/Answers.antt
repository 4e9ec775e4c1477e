-- The result for the scp form, and the refusals.
use Rattle.std.proofs.Common.{refl, subst}
use Rattle.std.specs.Option.{option_copied}
use Rattle.git_syntax.specs.Internal.FoundPieces.{scp_host_of}
use Rattle.git_syntax.specs.Grammar.{ScpForm}
use Rattle.git_syntax.specs.Flaws.MissesPath.{in_scp}
use Rattle.git_syntax.proofs.Parsing.HostLemmas.{some_tested}
use Rattle.git_syntax.proofs.Parsing.ClassifierLemmas.{nil_tested}
use Rattle.git_syntax.proofs.Parsing.ScpLemmas.{scp_host_utf8, scp_user_utf8, scp_denoted_utf8, colons_inside_front, colons_inside_host}
use Rattle.git_syntax.proofs.scp.find_scp.Goals as goal

pub returns-then-is_empty-clause-flaw : goal.returns-then-is_empty-clause-flaw
returns-then-is_empty-clause-flaw c =
    in_scp c.args.front.now (subst (λ p. ScpForm c.args.input.now c.args.front.now p) (nil_tested c.args.path.now c.if-is_empty.ensures) c.requires.form)

pub find_host-requires-clause-text : goal.find_host-requires-clause-text
find_host-requires-clause-text c =
    scp_host_utf8 c.args.input.now c.args.front.now c.args.path.now _ c.cut_front_user.result.1.now c.requires.form (c.if-not-is_utf8.ensures.0 refl) c.cut_front_user.ensures.split

pub find_host-requires-clause-colons : goal.find_host-requires-clause-colons
find_host-requires-clause-colons c =
    colons_inside_host c.args.front.now _ c.cut_front_user.result.1.now c.cut_front_user.ensures.split (colons_inside_front c.args.input.now c.args.front.now c.requires.form.form)

pub returns-in-Ok-clause-found : goal.returns-in-Ok-clause-found
returns-in-Ok-clause-found c = record {
  front = c.args.front.now;
  path = c.args.path.now;
  user = option_copied c.cut_front_user.result.0;
  host = c.cut_front_user.result.1.now;
  denoted = scp_host_of c.in-Ok.host;
  form = c.requires.form;
  text = c.if-not-is_utf8.ensures.0 refl;
  pathed = some_tested c.args.path.now c.if-is_empty.ensures;
  split = c.cut_front_user.ensures.split;
  hosted = c.in-Ok.ensures.read;
  value = refl;
}

pub returns-in-Ok-clause-ready : goal.returns-in-Ok-clause-ready
returns-in-Ok-clause-ready c = record {
  user_text =
      scp_user_utf8 c.args.input.now c.args.front.now c.args.path.now (option_copied c.cut_front_user.result.0) c.cut_front_user.result.1.now c.requires.form (c.if-not-is_utf8.ensures.0 refl) c.cut_front_user.ensures.split;
  host_text = scp_denoted_utf8 c.in-Ok.ensures.read;
}

pub returns-in-Err-clause-flaw : goal.returns-in-Err-clause-flaw
returns-in-Err-clause-flaw c = record {
  not_addressed = c.requires.not_addressed;
  front = c.args.front.now;
  path = c.args.path.now;
  user = option_copied c.cut_front_user.result.0;
  host = c.cut_front_user.result.1.now;
  form = c.requires.form;
  split = c.cut_front_user.ensures.split;
  no_at = c.cut_front_user.ensures.no_at;
  flaw = c.in-Err.ensures.read;
}
