-- The result for `user@[address]:path`, and the refusals.
use Rattle.std.proofs.Common.{refl, sym, ap, subst, Some, IsUtf8}
use Rattle.git_syntax.specs.Addresses.{Literal}
use Rattle.git_syntax.specs.Bytes.{lowercase}
use Rattle.git_syntax.specs.Grammar.{AddressedForm, scp_location}
use Rattle.git_syntax.specs.Flaws.MissesPath.{after_address}
use Rattle.git_syntax.proofs.Addresses.AddressLemmas.{address_utf8, address-lowercase}
use Rattle.git_syntax.proofs.Parsing.HostLemmas.{literal_normal, some_tested}
use Rattle.git_syntax.proofs.Parsing.ClassifierLemmas.{nil_tested}
use Rattle.git_syntax.proofs.Parsing.BufferLemmas.{address_within}
use Rattle.git_syntax.proofs.Parsing.ScpLemmas.{addressed_user_utf8}
use Rattle.git_syntax.proofs.scp.find_addressed.Goals as goal

pub returns-then-is_empty-clause-flaw : goal.returns-then-is_empty-clause-flaw
returns-then-is_empty-clause-flaw c =
    after_address c.args.user.now c.args.address.now (subst (λ p. AddressedForm c.args.input.now c.args.user.now c.args.address.now p) (nil_tested c.args.path.now c.if-is_empty.ensures) c.requires)

pub returns-clause-found : goal.returns-clause-found
returns-clause-found c = record {
  user = c.args.user.now;
  address = c.args.address.now;
  path = c.args.path.now;
  form = c.requires;
  text = c.if-not-is_text.ensures.0 refl;
  pathed = some_tested c.args.path.now c.if-is_empty.ensures;
  value = ap (λ h. scp_location (Some c.args.user.now) h c.args.path.now) (sym (literal_normal c.args.address.now (lowercase c.args.address.now) (Literal.address c.requires.cut.addressed refl)));
}

pub returns-clause-ready : goal.returns-clause-ready
returns-clause-ready c = record {
  user_text = addressed_user_utf8 c.args.input.now c.args.user.now c.args.address.now c.args.path.now c.requires (c.if-not-is_text.ensures.0 refl);
  host_text =
      subst IsUtf8 (literal_normal c.args.address.now (lowercase c.args.address.now) (Literal.address c.requires.cut.addressed refl)) (address_utf8 (lowercase c.args.address.now) (address-lowercase c.args.address.now c.requires.cut.addressed));
}

pub returns-clause-buffer : goal.returns-clause-buffer
returns-clause-buffer c = address_within c.requires.cut
