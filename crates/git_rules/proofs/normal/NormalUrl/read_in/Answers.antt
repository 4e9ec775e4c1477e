-- The parts of a text are its normal form, or one of them has a flaw.
use Rattle.std.proofs.Common.{◌∙◌, Err, refl, sym, ap, subst, inl, length}
use Rattle.std.specs.Option.{option_copied}
use Rattle.std.proofs.lemmas.Result.{err_from_is_err_and}
use Rattle.git_rules.specs.NormalFlaws.{AuthorityFlaw, NormalizesIn}
use Rattle.git_rules.proofs.NormalForms.NormalUnique.{part_flawed, parts_normalize}
use Rattle.git_rules.proofs.normal.NormalUrl.read_in.Goals as goal

pub returns-in_err-authority : goal.returns-in_err-authority
returns-in_err-authority c =
    let (e, is, same) = err_from_is_err_and c.from_residual.result c.from_residual.ensures.1 in
    let error = c.in_err-authority.field-0.0 in
    let flaw = subst (λ s. AuthorityFlaw c.args.globs s c.in-Some.authority.now error) c.lowered_in-buffer.ensures.text c.in_err-authority.ensures in
    subst (λ r. NormalizesIn c.args.globs c.args.text.now (length c.args.buffer.now) r) (sym (is ∙ ap (λ x. Err x) same))
    (part_flawed c.args.globs c.args.text.now c.in-Some.scheme.now c.in-Some.authority.now c.in-Some.suffix.now (length c.args.buffer.now) error (c.if-not-is_enough.ensures.0 refl) c.in-Some.ensures (inl flaw))

pub returns : goal.returns
returns c =
    let authority = c.in_ok-authority.authority in
    parts_normalize c.args.globs c.args.text.now c.in-Some.scheme.now c.lowered_in-buffer.result.0.now c.in-Some.authority.now c.in-Some.suffix.now (option_copied authority.user) authority.host.now authority.port (length c.args.buffer.now) c.write_parts.result
    (c.if-not-is_enough.ensures.0 refl) c.in-Some.ensures c.lowered_in-buffer.ensures.text c.in_ok-authority.ensures c.write_parts.ensures
