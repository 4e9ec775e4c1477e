-- The hosts that Git and other programs read in the text are determined once.
use Rattle.std.proofs.Common.{◌≡◌, subst}
use Rattle.std.specs.List.{filter}
use Rattle.git_audit.specs.Dangers.{every_danger, has_danger}
use Rattle.git_audit.proofs.Dangers.HostLemmas.{if_ok}
use Rattle.git_audit.proofs.danger.dangers.Goals as goal

pub returns : goal.returns
returns c =
    if_ok c.found_of.result
    (λ found is. (
      c.in_ok-has_other_host.has_other_host,
      c.in_ok-has_other_host.ensures,
      subst (λ misread. found.items ≡ filter (has_danger c.in_ok-has_other_host.has_other_host misread c.args.url.now) every_danger) c.is_misread.ensures is,
    ))
    c.found_of.ensures
