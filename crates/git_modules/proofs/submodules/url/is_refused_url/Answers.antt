-- A URL is refused for one of four reasons.
use Rattle.git_modules.proofs.Urls.StepLemmas.{refused_last}
use Rattle.git_modules.proofs.submodules.url.is_refused_url.Goals as goal

pub returns : goal.returns
returns c =
    refused_last c.args.url.now c.starts_with_byte.result c.is_of_lines.result c.replaces_host.result c.lacks_host.result c.starts_with_byte.ensures c.is_of_lines.ensures c.replaces_host.ensures c.lacks_host.ensures c.if-starts_with_byte.false c.if-is_of_lines.false c.if-replaces_host.false
