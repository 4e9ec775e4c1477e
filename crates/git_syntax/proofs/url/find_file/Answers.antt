-- The host of a file URL ends at the first slash.
use Rattle.std.proofs.Common.{refl}
use Rattle.git_syntax.proofs.Parsing.ClassifierLemmas.{file_misses_path, file_host_utf8}
use Rattle.git_syntax.proofs.url.find_file.Goals as goal

pub returns-in-None-clause-flaw : goal.returns-in-None-clause-flaw
returns-in-None-clause-flaw c = file_misses_path c.args.input.now c.args.rest.now c.requires c.in-None.ensures

pub returns-in-Some-clause-ready : goal.returns-in-Some-clause-ready
returns-in-Some-clause-ready c =
    file_host_utf8 c.args.input.now c.args.rest.now c.in-Some.host.now c.in-Some.path.now c.requires (c.if-not-is_text.ensures.0 refl) c.in-Some.ensures.1 c.in-Some.ensures.2
