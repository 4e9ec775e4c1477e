-- The rest of the bytes after the first is their front.
use Rattle.git_reads.proofs.Reading.CredentialLemmas.{trimmed_fits, trimmed_front}
use Rattle.git_reads.proofs.credential.trimmed_path.Goals as goal

pub split_at-requires : goal.split_at-requires
split_at-requires c = trimmed_fits c.args.path.now c.in_ok-rest.rest.now c.without_last_slashes.result.now c.in_ok-rest.field-0-0.now c.in_ok-rest.ensures.cases.0 c.without_last_slashes.ensures

pub returns : goal.returns
returns c =
    trimmed_front c.args.path.now c.in_ok-rest.rest.now c.without_last_slashes.result.now c.split_at.result.0.now c.in_ok-rest.field-0-0.now c.in_ok-rest.ensures.cases.0 c.without_last_slashes.ensures c.split_at.ensures.front
