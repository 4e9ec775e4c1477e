-- Text that has a `/` after the mark of a file URL is one.
use Rattle.std.proofs.lemmas.Bool.{false≢true}
use Rattle.git_refusals.proofs.Refusing.SchemeLemmas.{file_read}
use Rattle.git_refusals.proofs.url.bad_file.Goals as goal

pub returns : goal.returns
returns c = record {
  found = file_read c.args.text.now c.args.rest.now c.requires c.in_default.ensures.found (λ free. false≢true (c.if-is_free_of.ensures.1 free));
  within = tt;
}
