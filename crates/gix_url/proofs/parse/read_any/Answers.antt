-- A text in which nothing is found spells no location, so it has a refusal.
use Rattle.gix_url.proofs.parse.read_any.Goals as goal

pub error_of-requires : goal.error_of-requires
error_of-requires c = c.refusal.ensures.refused c.in-Err.ensures.refused
