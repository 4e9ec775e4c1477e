-- ASCII is UTF-8.
use Rattle.std.proofs.lemmas.Str.{IsUtf8-from_ascii}
use Rattle.gix_url.proofs.expand_path.text.path_text.Goals as goal

pub as_text-requires : goal.as_text-requires
as_text-requires c = IsUtf8-from_ascii c.args.path.now (c.is_short_ascii.ensures c.if-is_short_ascii.true)
