-- The reading of a text, with bytes before it.
use Rattle.std.proofs.Common.{◌≡◌, ℕ, List, [], ◌++◌, Ok, Err, refl, sym, ap, append_assoc}
use Rattle.git_modules.specs.ConfigFileFlaws.{Read, prefixed}
