-- Without a home folder none is known.
use Rattle.gix_url.specs.HomeReadings.{user_of}
use Rattle.gix_url.proofs.Homes.HomeLemmas.{folder_unknown}
use Rattle.gix_url.proofs.expand_path.home_folder.Goals as goal

pub returns-in_default : goal.returns-in_default
returns-in_default c = folder_unknown c.args.home (user_of c.args.user.now) c.in_default.not-Some
