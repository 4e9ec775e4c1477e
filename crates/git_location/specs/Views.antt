-- The judgement that an `ArgumentSafety` represents.
use Rattle.git_location.specs.declared.argument.ArgumentSafety.{ArgumentSafety}
use Rattle.git_location.specs.declared.argument.ArgumentSafety.TheVariants.{Absent, Usable, Dangerous}
use Rattle.git_location.specs.Arguments.{Judgement}
use Rattle.git_location.specs.Arguments.Judgement.{absent, usable, dangerous}
pub use Rattle.git_syntax.specs.Views.{borrowed_scheme}

-- the judgement that an `ArgumentSafety` represents
abbrev pub judgement : ArgumentSafety → Judgement
judgement Absent = absent
judgement (Usable text) = usable text.now
judgement (Dangerous text) = dangerous text.now
