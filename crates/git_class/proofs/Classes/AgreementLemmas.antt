-- A location in whose text Git reads the same place is settled.
use Rattle.git_syntax.specs.Location.{Scheme, Location}
use Rattle.git_syntax.specs.Location.Scheme.{file, git, ssh, http, https, ext, helper, helper_url}
use Rattle.git_location.specs.Settled.{IsSettled}
use Rattle.git_class.specs.GitClass.{AgreesBy, AgreesWithGit}

settled_by : (s : Scheme) (v : Location) → AgreesBy s v → IsSettled v
settled_by file v agrees = agrees.settled
settled_by git v agrees = agrees.settled
settled_by ssh v agrees = agrees.settled
settled_by http v agrees = agrees.settled
settled_by https v agrees = agrees.settled
settled_by ext v agrees = agrees.settled
settled_by (helper name) v agrees = agrees.settled
settled_by (helper_url name) v agrees = agrees.settled

pub agreeing_is_settled : (v : Location) → AgreesWithGit v → IsSettled v
agreeing_is_settled v agrees = settled_by v.scheme v agrees
