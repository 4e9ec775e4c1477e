-- The form in which a location is written, as it is reported.
use Rattle.std.specs.Prelude.{Bool, true, false}
use Rattle.gix_url.specs.Location.{Scheme, Location}
use Rattle.gix_url.specs.Location.Scheme.{file, git, ssh, http, https, ext, helper, helper_url}
use Rattle.explain_report.specs.declared.form.Form.{Form}
use Rattle.explain_report.specs.declared.form.Form.TheVariants as form

-- the alternative form of a file is a local path
abbrev pub file_form : Bool → Form
file_form true = form.Local
file_form false = form.Url

-- the alternative form of Secure Shell is the scp form
abbrev pub ssh_form : Bool → Form
ssh_form true = form.Scp
ssh_form false = form.Url

-- the form of this scheme, in its alternative form or not
abbrev pub form_by : Scheme → Bool → Form
form_by file flag = file_form flag
form_by git flag = form.Url
form_by ssh flag = ssh_form flag
form_by http flag = form.Url
form_by https flag = form.Url
form_by ext flag = form.RemoteHelper
form_by (helper name) flag = form.RemoteHelper
form_by (helper_url name) flag = form.Url

-- the form of a location
abbrev pub form_of : Location → Form
form_of v = form_by v.scheme v.flag
