-- The words of forms and faults in error messages.
use Rattle.std.specs.Prelude.{ℕ, List, codes}
use Rattle.git_syntax.specs.declared.refusal.UrlKind.{UrlKind}
use Rattle.git_syntax.specs.declared.refusal.UrlKind.TheVariants.{Url, Scp, Local}
use Rattle.git_syntax.specs.declared.refusal.UrlFault.{UrlFault}
use Rattle.git_syntax.specs.declared.refusal.UrlFault.TheVariants as url

-- the words of the form that a text was read as
abbrev pub kind_words : UrlKind → List ℕ
kind_words Url = codes "URL"
kind_words Scp = codes "scp form"
kind_words Local = codes "local path"

-- the words of the fault of a URL or of the host of the scp form, which follow "the URL has" or "the scp form
-- has"
abbrev pub url_fault_words : UrlFault → List ℕ
url_fault_words url.NoScheme = codes "no valid scheme"
url_fault_words url.BadPort = codes "an invalid port"
url_fault_words url.BadCharacter = codes "a character or an escape that is not allowed"
url_fault_words url.HostRequired = codes "no host where one is required"
