-- Git agrees with no segment of dots.
use Rattle.std.proofs.Common.{◌∙◌, refl, sym}
use Rattle.git_readers.proofs.WebLemmas.{web_lacks_dots}
use Rattle.git_readers.proofs.path.lacks_dots.Goals as goal

pub returns-in-Web : goal.returns-in-Web
returns-in-Web c = (λ yes. web_lacks_dots c.args.url.now (sym c.form_of.ensures ∙ c.in-Web.is) c.requires, λ none. refl)
