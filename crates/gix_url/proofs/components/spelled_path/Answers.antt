-- The spelling that was found is the one that matches, and else the path denotes itself.
use Rattle.std.proofs.Common.{◌∙◌, ap, sym}
use Rattle.git_syntax.specs.Location.{Location}
use Rattle.gix_url.proofs.ComponentCuts.BorrowLemmas.{found_spelling, no_spelling}
use Rattle.gix_url.proofs.components.spelled_path.Goals as goal

pub spelling-requires : goal.spelling-requires
spelling-requires c =
    let found = found_spelling c.in-Some.spelling.now c.args.url.now.spelling c.args.url.now.path c.in-Some.ensures in
    found.1 ∙ sym (ap (λ (v : Location). v.path) c.url.view_is)

pub returns-in-Some : goal.returns-in-Some
returns-in-Some c =
    let found = found_spelling c.in-Some.spelling.now c.args.url.now.spelling c.args.url.now.path c.in-Some.ensures in (
      c.spelling.ensures.text ∙ c.in-Some.ensures c.args.url.now.path,
      c.spelling.ensures.denoted ∙ ap (λ (v : Location). v.path) c.url.view_is,
      c.spelling.ensures.escaped ∙ sym found.0,
    )

pub returns-in-None : goal.returns-in-None
returns-in-None c =
    let path = ap (λ (v : Location). v.path) c.url.view_is in (
      c.raw.ensures.text ∙ path ∙ c.in-None.ensures c.args.url.now.path,
      c.raw.ensures.denoted ∙ path,
      c.raw.ensures.escaped ∙ sym (no_spelling c.args.url.now.spelling c.args.url.now.path c.in-None.ensures),
    )
