-- The folder beside another is the name joined to its parent.
use Rattle.std.proofs.Common.{refl, ap, subst, ◌∙◌, ◌++◌}
use Rattle.std.specs.String.{string_bytes}
use Rattle.gix_url.specs.Paths.{Joins}
use Rattle.gix_url.specs.Homes.{HomeFolder}
use Rattle.git_syntax.specs.Bytes.{lossy_text}
use Rattle.gix_url.proofs.Homes.HomeLemmas.{folder_topmost}
use Rattle.gix_url.proofs.expand_path.folder_beside.Goals as goal

pub returns-in_default : goal.returns-in_default
returns-in_default c = folder_topmost c.args.home.now c.args.name.now c.parent.result c.parent.ensures c.in_default.not-Some

pub returns : goal.returns
returns c =
    let text = c.as_str.ensures.value ∙ c.in_ok-to_str_lossy_into.ensures.ok refl ∙ ap (λ t. t ++ lossy_text c.args.name.now) c.new-shown.ensures.bytes in
    let joined = subst (λ t. Joins t c.as_str.result.now (string_bytes c.push_path.new.folder)) c.in_ok-folder.ensures.ok c.in_ok-push_path.ensures in
    HomeFolder.beside c.args.name.now c.args.home.now c.in-Some.parent.now _ refl refl c.in-Some.ensures
    (subst (λ t. Joins c.in-Some.parent.now t (string_bytes c.push_path.new.folder)) text joined) refl
