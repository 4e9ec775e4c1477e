-- The spelling that matches is written, and else the path.
use Rattle.std.proofs.Common.{◌∙◌, ap, sym}
use Rattle.git_syntax.specs.Location.{Location}
use Rattle.git_location.proofs.SettledClass.SettledLemmas.{first_fails, second_decides}
use Rattle.git_class.proofs.Classes.WebClassLemmas.{simple_path_text, simple_uri_path, spelled_decodes, spelled_path, unspelled_path}
use Rattle.git_class.proofs.web.has_uri_path.Goals as goal

pub returns-then-is_simple_path : goal.returns-then-is_simple_path
returns-then-is_simple_path c =
    let class = unspelled_path c.args.url.now c.url.inside.path.now c.requires (ap (λ (v : Location). v.path) c.url.view_is) c.in-None.ensures in
    let simple = sym c.is_simple_path.ensures ∙ c.if-is_simple_path.true in
    (λ yes. class.0 (simple_path_text c.url.inside.path.now simple, simple_uri_path c.url.inside.path.now simple), λ path. c.if-is_simple_path.true)

pub returns-then-is_text : goal.returns-then-is_text
returns-then-is_text c =
    second_decides c.is_uri_path.result (c.is_text.ensures.0 c.if-is_text.true) c.is_uri_path.ensures (unspelled_path c.args.url.now c.url.inside.path.now c.requires (ap (λ (v : Location). v.path) c.url.view_is) c.in-None.ensures)

pub returns-else-is_text : goal.returns-else-is_text
returns-else-is_text c =
    first_fails c.is_text.result c.if-is_text.false c.is_text.ensures (unspelled_path c.args.url.now c.url.inside.path.now c.requires (ap (λ (v : Location). v.path) c.url.view_is) c.in-None.ensures)

pub returns-then-is_text-2 : goal.returns-then-is_text-2
returns-then-is_text-2 c =
    second_decides c.is_uri_spelling.result (c.is_text-in-Some.ensures.0 c.if-is_text-2.true) c.is_uri_spelling.ensures (spelled_path c.args.url.now c.url.inside.path.now c.in-Some.spelling.now c.requires (ap (λ (v : Location). v.path) c.url.view_is) c.in-Some.ensures)

pub returns-else-is_text-2 : goal.returns-else-is_text-2
returns-else-is_text-2 c =
    first_fails c.is_text-in-Some.result c.if-is_text-2.false c.is_text-in-Some.ensures (spelled_path c.args.url.now c.url.inside.path.now c.in-Some.spelling.now c.requires (ap (λ (v : Location). v.path) c.url.view_is) c.in-Some.ensures)

pub is_uri_spelling-requires : goal.is_uri_spelling-requires
is_uri_spelling-requires c =
    spelled_decodes c.args.url.now c.url.inside.path.now c.in-Some.spelling.now (ap (λ (v : Location). v.path) c.url.view_is) c.in-Some.ensures
