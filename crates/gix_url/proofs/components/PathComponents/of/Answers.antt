-- The components that borrow from the buffers are those of the location.
use Rattle.std.proofs.Common.{◌∙◌, inl, inr, ap, sym, ⊎_elim, subst}
use Rattle.git_syntax.specs.Location.{Location}
use Rattle.git_syntax.specs.Views.{borrowed_scheme}
use Rattle.git_location.specs.Settled.{IsWeb}
use Rattle.gix_url.specs.Internal.ComponentPieces.{HasQuery}
use Rattle.gix_url.specs.ComponentViews.{components}
use Rattle.git_laws.proofs.ComponentCuts.ComponentLemmas.{web_parts}
use Rattle.gix_url.proofs.ComponentCuts.BorrowLemmas.{parts_denoted, path_borrowed, query_borrowed, fragment_borrowed, query_there, given, whole_denoted, borrows_whole, path_alone_held}
use Rattle.std.proofs.lemmas.Result.{IfOk-weaker}
use Rattle.gix_url.proofs.components.PathComponents.of.Goals as goal

pub returns-in-File-clause-path : goal.returns-in-File-clause-path
returns-in-File-clause-path c =
    inl (path_alone_held _ c.args.url.now.path (c.new.ensures ∙ ap (λ (v : Location). v.path) c.url.view_is))

-- the location is one of HTTP
is_web : (c : goal.After-web_components) → IsWeb c.args.url.now
is_web c =
    let seen = sym (ap (λ (v : Location). v.scheme) c.url.view_is) in
    ⊎_elim (λ e. inl (seen ∙ ap borrowed_scheme e)) (λ e. inr (seen ∙ ap borrowed_scheme e)) c.in-Http.is

pub returns-in-Http-clause-parts : goal.returns-in-Http-clause-parts
returns-in-Http-clause-parts c =
    let v = c.args.url.now in
    IfOk-weaker c.web_components.result _ _ (λ parts h. (web_parts v (components parts) (is_web c)).1 (parts_denoted v parts (borrows_whole v c.spelled_path.result parts c.spelled_path.ensures h))) c.web_components.ensures.borrowed

pub returns-in-Http-clause-path : goal.returns-in-Http-clause-path
returns-in-Http-clause-path c =
    let v = c.args.url.now in
    let whole = whole_denoted v c.spelled_path.result c.spelled_path.ensures in
    IfOk-weaker c.web_components.result _ _ (λ parts h. path_borrowed v parts (borrows_whole v c.spelled_path.result parts c.spelled_path.ensures h) whole) c.web_components.ensures.borrowed

pub returns-in-Http-clause-query : goal.returns-in-Http-clause-query
returns-in-Http-clause-query c =
    let v = c.args.url.now in
    let whole = whole_denoted v c.spelled_path.result c.spelled_path.ensures in
    IfOk-weaker c.web_components.result _ _ (λ parts h. query_borrowed v parts (borrows_whole v c.spelled_path.result parts c.spelled_path.ensures h) whole) c.web_components.ensures.borrowed

pub returns-in-Http-clause-fragment : goal.returns-in-Http-clause-fragment
returns-in-Http-clause-fragment c =
    let v = c.args.url.now in
    let whole = whole_denoted v c.spelled_path.result c.spelled_path.ensures in
    IfOk-weaker c.web_components.result _ _ (λ parts h. fragment_borrowed v parts (borrows_whole v c.spelled_path.result parts c.spelled_path.ensures h) whole) c.web_components.ensures.borrowed

pub returns-in-Http-clause-no_query : goal.returns-in-Http-clause-no_query
returns-in-Http-clause-no_query c given_parts parts none =
    let v = c.args.url.now in
    given c.web_components.result
    (λ refused. query_there v (subst HasQuery c.spelled_path.ensures.0 (c.web_components.ensures.query refused)) given_parts ((web_parts v given_parts (is_web c)).0 parts) none)
