-- A URL with a simple host, or a file URL without a host.
use Rattle.std.proofs.Common.{◌≡◌, ◌++◌, true, arith, codes, sym, subst}
use Rattle.std.proofs.lemmas.Grind.{common_steps}
use Rattle.git_syntax.specs.SimpleTexts.{IsSimpleText}
use Rattle.git_syntax.specs.Views.{borrowed_scheme}
use Rattle.git_syntax.specs.Internal.Masks.{is_common}
use Rattle.git_syntax.proofs.ByMasks.CommonLemmas.{common_parts, common_utf8, rooted}
use Rattle.git_syntax.proofs.ByMasks.SimpleLemmas.{simple_file, simple_url}
use Rattle.git_syntax.proofs.Parsing.ClassifierLemmas.{nil_tested}
use Rattle.git_syntax.proofs.Parsing.HostLemmas.{some_tested}
use Rattle.git_syntax.proofs.simple.url_pieces.Goals as goal

pub remote_scheme-requires : goal.remote_scheme-requires
remote_scheme-requires c =
    let scheme = c.args.scheme.now in
    common_utf8 scheme (common_parts scheme (codes "://" ++ c.args.rest.text.now) (subst (λ b. is_common b ≡ true) c.requires.form.joined c.requires.common)).0

pub returns-in-Some : goal.returns-in-Some
returns-in-Some c =
    let authority = c.cut_at_slash.result.0.text.now in
    let path = c.cut_at_slash.result.1.text.now in
    let some = some_tested path c.if-is_empty.ensures in
    simple_url c.args.input.now c.args.scheme.now c.args.rest.text.now authority path c.in_ok-user.piece.text.now (borrowed_scheme c.in-Some.scheme) _ _ _ c.requires.form c.requires.common c.requires.short
    c.cut_at_slash.ensures.joined some (rooted path some c.cut_at_slash.ensures.rest) (sym c.if-begins_at_home.ensures) c.in-Some.ensures.remote c.in-Some.ensures.text c.in_ok-user.ensures.cut c.in_ok-host.ensures

pub returns-in-file : goal.returns-in-file
returns-in-file c =
    let authority = c.cut_at_slash.result.0.text.now in
    let path = c.cut_at_slash.result.1.text.now in
    let named : c.args.scheme.now ≡ codes "file" = grind (arith, common_steps) in
    let found = simple_file c.args.input.now c.args.scheme.now c.args.rest.text.now authority path c.requires.form c.requires.common named c.cut_at_slash.ensures.joined (nil_tested authority c.if-not-is_empty.ensures)
    (rooted path (some_tested path c.if-is_empty.ensures) c.cut_at_slash.ensures.rest) in
    subst (λ v. IsSimpleText c.args.input.now v) (sym c.path_pieces.ensures) found
