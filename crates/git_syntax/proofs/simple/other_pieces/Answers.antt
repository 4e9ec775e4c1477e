-- A remote helper, a local path, or the scp form.
use Rattle.std.proofs.Common.{refl, sym, subst}
use Rattle.std.proofs.lemmas.Bool.{false≢true}
use Rattle.git_syntax.specs.Bytes.{colon}
use Rattle.git_syntax.specs.SimpleTexts.{IsSimpleText}
use Rattle.git_syntax.specs.SimpleTexts.IsSimpleText.{local_text}
use Rattle.git_syntax.proofs.ByMasks.CommonLemmas.{common_around, common_utf8}
use Rattle.git_syntax.proofs.ByMasks.SimpleLemmas.{simple_scp, slashed_local}
use Rattle.git_syntax.proofs.Parsing.HostLemmas.{some_tested}
use Rattle.git_syntax.proofs.simple.other_pieces.Goals as goal

pub helper_pieces-requires : goal.helper_pieces-requires
helper_pieces-requires c =
    let front = c.args.front.text.now in
    common_utf8 front (common_around c.args.input.now front c.args.rest.text.now colon c.requires.common c.requires.cut.joined).0

pub returns-then-not-lacks_slashes : goal.returns-then-not-lacks_slashes
returns-then-not-lacks_slashes c =
    let free = c.if-not-lacks_colons.ensures.0 refl in
    let local = slashed_local c.args.input.now c.args.front.text.now c.args.rest.text.now c.requires.common c.requires.cut c.requires.no_mark free (λ none. false≢true (c.if-not-lacks_slashes.ensures.1 none)) in
    subst (λ v. IsSimpleText c.args.input.now v) (sym c.path_pieces.ensures) (local_text local)

pub returns : goal.returns
returns c =
    let rest = c.args.rest.text.now in
    let front = c.args.front.text.now in
    simple_scp c.args.input.now front rest _ _ c.requires.common c.requires.cut c.requires.no_mark (c.if-not-lacks_colons.ensures.0 refl) (some_tested rest c.if-is_empty.ensures) (sym c.if-begins_at_home.ensures)
    (record { simple = c.in_ok-user.ensures.cut.simple; joined = rw c.in_ok-host.ensures.same c.in_ok-user.ensures.cut.joined }) c.in_ok-host.ensures.simple
