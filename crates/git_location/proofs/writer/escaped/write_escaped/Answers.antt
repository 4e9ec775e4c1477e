-- Escapes are ASCII. A block more was put.
use Rattle.std.proofs.Common.{◌∙◌, ◌++◌, eqb-true, length, subst, sym}
use Rattle.std.specs.Str.{IsUtf8}
use Rattle.git_syntax.proofs.Texts.EscapeLemmas.{utf8_encode}
use Rattle.git_location.proofs.Writing.EscapedLemmas.{all_put, block_put}
use Rattle.git_location.proofs.Writing.PieceLemmas.{written_on}
use Rattle.git_location.proofs.writer.escaped.write_escaped.Goals as goal

pub as_text-requires : goal.as_text-requires
as_text-requires g c = subst IsUtf8 (sym c.escape_block-size.ensures.bytes) (utf8_encode c.args.set c.split_at.result.0.now)

pub loop-rest-preserved : goal.loop-rest-preserved
loop-rest-preserved g c =
    let so_far = c.loop-rest.invariant in
    let written = block_put c.args.set c.loop-rest.rest.now c.split_at.result.0.now c.split_at.result.1.now _ c.as_text.result.now _ c.split_at.ensures.front c.split_at.ensures.back c.escape_block-size.ensures.bytes c.as_text.ensures in (
      so_far.0 ++ c.as_text.result.now,
      written_on _ _ _ _ _ so_far.1 written,
      g.met.S.Sink.takes_joined _ _ _ _ _ so_far.2 c.in_ok-put.ensures,
    )

pub returns : goal.returns
returns g c =
    let so_far = c.loop-rest.invariant in
    subst (λ t. g.S.Sink.takes c.args.place.now t c.loop-rest.place) (all_put c.args.set c.args.text.now c.loop-rest.rest.now so_far.0 (eqb-true (length c.loop-rest.rest.now) 0 (sym c.is_empty.ensures ∙ c.loop-rest-test.false)) so_far.1) so_far.2
