-- A window is counted up to the start of a path: that fixes the
-- outcome, or the text after the window is tested.
use Rattle.std.proofs.Common.{◌∙◌, ◌++◌, sym, arith}
use Rattle.git_syntax.proofs.Parsing.LengthLemmas.{past_window, none_left, starts_in_time, window_after}
use Rattle.git_syntax.proofs.length.advance_front.Goals as goal

pub returns-then-left-eq0 : goal.returns-then-left-eq0
returns-then-left-eq0 c = λ suffix.
    sym (none_left c.args.web c.saturating_sub-left.result (c.cut_before_path.result.1.now ++ (c.split_at.result.1.now ++ suffix)) (omega arith))
    ∙ past_window c.args.web c.loop-rest.left _ _ _ _ c.cut_before_path.result.0.now c.cut_before_path.result.1.now _ c.split_at.ensures.by_index.0 c.cut_before_path.ensures.joined c.cut_before_path.ensures.front c.count_visible.ensures c.saturating_sub-left.ensures suffix
    ∙ c.loop-rest.invariant suffix

pub returns-then-not-is_empty : goal.returns-then-not-is_empty
returns-then-not-is_empty c = λ suffix.
    sym (starts_in_time c.args.web c.saturating_sub-left.result c.cut_before_path.result.1.now (c.split_at.result.1.now ++ suffix) (omega arith) c.cut_before_path.ensures.rest (sym c.is_empty-in-loop-rest.ensures ∙ c.if-not-is_empty.true))
    ∙ past_window c.args.web c.loop-rest.left _ _ _ _ c.cut_before_path.result.0.now c.cut_before_path.result.1.now _ c.split_at.ensures.by_index.0 c.cut_before_path.ensures.joined c.cut_before_path.ensures.front c.count_visible.ensures c.saturating_sub-left.ensures suffix
    ∙ c.loop-rest.invariant suffix

pub loop-rest-preserved : goal.loop-rest-preserved
loop-rest-preserved c = λ suffix.
    window_after c.args.web c.saturating_sub-left.result c.cut_before_path.result.1.now (c.split_at.result.1.now ++ suffix) (sym c.is_empty-in-loop-rest.ensures ∙ c.if-not-is_empty.false)
    ∙ past_window c.args.web c.loop-rest.left _ _ _ _ c.cut_before_path.result.0.now c.cut_before_path.result.1.now _ c.split_at.ensures.by_index.0 c.cut_before_path.ensures.joined c.cut_before_path.ensures.front c.count_visible.ensures c.saturating_sub-left.ensures suffix
    ∙ c.loop-rest.invariant suffix
