-- `%` and two digits, or the first byte stays.
use Rattle.git_syntax.proofs.Texts.DecodingLemmas.{escape_decoded, kept_before_none, kept_before_one, other_kept, short_kept}
use Rattle.git_syntax.proofs.escape.split_escape.Goals as goal

pub returns-in_default : goal.returns-in_default
returns-in_default c = short_kept c.args.text.now c.in_default.len_below

pub returns-then-sign-ne37 : goal.returns-then-sign-ne37
returns-then-sign-ne37 c = other_kept c.args.text.now c.if-sign-ne37.true

pub returns-in_default-digit : goal.returns-in_default-digit
returns-in_default-digit c = kept_before_none c.args.text.now c.in-len3-up.len_at_least c.in_default-digit.ensures

pub returns-in_default-digit-2 : goal.returns-in_default-digit-2
returns-in_default-digit-2 c = kept_before_one c.args.text.now c.in-len3-up.len_at_least c.in-Some.ensures.0 c.in_default-digit-2.ensures

pub returns : goal.returns
returns c =
    escape_decoded c.args.text.now c.in-Some.high c.in-Some-digit.low c.in-len3-up.len_at_least c.if-sign-ne37.false c.in-Some.ensures.0 c.in-Some.ensures.1 c.in-Some-digit.ensures.0 c.in-Some-digit.ensures.1
