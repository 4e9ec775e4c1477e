-- The table has the values of the digits.
use Rattle.git_syntax.proofs.Texts.DigitLemmas.{digit_found, no_digit}
use Rattle.git_syntax.proofs.digits.digit.Goals as goal

pub returns-then-value-lt16 : goal.returns-then-value-lt16
returns-then-value-lt16 c = digit_found c.args.byte c.ranges.byte.fits c.if-value-lt16.true

pub returns-else-value-lt16 : goal.returns-else-value-lt16
returns-else-value-lt16 c = no_digit c.args.byte c.ranges.byte.fits c.if-value-lt16.false
