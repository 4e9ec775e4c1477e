-- Digits without a zero at the front are those that their number is written with.
use Rattle.std.proofs.Common.{◌≡◌, ◌∙◌, ◌==◌, ℕ, false, List, [], ◌∷◌, Option, Some, None, sym, ap, arith}
use Rattle.std.specs.Prelude.{IfSome, MatchOption, decimal}
use Rattle.std.proofs.lemmas.Bool.{false≢true}
use Rattle.std.proofs.lemmas.Fmt.{decimal-digits_value}
use Rattle.git_syntax.specs.Bytes.{begins_with}
use Rattle.git_syntax.specs.Hosts.{Number}
use Rattle.git_syntax.specs.Hosts.HostSyntax.{http_hosts}
use Rattle.git_syntax.proofs.Parsing.HostLemmas.{digits_model}
use Rattle.git_syntax.proofs.simple.simple_port.Goals as goal

number_as_written : (digits : List ℕ) (port : ℕ) → begins_with 48 digits ≡ false → Number http_hosts digits port → digits ≡ decimal port
number_as_written [] port other number = absurd (omega (arith, number.digits.0))
number_as_written (b ∷ bs) port other number =
    sym (ap decimal number.value ∙ decimal-digits_value digits_model (b ∷ bs) number.digits.1 number.digits.0
    (λ zero. absurd (false≢true (sym other ∙ ap (λ n. n == 48) zero))) (omega (arith, number.value, number.within)))

as_written : (P : Type 0) (found : Option ℕ) (digits : List ℕ) → begins_with 48 digits ≡ false → MatchOption found P (λ port. Number http_hosts digits port)
    → IfSome found (λ port. digits ≡ decimal port)
as_written P None digits other read = tt
as_written P (Some port) digits other read = number_as_written digits port other read

pub returns-clause-digits : goal.returns-clause-digits
returns-clause-digits c = as_written _ c.read_port.result c.args.digits.now (sym c.if-starts_with_byte.ensures) c.read_port.ensures
