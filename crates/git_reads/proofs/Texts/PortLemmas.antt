-- Digits that std reads as a port.
use Rattle.std.proofs.Common.{◌≡◌, ◌∙◌, ℕ, ◌<◌, true, false, ◌&&◌, nat_le, List, [], ◌∷◌, length, Some, None, Result, Ok, Err, refl, sym, ap, arith}
use Rattle.std.specs.List.{list_all}
use Rattle.std.specs.Char.{is_ascii_digit}
use Rattle.std.specs.Result.{result_ok}
use Rattle.std.specs.Str.Parse.{ParsesUnsigned, digits_value}
use Rattle.std.proofs.lemmas.Str.Parse.{parse_digits}
use Rattle.std.proofs.lemmas.Bool.{and_from, and_parts, cond-false, cond-true, false_from_ne_true}
use Rattle.std.proofs.lemmas.Bool.Decides.{nat_tests}
use Rattle.git_reads.specs.Git.{digits_port}
use Rattle.git_syntax.proofs.Parsing.HostLemmas.{digits_model}

-- digits that are a number of 16 bits are that port
port_found : (bs : List ℕ) → list_all is_ascii_digit bs ≡ true → 0 < length bs → digits_value 10 bs < 65536 → digits_port bs ≡ Some (digits_value 10 bs)
port_found [] digits some small = absurd (omega (arith, some))
port_found (b ∷ bs) digits some small = cond-true _ _ _ (and_from _ _ digits (grind (arith, nat_tests)))

-- the result of the test of a number of 16 bits
small_from_test : (n : ℕ) → nat_le n 65535 ≡ true → n < 65536
small_from_test n h = grind (arith, nat_tests)

-- other digits spell no port
port_none : (bs : List ℕ) → list_all is_ascii_digit bs ≡ true → ¬ ((0 < length bs) × (digits_value 10 bs < 65536)) → digits_port bs ≡ None
port_none [] digits none = refl
port_none (b ∷ bs) digits none =
    let test = list_all is_ascii_digit (b ∷ bs) && nat_le (digits_value 10 (b ∷ bs)) 65535 in
    let fails : test ≡ false = false_from_ne_true test (λ h. none (omega arith, small_from_test _ (and_parts (list_all is_ascii_digit (b ∷ bs)) (nat_le (digits_value 10 (b ∷ bs)) 65535) h).1)) in
    cond-false test (Some (digits_value 10 (b ∷ bs))) None fails

-- std reads digits as the port that they write
pub port_parsed : {E : Type 0} (bs : List ℕ) (r : Result ℕ E) → list_all is_ascii_digit bs ≡ true → ParsesUnsigned 16 10 bs r → result_ok r ≡ digits_port bs
port_parsed {E = E} bs (Ok port) digits h =
    let read = parse_digits digits_model {E = E} 16 bs (Ok port) h digits in
    sym (port_found bs digits read.0.0 (omega (arith, read.0.1)) ∙ ap Some (sym read.1))
port_parsed {E = E} bs (Err error) digits h =
    let read = parse_digits digits_model {E = E} 16 bs (Err error) h digits in
    sym (port_none bs digits (λ is. read (is.0, omega (arith, is.1))))
