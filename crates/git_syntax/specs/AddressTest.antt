-- A test for IPv6 texts that can be computed: the definition of `Addresses`, with a search for each
-- existential.
use Rattle.std.specs.Prelude.{ℕ, zero, suc, ◌-◌, Bool, true, false, not, ◌&&◌, ◌||◌, ◌==◌, nat_lt, nat_le, List, [], ◌∷◌, length}
use Rattle.std.specs.List.{list_all}
use Rattle.std.specs.Char.{is_ascii_digit}
use Rattle.std.specs.Str.Parse.{digits_value}
use Rattle.git_syntax.specs.Bytes.{dot, digit_zero, colon, begins_with, is_hexadecimal}

-- whether the byte occurs in the text, and the texts before and after it pass the two tests; each `let` defers
-- an operand that may not be needed
abbrev pub any_cut : ℕ → (List ℕ → Bool) → (List ℕ → Bool) → List ℕ → Bool
any_cut c before suffix [] = false
any_cut c before suffix (b ∷ bs) =
    let rest = suffix bs in
    let here = before [] && rest in
    let later = any_cut c (λ x. before (b ∷ x)) suffix bs in
    (b == c && here) || later

-- whether the text is the byte and a text that passes the test
abbrev pub follows_byte : ℕ → (List ℕ → Bool) → List ℕ → Bool
follows_byte c suffix [] = false
follows_byte c suffix (b ∷ bs) = let rest = suffix bs in b == c && rest

-- whether some number up to the last one passes the test
abbrev pub any_up_to : (ℕ → Bool) → ℕ → Bool
any_up_to test zero = test zero
any_up_to test (suc last) = let lower = any_up_to test last in test (suc last) || lower

-- whether the text is empty
abbrev pub is_empty_text : List ℕ → Bool
is_empty_text [] = true
is_empty_text (b ∷ bs) = false

-- whether the text is a group
abbrev pub is_group : List ℕ → Bool
is_group g = nat_lt 0 (length g) && (nat_le (length g) 4 && list_all is_hexadecimal g)

-- whether the text is a number from 0 to 255 in decimal, without leading zeros
abbrev pub is_octet : List ℕ → Bool
is_octet t =
    nat_lt 0 (length t) &&
    (list_all is_ascii_digit t
    && ((length t == 1 || not (begins_with digit_zero t))
    && nat_le (digits_value 10 t) 255))

-- whether the text is an IPv4 text
abbrev pub is_ipv4_text : List ℕ → Bool
is_ipv4_text t = any_cut dot is_octet (any_cut dot is_octet (any_cut dot is_octet is_octet)) t

-- whether the text is items that count for so many groups, joined by `:`
abbrev pub are_items : Bool → ℕ → List ℕ → Bool
are_items ending zero t = is_empty_text t
are_items ending (suc zero) t = is_group t
are_items ending (suc (suc n)) t = any_cut colon is_group (are_items ending (suc n)) t
    || (n == 0 && (ending && is_ipv4_text t))

-- whether the text is eight groups
abbrev pub is_full_address : List ℕ → Bool
is_full_address t = are_items true 8 t

-- whether the text is two lists of groups around `::`, with at most seven groups
abbrev pub is_short_address : List ℕ → Bool
is_short_address t =
    any_up_to (λ m. any_cut colon (are_items false m)
    (follows_byte colon (λ y. any_up_to (λ n. are_items true n y) (7 - m))) t) 7

-- whether the text is an IPv6 text
unfoldable pub is_ipv6_text : List ℕ → Bool
is_ipv6_text t = is_full_address t || is_short_address t
