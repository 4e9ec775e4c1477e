-- IPv6 texts: their bytes, their colons, and their form in lower case.
use Rattle.std.proofs.Common.{◌≡◌, ℕ, ◌<◌, ◌≤◌, ◌==◌, ◌||◌, Bool, true, false, List, [], ◌∷◌, ◌++◌, map, refl, ap, ◌∙◌, inl, inr, arith}
use Rattle.std.proofs.lemmas.Bool.{and_parts, and_from}
use Rattle.std.proofs.lemmas.Bool.Decides.{nat_tests}
use Rattle.std.proofs.lemmas.Fmt.{decimal_is_IsNumeral}
use Rattle.std.proofs.lemmas.List.{map-append, length-map}
use Rattle.std.proofs.lemmas.List.Folds.{list_all-append}
use Rattle.std.specs.List.{list_all, join_with_byte}
use Rattle.std.specs.Char.{digit_value, is_ascii_hexdigit, to_ascii_lowercase}
use Rattle.std.specs.Str.{IsUtf8}
use Rattle.std.specs.Str.Parse.{AllDigits}
use Rattle.git_syntax.specs.Bytes.{colon, dot, FreeOf, lowercase, is_hexadecimal}
use Rattle.git_syntax.specs.Addresses.{IsGroup, IsOctet, IsIpv4Text, AreItems, IsIpv6Text}
use Rattle.git_syntax.proofs.Texts.CutLemmas.{free_of_all, all_weaker}
use Rattle.git_syntax.proofs.Texts.EscapeLemmas.{utf8_class}
use Rattle.std.proofs.lemmas.Str.Ascii.{lowercase-lowercase}

-- a byte of an address: a hexadecimal digit, `:` or `.`
abbrev pub is_address_byte : ℕ → Bool
is_address_byte b = is_ascii_hexdigit b || (b == colon || b == dot)

-- such a byte is ASCII
pub address_byte_ascii : (b : ℕ) → is_address_byte b ≡ true → b < 128
address_byte_ascii b h = grind (arith, nat_tests)

-- two texts of such bytes are one, joined
bytes_joined : (s t : List ℕ) → list_all is_address_byte s ≡ true → list_all is_address_byte t ≡ true → list_all is_address_byte (s ++ t) ≡ true
bytes_joined s t h k = list_all-append is_address_byte s t ∙ and_from _ _ h k

-- hexadecimal digits are such bytes
hexdigits_bytes : (g : List ℕ) → list_all is_hexadecimal g ≡ true → list_all is_address_byte g ≡ true
hexdigits_bytes g h = grind (arith, nat_tests, all_weaker)

-- digits of a radix pass a test that each of them passes
pub digits_pass : (radix : ℕ) (test : ℕ → Bool) → ((b : ℕ) → digit_value b < radix → test b ≡ true) → (ds : List ℕ) → AllDigits radix ds → list_all test ds ≡ true
digits_pass radix test each [] h = refl
digits_pass radix test each (b ∷ ds) h = and_from _ _ (each b h.0) (digits_pass radix test each ds h.1)

-- and bytes that pass a test that only they pass are digits
pub passing_digits : (radix : ℕ) (test : ℕ → Bool) → ((b : ℕ) → test b ≡ true → digit_value b < radix) → (ds : List ℕ) → list_all test ds ≡ true → AllDigits radix ds
passing_digits radix test each [] h = tt
passing_digits radix test each (b ∷ ds) h =
    let parts = and_parts (test b) (list_all test ds) h in
    (each b parts.0, passing_digits radix test each ds parts.1)

-- a decimal digit is a hexadecimal one, and has no letter case
digit_class : (b : ℕ) → digit_value b < 10 → is_hexadecimal b ≡ true
digit_class b h = grind (arith, nat_tests)

digit_lowercase : (b : ℕ) → digit_value b < 10 → to_ascii_lowercase b ≡ b
digit_lowercase b h = grind (arith, nat_tests)

digits_lowercase : (ds : List ℕ) → AllDigits 10 ds → lowercase ds ≡ ds
digits_lowercase [] h = refl
digits_lowercase (b ∷ ds) h =
    let first = digit_lowercase b h.0 in
    let rest = digits_lowercase ds h.1 in
    cc

-- an octet is made of decimal digits
octet_digits : (t : List ℕ) → IsOctet t → AllDigits 10 t
octet_digits t (n, small, is) = rw is ((decimal_is_IsNumeral n (omega arith)).0.1)

octet_bytes : (t : List ℕ) → IsOctet t → list_all is_address_byte t ≡ true
octet_bytes t h = hexdigits_bytes t (digits_pass 10 is_hexadecimal digit_class t (octet_digits t h))

-- the bytes of an IPv4 text
ipv4_bytes : (t : List ℕ) → IsIpv4Text t → list_all is_address_byte t ≡ true
ipv4_bytes t h = grind (arith, nat_tests, bytes_joined, octet_bytes)

-- an IPv4 text has no letter case
ipv4_lowercase : (t : List ℕ) → IsIpv4Text t → lowercase t ≡ t
ipv4_lowercase t h = grind (arith, nat_tests, digits_lowercase, octet_digits, map-append)

-- the bytes of items joined by `:`
items_bytes : (ending : Bool) (items : List (List ℕ)) (n : ℕ) → AreItems ending items n → list_all is_address_byte (join_with_byte colon items) ≡ true
items_bytes ending [] n h = refl
items_bytes ending (t ∷ []) n (inl (group, one)) = hexdigits_bytes t group.2
items_bytes ending (t ∷ []) n (inr (ends, dotted, two)) = ipv4_bytes t dotted
items_bytes ending (t ∷ u ∷ us) n (group, m, rest, more) =
    bytes_joined t _ (hexdigits_bytes t group.2) (items_bytes ending (u ∷ us) m rest)

-- each byte of an IPv6 text is a hexadecimal digit, `:` or `.`
pub address_bytes : (t : List ℕ) → IsIpv6Text t → list_all is_address_byte t ≡ true
address_bytes t h = grind (arith, nat_tests, bytes_joined, items_bytes)

-- an IPv6 text holds no other byte
pub address_free : (c : ℕ) (t : List ℕ) → is_address_byte c ≡ false → IsIpv6Text t → FreeOf c t
address_free c t other h = free_of_all is_address_byte c t (address_bytes t h) other

-- an IPv6 text is UTF-8
pub address_utf8 : (t : List ℕ) → IsIpv6Text t → IsUtf8 t
address_utf8 t h = utf8_class is_address_byte address_byte_ascii t (address_bytes t h)

-- a text that holds two colons
abbrev pub TwoColons : List ℕ → Type 0
TwoColons t = (x : List ℕ) × (y : List ℕ) × (z : List ℕ) × (t ≡ x ++ colon ∷ (y ++ colon ∷ z))

-- items that count for four are at least three
full_two_colons : (items : List (List ℕ)) (n : ℕ) → 4 ≤ n → AreItems true items n → TwoColons (join_with_byte colon items)
full_two_colons [] n enough none = absurd (omega arith)
full_two_colons (t ∷ []) n enough (inl (group, one)) = absurd (omega arith)
full_two_colons (t ∷ []) n enough (inr (ends, dotted, two)) = absurd (omega arith)
full_two_colons (t ∷ u ∷ []) n enough (group, m, inl (last, one), more) = absurd (omega arith)
full_two_colons (t ∷ u ∷ []) n enough (group, m, inr (last, dotted, two), more) = absurd (omega arith)
full_two_colons (t ∷ u ∷ v ∷ us) n enough h = (t, u, join_with_byte colon (v ∷ us), refl)

-- an IPv6 text holds two colons
pub address_two_colons : (t : List ℕ) → IsIpv6Text t → TwoColons t
address_two_colons t (inl full) = rw full.joined (full_two_colons full.items 8 (omega arith) full.eight)
address_two_colons t (inr short) = (join_with_byte colon short.front, [], join_with_byte colon short.back, short.joined)

-- lower case has a lower case of its own, which is itself
pub lowercase_twice : (bs : List ℕ) → lowercase (lowercase bs) ≡ lowercase bs
lowercase_twice [] = refl
lowercase_twice (b ∷ bs) =
    let first = lowercase-lowercase b in
    let rest = lowercase_twice bs in
    cc

-- a class of bytes that stay in it in lower case holds of a text in lower case
pub all_lowercase : (class : ℕ → Bool) → ((b : ℕ) → class b ≡ true → class (to_ascii_lowercase b) ≡ true) → (bs : List ℕ) → list_all class bs ≡ true → list_all class (lowercase bs) ≡ true
all_lowercase class stays [] h = refl
all_lowercase class stays (b ∷ bs) h =
    let parts = and_parts (class b) (list_all class bs) h in
    and_from _ _ (stays b parts.0) (all_lowercase class stays bs parts.1)

-- a group stays one
group_lowercase : (g : List ℕ) → IsGroup g → IsGroup (lowercase g)
group_lowercase g h = grind (arith, nat_tests, all_lowercase, length-map)

-- and items with the number of groups that they count for
items_lowercase : (ending : Bool) (items : List (List ℕ)) (n : ℕ) → AreItems ending items n → AreItems ending (map lowercase items) n
items_lowercase ending [] n h = h
items_lowercase ending (t ∷ []) n (inl (group, one)) = inl (group_lowercase t group, one)
items_lowercase ending (t ∷ []) n (inr (ends, dotted, two)) = inr (ends, rw (ipv4_lowercase t dotted) dotted, two)
items_lowercase ending (t ∷ u ∷ us) n (group, m, rest, more) = (group_lowercase t group, m, items_lowercase ending (u ∷ us) m rest, more)

-- joined items in lower case are joined
joined_lowercase : (items : List (List ℕ)) → lowercase (join_with_byte colon items) ≡ join_with_byte colon (map lowercase items)
joined_lowercase [] = refl
joined_lowercase (t ∷ []) = refl
joined_lowercase (t ∷ u ∷ us) =
    map-append to_ascii_lowercase t (colon ∷ join_with_byte colon (u ∷ us)) ∙ ap (λ x. lowercase t ++ colon ∷ x) (joined_lowercase (u ∷ us))

-- an IPv6 text in lower case is one
pub address-lowercase : (t : List ℕ) → IsIpv6Text t → IsIpv6Text (lowercase t)
address-lowercase t h = grind (arith, nat_tests, items_lowercase, joined_lowercase, map-append)
