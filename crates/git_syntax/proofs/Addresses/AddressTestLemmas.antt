-- The test for IPv6 texts decides the definition, and answers rows of it by computing.
use Rattle.std.proofs.Common.{◌≡◌, ℕ, zero, suc, ◌-◌, ◌^◌, ◌<◌, ◌≤◌, Bool, true, false, ◌&&◌, ◌||◌, List, [], ◌∷◌, ◌++◌, length, get_or, refl, sym, ap, subst, ◌∙◌, arith, add-one}
use Rattle.std.specs.Prelude.{not, ◌==◌, ◌↔◌, IsTrue, decimal}
use mathlib.Core.Logic.{inl, inr, ⊎_elim}
use Rattle.std.specs.Char.{digit_value, is_ascii_digit}
use Rattle.std.specs.List.{join_with_byte}
use Rattle.std.specs.Str.Parse.{AllDigits, digits_value}
use Rattle.std.proofs.lemmas.Bool.{and_parts, and_from, or_cases, or_left, or_right, eqb-true, eq-eqb, ltb-true, lt-ltb, leb-true, le-leb, cases_eq, false_from_ne_true}
use Rattle.std.proofs.lemmas.Bool.Decides.{nat_tests, same_from_decides}
use Rattle.std.proofs.lemmas.Str.Parse.{IsNumeralModel, numerals_by_value, tells_digits}
use Rattle.std.proofs.lemmas.Fmt.{decimal-digits_value, digits_decimal, digits_value-decimal, decimal_nonempty, first_decimal, decimal_digit}
use Rattle.git_syntax.specs.Bytes.{dot, colon, begins_with}
use Rattle.git_syntax.specs.Addresses.{IsGroup, IsOctet, IsIpv4Text, AreItems, IsFullAddress, IsShortAddress, IsIpv6Text}
use Rattle.git_syntax.specs.AddressTest.{any_cut, follows_byte, any_up_to, is_group, is_octet, is_ipv4_text, are_items, is_full_address, is_short_address, is_ipv6_text}
use Rattle.git_syntax.proofs.Addresses.AddressLemmas.{digits_pass, passing_digits}

-- ---- the searches

-- the text is two texts around the byte that pass the tests
record Cut (c : ℕ) (before suffix : List ℕ → Bool) (t : List ℕ) : Type 0 where
  front : List ℕ
  back : List ℕ
  front_passes : before front ≡ true
  back_passes : suffix back ≡ true
  joined : t ≡ front ++ c ∷ back

-- a cut in front of all bytes
cut_here : (c : ℕ) (before suffix : List ℕ → Bool) (b : ℕ) (bs : List ℕ) → (b == c && (before [] && suffix bs)) ≡ true → Cut c before suffix (b ∷ bs)
cut_here c before suffix b bs e = grind arith

-- a cut further on
cut_later : (c : ℕ) (before suffix : List ℕ → Bool) (b : ℕ) (bs : List ℕ) → Cut c (λ x. before (b ∷ x)) suffix bs → Cut c before suffix (b ∷ bs)
cut_later c before suffix b bs r = grind arith

-- each result of the search is a cut
any_cut_from : (c : ℕ) (before suffix : List ℕ → Bool) (t : List ℕ) → any_cut c before suffix t ≡ true → Cut c before suffix t
any_cut_from c before suffix [] e = cc
any_cut_from c before suffix (b ∷ bs) e =
    ⊎_elim (cut_here c before suffix b bs) (λ h. cut_later c before suffix b bs (any_cut_from c (λ x. before (b ∷ x)) suffix bs h))
    (or_cases (b == c && (before [] && suffix bs)) (any_cut c (λ x. before (b ∷ x)) suffix bs) e)

-- the search finds each cut
any_cut_to : (c : ℕ) (before suffix : List ℕ → Bool) (x y : List ℕ) → before x ≡ true → suffix y ≡ true → any_cut c before suffix (x ++ c ∷ y) ≡ true
any_cut_to c before suffix [] y e f = or_left _ _ (and_from _ _ (eq-eqb c c refl) (and_from _ _ e f))
any_cut_to c before suffix (b ∷ x) y e f = or_right _ _ (any_cut_to c (λ z. before (b ∷ z)) suffix x y e f)

-- the byte and the text after it
follows_byte_from : (c : ℕ) (suffix : List ℕ → Bool) (t : List ℕ) → follows_byte c suffix t ≡ true → (y : List ℕ) × (suffix y ≡ true) × (t ≡ c ∷ y)
follows_byte_from c suffix t e = grind arith

-- the same, back
follows_byte_to : (c : ℕ) (suffix : List ℕ → Bool) (y : List ℕ) → suffix y ≡ true → follows_byte c suffix (c ∷ y) ≡ true
follows_byte_to c suffix y e = and_from _ _ (eq-eqb c c refl) e

-- a number that the search finds
any_up_to_from : (test : ℕ → Bool) (last : ℕ) → any_up_to test last ≡ true → (m : ℕ) × (m ≤ last) × (test m ≡ true)
any_up_to_from test zero e = (zero, omega arith, e)
any_up_to_from test (suc last) e =
    ⊎_elim (λ h. (suc last, omega arith, h)) (λ h. let r = any_up_to_from test last h in (r.0, omega (arith, r.1), r.2))
    (or_cases (test (suc last)) (any_up_to test last) e)

-- the search finds each number
any_up_to_to : (test : ℕ → Bool) (last m : ℕ) → m ≤ last → test m ≡ true → any_up_to test last ≡ true
any_up_to_to test zero m h e = let none : m ≡ 0 = omega arith in subst (λ x. test x ≡ true) none e
any_up_to_to test (suc last) m h e =
    ⊎_elim (λ same. or_left _ _ (subst (λ x. test x ≡ true) same e)) (λ other. or_right _ _ (any_up_to_to test last m (omega (arith, other)) e))
    (cases_eq m (suc last))

-- ---- groups, octets, IPv4 texts

-- a group
group_from : (g : List ℕ) → is_group g ≡ true → IsGroup g
group_from g e = grind arith

-- the same, back
group_to : (g : List ℕ) → IsGroup g → is_group g ≡ true
group_to g h = and_from _ _ (lt-ltb _ _ h.0) (and_from _ _ (le-leb _ _ h.1) h.2)

-- a decimal digit, as a class of bytes and as a value
digit_from : (b : ℕ) → is_ascii_digit b ≡ true → digit_value b < 10
digit_from b e = grind (arith, nat_tests)

-- the same, back
digit_to : (b : ℕ) → digit_value b < 10 → is_ascii_digit b ≡ true
digit_to b h = grind (arith, nat_tests)

-- no leading zero
plain_from : (t : List ℕ) → ((length t == 1) || not (begins_with 48 t)) ≡ true → get_or t 0 0 ≡ 48 → length t ≡ 1
plain_from t e zero_first = grind arith

-- a text that begins above `0` has none
plain_to : (t : List ℕ) → 48 < get_or t 0 0 → ((length t == 1) || not (begins_with 48 t)) ≡ true
plain_to t h = grind arith

-- std's reading of digits
own : IsNumeralModel (AllDigits 10) (digits_value 10)
own = numerals_by_value (AllDigits 10) tells_digits

-- an octet
octet_from : (t : List ℕ) → is_octet t ≡ true → IsOctet t
octet_from t e =
    let some = and_parts _ _ e in
    let digits = and_parts _ _ some.1 in
    let plain = and_parts _ _ digits.1 in
    let small : digits_value 10 t ≤ 255 = leb-true (digits_value 10 t) 255 plain.1 in
    let back = decimal-digits_value own t (passing_digits 10 is_ascii_digit digit_from t digits.0) (ltb-true _ _ some.0) (plain_from t plain.0) (omega arith) in
    (digits_value 10 t, small, sym back)

-- the text of a number has no leading zero
decimal_plain : (n : ℕ) → n ≤ 255 → ((length (decimal n) == 1) || not (begins_with 48 (decimal n))) ≡ true
decimal_plain n h = grind (arith, nat_tests, plain_to, cases_eq, decimal_digit, eq-eqb, first_decimal, or_left)

-- the same, back
octet_to : (t : List ℕ) → IsOctet t → is_octet t ≡ true
octet_to t (n, small, written) = subst (λ x. is_octet x ≡ true) (sym written) passes
  where
    fits : n < 2 ^ 64
    fits = omega arith

    value : digits_value 10 (decimal n) ≤ 255
    value = rw (digits_value-decimal own n fits) small

    passes : is_octet (decimal n) ≡ true
    passes = and_from _ _ (lt-ltb _ _ (decimal_nonempty n fits)) (and_from _ _ (digits_pass 10 is_ascii_digit digit_to (decimal n) (digits_decimal own n fits)) (and_from _ _ (decimal_plain n small) (le-leb _ _ value)))

-- an IPv4 text
ipv4_from : (t : List ℕ) → is_ipv4_text t ≡ true → IsIpv4Text t
ipv4_from t e =
    let one = any_cut_from dot is_octet (any_cut dot is_octet (any_cut dot is_octet is_octet)) t e in
    let two = any_cut_from dot is_octet (any_cut dot is_octet is_octet) one.back one.back_passes in
    let three = any_cut_from dot is_octet is_octet two.back two.back_passes in
    record {
      first = one.front;
      second = two.front;
      third = three.front;
      fourth = three.back;
      octets = (octet_from one.front one.front_passes, octet_from two.front two.front_passes, octet_from three.front three.front_passes, octet_from three.back three.back_passes);
      joined = one.joined ∙ ap (λ x. one.front ++ dot ∷ x) (two.joined ∙ ap (λ x. two.front ++ dot ∷ x) three.joined);
    }

-- the same, back
ipv4_to : (t : List ℕ) → IsIpv4Text t → is_ipv4_text t ≡ true
ipv4_to t h = grind (arith, nat_tests, any_cut_to, octet_to)

-- ---- items

-- items that count for so many groups, joined by `:`
abbrev Items : Bool → ℕ → List ℕ → Type 0
Items ending n t = (items : List (List ℕ)) × AreItems ending items n × (t ≡ join_with_byte colon items)

-- a group in front of items
items_more : (ending : Bool) (n : ℕ) (x y : List ℕ) → IsGroup x → Items ending (suc n) y → Items ending (suc (suc n)) (x ++ colon ∷ y)
items_more ending n x y g ([], count, e) = absurd (omega (arith, count))
items_more ending n x y g (u ∷ us, are, e) = (x ∷ u ∷ us, (g, suc n, are, sym (add-one (suc n))), ap (λ z. x ++ colon ∷ z) e)

-- an IPv4 text alone
items_ending : (ending : Bool) (n : ℕ) (t : List ℕ) → (n == 0 && (ending && is_ipv4_text t)) ≡ true → Items ending (suc (suc n)) t
items_ending ending n t e =
    let parts = and_parts _ _ e in
    let more = and_parts _ _ parts.1 in
    (t ∷ [], inr (more.0, ipv4_from t more.1, ap (λ x. suc (suc x)) (eqb-true n 0 parts.0)), refl)

-- the results of the test are items
items_from : (ending : Bool) (n : ℕ) (t : List ℕ) → are_items ending n t ≡ true → Items ending n t
items_from ending zero [] e = ([], refl, refl)
items_from ending zero (b ∷ bs) e = cc
items_from ending (suc zero) t e = (t ∷ [], inl (group_from t e, refl), refl)
items_from ending (suc (suc n)) t e =
    ⊎_elim (λ h.
    let cut = any_cut_from colon is_group (are_items ending (suc n)) t h in
    subst (Items ending (suc (suc n))) (sym cut.joined) (items_more ending n cut.front cut.back (group_from cut.front cut.front_passes) (items_from ending (suc n) cut.back cut.back_passes)))
    (items_ending ending n t)
    (or_cases _ _ e)

-- one item or more counts for one group or more
items_count : (ending : Bool) (u : List ℕ) (us : List (List ℕ)) (n : ℕ) → AreItems ending (u ∷ us) n → 0 < n
items_count ending u us n h = grind arith

-- the test finds items
items_to : (ending : Bool) (items : List (List ℕ)) (n : ℕ) → AreItems ending items n → are_items ending n (join_with_byte colon items) ≡ true
items_to ending [] n h = subst (λ k. are_items ending k [] ≡ true) (sym h) refl
items_to ending (t ∷ []) n (inl h) = subst (λ k. are_items ending k t ≡ true) (sym h.1) (group_to t h.0)
items_to ending (t ∷ []) n (inr h) =
    subst (λ k. are_items ending k t ≡ true) (sym h.2) (or_right _ _ (and_from _ _ h.0 (ipv4_to t h.1)))
items_to ending (t ∷ u ∷ us) n (g, zero, are, count) = absurd (omega (arith, items_count ending u us zero are))
items_to ending (t ∷ u ∷ us) n (g, suc m, are, count) =
    let two : n ≡ suc (suc m) = omega (arith, count) in
    subst (λ k. are_items ending k (t ++ colon ∷ join_with_byte colon (u ∷ us)) ≡ true) (sym two)
    (or_left _ _ (any_cut_to colon is_group (are_items ending (suc m)) t (join_with_byte colon (u ∷ us)) (group_to t g) (items_to ending (u ∷ us) (suc m) are)))

-- ---- addresses

-- eight groups
full_from : (t : List ℕ) → is_full_address t ≡ true → IsFullAddress t
full_from t e = let found = items_from true 8 t e in record { items = found.0; eight = found.1; joined = found.2 }

-- the groups after `::`, of which so many are left
abbrev back_test : ℕ → List ℕ → Bool
back_test m y = any_up_to (λ n. are_items true n y) (7 - m)

-- the pieces of a short address, put together
short_joined : (t x y z f g : List ℕ) → t ≡ x ++ colon ∷ z → z ≡ colon ∷ y → x ≡ f → y ≡ g → t ≡ f ++ colon ∷ (colon ∷ g)
short_joined t x y z f g whole marked front back = cc

-- two lists of groups around `::`
short_from : (t : List ℕ) → is_short_address t ≡ true → IsShortAddress t
short_from t e =
    let count = any_up_to_from (λ m. any_cut colon (are_items false m) (follows_byte colon (back_test m)) t) 7 e in
    let cut = any_cut_from colon (are_items false count.0) (follows_byte colon (back_test count.0)) t count.2 in
    let rest = follows_byte_from colon (back_test count.0) cut.back cut.back_passes in
    let more = any_up_to_from (λ n. are_items true n rest.0) (7 - count.0) rest.1 in
    let before = items_from false count.0 cut.front cut.front_passes in
    let suffix = items_from true more.0 rest.0 more.2 in
    record {
      front = before.0;
      back = suffix.0;
      front_count = count.0;
      back_count = more.0;
      front_items = before.1;
      back_items = suffix.1;
      short = omega (arith, count.1, more.1);
      joined = short_joined t cut.front rest.0 cut.back (join_with_byte colon before.0) (join_with_byte colon suffix.0) cut.joined rest.2 before.2 suffix.2;
    }

-- the same, back
short_to : (t : List ℕ) → IsShortAddress t → is_short_address t ≡ true
short_to t h = subst (λ x. is_short_address x ≡ true) (sym h.joined) passes
  where
    front : List ℕ
    front = join_with_byte colon h.front

    back : List ℕ
    back = join_with_byte colon h.back

    suffix : back_test h.front_count back ≡ true
    suffix = any_up_to_to (λ n. are_items true n back) (7 - h.front_count) h.back_count (omega (arith, h.short)) (items_to true h.back h.back_count h.back_items)

    cut : any_cut colon (are_items false h.front_count) (follows_byte colon (back_test h.front_count)) (front ++ colon ∷ (colon ∷ back)) ≡ true
    cut = any_cut_to colon (are_items false h.front_count) (follows_byte colon (back_test h.front_count)) front (colon ∷ back) (items_to false h.front h.front_count h.front_items) (follows_byte_to colon (back_test h.front_count) back suffix)

    passes : is_short_address (front ++ colon ∷ (colon ∷ back)) ≡ true
    passes = any_up_to_to (λ m. any_cut colon (are_items false m) (follows_byte colon (back_test m)) (front ++ colon ∷ (colon ∷ back))) 7 h.front_count (omega (arith, h.short)) cut

-- ---- the test decides the definition

-- a text that passes is an IPv6 text
pub ipv6_text_from : (t : List ℕ) → is_ipv6_text t ≡ true → IsIpv6Text t
unfolding is_ipv6_text
ipv6_text_from t e = grind (arith, nat_tests, full_from, short_from, or_cases)

-- an IPv6 text passes
pub ipv6_text_to : (t : List ℕ) → IsIpv6Text t → is_ipv6_text t ≡ true
unfolding is_ipv6_text
ipv6_text_to t h = grind (arith, nat_tests, short_to, or_left, or_right, items_to)

-- a text that isn't an IPv6 text fails
pub ipv6_text_fails : (t : List ℕ) → ¬ IsIpv6Text t → is_ipv6_text t ≡ false
ipv6_text_fails t other = false_from_ne_true (is_ipv6_text t) (λ passes. other (ipv6_text_from t passes))

-- an answer that says whether the text is an IPv6 text is the test
pub answers_address : (b : Bool) (t : List ℕ) → (IsTrue b ↔ IsIpv6Text t) → b ≡ is_ipv6_text t
answers_address b t h = same_from_decides b (is_ipv6_text t) h (ipv6_text_from t, ipv6_text_to t)
