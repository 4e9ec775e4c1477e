-- std's relation between a text and the IPv6 address that it writes, against the definition of an IPv6 text.
use Rattle.std.proofs.Common.{◌≡◌, ℕ, ◌+◌, Bool, true, false, List, [], ◌∷◌, ◌++◌, length, replicate, ◌-◌, decimal, Ok, Err, Result, IsTrue, ◌↔◌, refl, sym, ap, ◌∙◌, subst, inl, inr, append_assoc, append-nil, arith}
use Rattle.std.proofs.lemmas.Bool.{false≢true}
use Rattle.std.proofs.lemmas.Bool.Decides.{nat_tests}
use Rattle.std.specs.List.{join_with_byte}
use Rattle.std.specs.Str.Parse.{digits_value}
use Rattle.std.specs.Net.Addr.{segments_of, ipv4_octets}
use Rattle.std.specs.Net.Grammar as std
use Rattle.std.specs.Net.Text.{dotted_text}
use Rattle.std.specs.Result.{is_ok}
use Rattle.std.specs.declared.net.ipv4_addr.Ipv4Addr.{Ipv4Addr}
use Rattle.std.specs.declared.net.ipv6_addr.Ipv6Addr.{Ipv6Addr}
use Rattle.git_syntax.specs.Bytes.{colon, dot}
use Rattle.git_syntax.specs.Addresses.{IsGroup, IsIpv4Text, AreItems, IsIpv6Text}
use Rattle.git_syntax.proofs.Addresses.AddressLemmas.{digits_pass, passing_digits}

-- a group writes the value of its digits
group_written : (g : List ℕ) → IsGroup g → std.IsGroup g (digits_value 16 g)
group_written g h = grind (arith, nat_tests, passing_digits)

-- a text that writes a segment is a group
group_read : (g : List ℕ) (s : ℕ) → std.IsGroup g s → IsGroup g
group_read g s h = grind (arith, nat_tests, digits_pass)

-- four numbers joined by dots, with the dots apart
dotted_parts : (a b c d : ℕ) → dotted_text a b c d ≡ decimal a ++ dot ∷ (decimal b ++ dot ∷ (decimal c ++ dot ∷ decimal d))
dotted_parts a b c d = simp append_assoc

-- an IPv4 text writes four octets
dotted_written : (t : List ℕ) (h : IsIpv4Text t) → std.IsDotted t (h.octets.0.0 ∷ h.octets.1.0 ∷ h.octets.2.0 ∷ h.octets.3.0 ∷ [])
dotted_written t h = grind (arith, nat_tests, dotted_parts)

-- a text that writes four octets is an IPv4 text
dotted_read : (t octets : List ℕ) → std.IsDotted t octets → IsIpv4Text t
dotted_read t octets h = grind (arith, nat_tests, dotted_parts)

-- segments that a text after some lead writes, as many as its items count for
abbrev Written : Bool → List ℕ → List ℕ → ℕ → Type 0
Written ending lead t n = (s : List ℕ) × (length s ≡ n) × std.IsGroupsAfter ending lead (lead ++ t) s

-- items write segments
items_written : (ending : Bool) (lead t : List ℕ) (us : List (List ℕ)) (n : ℕ) → AreItems ending (t ∷ us) n → Written ending lead (join_with_byte colon (t ∷ us)) n
items_written ending lead t [] n (inl (group, one)) =
    (digits_value 16 t ∷ [], omega arith, inl (t, [], sym (append-nil (lead ++ t)), group_written t group, refl))
items_written ending lead t [] n (inr (ends, dotted, two)) =
    let octets : List ℕ = dotted.octets.0.0 ∷ dotted.octets.1.0 ∷ dotted.octets.2.0 ∷ dotted.octets.3.0 ∷ [] in
    (segments_of octets, sym two, inr (t, octets, ends, refl, dotted_written t dotted, refl))
items_written ending lead t (u ∷ us) n (group, m, items, more) =
    let (s, counted, rest) = items_written ending (colon ∷ []) u us m items in
    (digits_value 16 t ∷ s, omega arith, inl (t, colon ∷ join_with_byte colon (u ∷ us), sym (append_assoc lead t _), group_written t group, rest))

-- items that a text after some lead consists of
record Items (ending : Bool) (lead text : List ℕ) (n : ℕ) : Type 0 where
  first : List ℕ
  others : List (List ℕ)
  items : AreItems ending (first ∷ others) n
  joined : text ≡ lead ++ join_with_byte colon (first ∷ others)

-- a text that writes segments consists of items
items_read : (ending : Bool) (lead text : List ℕ) (v : ℕ) (s : List ℕ) → std.IsGroupsAfter ending lead text (v ∷ s) → Items ending lead text (length s + 1)
items_read ending lead text v [] (inl (group, rest, split, is_group, more)) = record {
  first = group;
  others = [];
  items = inl (group_read group v is_group, refl);
  joined = split ∙ ap (λ r. lead ++ group ++ r) more ∙ append-nil (lead ++ group);
}
items_read ending lead text v (w ∷ s) (inl (group, rest, split, is_group, more)) =
    let next = items_read ending (colon ∷ []) rest w s more in
    record {
      first = group;
      others = next.first ∷ next.others;
      items = (group_read group v is_group, length s + 1, next.items, omega arith);
      joined = split ∙ ap (λ r. lead ++ group ++ r) next.joined ∙ append_assoc lead group _;
    }
items_read ending lead text v s (inr (last, octets, ends, split, dotted, segments)) =
    let four : v ∷ s ≡ segments_of (dotted.a ∷ dotted.b ∷ dotted.c ∷ dotted.d ∷ []) = segments ∙ ap segments_of dotted.value in
    let two : length s + 1 ≡ 2 = omega (arith, ap length four) in
    record {
      first = last;
      others = [];
      items = inr (ends, dotted_read last octets dotted, two);
      joined = split;
    }

-- the same if there may be no item
list_written : (ending : Bool) (items : List (List ℕ)) (n : ℕ) → AreItems ending items n → Written ending [] (join_with_byte colon items) n
list_written ending [] n none = ([], sym none, refl)
list_written ending (t ∷ us) n items = items_written ending [] t us n items

list_read : (ending : Bool) (text s : List ℕ) → std.IsGroups ending text s → (items : List (List ℕ)) × AreItems ending items (length s) × (text ≡ join_with_byte colon items)
list_read ending text [] none = ([], refl, none)
list_read ending text (v ∷ s) groups =
    let read = items_read ending [] text v s groups in
    let count : length s + 1 ≡ length (v ∷ s) = omega arith in
    (read.first ∷ read.others, subst (λ n. AreItems ending (read.first ∷ read.others) n) count read.items, read.joined)

-- an IPv6 text writes the segments of an address
address_written : (t : List ℕ) → IsIpv6Text t → (s : List ℕ) × std.IsColonHex t s
address_written t (inl full) =
    let (s, count, groups) = list_written true full.items 8 full.eight in
    (s, inl (rw full.joined groups, count))
address_written t (inr short) =
    let (head, head_count, head_groups) = list_written false short.front short.front_count short.front_items in
    let (tail, tail_count, tail_groups) = list_written true short.back short.back_count short.back_items in (
      head ++ replicate (8 - length head - length tail) 0 ++ tail,
      inr record {
        head_text = join_with_byte colon short.front;
        tail_text = join_with_byte colon short.back;
        head = head;
        tail = tail;
        spelled = short.joined ∙ sym (append_assoc (join_with_byte colon short.front) (colon ∷ colon ∷ []) (join_with_byte colon short.back));
        head_groups = head_groups;
        tail_groups = tail_groups;
        room = omega (arith, short.short);
        value = refl;
      },
    )

-- a text that writes the segments of an address is an IPv6 text
address_read : (t s : List ℕ) → std.IsColonHex t s → IsIpv6Text t
address_read t s h = grind (arith, nat_tests, list_read, append_assoc)

-- std reads an address exactly if there is an IPv6 text
pub reads_addresses : {E : Type 0} (t : List ℕ) (r : Result Ipv6Addr E) → std.Parses std.IsIpv6Text t r → IsTrue (is_ok r) ↔ IsIpv6Text t
reads_addresses t (Ok a) written = (λ _. address_read t a.segments written, λ _. refl)
reads_addresses t (Err e) none =
    (λ wrong. absurd (false≢true wrong), λ h. let (s, written) = address_written t h in absurd (none (record { segments = s }) written))

-- and an address of IPv4 exactly if there is an IPv4 text
pub reads_dotted : {E : Type 0} (t : List ℕ) (r : Result Ipv4Addr E) → std.Parses std.IsIpv4Text t r → IsTrue (is_ok r) ↔ IsIpv4Text t
reads_dotted t (Ok a) written = (λ _. dotted_read t (ipv4_octets a) written, λ _. refl)
reads_dotted t (Err e) none = (λ wrong. absurd (false≢true wrong), λ h. absurd (none (record { octets = h.octets.0.0 ∷ h.octets.1.0 ∷ h.octets.2.0 ∷ h.octets.3.0 ∷ [] }) (dotted_written t h)))
