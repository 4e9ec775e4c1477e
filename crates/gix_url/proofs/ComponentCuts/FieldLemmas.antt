-- Names and values that are borrowed: the pieces that were cut from a text denote the meaning of the text.
use Rattle.std.proofs.Common.{◌≡◌, ◌∙◌, ◌+◌, ◌<◌, ℕ, Bool, true, false, ◌==◌, if◌then◌else◌, List, [], ◌∷◌, ◌++◌, Option, Some, None, length, take, drop, get_or, set, option_map, IfSome, All, filter, refl, sym, ap, subst, arith, append_assoc}
use Rattle.std.specs.List.{slice_split, onto_first}
use Rattle.std.proofs.lemmas.List.{append-nil, drop-drop, drop-set-lt, get_or-drop, map-append, take_more, take_more_set}
use Rattle.std.proofs.lemmas.List.Elements.{All-nil, All-cons}
use Rattle.std.proofs.lemmas.List.Splits.{slice_split_at, slice_split-cons_yes, slice_split-cons_no}
use Rattle.gix_url.specs.declared.components.QueryText.{QueryText}
use Rattle.gix_url.specs.declared.components.cuts.EscapedText.{EscapedText}
use Rattle.git_syntax.specs.Bytes.{number_sign, plus_sign, question_mark, FreeOf, space, ampersand}
use Rattle.git_laws.specs.Components.{CutsText, CutsPath, with_spaces}
use Rattle.gix_url.specs.Internal.Meanings.{denoted_by}
use Rattle.gix_url.specs.Internal.ComponentPieces.{CutsAround, CutsOff, BorrowsFields, AddsPair, HasQuery, BorrowsQuery, is_field, one_field, begun_by, begun_in, ends_in, field_count}
use Rattle.git_syntax.proofs.Texts.CutLemmas.{free_head_tail, free_parts}
use Rattle.gix_url.proofs.ComponentCuts.MeaningLemmas.{Parts, denoted_around, denoted_around_plus, denoted_spaces}

-- ---- pieces and their meaning

-- the meaning of a piece, by whether the escapes of the whole denote their bytes
pub denoted_as : (piece : EscapedText) (escaped : Bool) → piece.escaped ≡ escaped → piece.denoted.now ≡ denoted_by escaped piece.text.now
denoted_as piece escaped e = piece.meaning ∙ ap (λ b. denoted_by b piece.text.now) e

-- the parts around a delimiter denote the texts around it in the meaning of the whole
pub spelled_cut : (c : ℕ) (whole front suffix : EscapedText) → Parts c → CutsAround c whole front suffix → whole.denoted.now ≡ front.denoted.now ++ c ∷ suffix.denoted.now
spelled_cut c whole front suffix parts cut =
    let first = denoted_as front whole.escaped cut.front_escaped in
    let second = denoted_as suffix whole.escaped cut.after_escaped in
    whole.meaning ∙ ap (denoted_by whole.escaped) cut.joined ∙ denoted_around whole.escaped front.text.now suffix.text.now c parts
    ∙ ap (λ t. t ++ c ∷ denoted_by whole.escaped suffix.text.now) (sym first)
    ∙ ap (λ t. front.denoted.now ++ c ∷ t) (sym second)

-- `+` parts a text
pub plus_parts : Parts plus_sign
plus_parts = record { digit = refl; percent = refl }

-- ---- spaces

-- the result grows by the text before the next `+`, and a space
pub spaced_more : (escaped : Bool) (whole built rest front suffix denoted new : List ℕ) → FreeOf plus_sign front → rest ≡ front ++ plus_sign ∷ suffix → denoted ≡ denoted_by escaped front → whole ≡ built ++ denoted_by escaped (with_spaces rest) → new ≡ (built ++ denoted) ++ space ∷ [] → whole ≡ new ++ denoted_by escaped (with_spaces suffix)
spaced_more escaped whole built rest front suffix denoted new free cut is before grown =
    let last = denoted_by escaped (with_spaces suffix) in
    before
    ∙ ap (λ t. built ++ denoted_by escaped (with_spaces t)) cut
    ∙ ap (λ t. built ++ t) (denoted_around_plus escaped front suffix free ∙ ap (λ t. t ++ space ∷ last) (sym is))
    ∙ sym (append_assoc built denoted (space ∷ last))
    ∙ sym (append_assoc (built ++ denoted) (space ∷ []) last)
    ∙ ap (λ t. t ++ last) (sym grown)

-- and is whole with the text after the last
pub spaced_whole : (escaped : Bool) (whole built rest denoted : List ℕ) → FreeOf plus_sign rest → denoted ≡ denoted_by escaped rest → whole ≡ built ++ denoted_by escaped (with_spaces rest) → built ++ denoted ≡ whole
spaced_whole escaped whole built rest denoted free is before =
    ap (λ t. built ++ t) (is ∙ sym (denoted_spaces escaped rest free)) ∙ sym before

-- in a text that is turned in place, byte by byte, the next byte goes to those that have their spaces
pub spaced_next : (text items : List ℕ) (i y : ℕ) → i < length items → length items ≡ length text → take i items ≡ with_spaces (take i text) → drop i items ≡ drop i text → y ≡ (if get_or items i 0 == plus_sign then space else get_or items i 0) → take (i + 1) (set items i y) ≡ with_spaces (take (i + 1) text)
spaced_next text items i y inside size built left is =
    let at : i + 0 ≡ i = omega arith in
    let same : get_or items i 0 ≡ get_or text i 0 = ap (λ n. get_or items n 0) (sym at) ∙ sym (get_or-drop i items 0 0) ∙ ap (λ t. get_or t 0 0) left ∙ get_or-drop i text 0 0 ∙ ap (λ n. get_or text n 0) at in
    take_more_set items i y inside
    ∙ ap (λ t. t ++ y ∷ []) built
    ∙ ap (λ b. with_spaces (take i text) ++ b ∷ []) (is ∙ ap (λ b. if b == plus_sign then space else b) same)
    ∙ sym (map-append (λ b. if b == plus_sign then space else b) (take i text) (get_or text i 0 ∷ []))
    ∙ sym (ap with_spaces (take_more text i 0 (omega (arith, inside, size))))

-- and those after it stay
pub left_next : (text items : List ℕ) (i y : ℕ) → drop i items ≡ drop i text → drop (i + 1) (set items i y) ≡ drop (i + 1) text
left_next text items i y left =
    drop-set-lt (i + 1) items i y (omega arith)
    ∙ sym (drop-drop 1 i items)
    ∙ ap (drop 1) left
    ∙ drop-drop 1 i text

-- the text after a delimiter in a text without `+` has none
pub after_free : (text front suffix : List ℕ) → text ≡ front ++ ampersand ∷ suffix → FreeOf plus_sign text → FreeOf plus_sign suffix
after_free text front suffix cut free =
    (free_head_tail plus_sign ampersand suffix (free_parts plus_sign front (ampersand ∷ suffix) (subst (FreeOf plus_sign) cut free)).1).1

-- ---- counts of fields

-- no byte of a text is one that it is free of
none_equal : (c : ℕ) (xs : List ℕ) → FreeOf c xs → All (λ b. (b == c) ≡ false) xs
none_equal c [] free = All-nil (λ b. (b == c) ≡ false)
none_equal c (b ∷ xs) free =
    let parts = free_head_tail c b xs free in
    All-cons (λ d. (d == c) ≡ false) b xs parts.0 (none_equal c xs parts.1)

counted : (field : List ℕ) (fields : List (List ℕ)) → length (filter is_field (field ∷ fields)) ≡ one_field field + length (filter is_field fields)
counted [] fields = omega arith
counted (b ∷ bs) fields = omega arith

-- a text counts for its first field and for the rest
pub field_count_cut : (text field suffix : List ℕ) → FreeOf ampersand field → text ≡ field ++ ampersand ∷ suffix → field_count text ≡ one_field field + field_count suffix
field_count_cut text field suffix free cut =
    ap field_count cut
    ∙ ap (λ fields. length (filter is_field fields)) (slice_split_at (λ b. b == ampersand) field ampersand suffix (none_equal ampersand field free) refl)
    ∙ counted field (slice_split (λ b. b == ampersand) suffix)

-- the fields of a text, of which the first has begun or begins
record Begun (text : List ℕ) : Type 0 where
  first : List ℕ
  others : List (List ℕ)
  split : slice_split (λ b. b == ampersand) text ≡ first ∷ others
  suffix : begun_in false text ≡ length (filter is_field others)
  whole : begun_in true text ≡ length (filter is_field (first ∷ others))

begun_more : (b : ℕ) (bs : List ℕ) → Begun bs → (is : Bool) → (b == ampersand) ≡ is → Begun (b ∷ bs)
begun_more b bs rest true e = record {
  first = [];
  others = rest.first ∷ rest.others;
  split = slice_split-cons_yes (λ d. d == ampersand) b bs e ∙ ap (λ fields. [] ∷ fields) rest.split;
  suffix = let step = ap (λ is. begun_by false is + begun_in is bs) e in omega (arith, step, rest.whole);
  whole = let step = ap (λ is. begun_by true is + begun_in is bs) e in omega (arith, step, rest.whole);
}
begun_more b bs rest false e = record {
  first = b ∷ rest.first;
  others = rest.others;
  split = slice_split-cons_no (λ d. d == ampersand) b bs e ∙ ap (onto_first b) rest.split;
  suffix = let step = ap (λ is. begun_by false is + begun_in is bs) e in omega (arith, step, rest.suffix);
  whole = let step = ap (λ is. begun_by true is + begun_in is bs) e in omega (arith, step, rest.suffix);
}

begun : (text : List ℕ) → Begun text
begun [] = record { first = []; others = []; split = refl; suffix = refl; whole = refl }
begun (b ∷ bs) = begun_more b bs (begun bs) (b == ampersand) refl

-- the fields of a text are those that begin in it
pub field_count_begun : (text : List ℕ) → begun_in true text ≡ field_count text
field_count_begun text =
    let fields = begun text in
    fields.whole ∙ ap (λ parts. length (filter is_field parts)) (sym fields.split)

-- those that begin in a text begin in a front of it or in the rest after that
pub begun_joined : (before : Bool) (front suffix : List ℕ) → begun_in before (front ++ suffix) ≡ begun_in before front + begun_in (ends_in before front) suffix
begun_joined before [] suffix = omega arith
begun_joined before (b ∷ bs) suffix =
    let rest = begun_joined (b == ampersand) bs suffix in
    omega (arith, rest)

-- ---- names and values of the fields

-- names and values of the rest, after those that a first field adds
pub record Adds (escaped : Bool) (text : List ℕ) (old new : List (QueryText × QueryText)) : Type 0 where
  pub whole : List (QueryText × QueryText)
  pub borrowed : BorrowsFields escaped text whole
  pub suffix : new ≡ old ++ whole

-- those of a first field and of the rest are those of the text
pub adds_field : (escaped : Bool) (text field suffix : List ℕ) (old new more : List (QueryText × QueryText)) → FreeOf ampersand field → text ≡ field ++ ampersand ∷ suffix → AddsPair escaped field old new → BorrowsFields escaped suffix more → Adds escaped text old (new ++ more)
adds_field escaped text [] suffix old new more free cut adds rest = record {
  whole = more;
  borrowed = record {
    field = [];
    fields = rest.field ∷ rest.fields;
    cut = record {
      each = All-cons (FreeOf ampersand) [] (rest.field ∷ rest.fields) free rest.cut.each;
      joined = cut ∙ ap (λ t. ampersand ∷ t) rest.cut.joined;
    };
    borrowed = rest.borrowed;
  };
  suffix = ap (λ t. t ++ more) adds;
}
adds_field escaped text (b ∷ bs) suffix old new more free cut (pair, borrows, grown) rest = record {
  whole = pair ∷ more;
  borrowed = record {
    field = b ∷ bs;
    fields = rest.field ∷ rest.fields;
    cut = record {
      each = All-cons (FreeOf ampersand) (b ∷ bs) (rest.field ∷ rest.fields) free rest.cut.each;
      joined = cut ∙ ap (λ t. (b ∷ bs) ++ ampersand ∷ t) rest.cut.joined;
    };
    borrowed = (pair, more, borrows, rest.borrowed, refl);
  };
  suffix = ap (λ t. t ++ more) grown ∙ append_assoc old (pair ∷ []) more;
}

-- the pair that a field adds whose escapes denote themselves
pub adds_raw : (piece : EscapedText) (field : List ℕ) (old new : List (QueryText × QueryText)) → piece.text.now ≡ field → piece.escaped ≡ false → AddsPair piece.escaped piece.text.now old new → AddsPair false field old new
adds_raw piece field old new text syntax adds =
    subst (λ t. AddsPair false t old new) text (subst (λ b. AddsPair b piece.text.now old new) syntax adds)

-- those of a text that is one field
pub adds_last : (escaped : Bool) (field : List ℕ) (old new : List (QueryText × QueryText)) → FreeOf ampersand field → AddsPair escaped field old new → Adds escaped field old new
adds_last escaped [] old new free adds = record {
  whole = [];
  borrowed = record { field = []; fields = []; cut = record { each = All-cons (FreeOf ampersand) [] [] free (All-nil (FreeOf ampersand)); joined = refl }; borrowed = refl };
  suffix = adds ∙ sym (append-nil old);
}
adds_last escaped (b ∷ bs) old new free (pair, borrows, grown) = record {
  whole = pair ∷ [];
  borrowed = record {
    field = b ∷ bs;
    fields = [];
    cut = record { each = All-cons (FreeOf ampersand) (b ∷ bs) [] free (All-nil (FreeOf ampersand)); joined = refl };
    borrowed = (pair, [], borrows, refl, refl);
  };
  suffix = grown;
}

-- ---- the path, the query and the fragment

-- the part before the first c, the part after it, and that both are escaped as the whole is
record CutsPiece (c : ℕ) (whole front : EscapedText) (suffix : Option EscapedText) : Type 0 where
  text : CutsText c whole.text.now front.text.now (option_map (λ p. p.text.now) suffix)
  front_escaped : front.escaped ≡ whole.escaped
  after_escaped : IfSome suffix (λ p. p.escaped ≡ whole.escaped)

cuts_piece : (c : ℕ) (whole front : EscapedText) (suffix : Option EscapedText) → CutsOff c whole front suffix → CutsPiece c whole front suffix
cuts_piece c whole front None (free, same, syntax) = record { text = (free, same); front_escaped = syntax; after_escaped = tt }
cuts_piece c whole front (Some suffix) cut = record { text = (cut.free, cut.joined); front_escaped = cut.front_escaped; after_escaped = cut.after_escaped }

-- a piece of a part is escaped as the whole is
escaped_on : (piece : Option EscapedText) (part whole : Bool) → part ≡ whole → IfSome piece (λ p. p.escaped ≡ part) → IfSome piece (λ p. p.escaped ≡ whole)
escaped_on None part whole same syntax = tt
escaped_on (Some piece) part whole same syntax = syntax ∙ same

-- the texts cut off a text at `#`, and off its front at `?`
pub record CutsTwice (whole front : EscapedText) (query fragment : Option EscapedText) : Type 0 where
  pub cut : CutsPath whole.text.now front.text.now (option_map (λ p. p.text.now) query) (option_map (λ p. p.text.now) fragment)
  pub front_escaped : front.escaped ≡ whole.escaped
  pub query_escaped : IfSome query (λ p. p.escaped ≡ whole.escaped)
  pub fragment_escaped : IfSome fragment (λ p. p.escaped ≡ whole.escaped)

-- that is the front, the query and the fragment
pub cuts_twice : (whole front path : EscapedText) (query fragment : Option EscapedText) → CutsOff number_sign whole front fragment → CutsOff question_mark front path query → CutsTwice whole path query fragment
cuts_twice whole front path query fragment h k =
    let first = cuts_piece number_sign whole front fragment h in
    let second = cuts_piece question_mark front path query k in record {
      cut = (front.text.now, first.text, second.text);
      front_escaped = second.front_escaped ∙ first.front_escaped;
      query_escaped = escaped_on query front.escaped whole.escaped first.front_escaped second.after_escaped;
      fragment_escaped = first.after_escaped;
    }

-- ---- the returned components

-- the meaning of a fragment, by whether the escapes of the whole denote their bytes
pub fragment_denoted : (escaped : Bool) (fragment : Option EscapedText) → IfSome fragment (λ p. p.escaped ≡ escaped) → option_map (λ p. p.denoted.now) fragment ≡ option_map (denoted_by escaped) (option_map (λ p. p.text.now) fragment)
fragment_denoted escaped None same = refl
fragment_denoted escaped (Some piece) same = ap Some (denoted_as piece escaped same)

-- a text that is cut at `?` has a query
pub has_query : (whole front query : EscapedText) (found fragment : Option EscapedText) → CutsTwice whole front found fragment → found ≡ Some query → HasQuery whole.text.now
has_query whole front query found fragment twice is = record {
  front = front.text.now;
  query = query.text.now;
  fragment = option_map (λ p. p.text.now) fragment;
  cut = subst (λ o. CutsPath whole.text.now front.text.now o (option_map (λ p. p.text.now) fragment)) (ap (option_map (λ (p : EscapedText). p.text.now)) is) twice.cut;
}

-- no query, and no names and values
pub query_absent : (escaped : Bool) (found : Option EscapedText) (pairs : Option (List (QueryText × QueryText))) → found ≡ None → pairs ≡ None → BorrowsQuery escaped (option_map (λ p. p.text.now) found) pairs
query_absent escaped found pairs is none = subst (λ o. BorrowsQuery escaped (option_map (λ (p : EscapedText). p.text.now) o) pairs) (sym is) none

-- a query, and the names and values of its fields
pub query_present : (escaped : Bool) (found : Option EscapedText) (pairs : Option (List (QueryText × QueryText))) (query : EscapedText) (items : List (QueryText × QueryText)) → found ≡ Some query → IfSome found (λ p. p.escaped ≡ escaped) → pairs ≡ Some items → BorrowsFields query.escaped query.text.now items → BorrowsQuery escaped (option_map (λ p. p.text.now) found) pairs
query_present escaped found pairs query items is same has borrowed =
    let syntax : query.escaped ≡ escaped = subst (λ o. IfSome o (λ (p : EscapedText). p.escaped ≡ escaped)) is same in
    subst (λ o. BorrowsQuery escaped (option_map (λ (p : EscapedText). p.text.now) o) pairs) (sym is)
    (subst (λ o. BorrowsQuery escaped (Some query.text.now) o) (sym has) (subst (λ b. BorrowsFields b query.text.now items) syntax borrowed))
