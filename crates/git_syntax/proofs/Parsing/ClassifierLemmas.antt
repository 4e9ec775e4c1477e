-- The forms of a text: the places at which its pieces are cut, that they are cut in
-- one way, and that one form excludes the others.
use Rattle.std.proofs.Common.{◌≡◌, ℕ, ◌+◌, ◌<◌, true, false, ◌⊎◌, inl, inr, List, [], ◌∷◌, ◌++◌, length, take, drop, refl, sym, ap, subst, ◌∙◌, arith, append_assoc, length-append, ◌==◌, eq-eqb, IsUtf8, codes, bytes_eq}
use Rattle.std.proofs.Math.Seq.{drop-append-add}
use Rattle.std.proofs.lemmas.Bool.{eqb-true, both_ways, false≢true}
use Rattle.std.proofs.lemmas.Bool.Decides.{nat_tests}
use Rattle.std.proofs.lemmas.List.{take_at, drop_at, append_cancel_left, nil_from_length}
use lib.Utf8.{encode}
use Rattle.git_syntax.specs.declared.refusal.UrlKind.TheVariants as kind
use Rattle.git_syntax.specs.Location.{Location, path_alone}
use Rattle.git_syntax.specs.Location.Scheme.{file}
use Rattle.git_syntax.specs.Bytes.{slash, colon, at_sign, left_bracket, right_bracket, FreeOf, Holds, begins_with, is_helper_name, is_name_byte}
use Rattle.git_syntax.specs.Addresses.{IsIpv6Text}
use Rattle.git_syntax.specs.Grammar.{HelperCut, HasHelperForm, IsNeither, ScpFront, AddressedForm, HasScpForm, SpellsHelper, SpellsUrl, SpellsFile, SpellsScp, SpellsLocal, Spells, AddressedCut, LocalForm}
use Rattle.git_syntax.specs.Grammar.Spells.{url, file_url, remote_helper, scp_form, local_path}
use Rattle.git_syntax.specs.Grammar.ScpFront.{plain, bracketed}
use Rattle.git_syntax.specs.Authority.{unless_empty, Fits}
use Rattle.git_syntax.specs.Flaws.{UrlForm, OtherUrlForm, MissesPath}
use Rattle.git_syntax.specs.Flaws.MissesPath.{in_file}
use Rattle.git_syntax.specs.Internal.Forms.{ColonCut, FrontCut, HasFrontCut, ScpCut, HasScpCut, AddressedFront, HasAddressedCut, LacksBrackets, PlainScp}
use Rattle.git_syntax.proofs.Texts.CutLemmas.{tails, different_bytes, begins_cut, free_or_cut, not_free, free-cons, free_parts, cut_unique, last_cut_unique, mark_cut_unique, held_free, helper_name_bytes, helper_name_free, scheme_text_free}
use Rattle.git_syntax.proofs.Addresses.AddressLemmas.{address_free}
use Rattle.git_syntax.proofs.Texts.EscapeLemmas.{utf8_after, utf8_class, utf8_parts}
use Rattle.git_syntax.proofs.Parsing.FormLemmas.{address_cut, addressed_joined, addressed_front_free, address_front_free, mark_no_helper, url_scheme_free, url_not_neither, file_not_neither, scp_neither, scp_has_form}

-- ---- remote helpers

-- the name of a helper ends at the first `:`
pub helper_front : (b name rest n a : List ℕ) → HelperCut b n a → FreeOf colon name → b ≡ name ++ colon ∷ rest → (n ≡ name) × (colon ∷ a ≡ rest)
helper_front b name rest n a h free e = cut_unique colon n name (colon ∷ a) rest (helper_name_free n colon h.named refl) free (sym h.joined ∙ e)

-- no helper without a second `:` after the first
pub no_helper_alone : (b name rest : List ℕ) → FreeOf colon name → b ≡ name ++ colon ∷ rest → begins_with colon rest ≡ false → ¬ HasHelperForm b
no_helper_alone b name rest free e other (n, a, h) =
    false≢true (sym other ∙ ap (begins_with colon) (sym (helper_front b name rest n a h free e).1))

-- no helper without a `:`
pub no_helper_free : (b : List ℕ) → FreeOf colon b → ¬ HasHelperForm b
no_helper_free b free (name, address, h) = not_free colon name (colon ∷ address) (subst (λ t. FreeOf colon t) h.joined free)

-- no helper without a name before the first `:`
pub no_helper_unnamed : (b name rest : List ℕ) → FreeOf colon name → b ≡ name ++ colon ∷ rest → is_helper_name name ≡ false → ¬ HasHelperForm b
no_helper_unnamed b name rest free e other (n, a, h) =
    false≢true (sym other ∙ ap is_helper_name (sym (helper_front b name rest n a h free e).0) ∙ h.named)

-- ---- URLs

-- two slashes after the first colon are the first mark
pub mark_at_colon : (b front rest suffix : List ℕ) → ColonCut b front rest → rest ≡ slash ∷ (slash ∷ suffix) → (¬ Holds (codes "://") front) × (b ≡ front ++ (codes "://" ++ suffix))
mark_at_colon b front rest suffix cut is = (held_free front cut.no_colon, cut.joined ∙ ap (λ t. front ++ colon ∷ t) is)

-- no mark if the only colon has no two slashes after it
pub no_mark_at_colon : (b front rest : List ℕ) → ColonCut b front rest → ((suffix : List ℕ) → ¬ (rest ≡ slash ∷ (slash ∷ suffix))) → FreeOf colon rest → ¬ Holds (codes "://") b
no_mark_at_colon b front rest cut other none (f, r, e) = elim (free_or_cut colon f) [
  | inl free ↦ other r (cut_unique colon front f rest (slash ∷ (slash ∷ r)) cut.no_colon free (sym cut.joined ∙ e)).1
  | inr (x, y, free, is) ↦
      let suffix = y ++ colon ∷ (slash ∷ (slash ∷ r)) in
      let whole = sym cut.joined ∙ e ∙ ap (λ t. t ++ (codes "://" ++ r)) is ∙ append_assoc x (colon ∷ y) (codes "://" ++ r) in
      not_free colon y (slash ∷ (slash ∷ r)) (subst (λ t. FreeOf colon t) (cut_unique colon front x rest suffix cut.no_colon free whole).1 none)
]

-- ---- the colon of the scp form

-- brackets around a part of the front are around that part of the whole
pub bracketed_joined : (b front path inside after : List ℕ) → b ≡ front ++ colon ∷ path → front ≡ left_bracket ∷ (inside ++ right_bracket ∷ after) → b ≡ left_bracket ∷ (inside ++ right_bracket ∷ (after ++ colon ∷ path))
bracketed_joined b front path inside after e f = grind (arith, nat_tests, append_assoc)

-- a front without brackets and a whole with brackets are of two texts
plain_apart : {A : Type 0} (b front path inside rest : List ℕ) → b ≡ front ++ colon ∷ path → (begins_with left_bracket front ≡ false) ⊎ FreeOf right_bracket b → b ≡ left_bracket ∷ (inside ++ right_bracket ∷ rest) → A
plain_apart b front path inside rest e h k = grind (arith, nat_tests, both_ways, different_bytes, eq-eqb, not_free)

-- the colon of the scp form is one place of the text
pub same_front : (b f p g q : List ℕ) → b ≡ f ++ colon ∷ p → b ≡ g ++ colon ∷ q → ScpFront b f → ScpFront b g → (f ≡ g) × (p ≡ q)
same_front b f p g q e k (plain h _) (plain m _) = cut_unique colon f g p q h m (sym e ∙ k)
same_front b f p g q e k (plain _ h) (bracketed inside after _ _ m) = plain_apart b f p inside (after ++ colon ∷ q) e h (bracketed_joined b g q inside after k m)
same_front b f p g q e k (bracketed inside after _ _ m) (plain _ h) = plain_apart b g q inside (after ++ colon ∷ p) k h (bracketed_joined b f p inside after e m)
same_front b f p g q e k (bracketed i a free none m) (bracketed j c free' none' n) =
    let whole = sym (bracketed_joined b f p i a e m) ∙ bracketed_joined b g q j c k n in
    let parts = cut_unique right_bracket i j (a ++ colon ∷ p) (c ++ colon ∷ q) free free' (tails whole) in
    let rest = cut_unique colon a c p q none none' parts.1 in
    (m ∙ ap (λ x. left_bracket ∷ (x ++ right_bracket ∷ a)) parts.0 ∙ ap (λ x. left_bracket ∷ (j ++ right_bracket ∷ x)) rest.0 ∙ sym n, rest.1)

-- the first colon after brackets at the front, which is cut by its place
pub front_taken : (b inside suffix rest path : List ℕ) → FreeOf right_bracket inside → FreeOf colon rest → b ≡ left_bracket ∷ (inside ++ right_bracket ∷ suffix) → suffix ≡ rest ++ colon ∷ path → FrontCut b (take (length inside + length rest + 2) b) path
front_taken b inside suffix rest path free none e f =
    let front = left_bracket ∷ (inside ++ right_bracket ∷ rest) in
    let place = length inside + length rest + 2 in
    let joined : b ≡ front ++ colon ∷ path = e ∙ ap (λ x. left_bracket ∷ (inside ++ right_bracket ∷ x)) f ∙ ap (λ x. left_bracket ∷ x) (sym (append_assoc inside (right_bracket ∷ rest) (colon ∷ path))) in
    let same : take place b ≡ front = ap (take place) joined ∙ take_at front (colon ∷ path) place (omega (arith, length-append inside (right_bracket ∷ rest))) in
    subst (λ x. FrontCut b x path) (sym same) record { joined = joined; form = bracketed inside rest free none refl }

-- no front if no colon follows the brackets
no_front : (b inside suffix front path : List ℕ) → FreeOf right_bracket inside → b ≡ left_bracket ∷ (inside ++ right_bracket ∷ suffix) → FreeOf colon suffix → b ≡ front ++ colon ∷ path → ScpFront b front → ⊥
no_front b inside suffix front path free e none k (plain _ h) = plain_apart b front path inside suffix k h e
no_front b inside suffix front path free e none k (bracketed i a free' _ m) =
    let whole = sym e ∙ bracketed_joined b front path i a k m in
    let parts = cut_unique right_bracket inside i suffix (a ++ colon ∷ path) free free' (tails whole) in
    not_free colon a path (subst (λ x. FreeOf colon x) parts.1 none)

-- no colon after brackets at the front
pub front_unbracketed : (b inside suffix : List ℕ) → FreeOf right_bracket inside → b ≡ left_bracket ∷ (inside ++ right_bracket ∷ suffix) → FreeOf colon suffix → ¬ HasFrontCut b
front_unbracketed b inside suffix free e none (front, path, h) = no_front b inside suffix front path free e none h.joined h.form

-- a `/` before that colon
pub no_scp_cut : (b front path : List ℕ) → FrontCut b front path → ¬ FreeOf slash front → ¬ HasScpCut b
no_scp_cut b front path h held (f, p, k) =
    held (subst (λ x. FreeOf slash x) (same_front b f p front path k.around.joined h.joined k.around.form h.form).0 k.no_slash)

-- no such colon
pub no_scp_uncut : (b : List ℕ) → ¬ HasFrontCut b → ¬ HasScpCut b
no_scp_uncut b none (f, p, k) = none (f, p, k.around)

-- ---- `user@[address]:path`

-- no such text without a `:`
pub addressed_free : (b : List ℕ) → FreeOf colon b → ¬ HasAddressedCut b
addressed_free b free h = grind (arith, nat_tests, free_parts, not_free)

-- the first colon of such a text is in the address
pub addressed_front : (b front rest u a p : List ℕ) → AddressedCut b u a p → FreeOf colon front → b ≡ front ++ colon ∷ rest → (x : List ℕ) × FreeOf at_sign x × (front ≡ u ++ at_sign ∷ (left_bracket ∷ x))
addressed_front b front rest u a p h free e =
    let (x, y, none, two) = address_cut a h.addressed in
    (x, address_front_free at_sign a x y refl h.addressed two, (cut_unique colon front (u ++ at_sign ∷ (left_bracket ∷ x)) rest (y ++ right_bracket ∷ (colon ∷ p)) free (addressed_front_free u x h.no_colon none) (sym e ∙ h.joined ∙ addressed_joined u a p x y two)).0)

-- an `@` comes before it
pub addressed_at : (b front rest : List ℕ) → FreeOf colon front → b ≡ front ++ colon ∷ rest → FreeOf at_sign front → ¬ HasAddressedCut b
addressed_at b front rest free e none (u, a, p, h) =
    let (x, no_at, is) = addressed_front b front rest u a p h free e in
    not_free at_sign u (left_bracket ∷ x) (subst (λ t. FreeOf at_sign t) is none)

-- the user ends at the last `@` before it, and this follows it
addressed_user : (b front rest user last u a p : List ℕ) → AddressedCut b u a p → FreeOf colon front → b ≡ front ++ colon ∷ rest → FreeOf at_sign last → front ≡ user ++ at_sign ∷ last
    → (u ≡ user) × (drop (length user) b ≡ at_sign ∷ (left_bracket ∷ (a ++ right_bracket ∷ (colon ∷ p))))
addressed_user b front rest user last u a p h free e none f =
    let (x, no_at, is) = addressed_front b front rest u a p h free e in
    let same : u ≡ user = (last_cut_unique at_sign u user (left_bracket ∷ x) last (free-cons at_sign left_bracket x refl no_at) none (sym is ∙ f)).0 in
    (same, ap (drop (length user)) h.joined ∙ drop_at u (at_sign ∷ (left_bracket ∷ (a ++ right_bracket ∷ (colon ∷ p)))) (length user) (ap length same))

-- no bracket between the user and the first colon
pub addressed_unbracketed : (b front rest user last : List ℕ) → ColonCut b front rest → FreeOf at_sign last → front ≡ user ++ at_sign ∷ last → begins_with left_bracket last ≡ false → ¬ HasAddressedCut b
addressed_unbracketed b front rest user last cut none f other (u, a, p, h) =
    let (x, no_at, is) = addressed_front b front rest u a p h cut.no_colon cut.joined in
    let same = (last_cut_unique at_sign u user (left_bracket ∷ x) last (free-cons at_sign left_bracket x refl no_at) none (sym is ∙ f)).1 in
    false≢true (sym other ∙ ap (begins_with left_bracket) (sym same))

-- the user and the bracket, as they were cut one after the other
addressed_cut_front : (b front rest user last suffix : List ℕ) → FreeOf colon front → b ≡ front ++ colon ∷ rest → FreeOf at_sign last → front ≡ user ++ at_sign ∷ last
    → drop (length user) b ≡ at_sign ∷ (left_bracket ∷ suffix) → AddressedFront b user suffix
addressed_cut_front b front rest user last suffix free e none f tail =
    let whole : b ≡ user ++ (at_sign ∷ last ++ colon ∷ rest) = e ∙ ap (λ t. t ++ colon ∷ rest) f ∙ append_assoc user (at_sign ∷ last) (colon ∷ rest) in
    let same : at_sign ∷ last ++ colon ∷ rest ≡ drop (length user) b = sym (ap (drop (length user)) whole ∙ drop_at user (at_sign ∷ last ++ colon ∷ rest) (length user) refl) in
    record {
      joined = whole ∙ ap (λ t. user ++ t) (same ∙ tail);
      no_colon = (free_parts colon user (at_sign ∷ last) (subst (λ t. FreeOf colon t) f free)).0;
      only = λ u a p h.
          let same = addressed_user b front rest user last u a p h free e none f in
          (same.0, tails (tails (sym tail ∙ same.1)));
    }

-- the same by the place of the text after the bracket
pub addressed_bracketed : (b front rest user last : List ℕ) → ColonCut b front rest → FreeOf at_sign last → front ≡ user ++ at_sign ∷ last → begins_with left_bracket last ≡ true → AddressedFront b user (drop (length user + 2) b)
addressed_bracketed b front rest user last cut none f begins =
    let (tail, is) = begins_cut left_bracket last begins in
    let suffix = at_sign ∷ (left_bracket ∷ (tail ++ colon ∷ rest)) in
    let whole : b ≡ user ++ suffix = cut.joined ∙ ap (λ t. t ++ colon ∷ rest) (f ∙ ap (λ t. user ++ at_sign ∷ t) is) ∙ append_assoc user (at_sign ∷ (left_bracket ∷ tail)) (colon ∷ rest) in
    let second : drop (length user + 2) b ≡ tail ++ colon ∷ rest = ap (drop (length user + 2)) whole ∙ drop-append-add user suffix 2 in
    let first : drop (length user) b ≡ at_sign ∷ (left_bracket ∷ drop (length user + 2) b) = ap (drop (length user)) whole ∙ drop_at user suffix (length user) refl ∙ ap (λ t. at_sign ∷ (left_bracket ∷ t)) (sym second) in
    addressed_cut_front b front rest user last _ cut.no_colon cut.joined none f first

-- the address and the text after it
addressed_pieces : (b user suffix address path u a p : List ℕ) → AddressedFront b user suffix → FreeOf right_bracket address → suffix ≡ address ++ right_bracket ∷ path → AddressedCut b u a p → (a ≡ address) × (colon ∷ p ≡ path)
addressed_pieces b user suffix address path u a p s free e h =
    cut_unique right_bracket a address (colon ∷ p) path (address_free right_bracket a refl h.addressed) free (sym (s.only u a p h).1 ∙ e)

-- no colon after the bracket
pub addressed_no_path : (b user suffix address path : List ℕ) → AddressedFront b user suffix → FreeOf right_bracket address → suffix ≡ address ++ right_bracket ∷ path → begins_with colon path ≡ false → ¬ HasAddressedCut b
addressed_no_path b user suffix address path s free e other (u, a, p, h) =
    false≢true (sym other ∙ ap (begins_with colon) (sym (addressed_pieces b user suffix address path u a p s free e h).1))

-- a `/` in the user, or no address
pub addressed_other : (b user suffix address path : List ℕ) → AddressedFront b user suffix → FreeOf right_bracket address → suffix ≡ address ++ right_bracket ∷ path → (FreeOf slash user → ¬ IsIpv6Text address) → ¬ HasAddressedCut b
addressed_other b user suffix address path s free e other (u, a, p, h) =
    let same = addressed_pieces b user suffix address path u a p s free e h in
    other (subst (λ t. FreeOf slash t) (s.only u a p h).0 h.no_slash) (subst IsIpv6Text same.0 h.addressed)

-- a front of a text without brackets has none
pub unbracketed_front : (b front rest : List ℕ) → b ≡ front ++ colon ∷ rest → LacksBrackets b → (begins_with left_bracket front ≡ false) ⊎ FreeOf right_bracket b
unbracketed_front b front rest e h = grind arith

-- ---- the answers

-- the scp form, from its pieces
pub plain_scp : (b front path : List ℕ) → IsNeither b → ¬ HasAddressedCut b → ScpCut b front path → PlainScp b front path
plain_scp b front path neither none h = record {
  form = record { joined = h.around.joined; neither = neither; no_slash = h.no_slash; form = h.around.form };
  not_addressed = λ (u, a, p, s). none (u, a, p, s.cut);
}

-- a local path, from the pieces that aren't there
pub local_form : (b : List ℕ) → 0 < length b → IsNeither b → ¬ HasAddressedCut b → ¬ HasScpCut b → LocalForm b
local_form b some neither none uncut = record {
  nonempty = some;
  neither = neither;
  no_scp = λ h. elim h [
    | inl (f, p, s) ↦ uncut (f, p, record { around = record { joined = s.joined; form = s.form }; no_slash = s.no_slash })
    | inr (u, a, p, s) ↦ none (u, a, p, s.cut)
  ];
}

-- a text with a colon isn't empty
pub colon_nonempty : (b front rest : List ℕ) → ColonCut b front rest → 0 < length b
colon_nonempty b front rest cut = omega (arith, ap length cut.joined, length-append front (colon ∷ rest))

-- ---- the refusals

-- a text whose length is tested to be 0 is empty
pub nil_tested : (t : List ℕ) → true ≡ (length t == 0) → t ≡ []
nil_tested t e = nil_from_length t (eqb-true (length t) 0 (sym e))

-- ---- remote helpers as text

-- a byte of a name is ASCII
pub name_byte_ascii : (b : ℕ) → is_name_byte b ≡ true → b < 128
name_byte_ascii b h = grind (arith, nat_tests)

-- the name of a helper is UTF-8
pub helper_name_utf8 : (name : List ℕ) → is_helper_name name ≡ true → IsUtf8 name
helper_name_utf8 name h = utf8_class is_name_byte name_byte_ascii name (helper_name_bytes name h)

-- ---- file URLs

-- no path without a `/`
pub no_file_path : (b rest : List ℕ) → UrlForm b (codes "file") rest → FreeOf slash rest → (v : Location) → ¬ SpellsFile b v
no_file_path b rest s free v h = grind (arith, nat_tests, begins_cut, not_free, append_cancel_left)

-- such a text misses its path
pub file_misses_path : (b rest : List ℕ) → UrlForm b (codes "file") rest → FreeOf slash rest → MissesPath b kind.Url
file_misses_path b rest s free = in_file rest free s.joined

-- the mark of a file URL is UTF-8
pub file_mark_utf8 : IsUtf8 (codes "file://")
unfolding encode
file_mark_utf8 = (codes "file://", (refl, refl))

-- the host is UTF-8
pub file_host_utf8 : (b rest host path : List ℕ) → UrlForm b (codes "file") rest → IsUtf8 b → rest ≡ host ++ path → begins_with slash path ≡ true → IsUtf8 host
file_host_utf8 b rest host path s text e rooted =
    let tail = utf8_after (codes "file://") rest (subst IsUtf8 s.joined text) file_mark_utf8 in
    let cut = begins_cut slash path rooted in
    (utf8_parts host cut.0 slash (subst IsUtf8 (e ∙ ap (λ x. host ++ x) cut.1) tail) (omega arith)).0

-- the host and the path of a file URL
pub file_found : (b rest host path : List ℕ) (v : Location) → UrlForm b (codes "file") rest → IsUtf8 b → FreeOf slash host → rest ≡ host ++ path → begins_with slash path ≡ true → v ≡ record (path_alone file false path) { host = unless_empty host } → SpellsFile b v
file_found b rest host path v s text free e rooted value = grind (arith, nat_tests)

-- ---- one form alone

-- joined texts aren't empty if one isn't
joined_nonempty : (x y : List ℕ) → 0 < length y → ¬ ([] ≡ x ++ y)
joined_nonempty x y h e = absurd (omega (arith, ap length e, length-append x y))

-- nothing spells nothing
pub empty_unspelled : (v : Location) → ¬ Spells [] v
empty_unspelled v h = grind (arith, nat_tests, joined_nonempty)

-- a text that has a mark isn't neither
pub url_form_not_neither : (b front rest : List ℕ) → UrlForm b front rest → ¬ IsNeither b
url_form_not_neither b front rest s n = n.no_mark (front, rest, s.joined)

-- the scheme of a URL is the text before the first `://`
pub url_pieces : (b front rest : List ℕ) (v : Location) → UrlForm b front rest → (h : SpellsUrl b v) → (h.parts.scheme ≡ front) × (h.spelled.authority ++ h.parts.path ≡ rest)
url_pieces b front rest v s h =
    mark_cut_unique h.parts.scheme front (h.spelled.authority ++ h.parts.path) rest (held_free h.parts.scheme (scheme_text_free h.parts.scheme colon h.spelled.scheme_text refl)) s.first (sym h.spelled.joined ∙ s.joined)

-- so does that of a file URL
pub file_pieces : (b front rest : List ℕ) (v : Location) → UrlForm b front rest → SpellsFile b v → codes "file" ≡ front
file_pieces b front rest v s h = (mark_cut_unique (codes "file") front (h.host ++ h.path) rest (held_free (codes "file") refl) s.first (sym h.joined ∙ s.joined)).0

-- a text with a scheme before `://` has the form of a URL
pub url_has_form : (b scheme rest : List ℕ) → FreeOf colon scheme → b ≡ scheme ++ (codes "://" ++ rest) → UrlForm b scheme rest
url_has_form b scheme rest free joined = record { no_helper = mark_no_helper b scheme rest free joined; first = held_free scheme free; joined = joined }

-- so has a file URL
pub form_of_file : {b : List ℕ} {v : Location} → (h : SpellsFile b v) → UrlForm b (codes "file") (h.host ++ h.path)
form_of_file {b} h = url_has_form b (codes "file") (h.host ++ h.path) refl h.joined

-- and any other URL
pub form_of_url : {b : List ℕ} {v : Location} → (h : SpellsUrl b v) → OtherUrlForm b h.parts.scheme (h.spelled.authority ++ h.parts.path)
form_of_url {b} h = record { form = url_has_form b h.parts.scheme (h.spelled.authority ++ h.parts.path) (url_scheme_free h) h.spelled.joined; not_file = h.spelled.not_file }

-- a file URL is spelled as one alone
pub spelled_as_file : (b rest : List ℕ) → UrlForm b (codes "file") rest → (v : Location) → Spells b v → SpellsFile b v
spelled_as_file b rest s v (url h) =
    absurd (both_ways (bytes_eq h.parts.scheme (codes "file")) h.spelled.not_file (ap (λ t. bytes_eq t (codes "file")) (url_pieces b (codes "file") rest v s h).0))
spelled_as_file b rest s v (file_url h) = h
spelled_as_file b rest s v (remote_helper h) = absurd (s.no_helper (h.name, h.address, h.parts))
spelled_as_file b rest s v (scp_form h) = absurd (url_form_not_neither b (codes "file") rest s (scp_neither h))
spelled_as_file b rest s v (local_path h) = absurd (url_form_not_neither b (codes "file") rest s h.neither)

-- so is any other URL
pub spelled_as_url : (b front rest : List ℕ) → OtherUrlForm b front rest → (v : Location) → Spells b v → SpellsUrl b v
spelled_as_url b front rest s v (url h) = h
spelled_as_url b front rest s v (file_url h) =
    absurd (both_ways (bytes_eq front (codes "file")) s.not_file (ap (λ t. bytes_eq t (codes "file")) (sym (file_pieces b front rest v s.form h))))
spelled_as_url b front rest s v (remote_helper h) = absurd (s.form.no_helper (h.name, h.address, h.parts))
spelled_as_url b front rest s v (scp_form h) = absurd (url_form_not_neither b front rest s.form (scp_neither h))
spelled_as_url b front rest s v (local_path h) = absurd (url_form_not_neither b front rest s.form h.neither)

-- a text in the form of a remote helper is spelled as one alone
pub spelled_as_helper : (b : List ℕ) → HasHelperForm b → (v : Location) → Spells b v → SpellsHelper b v
spelled_as_helper b s v (url h) = absurd ((form_of_url h).form.no_helper s)
spelled_as_helper b s v (file_url h) = absurd ((form_of_file h).no_helper s)
spelled_as_helper b s v (remote_helper h) = h
spelled_as_helper b s v (scp_form h) = absurd ((scp_neither h).no_helper s)
spelled_as_helper b s v (local_path h) = absurd (h.neither.no_helper s)

-- a text that is neither a helper nor a URL is spelled in the scp form or as a local path
spelled_neither : (b : List ℕ) → IsNeither b → (v : Location) → Spells b v → SpellsScp b v ⊎ SpellsLocal b v
spelled_neither b n v (url h) = absurd (url_not_neither h n)
spelled_neither b n v (file_url h) = absurd (file_not_neither h n)
spelled_neither b n v (remote_helper h) = absurd (n.no_helper (h.name, h.address, h.parts))
spelled_neither b n v (scp_form h) = inl h
spelled_neither b n v (local_path h) = inr h

-- with a shape of the scp form it is spelled in it alone
pub spelled_as_scp : (b : List ℕ) → IsNeither b → HasScpForm b → (v : Location) → Spells b v → SpellsScp b v
spelled_as_scp b n s v k = elim (spelled_neither b n v k) [ inl h ↦ h | inr h ↦ absurd (h.no_scp s) ]

-- and without one as a local path
pub spelled_as_local : (b : List ℕ) → IsNeither b → ¬ HasScpForm b → (v : Location) → Spells b v → SpellsLocal b v
spelled_as_local b n none v k = elim (spelled_neither b n v k) [ inl h ↦ absurd (none (scp_has_form h)) | inr h ↦ h ]

-- the same of the form `user@[address]:path`
pub spelled_as_addressed : (b user address path : List ℕ) → AddressedForm b user address path → (v : Location) → Spells b v → SpellsScp b v
spelled_as_addressed b user address path s = spelled_as_scp b s.neither (inr (user, address, path, s))

-- a URL that is too long, or no text, is none
pub unfit_url : (b front rest : List ℕ) → OtherUrlForm b front rest → ¬ Fits front rest → (v : Location) → ¬ SpellsUrl b v
unfit_url b front rest s unfit v h =
    let (front_is, rest_is) = url_pieces b front rest v s.form h in
    unfit (subst (λ t. Fits front t) rest_is (subst (λ t. Fits t (h.spelled.authority ++ h.parts.path)) front_is h.spelled.fits))
