-- A text that may lack parts is read in one way.
use Rattle.std.proofs.Common.{◌≡◌, ◌∙◌, ℕ, true, inl, inr, List, ◌++◌, codes, Option, Bool, IsTrue, ◌↔◌, sym, ap, subst, refl, arith}
use Rattle.git_syntax.specs.Bytes.{FreeOf, Lacks, StartsPath, is_path_start}
use Rattle.git_syntax.proofs.Texts.CutLemmas.{free-append, free_parts, held_free, mark_cut_unique}
use Rattle.git_reads.specs.Credentials.{CredentialReading, ReadsPieces, CutsText}
use Rattle.git_reads.proofs.Reading.CredentialUniqueLemmas.{one_of_pieces}
use Rattle.git_rules.specs.PartialUrls.{CutsPartly, CutsProtocol, FitsPartly, HasParts, LackNewlines, ReadsPartly}

-- the protocol and the rest of a text are one
protocol_same : (t p q x y : List ℕ) → CutsProtocol t p x → CutsProtocol t q y → (p ≡ q) × (x ≡ y)
protocol_same t p q x y (inl (none, empty, whole)) (inl (_, empty', whole')) = (empty ∙ sym empty', whole ∙ sym whole')
protocol_same t p q x y (inl (none, empty, whole)) (inr (plain, joined)) = absurd (none (q, y, joined))
protocol_same t p q x y (inr (plain, joined)) (inl (none, empty, whole)) = absurd (none (p, x, joined))
protocol_same t p q x y (inr (plain, joined)) (inr (plain', joined')) = mark_cut_unique p q x y plain plain' (sym joined ∙ joined')

-- the rest of a text without byte 0 has none
rest_whole : (t p x : List ℕ) → FreeOf 0 t → CutsProtocol t p x → FreeOf 0 x
rest_whole t p x whole (inl (none, empty, is)) = subst (λ z. FreeOf 0 z) (sym is) whole
rest_whole t p x whole (inr (plain, joined)) =
    let suffix = (free_parts 0 p (codes "://" ++ x) (subst (λ z. FreeOf 0 z) joined whole)).1 in
    (free_parts 0 (codes "://") x suffix).1

-- a protocol, of no meaning here, before a rest makes it a text
abbrev before_rest : List ℕ → List ℕ
before_rest rest = codes "x" ++ (codes "://" ++ rest)

-- the same reading, with that protocol
abbrev Named : CredentialReading → CredentialReading
Named r = record r { protocol = codes "x" }

-- how that text is cut
named_cut : (rest authority suffix : List ℕ) → FreeOf 0 rest → rest ≡ authority ++ suffix → Lacks (is_path_start true) authority → StartsPath true suffix → CutsText (before_rest rest) (codes "x") authority suffix
named_cut rest authority suffix whole is before start = record {
  whole = free-append 0 (codes "x://") rest refl whole;
  some = omega arith;
  no_mark = held_free (codes "x") refl;
  joined = ap before_rest is;
  before_path = before;
  path_start = start;
}

-- the reading in pieces doesn't depend on the protocol
named_pieces : (authority suffix : List ℕ) (r : CredentialReading) → ReadsPieces authority suffix r → ReadsPieces authority suffix (Named r)
named_pieces authority suffix r h = record { named = h.named; cut = h.cut; host = h.host; path = h.path }

-- a text that may lack parts is read in one way
pub partly_unique : (t : List ℕ) (r other : CredentialReading) → ReadsPartly t r → ReadsPartly t other → r ≡ other
partly_unique t r other h k =
    let rest = h.authority ++ h.suffix in
    let cuts = protocol_same t r.protocol other.protocol rest (k.authority ++ k.suffix) h.cut.protocol_cut k.cut.protocol_cut in
    let whole = rest_whole t r.protocol rest h.whole h.cut.protocol_cut in
    let same : Named r ≡ Named other = one_of_pieces (before_rest rest) h.authority h.suffix k.authority k.suffix (Named r) (Named other) (named_cut rest h.authority h.suffix whole refl h.cut.before_path h.cut.path_start) (named_pieces h.authority h.suffix r h.pieces) (named_cut rest k.authority k.suffix whole cuts.1 k.cut.before_path k.cut.path_start) (named_pieces k.authority k.suffix other k.pieces) in
    λ i. record {
      protocol = cuts.0 i;
      user = ap (λ (z : CredentialReading). z.user) same i;
      password = ap (λ (z : CredentialReading). z.password) same i;
      host = ap (λ (z : CredentialReading). z.host) same i;
      path = ap (λ (z : CredentialReading). z.path) same i;
    }

-- the reading decides whether the text fits
pub fits_read : (t : List ℕ) (wanted own : CredentialReading) (user : Option (List ℕ)) → ReadsPartly t wanted → FitsPartly t own user → LackNewlines wanted × HasParts wanted own user
fits_read t wanted own user reads (other, also, lines, parts) =
    let same = partly_unique t other wanted also reads in
    (subst LackNewlines same lines, subst (λ z. HasParts z own user) same parts)

-- the reading in the pieces of a text
pub reads_partly : (t protocol authority suffix : List ℕ) (wanted : CredentialReading) → FreeOf 0 t → CutsPartly t protocol authority suffix → wanted.protocol ≡ protocol → ReadsPieces authority suffix wanted → ReadsPartly t wanted
reads_partly t protocol authority suffix wanted whole cut same pieces = record {
  authority = authority;
  suffix = suffix;
  whole = whole;
  cut = subst (λ p. CutsPartly t p authority suffix) (sym same) cut;
  pieces = pieces;
}

-- so it is decided whether the text fits
pub decided_partly : (t : List ℕ) (wanted own : CredentialReading) (user : Option (List ℕ)) (suits : Bool) → ReadsPartly t wanted → (IsTrue suits ↔ (LackNewlines wanted × HasParts wanted own user)) → IsTrue suits ↔ FitsPartly t own user
decided_partly t wanted own user suits reads (to, from) = (
  λ on. (wanted, reads, (to on).0, (to on).1),
  λ fits. from (fits_read t wanted own user reads fits),
)
