-- IPv6 texts, as RFC 4291 section 2.2 writes them, and the literals of RFC 6874.
use Rattle.std.specs.Prelude.{◌≡◌, ℕ, ◌+◌, ◌<◌, ◌≤◌, Bool, true, false, ◌||◌, ◌⊎◌, List, [], ◌∷◌, ◌++◌, length, decimal, codes, IsUtf8}
use Rattle.std.specs.List.{list_all, join_with_byte}
use Rattle.std.specs.Char.{is_ascii_alphanumeric}
use Rattle.percent_encoding.specs.Percent.{percent_decode}
use Rattle.git_syntax.specs.Bytes.{dot, colon, lowercase, is_hexadecimal, is_one_of}
use Rattle.git_syntax.specs.Escapes.{is_sound}

-- a group: one to four hexadecimal digits
abbrev pub IsGroup : List ℕ → Type 0
IsGroup g = (0 < length g) × (length g ≤ 4) × (list_all is_hexadecimal g ≡ true)

-- a number from 0 to 255 in decimal, without leading zeros
abbrev pub IsOctet : List ℕ → Type 0
IsOctet t = (n : ℕ) × (n ≤ 255) × (t ≡ decimal n)

-- an IPv4 text: four decimal numbers up to 255 without leading zeros, joined by `.`
pub record IsIpv4Text (t : List ℕ) : Type 0 where
  pub first : List ℕ
  pub second : List ℕ
  pub third : List ℕ
  pub fourth : List ℕ
  pub octets : IsOctet first × IsOctet second × IsOctet third × IsOctet fourth
  pub joined : t ≡ first ++ dot ∷ (second ++ dot ∷ (third ++ dot ∷ fourth))

-- the items count for this many groups: each is a group, except that the last may be an IPv4 text if `ending`
-- holds; that counts for two
abbrev pub AreItems : Bool → List (List ℕ) → ℕ → Type 0
AreItems ending [] n = n ≡ 0
AreItems ending (t ∷ []) n = (IsGroup t × (n ≡ 1)) ⊎ ((ending ≡ true) × IsIpv4Text t × (n ≡ 2))
AreItems ending (t ∷ u ∷ us) n = IsGroup t × (m : ℕ) × AreItems ending (u ∷ us) m × (n ≡ m + 1)

-- eight groups
pub record IsFullAddress (t : List ℕ) : Type 0 where
  pub items : List (List ℕ)
  pub eight : AreItems true items 8
  pub joined : t ≡ join_with_byte colon items

-- two lists of groups around one `::`, which replaces at least one group
pub record IsShortAddress (t : List ℕ) : Type 0 where
  pub front : List (List ℕ)
  pub back : List (List ℕ)
  pub front_count : ℕ
  pub back_count : ℕ
  pub front_items : AreItems false front front_count
  pub back_items : AreItems true back back_count
  pub short : front_count + back_count ≤ 7
  pub joined : t ≡ join_with_byte colon front ++ colon ∷ (colon ∷ join_with_byte colon back)

-- an IPv6 text: eight groups, or fewer around one `::`; an IPv4 text may replace the last two
abbrev pub IsIpv6Text : List ℕ → Type 0
IsIpv6Text t = IsFullAddress t ⊎ IsShortAddress t

-- a byte of a zone: a letter, a digit, `-`, `.`, `_`, `~`, or the `%` of an escape
abbrev pub is_zone_byte : ℕ → Bool
is_zone_byte b = is_ascii_alphanumeric b || is_one_of (codes "-._~%") b

-- a zone
pub record IsZone (z : List ℕ) : Type 0 where
  pub nonempty : 0 < length z
  pub sound : is_sound z ≡ true
  pub bytes : list_all is_zone_byte z ≡ true
  pub text : IsUtf8 (percent_decode z)

-- a literal and its normal form: an address, or an address, `%25` and a zone; the address is lowercased, the
-- zone stays
pub data Literal (t : List ℕ) (normal : List ℕ) : Type 0 where
  address : IsIpv6Text t → normal ≡ lowercase t → Literal t normal
  zoned : (a z : List ℕ) → IsIpv6Text a → IsZone z → t ≡ a ++ (codes "%25" ++ z)
      → normal ≡ lowercase a ++ (codes "%25" ++ z) → Literal t normal
