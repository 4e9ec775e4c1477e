-- A hasher is fed the same only for equal values.
use Rattle.std.proofs.Common.{◌≡◌, ℕ, ◌<◌, Bool, List, ◌∷◌, ◌++◌, Option, IfSome, is_some, option_map, arith}
use Rattle.std.proofs.lemmas.Bool.Decides.{nat_tests}
use Rattle.std.specs.Hash as fed
use Rattle.std.specs.Hash.{HashWrites, le_bytes}
use mir.Val.{bool_byte}
use Rattle.git_syntax.specs.Location.{Scheme, Location}
use Rattle.git_location.specs.Settled.{IsValue}
use Rattle.git_laws.specs.Order.{rank, held_name, as_byte, there, fed_bytes, fed_part, fed_text, fed_scheme, outline, fed_location}

-- a part and the input that is fed after it
record Alike {K : Type 0} (x y : K) (us vs : HashWrites) : Type 0 where
  part : x ≡ y
  rest : us ≡ vs

text_apart : (xs ys : List ℕ) (us vs : HashWrites) → fed.str xs ++ us ≡ fed.str ys ++ vs → Alike xs ys us vs
text_apart xs ys us vs e = record { part = cc; rest = cc }

bytes_apart : (xs ys : List ℕ) (us vs : HashWrites) → fed_bytes xs ++ us ≡ fed_bytes ys ++ vs → Alike xs ys us vs
bytes_apart xs ys us vs e = record { part = cc; rest = cc }

-- 0 and 1 are two
two_numbers : (a b : ℕ) → a ≡ 0 → b ≡ 1 → ¬ (a ≡ b)
two_numbers a b p q e = omega arith

-- parts that may be missing, if both are there or both aren't
part_apart : {K : Type 0} (feed : K → HashWrites) (p q : Option K) (us vs : HashWrites) → ((x y : K) → (us vs : HashWrites) → feed x ++ us ≡ feed y ++ vs → Alike x y us vs) → there p ≡ there q → fed_part feed p ++ us ≡ fed_part feed q ++ vs → Alike p q us vs
part_apart feed p q us vs apart t e = grind arith

scheme_apart : (p q : Scheme) (us vs : HashWrites) → rank p ≡ rank q → fed_text (held_name p) ++ us ≡ fed_text (held_name q) ++ vs → Alike p q us vs
scheme_apart p q us vs kinds e = grind arith

flag_apart : (a b : Bool) → as_byte a ≡ as_byte b → a ≡ b
flag_apart a b e = grind arith

-- the numbers of ports that are fed alike are equal
port_number : (p q : ℕ) → p < 65536 → q < 65536 → le_bytes 2 p ≡ le_bytes 2 q → p ≡ q
unfolding le_bytes
port_number p q small other e = grind arith

port_apart : (p q : Option ℕ) (us vs : HashWrites) → IfSome p (λ n. n < 65536) → IfSome q (λ n. n < 65536) → there p ≡ there q → fed_part fed.u16 p ++ us ≡ fed_part fed.u16 q ++ vs → Alike p q us vs
port_apart p q us vs hp hq t e = grind (arith, nat_tests, two_numbers, port_number)

-- the equal parts of the outlines of two locations, and the input that is fed after them
record Outlined (v w : Location) (us vs : HashWrites) : Type 0 where
  scheme : rank v.scheme ≡ rank w.scheme
  user : there v.user ≡ there w.user
  password : there v.password ≡ there w.password
  host : there v.host ≡ there w.host
  flag : as_byte v.flag ≡ as_byte w.flag
  port : there v.port ≡ there w.port
  spelling : there v.spelling ≡ there w.spelling
  rest : us ≡ vs

outlines_apart : (v w : Location) (us vs : HashWrites) → outline v ∷ us ≡ outline w ∷ vs → Outlined v w us vs
outlines_apart v w us vs e = record { scheme = cc; user = cc; password = cc; host = cc; flag = cc; port = cc; spelling = cc; rest = cc }

-- ---- the input that the code feeds

-- a truth value is fed as a byte
pub byte_fed : (b : Bool) → bool_byte b ≡ as_byte b
byte_fed b = grind arith

-- a part is there, however it is seen
pub there_fed : {K J : Type 0} (see : K → J) (p : Option K) (b : Bool) → b ≡ is_some p → bool_byte b ≡ there (option_map see p)
there_fed see p b e = grind arith

-- ---- laws

-- inputs that are fed alike for two schemes are fed for one
pub schemes_apart : (p q : Scheme) → fed_scheme p ≡ fed_scheme q → p ≡ q
schemes_apart p q e = grind arith

-- the same of locations
pub locations_apart : (v w : Location) → IsValue v → IsValue w → fed_location v ≡ fed_location w → v ≡ w
locations_apart v w h2 h3 h4 = grind (arith, nat_tests, outlines_apart, scheme_apart, part_apart, text_apart, port_apart, bytes_apart, flag_apart)
