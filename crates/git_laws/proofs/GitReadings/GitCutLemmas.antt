-- How Git decodes texts without byte 0, and cuts texts without brackets and those whose host is in brackets.
use Rattle.std.proofs.Common.{◌≡◌, ◌∙◌, ℕ, ◌<◌, ◌≤◌, Bool, true, false, List, [], ◌∷◌, ◌++◌, length, decimal, Option, Some, None, IfSome, if◌then◌else◌, not, ◌==◌, nat_le, eq-eqb, inl, inr, refl, sym, ap, subst, arith, append_assoc, append-nil}
use Rattle.std.specs.List.{list_all}
use Rattle.std.specs.Char.{is_ascii_digit}
use Rattle.std.specs.Str.Parse.{digits_value}
use Rattle.std.proofs.lemmas.Bool.{cases_Bool, cond-true, cond-false, and_left, and_right, and_from, false≢true, both_ways, and_parts}
use Rattle.std.proofs.lemmas.Bool.Decides.{nat_tests}
use Rattle.percent_encoding.specs.Percent.{is_escape, percent_decode}
use Rattle.git_syntax.specs.Bytes.{percent_sign, colon, at_sign, left_bracket, right_bracket, plus_sign, hyphen, FreeOf, Holds, is_c_space}
use Rattle.git_syntax.specs.Hosts.{HoldsTwoColons, port_part, raw_user}
use Rattle.git_syntax.specs.Hosts.HostSyntax.{git_hosts}
use Rattle.git_reads.specs.Git.{escaped_byte, is_git_escape, git_decode, host_mark, OpensHost, BracketCut, LacksHostBrackets, HostEnd, CutsPlace, digits_port, negative_port, signed_port, git_port, BeforePort, HostAndPort, SecurePort}
use Rattle.git_syntax.proofs.Texts.CutLemmas.{heads, tails, not_free, free_parts, free_head_tail, free_begins, free_or_cut, free-append, free-cons}
use Rattle.git_syntax.proofs.Parsing.HostLemmas.{number_written}

-- ---- brackets

-- no bracket opens a host in a text without `[`
no_host_mark : (t : List ℕ) → FreeOf left_bracket t → ¬ Holds host_mark t
no_host_mark t free (front, rest, e) =
    let there : FreeOf left_bracket (front ++ (host_mark ++ rest)) = subst (λ x. FreeOf left_bracket x) e free in
    false≢true (sym (free_parts left_bracket front (host_mark ++ rest) there).1)

-- nor in one that begins with it and has no second one
no_mark_after : (t : List ℕ) → FreeOf left_bracket t → ¬ Holds host_mark (left_bracket ∷ t)
no_mark_after t free ([], rest, e) = both_ways (left_bracket == at_sign) refl (eq-eqb left_bracket at_sign (heads e))
no_mark_after t free (b ∷ front, rest, e) = no_host_mark t free (front, rest, tails e)

-- so no host is in brackets
pub lacks_brackets : (t : List ℕ) → FreeOf left_bracket t → LacksHostBrackets t
lacks_brackets t free = LacksHostBrackets.unopened (no_host_mark t free) (free_begins left_bracket t free)

-- so nothing of it is passed over
pub nothing_passed : (t : List ℕ) → FreeOf left_bracket t → HostEnd t [] t
nothing_passed t free = HostEnd.none (lacks_brackets t free) refl refl

-- and it is cut at its first c
pub place_cut : (c : ℕ) (t place rest : List ℕ) → FreeOf left_bracket t → FreeOf c place → t ≡ place ++ c ∷ rest → CutsPlace c t place rest
place_cut c t place rest free first e = record {
  passed = [];
  between = place;
  end = HostEnd.none (lacks_brackets t free) refl (sym e);
  first = first;
  joined = refl;
}

-- after a user, or at the front, a bracket opens a host if no second one follows
opens_host : (user : Option (List ℕ)) (rest : List ℕ) → FreeOf left_bracket (raw_user user) → FreeOf left_bracket rest → OpensHost (raw_user user ++ left_bracket ∷ rest) (raw_user user) rest
opens_host None rest free suffix = OpensHost.at_front (no_mark_after rest suffix) refl refl
opens_host (Some u) rest free suffix =
    OpensHost.after_at u (no_host_mark u (free_parts left_bracket u (at_sign ∷ []) free).0) refl (append_assoc u (at_sign ∷ []) (left_bracket ∷ rest))

-- the next bracket closes it
in_brackets : (user : Option (List ℕ)) (inside suffix t : List ℕ) → t ≡ raw_user user ++ left_bracket ∷ (inside ++ right_bracket ∷ suffix) → FreeOf left_bracket (raw_user user) → FreeOf left_bracket (inside ++ right_bracket ∷ suffix) → FreeOf right_bracket inside → BracketCut t (raw_user user) inside suffix
in_brackets user inside suffix t e free left right =
    subst (λ x. BracketCut x (raw_user user) inside suffix) (sym e) record { opened = opens_host user (inside ++ right_bracket ∷ suffix) free left; next = right }

-- a user, a host in brackets and the text after these
abbrev pub bracketed_place : Option (List ℕ) → List ℕ → List ℕ → List ℕ
bracketed_place user inside between = raw_user user ++ left_bracket ∷ (inside ++ right_bracket ∷ between)

-- with a text after it
bracketed_joined : (user : Option (List ℕ)) (inside between rest : List ℕ) → bracketed_place user inside between ++ rest ≡ raw_user user ++ left_bracket ∷ (inside ++ right_bracket ∷ (between ++ rest))
bracketed_joined user inside between rest = grind (arith, nat_tests, append_assoc)

-- such a text is cut at the first c after the brackets
pub bracketed_cut : (c : ℕ) (user : Option (List ℕ)) (inside between rest : List ℕ) → FreeOf left_bracket (raw_user user) → FreeOf left_bracket (inside ++ right_bracket ∷ (between ++ c ∷ rest)) → FreeOf right_bracket inside → FreeOf c (right_bracket ∷ between) → CutsPlace c (bracketed_place user inside between ++ c ∷ rest) (bracketed_place user inside between) rest
bracketed_cut c user inside between rest free left right first = record {
  passed = raw_user user ++ left_bracket ∷ inside;
  between = right_bracket ∷ between;
  end = HostEnd.brackets (raw_user user) inside (between ++ c ∷ rest) (in_brackets user inside (between ++ c ∷ rest) (bracketed_place user inside between ++ c ∷ rest) (bracketed_joined user inside between (c ∷ rest)) free left right) refl refl;
  first = first;
  joined = sym (append_assoc (raw_user user) (left_bracket ∷ inside) (right_bracket ∷ between));
}

-- ---- escapes

-- no escape begins with another byte than `%`
pub no_git_escape : (b high low : ℕ) → (b == percent_sign) ≡ false → is_git_escape b high low ≡ false
no_git_escape b high low other = rw other refl

-- a text without `%` is decoded to itself
pub git_decode_kept : (t : List ℕ) → FreeOf percent_sign t → git_decode t ≡ t
git_decode_kept [] free = refl
git_decode_kept (b ∷ []) free = refl
git_decode_kept (b ∷ c ∷ []) free = refl
git_decode_kept (b ∷ high ∷ low ∷ rest) free =
    let parts = free_head_tail percent_sign b (high ∷ low ∷ rest) free in
    cond-false _ _ _ (no_git_escape b high low parts.0) ∙ ap (λ x. b ∷ x) (git_decode_kept (high ∷ low ∷ rest) parts.1)

-- no byte of an escape is byte 0
escape_bytes : (b high low : ℕ) → is_escape b high low ≡ true → ((b == 0) ≡ false) × ((high == 0) ≡ false) × ((low == 0) ≡ false)
escape_bytes b high low escape = (grind (arith, nat_tests), grind (arith, nat_tests), grind (arith, nat_tests))

-- a text that decodes to one without byte 0 is decoded to that, and has none itself
pub git_decoded : (t : List ℕ) → FreeOf 0 (percent_decode t) → (git_decode t ≡ percent_decode t) × FreeOf 0 t
unfolding percent_decode
git_decoded [] free = (refl, refl)
git_decoded (b ∷ []) free = (refl, free)
git_decoded (b ∷ c ∷ []) free = (refl, free)
git_decoded (b ∷ high ∷ low ∷ rest) free =
    elim (cases_Bool (is_escape b high low)) [
      | inl escape ↦
          let e : percent_decode (b ∷ high ∷ low ∷ rest) ≡ escaped_byte high low ∷ percent_decode rest = cond-true _ _ _ escape in
          let parts = free_head_tail 0 (escaped_byte high low) (percent_decode rest) (subst (λ t. FreeOf 0 t) e free) in
          let suffix = git_decoded rest parts.1 in
          let (first, second, third) = escape_bytes b high low escape in (
            cond-true _ _ _ (and_from _ _ escape (ap not parts.0)) ∙ ap (λ t. escaped_byte high low ∷ t) suffix.0 ∙ sym e,
            free-cons 0 b (high ∷ low ∷ rest) first (free-cons 0 high (low ∷ rest) second (free-cons 0 low rest third suffix.1)),
          )
      | inr other ↦
          let e : percent_decode (b ∷ high ∷ low ∷ rest) ≡ b ∷ percent_decode (high ∷ low ∷ rest) = cond-false _ _ _ other in
          let parts = free_head_tail 0 b (percent_decode (high ∷ low ∷ rest)) (subst (λ t. FreeOf 0 t) e free) in
          let suffix = git_decoded (high ∷ low ∷ rest) parts.1 in
          (cond-false _ _ _ (and_left _ _ other) ∙ ap (λ t. b ∷ t) suffix.0 ∙ sym e, free-cons 0 b (high ∷ low ∷ rest) parts.0 suffix.1)
    ]

-- ---- ports

-- a text with a colon isn't a port
digits_colon : (x y : List ℕ) → list_all is_ascii_digit (x ++ colon ∷ y) ≡ false
digits_colon [] y = refl
digits_colon (b ∷ x) y = and_right (is_ascii_digit b) _ (digits_colon x y)

-- so it is none without a sign
digits_port_colon : (x y : List ℕ) → digits_port (x ++ colon ∷ y) ≡ None
digits_port_colon [] y = refl
digits_port_colon (b ∷ x) y = cond-false _ _ _ (and_left _ _ (digits_colon (b ∷ x) y))

-- nor with one, whichever it is
signed_by : (plus minus : Bool) (b : ℕ) (bs : List ℕ) → digits_port bs ≡ None → digits_port (b ∷ bs) ≡ None → (if plus then digits_port bs else (if minus then negative_port (digits_port bs) else digits_port (b ∷ bs))) ≡ None
signed_by plus minus b bs h4 h5 = grind (arith, nat_tests)

-- nor with a sign
signed_port_colon : (x y : List ℕ) → signed_port (x ++ colon ∷ y) ≡ None
signed_port_colon [] y = refl
signed_port_colon (b ∷ x) y =
    signed_by (b == plus_sign) (b == hyphen) b (x ++ colon ∷ y) (digits_port_colon x y) (digits_port_colon (b ∷ x) y)

-- nor after white space
spaced_by : (space : Bool) (b : ℕ) (bs : List ℕ) → git_port bs ≡ None → signed_port (b ∷ bs) ≡ None → (if space then git_port bs else signed_port (b ∷ bs)) ≡ None
spaced_by true b bs suffix whole = suffix
spaced_by false b bs suffix whole = whole

-- so it is none for C's `strtol`
git_port_colon : (x y : List ℕ) → git_port (x ++ colon ∷ y) ≡ None
git_port_colon [] y = refl
git_port_colon (b ∷ x) y = spaced_by (is_c_space b) b (x ++ colon ∷ y) (git_port_colon x y) (signed_port_colon (b ∷ x) y)

-- digits are a port if their value is one
digit_begins : (b : ℕ) → is_ascii_digit b ≡ true → (is_c_space b ≡ false) × ((b == plus_sign) ≡ false) × ((b == hyphen) ≡ false)
digit_begins b digit = (grind (arith, nat_tests), grind (arith, nat_tests), grind (arith, nat_tests))

-- a number that is small enough passes the test
small_value : (n : ℕ) → n ≤ 65535 → nat_le n 65535 ≡ true
small_value n small = grind (arith, nat_tests)

-- digits whose value is small enough are read as it
git_port_digits : (t : List ℕ) → 0 < length t → list_all is_ascii_digit t ≡ true → digits_value 10 t ≤ 65535 → git_port t ≡ Some (digits_value 10 t)
git_port_digits [] some digits small = absurd (omega arith)
git_port_digits (b ∷ bs) some digits small =
    let (space, plus, minus) = digit_begins b (and_parts (is_ascii_digit b) (list_all is_ascii_digit bs) digits).0 in
    cond-false _ _ _ space ∙ cond-false _ _ _ plus ∙ cond-false _ _ _ minus ∙ cond-true _ _ _ (and_from _ _ digits (small_value (digits_value 10 (b ∷ bs)) small))

-- the digits with which a port is written spell that port
pub git_port_written : (port : ℕ) → port < 65536 → git_port (decimal port) ≡ Some port
git_port_written port small =
    let number = number_written git_hosts port small tt in
    git_port_digits (decimal port) number.digits.0 number.digits.1 (subst (λ n. n ≤ 65535) number.value number.within) ∙ ap Some (sym number.value)

-- ---- hosts

-- of two colons one follows the first
second_colon : (a b x y z : List ℕ) → FreeOf colon a → a ++ colon ∷ b ≡ x ++ colon ∷ (y ++ colon ∷ z) → (p : List ℕ) × (q : List ℕ) × (b ≡ p ++ colon ∷ q)
second_colon [] b [] y z free e = (y, z, tails e)
second_colon [] b (d ∷ x) y z free e = (x, y ++ colon ∷ z, tails e)
second_colon (c ∷ a) b [] y z free e = absurd (both_ways (c == colon) (free_head_tail colon c a free).0 (eq-eqb c colon (heads e)))
second_colon (c ∷ a) b (d ∷ x) y z free e = second_colon a b x y z (free_head_tail colon c a free).1 (tails e)

-- the word names itself, and no port
pub record IsPortless (word : List ℕ) : Type 0 where
  pub before : BeforePort word word None
  pub secure : SecurePort word None word None

-- a word without a colon names no port
pub portless_free : (word : List ℕ) → FreeOf colon word → IsPortless word
portless_free word free = record { before = BeforePort.no_colon free refl refl; secure = SecurePort.no_colon refl free refl refl }

-- a text with a colon in it holds something
pub some_after : (p q : List ℕ) → 0 < length (p ++ colon ∷ q)
some_after [] q = omega arith
some_after (b ∷ p) q = omega arith

-- nor does one with a colon after its first one
portless_cut : (word host other p q : List ℕ) → FreeOf colon host → word ≡ host ++ colon ∷ other → other ≡ p ++ colon ∷ q → IsPortless word
portless_cut word host other p q free e suffix =
    let none : git_port other ≡ None = ap git_port suffix ∙ git_port_colon p q in
    let some : 0 < length other = subst (λ t. 0 < length t) (sym suffix) (some_after p q) in record {
      before = BeforePort.unmarked host other free e some none refl refl;
      secure = SecurePort.unmarked host other refl free e none refl refl;
    }

-- nor does a front with such a host
pub portless_coloned : (front host : List ℕ) → FreeOf colon front → HoldsTwoColons host → IsPortless (front ++ host)
portless_coloned front host free (x, y, z, e) =
    elim (free_or_cut colon host) [
      | inl none ↦ absurd (not_free colon x (y ++ colon ∷ z) (subst (λ t. FreeOf colon t) e none))
      | inr (a, b, first, cut) ↦
          let (p, q, suffix) = second_colon a b x y z first (sym cut ∙ e) in
          portless_cut (front ++ host) (front ++ a) b p q (free-append colon front a free first) (ap (λ t. front ++ t) cut ∙ sym (append_assoc front a (colon ∷ b))) suffix
    ]

-- a place is read as a word and the port that is written after it
pub record ReadsPlace (place word : List ℕ) (port : Option ℕ) : Type 0 where
  pub cut : HostAndPort place word port
  pub secure : SecurePort word port word port

-- if there is a port, the word has no colon
pub place_with_port : (word : List ℕ) (port : ℕ) → port < 65536 → FreeOf colon word → FreeOf left_bracket (word ++ port_part (Some port)) → ReadsPlace (word ++ port_part (Some port)) word (Some port)
place_with_port word port small free unbracketed = record {
  cut = HostAndPort.none (lacks_brackets (word ++ port_part (Some port)) unbracketed) (BeforePort.marked (decimal port) port free refl (git_port_written port small) refl);
  secure = SecurePort.outside port refl refl refl;
}

-- without one the word names none
pub place_without_port : (word : List ℕ) → IsPortless word → FreeOf left_bracket word → ReadsPlace (word ++ port_part None) word None
place_without_port word portless unbracketed = record {
  cut = subst (λ t. HostAndPort t word None) (sym (append-nil word)) (HostAndPort.none (lacks_brackets word unbracketed) portless.before);
  secure = portless.secure;
}

-- after the brackets the port is marked
port_after : (port : Option ℕ) → IfSome port (λ p. p < 65536) → BeforePort (port_part port) [] port
port_after None small = BeforePort.no_colon refl refl refl
port_after (Some p) small = BeforePort.marked (decimal p) p refl refl (git_port_written p small) refl

-- and if it isn't, the word names none
secure_after : (word : List ℕ) (port : Option ℕ) → IsPortless word → SecurePort word port word port
secure_after word None portless = portless.secure
secure_after word (Some p) portless = SecurePort.outside p refl refl refl

-- so the word of a host in brackets is user and host, whatever colons the host has
pub place_in_brackets : (user : Option (List ℕ)) (inside : List ℕ) (port : Option ℕ) → IfSome port (λ p. p < 65536) → FreeOf left_bracket (raw_user user) → FreeOf left_bracket (inside ++ right_bracket ∷ port_part port) → FreeOf right_bracket inside → IsPortless (raw_user user ++ inside) → ReadsPlace (bracketed_place user inside (port_part port)) (raw_user user ++ inside) port
place_in_brackets user inside port small free left right portless = record {
  cut = HostAndPort.brackets (raw_user user) inside (port_part port) [] (in_brackets user inside (port_part port) (bracketed_place user inside (port_part port)) refl free left right) refl (port_after port small);
  secure = secure_after (raw_user user ++ inside) port portless;
}

-- a text with such brackets isn't one whose first colon follows a word without them
pub bracket_first : (front suffix word rest : List ℕ) → FreeOf colon front → FreeOf left_bracket word → ¬ (front ++ left_bracket ∷ suffix ≡ word ++ colon ∷ rest)
bracket_first [] suffix [] rest free plain e = both_ways (left_bracket == colon) refl (eq-eqb left_bracket colon (heads e))
bracket_first [] suffix (b ∷ word) rest free plain e =
    both_ways (b == left_bracket) (free_head_tail left_bracket b word plain).0 (eq-eqb b left_bracket (sym (heads e)))
bracket_first (b ∷ front) suffix [] rest free plain e =
    both_ways (b == colon) (free_head_tail colon b front free).0 (eq-eqb b colon (heads e))
bracket_first (b ∷ front) suffix (c ∷ word) rest free plain e =
    bracket_first front suffix word rest (free_head_tail colon b front free).1 (free_head_tail left_bracket c word plain).1 (tails e)
