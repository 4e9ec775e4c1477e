-- The bytes of plain words, hosts, ports and paths, and that none of them is written as an escape.
use Rattle.std.proofs.Common.{◌≡◌, ◌∙◌, ◌+◌, ◌<◌, ◌==◌, ℕ, Bool, true, false, not, ◌&&◌, IsUtf8, List, [], ◌∷◌, ◌++◌, bit_and, drop, get_or, length, inl, inr, refl, sym, ap, subst, arith, decimal}
use Rattle.std.specs.List.{list_all}
use Rattle.std.proofs.lemmas.Bool.{agree_below_at, and_from, and_parts, false≢true}
use Rattle.std.proofs.lemmas.Bool.Decides.{nat_tests}
use Rattle.std.proofs.lemmas.List.{at_drop_more}
use Rattle.std.proofs.lemmas.Fmt.{decimal_is_IsNumeral}
use Rattle.std.proofs.lemmas.List.Folds.{list_all-append}
use Rattle.std.specs.Char.{digit_value}
use Rattle.percent_encoding.specs.declared.ascii_set.AsciiSet.{AsciiSet}
use Rattle.percent_encoding.specs.AsciiSet.{contains}
use Rattle.percent_encoding.specs.Percent.{percent_encode}
use Rattle.percent_encoding.proofs.AsciiSetLemmas.{kept_from_outside}
use Rattle.percent_encoding.proofs.PercentLemmas.{percent_encode-nil, percent_encode_kept}
use Rattle.git_syntax.specs.declared.escape.TheConstants.{PATH, PASSWORD, USER}
use Rattle.git_syntax.specs.Bytes.{Lacks, dot}
use Rattle.git_syntax.specs.Addresses.{IsOctet}
use Rattle.git_syntax.proofs.Addresses.AddressLemmas.{digits_pass}
use Rattle.git_syntax.proofs.Texts.EscapeLemmas.{utf8_class}
use Rattle.git_syntax.proofs.Texts.CutLemmas.{all_weaker, lacks_of_all}
use Rattle.git_readers.proofs.PartLemmas.{no_cons}
use Rattle.git_readers.specs.declared.classes.TheConstants.{CLASS}
use Rattle.git_readers.specs.Unambiguous.{AreLabels, IsCommonHost, is_label_byte, is_odd_local, is_path_byte, is_scp_byte, is_unreserved}

-- ---- tests

-- an unreserved byte is one of a path
pub unreserved_path : (b : ℕ) → is_unreserved b ≡ true → is_path_byte b ≡ true
unreserved_path b h = grind (arith, nat_tests)

-- a byte of the scp form is one of a path
pub scp_path : (b : ℕ) → is_scp_byte b ≡ true → is_path_byte b ≡ true
scp_path b h = grind (arith, nat_tests)

-- a byte of a label is an unreserved one
label_unreserved : (b : ℕ) → is_label_byte b ≡ true → is_unreserved b ≡ true
label_unreserved b h = grind (arith, nat_tests)

-- so is a digit
digit_unreserved : (b : ℕ) → digit_value b < 10 → is_unreserved b ≡ true
digit_unreserved b h = grind (arith, nat_tests)

-- and it is one of a label
digit_label : (b : ℕ) → digit_value b < 10 → is_label_byte b ≡ true
digit_label b h = grind (arith, nat_tests)

-- the bytes of paths are ASCII
path_ascii : (b : ℕ) → is_path_byte b ≡ true → b < 128
path_ascii b h = grind (arith, nat_tests)

scp_ascii : (b : ℕ) → is_scp_byte b ≡ true → b < 128
scp_ascii b h = path_ascii b (scp_path b h)

-- no reader takes a local path for something else by a byte of the scp form
scp_even : (b : ℕ) → is_scp_byte b ≡ true → is_odd_local b ≡ false
scp_even b h = sym (ap (λ x. x && is_odd_local b) h) ∙ agree_below_at (λ d. is_scp_byte d && is_odd_local d) (λ d. false) 128 b refl (scp_ascii b h)

-- a text of such bytes is a plain local path
pub local_plain : (t : List ℕ) → list_all is_scp_byte t ≡ true → IsUtf8 t × Lacks is_odd_local t
local_plain t all = (utf8_class is_scp_byte scp_ascii t all, lacks_of_all is_scp_byte is_odd_local scp_even t all)

-- ---- the table of classes

-- the byte has the flag in the table
abbrev pub has_flag : ℕ → ℕ → Bool
has_flag flag b = not (bit_and (get_or CLASS b 0) flag == 0)

-- the table is held against the definitions at each of the 256 bytes, by computing
pub path_class : (b : ℕ) → b < 256 → has_flag 1 b ≡ is_path_byte b
path_class b small = agree_below_at (has_flag 1) is_path_byte 256 b refl small

pub scp_class : (b : ℕ) → b < 256 → has_flag 2 b ≡ is_scp_byte b
scp_class b small = agree_below_at (has_flag 2) is_scp_byte 256 b refl small

pub word_class : (b : ℕ) → b < 256 → has_flag 4 b ≡ is_unreserved b
word_class b small = agree_below_at (has_flag 4) is_unreserved 256 b refl small

-- the bytes so far and the next one pass a test, and those after it, as the bytes so far and the rest do
pub all_step : (test : ℕ → Bool) (so_far : Bool) (t : List ℕ) (i : ℕ) → i < length t → ((so_far && test (get_or t i 0)) && list_all test (drop (i + 1) t)) ≡ (so_far && list_all test (drop i t))
all_step test true t i within = sym (at_drop_more (list_all test) t i 0 within)
all_step test false t i within = refl

-- ---- texts

-- a text with a byte in it isn't empty
some_after : (a : List ℕ) (b : ℕ) (x : List ℕ) → ¬ (a ++ b ∷ x ≡ [])
some_after [] b x e = no_cons e
some_after (d ∷ a) b x e = no_cons e

-- two texts of such bytes are one together
pub all-append : (test : ℕ → Bool) (x y : List ℕ) → list_all test x ≡ true → list_all test y ≡ true → list_all test (x ++ y) ≡ true
all-append test x y front back = list_all-append test x y ∙ and_from _ _ front back

-- labels aren't empty
no_empty_labels : ¬ AreLabels []
no_empty_labels (AreLabels.last _ plain letter) = false≢true letter
no_empty_labels (AreLabels.more _ label rest plain others joined) = some_after label dot rest (sym joined)

-- a test that the bytes of labels and dots pass
pub record PassesHosts (test : ℕ → Bool) : Type 0 where
  pub label : (b : ℕ) → is_label_byte b ≡ true → test b ≡ true
  pub dot : test dot ≡ true

-- labels with dots between them pass it
labels_pass : (test : ℕ → Bool) → PassesHosts test → (host : List ℕ) → AreLabels host → list_all test host ≡ true
labels_pass test passes host (AreLabels.last _ plain letter) = all_weaker is_label_byte test passes.label host plain.bytes
labels_pass test passes host (AreLabels.more _ label rest plain others joined) =
    subst (λ h. list_all test h ≡ true) (sym joined) (all-append test label (dot ∷ rest) (all_weaker is_label_byte test passes.label label plain.bytes) (and_from _ _ passes.dot (labels_pass test passes rest others)))

-- and an octet
octet_pass : (test : ℕ → Bool) → PassesHosts test → (t : List ℕ) → IsOctet t → list_all test t ≡ true
octet_pass test passes t (n, small, is) = subst (λ x. list_all test x ≡ true) (sym is) (digits_pass 10 test (λ b digit. passes.label b (digit_label b digit)) (decimal n) ((decimal_is_IsNumeral n (omega (arith, small))).0.1))

-- an octet and the text after it after a dot
octet_before : (test : ℕ → Bool) → PassesHosts test → (t rest : List ℕ) → IsOctet t → list_all test rest ≡ true → list_all test (t ++ dot ∷ rest) ≡ true
octet_before test passes t rest octet plain = all-append test t (dot ∷ rest) (octet_pass test passes t octet) (and_from _ _ passes.dot plain)

-- so does a plain host
pub host_pass : (test : ℕ → Bool) → PassesHosts test → (host : List ℕ) → IsCommonHost host → list_all test host ≡ true
host_pass test passes host (inl name) = labels_pass test passes host name.labels
host_pass test passes host (inr a) =
    subst (λ h. list_all test h ≡ true) (sym a.joined) (octet_before test passes a.first _ a.octets.0 (octet_before test passes a.second _ a.octets.1 (octet_before test passes a.third _ a.octets.2 (octet_pass test passes a.fourth a.octets.3))))

-- a plain host is of unreserved bytes
pub host_plain : (host : List ℕ) → IsCommonHost host → list_all is_unreserved host ≡ true
host_plain host plain = host_pass is_unreserved record { label = label_unreserved; dot = refl } host plain

-- it isn't empty: a label begins with a byte, and a dot follows an octet
pub no_empty_host : ¬ IsCommonHost []
no_empty_host (inl name) = no_empty_labels name.labels
no_empty_host (inr a) = some_after a.first dot _ (sym a.joined)

-- the digits of a port are unreserved bytes, too
pub port_plain : (n : ℕ) → n < 65536 → list_all is_unreserved (decimal n) ≡ true
port_plain n small = digits_pass 10 is_unreserved digit_unreserved (decimal n) ((decimal_is_IsNumeral n (omega (arith, small))).0.1)

-- unreserved bytes are bytes of a path
pub plain_path : (t : List ℕ) → list_all is_unreserved t ≡ true → list_all is_path_byte t ≡ true
plain_path t all = all_weaker is_unreserved is_path_byte unreserved_path t all

-- ---- escapes

-- a text is written as it is whose bytes pass a test that no escaped byte of ASCII passes
unescaped : (set : AsciiSet) (test : ℕ → Bool) → ((b : ℕ) → test b ≡ true → b < 128) → ((b : ℕ) → b < 128 → (test b && contains set b) ≡ false) → (t : List ℕ) → list_all test t ≡ true → percent_encode set t ≡ t
unescaped set test ascii outside [] all = percent_encode-nil set
unescaped set test ascii outside (b ∷ bs) all =
    let parts = and_parts (test b) (list_all test bs) all in
    let small = ascii b parts.0 in
    let free : contains set b ≡ false = sym (ap (λ x. x && contains set b) parts.0) ∙ outside b small in
    percent_encode_kept set b bs (kept_from_outside set b small free) ∙ ap (λ x. b ∷ x) (unescaped set test ascii outside bs parts.1)

-- no byte of a path is escaped in a path
path_outside : (b : ℕ) → b < 128 → (is_path_byte b && contains PATH b) ≡ false
path_outside b ascii = agree_below_at (λ d. is_path_byte d && contains PATH d) (λ d. false) 128 b refl ascii

-- no unreserved byte is escaped in a user
user_outside : (b : ℕ) → b < 128 → (is_unreserved b && contains USER b) ≡ false
user_outside b ascii = agree_below_at (λ d. is_unreserved d && contains USER d) (λ d. false) 128 b refl ascii

-- nor in a password
password_outside : (b : ℕ) → b < 128 → (is_unreserved b && contains PASSWORD b) ≡ false
password_outside b ascii = agree_below_at (λ d. is_unreserved d && contains PASSWORD d) (λ d. false) 128 b refl ascii

-- an unreserved byte is ASCII, too
unreserved_ascii : (b : ℕ) → is_unreserved b ≡ true → b < 128
unreserved_ascii b h = path_ascii b (unreserved_path b h)

-- a plain path is written as it is
pub path_kept : (t : List ℕ) → list_all is_path_byte t ≡ true → percent_encode PATH t ≡ t
path_kept t all = unescaped PATH is_path_byte path_ascii path_outside t all

-- so is a plain word as a user
pub user_kept : (t : List ℕ) → list_all is_unreserved t ≡ true → percent_encode USER t ≡ t
user_kept t all = unescaped USER is_unreserved unreserved_ascii user_outside t all

-- and as a password
pub password_kept : (t : List ℕ) → list_all is_unreserved t ≡ true → percent_encode PASSWORD t ≡ t
password_kept t all = unescaped PASSWORD is_unreserved unreserved_ascii password_outside t all
