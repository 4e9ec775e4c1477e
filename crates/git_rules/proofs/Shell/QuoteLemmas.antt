-- The words that a shell reads in a text in Git's quotes: the text; and in a program with such a text after
-- it.
use Rattle.std.proofs.Common.{◌≡◌, ◌∙◌, ℕ, Bool, true, false, ◌==◌, List, [], ◌∷◌, ◌++◌, Option, Some, None, refl, ap, arith, append_assoc, inl, inr}
use Rattle.std.specs.Prelude.{flat_map, if◌then◌else◌}
use Rattle.std.proofs.lemmas.Bool.{cases_Bool, or_parts}
use Rattle.std.proofs.lemmas.Bool.Decides.{nat_tests}
use Rattle.git_syntax.specs.Bytes.{newline, space, backslash}
use Rattle.git_rules.specs.declared.ssh.Service.{Service}
use Rattle.git_rules.specs.declared.ssh.Service.TheVariants.{UploadPack, ReceivePack, UploadArchive}
use Rattle.git_rules.specs.ShellWords.{Place, single_quote, words_from, shell_words, is_shell_special, in_word, is_unquoted, quoted_byte, sq_quote, prepended, past_end}
use Rattle.git_rules.specs.ShellWords.Place.{between, bare, quoted, escaped}
use Rattle.git_rules.specs.SecureShell.{service_name, remote_command}

-- a byte that is written after a `\` ends no line
unquoted_no_line : (b : ℕ) → is_unquoted b ≡ true → (b == newline) ≡ false
unquoted_no_line b h = grind (arith, nat_tests)

-- a byte after a `\`, with the quotes closed before it and opened after it
unquoted_read : (b : ℕ) (rest : List ℕ) → (b == newline) ≡ false → words_from quoted (single_quote ∷ 92 ∷ b ∷ single_quote ∷ rest) ≡ prepended b (words_from quoted rest)
unquoted_read b rest no_line = rw no_line refl

-- a byte in the quotes
inside_read : (b : ℕ) (rest : List ℕ) → (b == single_quote) ≡ false → words_from quoted (b ∷ rest) ≡ prepended b (words_from quoted rest)
inside_read b rest other = rw other refl

-- a byte of a quoted text is read as itself
byte_read : (b : ℕ) (rest : List ℕ) → words_from quoted (quoted_byte b ++ rest) ≡ prepended b (words_from quoted rest)
byte_read b rest = elim (cases_Bool (is_unquoted b)) [
  | inl is ↦ rw is (unquoted_read b rest (unquoted_no_line b is))
  | inr other ↦ rw other (inside_read b rest (or_parts _ _ other).0)
]

-- all of a quoted text is read as itself
quoted_read : (text : List ℕ) → words_from quoted (flat_map quoted_byte text ++ single_quote ∷ []) ≡ Some (text ∷ [])
quoted_read [] = refl
quoted_read (b ∷ text) =
    ap (λ t. words_from quoted t) (append_assoc (quoted_byte b) (flat_map quoted_byte text) (single_quote ∷ []))
    ∙ byte_read b (flat_map quoted_byte text ++ single_quote ∷ []) ∙ ap (λ r. prepended b r) (quoted_read text)

-- a shell reads one word in a quoted path
pub path_read : (path : List ℕ) → shell_words (sq_quote path) ≡ Some (path ∷ [])
path_read path = quoted_read path

-- ---- words before a space

-- if the first are words, the second are these and more of them
abbrev Goes : List (List ℕ) → Option (List (List ℕ)) → Option (List (List ℕ)) → Type 0
Goes more a b = (words : List (List ℕ)) → a ≡ Some words → b ≡ Some (words ++ more)

-- known words are the words
words_known : (a b : List (List ℕ)) → Some a ≡ Some b → a ≡ b
words_known a b h = cc

-- the same of either of two, by a test
if_goes : (more : List (List ℕ)) (t : Bool) (a b c d : Option (List (List ℕ))) → Goes more a b → Goes more c d → Goes more (if t then a else c) (if t then b else d)
if_goes more true a b c d f g = f
if_goes more false a b c d f g = g

none_goes : (more : List (List ℕ)) (b : Option (List (List ℕ))) → Goes more None b
none_goes more b words h = absurd (cc)

-- of words with a byte before the first
byte_goes : (more : List (List ℕ)) (b : ℕ) (x y : Option (List (List ℕ))) → Goes more x y → Goes more (prepended b x) (prepended b y)
byte_goes more b None y f words h = absurd (cc)
byte_goes more b (Some []) y f words h = absurd (cc)
byte_goes more b (Some (w ∷ ws)) y f words h =
    ap (prepended b) (f (w ∷ ws) refl) ∙ ap (λ k. Some (k ++ more)) (words_known ((b ∷ w) ∷ ws) words h)

-- of words after one that ends
end_goes : (more : List (List ℕ)) (x y : Option (List (List ℕ))) → Goes more x y → Goes more (past_end x) (past_end y)
end_goes more None y f words h = absurd (cc)
end_goes more (Some ws) y f words h =
    ap past_end (f ws refl) ∙ ap (λ k. Some (k ++ more)) (words_known ([] ∷ ws) words h)

-- of words from a byte outside of quotes on
word_goes : (more : List (List ℕ)) (b : ℕ) (f g : Place → Option (List (List ℕ))) → ((p : Place) → Goes more (f p) (g p)) → Goes more (in_word b f) (in_word b g)
word_goes more b f g h =
    if_goes more (b == single_quote) (f quoted) (g quoted) _ _ (h quoted) (if_goes more (b == backslash) (f escaped) (g escaped) _ _ (h escaped) (if_goes more (is_shell_special b) None None (prepended b (f bare)) (prepended b (g bare)) (none_goes more None) (byte_goes more b (f bare) (g bare) (h bare))))

-- a shell reads the words of a text before a space as it reads them in the text alone
words_on : (place : Place) (text rest : List ℕ) (more : List (List ℕ)) → words_from between rest ≡ Some more → Goes more (words_from place text) (words_from place (text ++ space ∷ rest))
words_on between [] rest more k words h = k ∙ ap (λ w. Some (w ++ more)) (words_known [] words h)
words_on bare [] rest more k words h = ap past_end k ∙ ap (λ w. Some (w ++ more)) (words_known ([] ∷ []) words h)
words_on quoted [] rest more k words h = absurd (cc)
words_on escaped [] rest more k words h = absurd (cc)
words_on between (b ∷ text) rest more k words h =
    let all = text ++ space ∷ rest in
    if_goes more (b == space) (words_from between text) (words_from between all) (in_word b (λ p. words_from p text)) (in_word b (λ p. words_from p all)) (words_on between text rest more k) (word_goes more b (λ p. words_from p text) (λ p. words_from p all) (λ p. words_on p text rest more k)) words h
words_on bare (b ∷ text) rest more k words h =
    let all = text ++ space ∷ rest in
    if_goes more (b == space) (past_end (words_from between text)) (past_end (words_from between all)) (in_word b (λ p. words_from p text)) (in_word b (λ p. words_from p all)) (end_goes more (words_from between text) (words_from between all) (words_on between text rest more k)) (word_goes more b (λ p. words_from p text) (λ p. words_from p all) (λ p. words_on p text rest more k)) words h
words_on quoted (b ∷ text) rest more k words h =
    let all = text ++ space ∷ rest in
    if_goes more (b == single_quote) (words_from bare text) (words_from bare all) (prepended b (words_from quoted text)) (prepended b (words_from quoted all)) (words_on bare text rest more k) (byte_goes more b (words_from quoted text) (words_from quoted all) (words_on quoted text rest more k)) words h
words_on escaped (b ∷ text) rest more k words h =
    let all = text ++ space ∷ rest in
    if_goes more (b == newline) None None (prepended b (words_from bare text)) (prepended b (words_from bare all)) (none_goes more None) (byte_goes more b (words_from bare text) (words_from bare all) (words_on bare text rest more k)) words h

-- ---- the remote command

-- a shell reads the program's words in the remote command, and the path
pub program_read : (program path : List ℕ) (words : List (List ℕ)) → shell_words program ≡ Some words → shell_words (remote_command program path) ≡ Some (words ++ path ∷ [])
program_read program path words h = words_on between program (sq_quote path) (path ∷ []) (path_read path) words h

-- and so the service and the path
pub two_words : (service : Service) (path : List ℕ) → shell_words (remote_command (service_name service) path) ≡ Some (service_name service ∷ path ∷ [])
two_words UploadPack path = program_read (service_name UploadPack) path (service_name UploadPack ∷ []) refl
two_words ReceivePack path = program_read (service_name ReceivePack) path (service_name ReceivePack ∷ []) refl
two_words UploadArchive path = program_read (service_name UploadArchive) path (service_name UploadArchive ∷ []) refl
