-- URLs that name another host: hosts that go on differently after a common front don't match, and the host of a URL
-- begins with the plain bytes at the front of its authority.
use Rattle.std.proofs.Common.{◌≡◌, ◌∙◌, ◌<◌, ℕ, Bool, true, false, ◌==◌, ◌⊎◌, inl, inr, List, [], ◌∷◌, ◌++◌, length, refl, sym, ap, subst, arith, append_assoc, Option, codes}
use Rattle.std.specs.List.{list_all}
use Rattle.std.specs.Char.{to_ascii_lowercase}
use Rattle.std.proofs.lemmas.Bool.{and_from, both_ways, cases_Bool, cond-false, eq-eqb, eqb-true, false≢true}
use Rattle.std.proofs.lemmas.Bool.Decides.{nat_tests}
use Rattle.std.proofs.lemmas.List.{append_cancel_left, length-append, map-append}
use Rattle.std.proofs.lemmas.List.Folds.{list_all-append}
use Rattle.git_syntax.specs.Bytes.{at_sign, colon, dot, percent_sign, FreeOf, Lacks, begins_by, begins_with, is_path_start, lowercase}
use Rattle.git_syntax.proofs.Texts.CutLemmas.{free_head_tail, free_of_all, heads, held_free, lacks_head_tail, lacks_of_all, lacks_parts, mark_cut_unique, not_free, scheme_text_free, tails}
use Rattle.git_syntax.proofs.Parsing.FormLemmas.{scheme_cut_unique}
use Rattle.git_class.specs.WebClass.{is_plain_host_byte}
use Rattle.git_class.proofs.Classes.WebClassLemmas.{plain_lowercase}
use Rattle.git_reads.specs.Credentials.{CredentialCut, CredentialDecodes, CredentialReading}
use Rattle.git_reads.specs.Git.{git_decode}
use Rattle.git_laws.proofs.GitReadings.GitCutLemmas.{no_git_escape}
use Rattle.git_rules.specs.Normal.{CutsPort, HostFor, HostPort, IsNormalOf, NormalAuthority, NormalPlace, asterisk, lacks_host}
use Rattle.git_rules.specs.OtherHosts.{DiffersPlainly, FollowsScheme, NamesOtherHost}
use Rattle.git_rules.specs.PartialUrls.{CutsProtocol, HasText, ReadsPartly}
use Rattle.git_rules.specs.Patterns.{in_first_label, labels_of, MatchesHost, MatchesLabel, MatchesLabels}
use Rattle.git_rules.proofs.NormalForms.NormalWebLemmas.{plain_there}
use Rattle.git_rules.proofs.Matched.HostLemmas.{labels_byte, labels_dot, not_empty_first}
use Rattle.git_rules.proofs.Matched.LabelLemmas.{labels_some}

-- ---- labels that differ

-- a label that begins with another byte than `*` denotes itself alone
itself : (b : ℕ) (wanted label : List ℕ) → (b == asterisk) ≡ false → MatchesLabel (b ∷ wanted) label → b ∷ wanted ≡ label
itself b wanted label other (inl star) = absurd (both_ways (b == asterisk) other (eq-eqb b asterisk (heads star)))
itself b wanted label other (inr same) = same

-- labels match none alone if there are none
none_alone : (wanted : List (List ℕ)) → MatchesLabels wanted [] → wanted ≡ []
none_alone [] h = refl
none_alone (own ∷ more) h = absurd h

-- an empty first label doesn't match one with a byte
empty_first : (c : ℕ) (more labels : List (List ℕ)) → MatchesLabels ([] ∷ more) (in_first_label c labels) → ⊥
empty_first c more [] (inl star, rest) = cc
empty_first c more [] (inr same, rest) = cc
empty_first c more (label ∷ labels) (inl star, rest) = cc
empty_first c more (label ∷ labels) (inr same, rest) = cc

-- a first label with a byte doesn't match an empty one
byte_first : (b : ℕ) (wanted more : List (List ℕ)) → (b == asterisk) ≡ false → MatchesLabels (in_first_label b wanted) ([] ∷ more) → ⊥
byte_first b [] more other h = let same = itself b [] [] other h.0 in cc
byte_first b (own ∷ wanted) more other h = let same = itself b own [] other h.0 in cc

-- first labels that match begin with the same byte
same_first : (b c : ℕ) (wanted labels : List (List ℕ)) → (b == asterisk) ≡ false → MatchesLabels (in_first_label b wanted) (in_first_label c labels) → b ≡ c
same_first b c [] [] other h = heads (itself b [] (c ∷ []) other h.0)
same_first b c [] (label ∷ labels) other h = heads (itself b [] (c ∷ label) other h.0)
same_first b c (own ∷ wanted) [] other h = heads (itself b own (c ∷ []) other h.0)
same_first b c (own ∷ wanted) (label ∷ labels) other h = heads (itself b own (c ∷ label) other h.0)

-- a host doesn't match one that begins with another byte, or is empty
apart_at_once : (b : ℕ) (more own : List ℕ) → (b == asterisk) ≡ false → begins_with b own ≡ false → MatchesHost (b ∷ more) own → ⊥
apart_at_once b more [] other apart h = labels_some b more (none_alone (labels_of (b ∷ more)) h)
apart_at_once b more (c ∷ cs) other apart h =
    elim (cases_Bool (b == dot)) [
      | inl one ↦ elim (cases_Bool (c == dot)) [
        | inl two ↦ both_ways (c == b) apart (eq-eqb c b (eqb-true c dot two ∙ sym (eqb-true b dot one)))
        | inr two ↦ empty_first c (labels_of more) (labels_of cs) (subst (λ z. MatchesLabels z (in_first_label c (labels_of cs))) (labels_dot b more one) (subst (MatchesLabels (labels_of (b ∷ more))) (labels_byte c cs two) h))
      ]
      | inr one ↦ elim (cases_Bool (c == dot)) [
        | inl two ↦ byte_first b (labels_of more) (labels_of cs) other (subst (λ z. MatchesLabels z ([] ∷ labels_of cs)) (labels_byte b more one) (subst (MatchesLabels (labels_of (b ∷ more))) (labels_dot c cs two) h))
        | inr two ↦ both_ways (c == b) apart (eq-eqb c b (sym (same_first b c (labels_of more) (labels_of cs) other (subst (λ z. MatchesLabels z (in_first_label c (labels_of cs))) (labels_byte b more one) (subst (MatchesLabels (labels_of (b ∷ more))) (labels_byte c cs two) h)))))
      ]
    ]

-- labels whose first got the same byte more match without it, or the other has none and the first is empty
without_byte : (d : ℕ) (wanted labels : List (List ℕ)) → (d == asterisk) ≡ false → ¬ (wanted ≡ []) → MatchesLabels (in_first_label d wanted) (in_first_label d labels) → MatchesLabels wanted labels ⊎ ((labels ≡ []) × ((more : List (List ℕ)) × (wanted ≡ [] ∷ more)))
without_byte d [] labels other some h = absurd (some refl)
without_byte d (own ∷ wanted) [] other some h =
    inr (refl, (wanted, ap (λ z. z ∷ wanted) (tails (itself d own (d ∷ []) other h.0))))
without_byte d (own ∷ wanted) (label ∷ labels) other some h = inl (inr (tails (itself d own (d ∷ label) other h.0)), h.1)

-- a text with a byte in it has a label
inside_some : (front more : List ℕ) (b : ℕ) → labels_of (front ++ b ∷ more) ≡ [] → ⊥
inside_some [] more b e = labels_some b more e
inside_some (d ∷ front) more b e = labels_some d (front ++ b ∷ more) e

-- after a host that ends, a byte other than `.` makes a label that isn't empty
longer_apart : (front more own : List ℕ) (b : ℕ) (labels : List (List ℕ)) → (own ≡ [] → (b == dot) ≡ false) → labels_of (front ++ own) ≡ [] → labels_of (front ++ b ∷ more) ≡ [] ∷ labels → ⊥
longer_apart [] more [] b labels no_end none first = not_empty_first b (labels_of more) labels (sym (labels_byte b more (no_end refl)) ∙ first)
longer_apart [] more (c ∷ cs) b labels no_end none first = labels_some c cs none
longer_apart (d ∷ front) more own b labels no_end none first = labels_some d (front ++ own) none

-- hosts that go on differently after a common front without `*` don't match
apart_after : (front more own : List ℕ) (b : ℕ) → FreeOf asterisk front → (b == asterisk) ≡ false → begins_with b own ≡ false → (own ≡ [] → (b == dot) ≡ false) → MatchesHost (front ++ b ∷ more) (front ++ own) → ⊥
apart_after [] more own b free other apart no_end h = apart_at_once b more own other apart h
apart_after (d ∷ front) more own b free other apart no_end h =
    let parts = free_head_tail asterisk d front free in
    elim (cases_Bool (d == dot)) [
      | inl same ↦
          let split : MatchesLabels ([] ∷ labels_of (front ++ b ∷ more)) ([] ∷ labels_of (front ++ own)) = subst (λ z. MatchesLabels z ([] ∷ labels_of (front ++ own))) (labels_dot d (front ++ b ∷ more) same) (subst (MatchesLabels (labels_of (d ∷ (front ++ b ∷ more)))) (labels_dot d (front ++ own) same) h) in
          apart_after front more own b parts.1 other apart no_end split.1
      | inr differs ↦
          let split = subst (λ z. MatchesLabels z (in_first_label d (labels_of (front ++ own)))) (labels_byte d (front ++ b ∷ more) differs) (subst (MatchesLabels (labels_of (d ∷ (front ++ b ∷ more)))) (labels_byte d (front ++ own) differs) h) in
          elim (without_byte d (labels_of (front ++ b ∷ more)) (labels_of (front ++ own)) parts.0 (inside_some front more b) split) [
            | inl rest ↦ apart_after front more own b parts.1 other apart no_end rest
            | inr (none, first) ↦ longer_apart front more own b first.0 no_end none first.1
          ]
    ]

-- ---- fronts of texts

-- a rest that is empty or begins with a byte of a class doesn't begin with another
begins_apart : (test : ℕ → Bool) (d : ℕ) (bs back : List ℕ) → test d ≡ false → (back ≡ []) ⊎ (begins_by test back ≡ true) → d ∷ bs ≡ back → ⊥
begins_apart test d bs back f stops e = grind arith

-- the text before a rest that begins with a byte of a class begins with each front of the whole that lacks the class
reaches : (test : ℕ → Bool) (q x front back : List ℕ) → Lacks test q → (back ≡ []) ⊎ (begins_by test back ≡ true) → q ++ x ≡ front ++ back → (z : List ℕ) × (front ≡ q ++ z)
reaches test [] x front back lacks stops e = (front, refl)
reaches test (b ∷ q) x [] back lacks stops e = absurd (begins_apart test b (q ++ x) back (lacks_head_tail test b q lacks).0 stops e)
reaches test (b ∷ q) x (c ∷ front) back lacks stops e =
    let rest : (z : List ℕ) × (front ≡ q ++ z) = reaches test q x front back (lacks_head_tail test b q lacks).1 stops (tails e) in
    let first : b ≡ c = heads e in
    (rest.0, cc (rest.1))

-- plain bytes don't start a path
plain_lacks_path : (q : List ℕ) → list_all is_plain_host_byte q ≡ true → Lacks (is_path_start true) q
plain_lacks_path q h = lacks_of_all is_plain_host_byte (is_path_start true) (λ b is. grind (arith, nat_tests)) q h

-- ---- the host of a normal form

-- the name of a host begins with each plain text at the front of the host and its port
name_front : (q z text name digits : List ℕ) → FreeOf colon q → text ≡ q ++ z → CutsPort text name digits → (y : List ℕ) × (name ≡ q ++ y)
name_front q z text name digits free is (CutsPort.no_colon none same empty) = (z, same ∙ is)
name_front q z text name digits free is (CutsPort.in_brackets x back joined none held same empty) = (z, same ∙ is)
name_front q z text name digits free is (CutsPort.at_colon joined none flat) =
    reaches (λ b. b == colon) q z name (colon ∷ digits) free (inr refl) (sym is ∙ joined)

-- the host begins so too
host_front : (q z scheme text name digits host : List ℕ) → 0 < length q → list_all is_plain_host_byte q ≡ true → text ≡ q ++ z → ((y : List ℕ) × (name ≡ q ++ y)) → HostFor scheme text name digits host → (y : List ℕ) × (host ≡ q ++ y)
host_front q z scheme text name digits host some plain is (y, begins) (HostFor.named there same) =
    (lowercase y, same ∙ ap lowercase begins ∙ map-append to_ascii_lowercase q y ∙ ap (λ t. t ++ lowercase y) (plain_lowercase q plain))
host_front q z scheme text name digits host some plain is (y, begins) (HostFor.missing lacking file none empty) =
    absurd (false≢true (sym (plain_there q z some plain) ∙ sym (ap lacks_host is) ∙ lacking))

-- an authority at the front of a text without `@` has no user information
free_authority : (text authority suffix : List ℕ) → FreeOf at_sign text → text ≡ authority ++ suffix → FreeOf at_sign authority
free_authority text authority suffix free is = (lacks_parts (λ b. b == at_sign) authority suffix (subst (FreeOf at_sign) is free)).0

-- so does the host of an authority without user information
authority_front : (q z scheme text host : List ℕ) (user : Option (List ℕ)) (port : Option ℕ) → 0 < length q → list_all is_plain_host_byte q ≡ true → FreeOf at_sign text → text ≡ q ++ z → NormalAuthority true scheme text user host port → (y : List ℕ) × (host ≡ q ++ y)
authority_front q z scheme text host user port some plain alone is (NormalAuthority.alone free none h) =
    host_front q z scheme text h.name h.digits host some plain is (name_front q z text h.name h.digits (free_of_all is_plain_host_byte colon q plain refl) is h.cut) h.host_form
authority_front q z scheme text host user port some plain alone is (NormalAuthority.with_user info rest name free joined sound of given h) =
    absurd (not_free at_sign info rest (subst (FreeOf at_sign) joined alone))

-- so does the host of a URL
normal_front : (url rest q x : List ℕ) (n : NormalPlace) → FollowsScheme url rest → FreeOf at_sign rest → 0 < length q → list_all is_plain_host_byte q ≡ true → rest ≡ q ++ x → IsNormalOf true url n → (y : List ℕ) × (n.host ≡ q ++ y)
normal_front url rest q x n follows alone some plain is h =
    let cut = scheme_cut_unique follows.scheme h.scheme rest (h.authority ++ h.suffix) (scheme_text_free follows.scheme colon follows.scheme_text refl) (scheme_text_free h.scheme colon h.cut.scheme_text refl) (sym follows.joined ∙ h.cut.joined) in
    let front = reaches (is_path_start true) q x h.authority h.suffix (plain_lacks_path q plain) h.cut.path_starts (sym is ∙ cut.1) in
    authority_front q front.0 (lowercase h.scheme) h.authority n.host n.user n.port some plain (free_authority rest h.authority h.suffix alone cut.1) front.1 h.authority_form

-- ---- the host of a text that may lack parts

-- a byte that isn't `%` is decoded to itself
decode_byte : (b : ℕ) (t : List ℕ) → (b == percent_sign) ≡ false → git_decode (b ∷ t) ≡ b ∷ git_decode t
decode_byte b [] other = refl
decode_byte b (c ∷ []) other = refl
decode_byte b (high ∷ low ∷ t) other = cond-false _ _ _ (no_git_escape b high low other)

-- a front without `%` is decoded to itself
decode_front : (q z : List ℕ) → FreeOf percent_sign q → git_decode (q ++ z) ≡ q ++ git_decode z
decode_front [] z free = refl
decode_front (b ∷ q) z free =
    let parts = free_head_tail percent_sign b q free in
    decode_byte b (q ++ z) parts.0 ∙ ap (λ t. b ∷ t) (decode_front q z parts.1)

-- a piece that begins with a plain text is decoded to one that does
decoded_front : (q z piece decoded : List ℕ) → list_all is_plain_host_byte q ≡ true → piece ≡ q ++ z → CredentialDecodes piece decoded → (y : List ℕ) × (decoded ≡ q ++ y)
decoded_front q z piece decoded plain is (CredentialDecodes.whole free same) =
    (git_decode z, same ∙ ap git_decode is ∙ decode_front q z (free_of_all is_plain_host_byte percent_sign q plain refl))
decoded_front q z piece decoded plain is (CredentialDecodes.suffix front rest free joined same) =
    let (y, longer) = reaches (λ b. b == colon) q z front (colon ∷ rest) (free_of_all is_plain_host_byte colon q plain refl) (inr refl) (sym is ∙ joined) in
    (y ++ colon ∷ git_decode rest, same ∙ ap (λ t. t ++ colon ∷ git_decode rest) longer ∙ append_assoc q y (colon ∷ git_decode rest))

-- an authority without `@` is a host alone
host_alone : (authority named : List ℕ) (user password : Option (List ℕ)) → FreeOf at_sign authority → CredentialCut authority user password named → named ≡ authority
host_alone authority named user password free (CredentialCut.host_alone none same without_user without) = same
host_alone authority named user password free (CredentialCut.user_alone u name at plain joined decodes some without) =
    absurd (not_free at_sign u named (subst (FreeOf at_sign) joined free))
host_alone authority named user password free (CredentialCut.with_password u w name secret at at' plain joined d d' some some') =
    absurd (not_free at_sign (u ++ colon ∷ w) named (subst (FreeOf at_sign) (joined ∙ sym (append_assoc u (colon ∷ w) (at_sign ∷ named))) free))

-- the rest after a scheme is the text that is cut after the protocol
partly_rest : (url rest protocol other : List ℕ) → FollowsScheme url rest → CutsProtocol url protocol other → rest ≡ other
partly_rest url rest protocol other follows (inl (none, empty, whole)) = absurd (none (follows.scheme, rest, follows.joined))
partly_rest url rest protocol other follows (inr (plain, joined)) =
    (mark_cut_unique follows.scheme protocol rest other (held_free follows.scheme (scheme_text_free follows.scheme colon follows.scheme_text refl)) plain (sym follows.joined ∙ joined)).1

-- the host of its parts begins with the plain text
partly_front : (url rest q x : List ℕ) (r : CredentialReading) → FollowsScheme url rest → FreeOf at_sign rest → list_all is_plain_host_byte q ≡ true → rest ≡ q ++ x → ReadsPartly url r → (y : List ℕ) × (r.host ≡ q ++ y)
partly_front url rest q x r follows alone plain is h =
    let whole = partly_rest url rest r.protocol (h.authority ++ h.suffix) follows h.cut.protocol_cut in
    let front = reaches (is_path_start true) q x h.authority h.suffix (plain_lacks_path q plain) h.cut.path_start (sym is ∙ whole) in
    let same = host_alone h.authority h.pieces.named r.user r.password (free_authority rest h.authority h.suffix alone whole) h.pieces.cut in
    decoded_front q front.0 h.pieces.named r.host plain (same ∙ front.1) h.pieces.host

-- ---- another host

-- a plain byte isn't `*`
plain_star : (b : ℕ) → is_plain_host_byte b ≡ true → (b == asterisk) ≡ false
plain_star b h = grind (arith, nat_tests)

-- a text with a byte in it isn't empty
nothing_before : (front y : List ℕ) (b : ℕ) → (front ++ b ∷ []) ++ y ≡ [] → ⊥
nothing_before [] y b e = cc
nothing_before (d ∷ front) y b e = cc

-- a text that begins with the front and the byte isn't the host
not_host : (front own y : List ℕ) (b : ℕ) → begins_with b own ≡ false → front ++ own ≡ (front ++ b ∷ []) ++ y → ⊥
not_host front own y b other e =
    let rest : own ≡ b ∷ y = append_cancel_left front own (b ∷ y) (e ∙ append_assoc front (b ∷ []) y) in
    false≢true (sym other ∙ ap (begins_with b) rest ∙ eq-eqb b b refl)

-- the URL names another host
pub names_other : (url rest host : List ℕ) → FollowsScheme url rest → FreeOf at_sign rest → DiffersPlainly rest host → NamesOtherHost url host
names_other url rest host follows alone d =
    let q = d.front ++ d.byte ∷ [] in
    let plain : list_all is_plain_host_byte q ≡ true = list_all-append is_plain_host_byte d.front (d.byte ∷ []) ∙ and_from _ _ d.plain_front (and_from _ _ d.plain_byte refl) in
    let some : 0 < length q = omega (arith, length-append d.front (d.byte ∷ [])) in
    let is : rest ≡ q ++ d.more = d.text_is ∙ sym (append_assoc d.front (d.byte ∷ []) d.more) in
    record {
      pattern = λ n h matches.
          let (y, begins) = normal_front url rest q d.more n follows alone some plain is h in
          let star : (d.byte == asterisk) ≡ false = plain_star d.byte d.plain_byte in
          let both = subst (λ z. MatchesHost z host) (begins ∙ append_assoc d.front (d.byte ∷ []) y) matches in
          apart_after d.front y d.own d.byte (free_of_all is_plain_host_byte asterisk d.front d.plain_front refl) star d.other d.no_end (subst (MatchesHost (d.front ++ d.byte ∷ y)) d.host_is both);
      parts = λ r h has.
          let (y, begins) = partly_front url rest q d.more r follows alone plain is h in
          elim has [
            | inl empty ↦ nothing_before d.front y d.byte (sym begins ∙ empty)
            | inr same ↦ not_host d.front d.own y d.byte d.other (sym d.host_is ∙ same ∙ begins)
          ];
    }

-- after one common byte more the rest differs
pub further : (text host front rest own more others : List ℕ) (byte first : ℕ) → text ≡ front ++ rest → host ≡ front ++ own → list_all is_plain_host_byte front ≡ true → rest ≡ byte ∷ more → own ≡ first ∷ others → first ≡ byte → is_plain_host_byte byte ≡ true → (longer : List ℕ) × (text ≡ longer ++ more) × (host ≡ longer ++ others) × (list_all is_plain_host_byte longer ≡ true)
further text host front rest own more others byte first is own_is plain rest_is first_is same good = (
  front ++ byte ∷ [],
  is ∙ ap (λ z. front ++ z) rest_is ∙ sym (append_assoc front (byte ∷ []) more),
  own_is ∙ ap (λ z. front ++ z) first_is ∙ ap (λ b. front ++ b ∷ others) same ∙ sym (append_assoc front (byte ∷ []) others),
  list_all-append is_plain_host_byte front (byte ∷ []) ∙ and_from _ _ plain (and_from _ _ good refl),
)
