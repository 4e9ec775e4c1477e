-- The reading of a text by Git's credential code: its pieces, paths without slashes around them, and lines.
use Rattle.std.proofs.Common.{◌≡◌, ◌∙◌, ℕ, suc, ◌+◌, ◌≤◌, true, false, ◌==◌, inl, inr, List, [], ◌∷◌, ◌++◌, length, take, Option, Some, None, refl, sym, ap, subst, append_assoc, arith}
use Rattle.std.proofs.lemmas.Bool.{and_from, and_parts, cases_Bool, cond-false, cond-true, eqb-true}
use Rattle.std.proofs.lemmas.Bool.Decides.{nat_tests}
use Rattle.git_syntax.specs.Bytes.{slash, colon, at_sign, FreeOf, Holds}
use Rattle.git_reads.specs.Credentials.{AreOneLine, CredentialDecodes, CredentialCut, CredentialReading, CredentialReads, are_slashes, without_last_slashes, trimmed_path, ReadsPieces, CutsText}
use Rattle.git_reads.specs.Internal.{CutsInformation, DecodesPart, LacksTextCut}
use Rattle.git_syntax.proofs.Texts.CutLemmas.{free_parts, mark_cut_unique}
use Rattle.git_syntax.specs.Internal.Cuts.{url_mark}
use Rattle.git_reads.specs.Git.{git_decode}
use Rattle.git_reads.proofs.Reading.CredentialUniqueLemmas.{one_of_parts}

-- ---- pieces

-- a text that begins with its `://` isn't cut
pub none_before_mark : (t protocol rest : List ℕ) → ¬ Holds url_mark protocol → t ≡ protocol ++ (url_mark ++ rest) → length protocol ≡ 0 → LacksTextCut t
none_before_mark t protocol rest plain e empty other authority suffix cut =
    let same = mark_cut_unique protocol other rest (authority ++ suffix) plain cut.no_mark (sym e ∙ cut.joined) in
    absurd (omega (arith, empty, ap length same.0, cut.some))

-- an authority with a user and a password
pub cut_with_password : (authority information named user password : List ℕ) → FreeOf at_sign information → authority ≡ information ++ at_sign ∷ named → FreeOf colon user → information ≡ user ++ colon ∷ password → CutsInformation authority (Some user) (Some password) named
cut_with_password authority information named user password free e plain e' =
    let parts = free_parts at_sign user (colon ∷ password) (subst (λ t. FreeOf at_sign t) e' free) in
    let rest = free_parts at_sign (colon ∷ []) password parts.1 in
    CutsInformation.with_password user password parts.0 rest.1 plain (e ∙ ap (λ t. t ++ at_sign ∷ named) e' ∙ append_assoc user (colon ∷ password) (at_sign ∷ named)) refl refl

-- ---- decoding

-- the text before the first colon, the colon and the text after it, decoded, one after the other
pub decoded_after : (piece front rest cleared put marked out : List ℕ) → FreeOf colon front → piece ≡ front ++ colon ∷ rest → cleared ≡ [] → put ≡ cleared ++ front → marked ≡ put ++ colon ∷ [] → out ≡ marked ++ git_decode rest → CredentialDecodes piece out
decoded_after piece front rest cleared put marked out free e empty first second third =
    let begun : put ≡ front = first ∙ ap (λ t. t ++ front) empty in
    CredentialDecodes.suffix front rest free e (third ∙ ap (λ t. t ++ git_decode rest) (second ∙ ap (λ t. t ++ colon ∷ []) begun) ∙ append_assoc front (colon ∷ []) (git_decode rest))

-- no piece, no part
none_decoded : (piece part : Option (List ℕ)) → DecodesPart piece part → piece ≡ None → part ≡ None
none_decoded piece part (DecodesPart.absent e none) h = none
none_decoded piece part (DecodesPart.present s d decodes e some) h = cc

-- a piece and its part
some_decoded : (piece part : Option (List ℕ)) (spelled : List ℕ) → DecodesPart piece part → piece ≡ Some spelled → (decoded : List ℕ) × CredentialDecodes spelled decoded × (part ≡ Some decoded)
some_decoded piece part spelled (DecodesPart.absent e none) h = cc
some_decoded piece part spelled (DecodesPart.present s d decodes e some) h =
    let same : s ≡ spelled = cc in
    (d, subst (λ t. CredentialDecodes t d) same decodes, some)

-- the pieces of an authority, decoded
pub cut_decoded : (authority : List ℕ) (spelled_user spelled_password user password : Option (List ℕ)) (named : List ℕ) → CutsInformation authority spelled_user spelled_password named → DecodesPart spelled_user user → DecodesPart spelled_password password → CredentialCut authority user password named
cut_decoded a u w user password named (CutsInformation.host_alone free e none without) d c =
    CredentialCut.host_alone free e (none_decoded u user d none) (none_decoded w password c without)
cut_decoded a u w user password named (CutsInformation.user_alone name at plain e some without) d c =
    let users = some_decoded u user name d some in
    CredentialCut.user_alone name users.0 at plain e users.1 users.2 (none_decoded w password c without)
cut_decoded a u w user password named (CutsInformation.with_password name secret at at' plain e some given) d c =
    let users = some_decoded u user name d some in
    let words = some_decoded w password secret c given in
    CredentialCut.with_password name secret users.0 words.0 at at' plain e users.1 words.1 users.2 words.2

-- ---- the text

-- the reading of a text whose parts are of one line each
pub reading_of_pieces : (t protocol authority suffix : List ℕ) (r : CredentialReading) → CutsText t protocol authority suffix → r.protocol ≡ protocol → ReadsPieces authority suffix r → AreOneLine r → CredentialReads t r
reading_of_pieces t protocol authority suffix r cut same pieces lines =
    let own : CutsText t r.protocol authority suffix = subst (λ p. CutsText t p authority suffix) (sym same) cut in
    record { found = record { authority = authority; suffix = suffix; cut = own; pieces = pieces }; lines = lines }

-- nothing is read in a text of which a part is of several lines
pub unread_of_pieces : (t protocol authority suffix : List ℕ) (r : CredentialReading) → CutsText t protocol authority suffix → r.protocol ≡ protocol → ReadsPieces authority suffix r → ¬ AreOneLine r → (other : CredentialReading) → ¬ CredentialReads t other
unread_of_pieces t protocol authority suffix r cut same pieces several other h =
    let own : CutsText t r.protocol authority suffix = subst (λ p. CutsText t p authority suffix) (sym same) cut in
    let one = one_of_parts t other r h.found record { authority = authority; suffix = suffix; cut = own; pieces = pieces } in
    several (subst (λ x. AreOneLine x) one h.lines)

-- ---- slashes

-- a text of slashes with one more
pub more_slashes : (slashes : List ℕ) → are_slashes slashes ≡ true → are_slashes (slashes ++ slash ∷ []) ≡ true
more_slashes [] h = refl
more_slashes (b ∷ bs) h =
    let parts = and_parts (b == slash) (are_slashes bs) h in
    and_from _ _ parts.0 (more_slashes bs parts.1)

-- a text that isn't of slashes isn't with one more
fewer_slashes : (slashes : List ℕ) → are_slashes slashes ≡ false → are_slashes (slashes ++ slash ∷ []) ≡ false
fewer_slashes [] h = h
fewer_slashes (b ∷ bs) h = grind (arith, nat_tests, fewer_slashes bs)

-- a text of slashes that isn't empty ends in one
slashes_end : (b : ℕ) (bs : List ℕ) → are_slashes (b ∷ bs) ≡ true → (front : List ℕ) × (b ∷ bs ≡ front ++ slash ∷ [])
slashes_end b [] h = ([], ap (λ d. d ∷ []) (eqb-true b slash (and_parts (b == slash) true h).0))
slashes_end b (c ∷ bs) h =
    let rest = slashes_end c bs (and_parts (b == slash) (are_slashes (c ∷ bs)) h).1 in
    (b ∷ rest.0, ap (λ t. b ∷ t) rest.1)

-- nothing is left of slashes
none_left : (b : ℕ) (bs : List ℕ) → are_slashes (b ∷ bs) ≡ true → without_last_slashes (b ∷ bs) ≡ []
none_left b bs h = cond-true _ _ _ h

-- the first byte of any other text is left
first_left : (b : ℕ) (bs : List ℕ) → are_slashes (b ∷ bs) ≡ false → without_last_slashes (b ∷ bs) ≡ b ∷ without_last_slashes bs
first_left b bs h = cond-false _ _ _ h

-- a slash at the end is left out
pub last_slash : (front : List ℕ) → without_last_slashes (front ++ slash ∷ []) ≡ without_last_slashes front
last_slash [] = refl
last_slash (b ∷ bs) =
    elim (cases_Bool (are_slashes (b ∷ bs))) [
      | inl all ↦ none_left b (bs ++ slash ∷ []) (more_slashes (b ∷ bs) all) ∙ sym (none_left b bs all)
      | inr other ↦
          first_left b (bs ++ slash ∷ []) (fewer_slashes (b ∷ bs) other) ∙ ap (λ t. b ∷ t) (last_slash bs) ∙ sym (first_left b bs other)
    ]

-- a text that ends in no slash is left whole
pub no_last_slash : (t : List ℕ) → ((front : List ℕ) → ¬ (t ≡ front ++ slash ∷ [])) → without_last_slashes t ≡ t
no_last_slash [] h = refl
no_last_slash (b ∷ bs) h =
    elim (cases_Bool (are_slashes (b ∷ bs))) [
      | inl all ↦ absurd (h (slashes_end b bs all).0 (slashes_end b bs all).1)
      | inr other ↦ first_left b bs other ∙ ap (λ t. b ∷ t) (no_last_slash bs (λ front e. h (b ∷ front) (ap (λ t. b ∷ t) e)))
    ]

-- the rest is the front of the text
pub left_front : (t : List ℕ) → (length (without_last_slashes t) ≤ length t) × (take (length (without_last_slashes t)) t ≡ without_last_slashes t)
left_front [] = (omega arith, refl)
left_front (b ∷ bs) =
    elim (cases_Bool (are_slashes (b ∷ bs))) [
      | inl all ↦ rw (none_left b bs all) (omega arith, refl)
      | inr other ↦
          let rest = left_front bs in
          rw (first_left b bs other) (omega (arith, rest.0), ap (λ t. b ∷ t) rest.1)
    ]

-- a path is as long as its first byte and the rest after it, or longer
pub trimmed_fits : (path rest kept : List ℕ) (b : ℕ) → path ≡ b ∷ rest → kept ≡ without_last_slashes rest → 1 + length kept ≤ length path
trimmed_fits path rest kept b e left = omega (arith, ap length e, ap length left, (left_front rest).0)

-- and these are its front
pub trimmed_front : (path rest kept front : List ℕ) (b : ℕ) → path ≡ b ∷ rest → kept ≡ without_last_slashes rest → front ≡ take (1 + length kept) path → Some front ≡ trimmed_path path
trimmed_front path rest kept front b e left is =
    let count : 1 + length kept ≡ suc (length kept) = omega arith in
    let first : trimmed_path path ≡ Some (b ∷ without_last_slashes rest) = ap trimmed_path e in
    let suffix : take (length kept) rest ≡ without_last_slashes rest = ap (λ t. take (length t) rest) left ∙ (left_front rest).1 in
    ap Some (is ∙ ap (take (1 + length kept)) e ∙ ap (λ n. take n (b ∷ rest)) count ∙ ap (λ t. b ∷ t) suffix) ∙ sym first
