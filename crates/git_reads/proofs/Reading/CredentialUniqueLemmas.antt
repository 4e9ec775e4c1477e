-- Git's credential code reads one thing in a text: its cuts are unique.
use Rattle.std.proofs.Common.{◌≡◌, ◌∙◌, ℕ, true, false, not, ◌==◌, ◌⊎◌, List, [], ◌∷◌, ◌++◌, Option, Some, sym, ap, subst, append_assoc, arith}
use Rattle.std.proofs.lemmas.Bool.Decides.{nat_tests}
use Rattle.git_syntax.specs.Bytes.{slash, colon, at_sign, FreeOf, Lacks, begins_by, begins_with}
use Rattle.git_reads.specs.Credentials.{CredentialDecodes, CredentialCut, CredentialPath, CredentialReading, OneCredentialReading, are_slashes, trimmed_path, CutsText, FindsParts, ReadsPieces}
use Rattle.git_syntax.proofs.Texts.CutLemmas.{class_cut_unique, cut_unique, free-append, lacks_of_all, mark_cut_unique, not_free, path_cut_unique}

-- a piece is decoded in one way
decodes_unique : (piece decoded other : List ℕ) → CredentialDecodes piece decoded → CredentialDecodes piece other → decoded ≡ other
decodes_unique piece decoded other h k = grind (arith, nat_tests, cut_unique, not_free)

-- ---- the authority

-- the text before the first `@`, of a user and a password
information_free : (u w : List ℕ) → FreeOf at_sign u → FreeOf at_sign w → FreeOf at_sign (u ++ colon ∷ w)
information_free u w first second = free-append at_sign u (colon ∷ w) first second

-- the text around it
information_joined : (authority u w named : List ℕ) → authority ≡ u ++ colon ∷ (w ++ at_sign ∷ named) → authority ≡ (u ++ colon ∷ w) ++ at_sign ∷ named
information_joined authority u w named e = e ∙ sym (append_assoc u (colon ∷ w) (at_sign ∷ named))

-- an authority without `@` isn't cut at one
never_cut : {A : Type 0} (authority i named : List ℕ) → FreeOf at_sign authority → authority ≡ i ++ at_sign ∷ named → A
never_cut authority i named free e = absurd (not_free at_sign i named (subst (λ t. FreeOf at_sign t) e free))

-- a user without a password isn't one with a password
never_both : {A : Type 0} (authority u x w named name : List ℕ) → FreeOf at_sign u → FreeOf colon u → authority ≡ u ++ at_sign ∷ named → FreeOf at_sign x → FreeOf at_sign w → authority ≡ x ++ colon ∷ (w ++ at_sign ∷ name) → A
never_both authority u x w named name free plain e first second e' =
    let same = cut_unique at_sign u (x ++ colon ∷ w) named name free (information_free x w first second) (sym e ∙ information_joined authority x w name e') in
    absurd (not_free colon x w (subst (λ t. FreeOf colon t) same.0 plain))

-- an authority is cut in one way
cut_same : (authority : List ℕ) (user other password secret : Option (List ℕ)) (named name : List ℕ) → CredentialCut authority user password named → CredentialCut authority other secret name → (user ≡ other) × (password ≡ secret) × (named ≡ name)
cut_same a user other password secret named name (CredentialCut.host_alone free e none without) (CredentialCut.host_alone free' e' none' without') = (none ∙ sym none', without ∙ sym without', e ∙ sym e')
cut_same a user other password secret named name (CredentialCut.host_alone free e none without) (CredentialCut.user_alone u n at plain e' d some without') = never_cut a u name free e'
cut_same a user other password secret named name (CredentialCut.host_alone free e none without) (CredentialCut.with_password u w n s at at' plain e' d d' some some') = never_cut a (u ++ colon ∷ w) name free (information_joined a u w name e')
cut_same a user other password secret named name (CredentialCut.user_alone u n at plain e d some without) (CredentialCut.host_alone free e' none without') = never_cut a u named free e
cut_same a user other password secret named name (CredentialCut.user_alone u n at plain e d some without) (CredentialCut.user_alone u' n' at' plain' e' d' some' without') =
    let same = cut_unique at_sign u u' named name at at' (sym e ∙ e') in
    (some ∙ ap Some (decodes_unique u' n n' (subst (λ t. CredentialDecodes t n) same.0 d) d') ∙ sym some', without ∙ sym without', same.1)
cut_same a user other password secret named name (CredentialCut.user_alone u n at plain e d some without) (CredentialCut.with_password x w n' s at' at'' plain' e' d' d'' some' some'') = never_both a u x w named name at plain e at' at'' e'
cut_same a user other password secret named name (CredentialCut.with_password u w n s at at' plain e d d' some some') (CredentialCut.host_alone free e' none without) = never_cut a (u ++ colon ∷ w) named free (information_joined a u w named e)
cut_same a user other password secret named name (CredentialCut.with_password x w n s at at' plain e d d' some some') (CredentialCut.user_alone u n' at'' plain' e' d'' some'' without) = never_both a u x w name named at'' plain' e' at at' e
cut_same a user other password secret named name (CredentialCut.with_password u w n s at at' plain e d c some given) (CredentialCut.with_password u' w' n' s' at'' at''' plain' e' d' c' some' given') =
    let users = cut_unique colon u u' (w ++ at_sign ∷ named) (w' ++ at_sign ∷ name) plain plain' (sym e ∙ e') in
    let words = cut_unique at_sign w w' named name at' at''' users.1 in
    (some ∙ ap Some (decodes_unique u' n n' (subst (λ t. CredentialDecodes t n) users.0 d) d') ∙ sym some', given ∙ ap Some (decodes_unique w' s s' (subst (λ t. CredentialDecodes t s) words.0 c) c') ∙ sym given', words.1)

-- ---- the path

-- the text after the slashes is empty or begins with another byte
past_slashes : (rest : List ℕ) → begins_with slash rest ≡ false → (rest ≡ []) ⊎ (begins_by (λ b. not (b == slash)) rest ≡ true)
past_slashes rest other = grind arith

-- slashes lack other bytes
only_slashes : (slashes : List ℕ) → are_slashes slashes ≡ true → Lacks (λ b. not (b == slash)) slashes
only_slashes slashes all = lacks_of_all (λ b. b == slash) (λ b. not (b == slash)) (λ b is. ap not is) slashes all

-- a path is read in one way
path_same : (suffix : List ℕ) (path other : Option (List ℕ)) → CredentialPath suffix path → CredentialPath suffix other → path ≡ other
path_same suffix path other h k =
    let same = class_cut_unique (λ b. not (b == slash)) h.slashes k.slashes h.rest k.rest (only_slashes h.slashes h.front) (only_slashes k.slashes k.front) (past_slashes h.rest h.begins) (past_slashes k.rest k.begins) (sym h.joined ∙ k.joined) in
    let decoded = decodes_unique k.rest h.decoded k.decoded (subst (λ t. CredentialDecodes t h.decoded) same.1 h.decodes) k.decodes in
    h.value ∙ ap trimmed_path decoded ∙ sym k.value

-- ---- the text

-- a text is cut in one way
text_same : (t protocol other authority place suffix rest : List ℕ) → CutsText t protocol authority suffix → CutsText t other place rest → (protocol ≡ other) × (authority ≡ place) × (suffix ≡ rest)
text_same t protocol other authority place suffix rest h k =
    let schemes = mark_cut_unique protocol other (authority ++ suffix) (place ++ rest) h.no_mark k.no_mark (sym h.joined ∙ k.joined) in
    let cut = path_cut_unique true authority place suffix rest h.before_path k.before_path h.path_start k.path_start schemes.1 in
    (schemes.0, cut.0, cut.1)

-- the pieces of a text are read in one way
pieces_same : (authority suffix : List ℕ) (r other : CredentialReading) → r.protocol ≡ other.protocol → ReadsPieces authority suffix r → ReadsPieces authority suffix other → r ≡ other
pieces_same authority suffix r other schemes h k =
    let credentials = cut_same authority r.user other.user r.password other.password h.named k.named h.cut k.cut in
    let hosts = decodes_unique k.named r.host other.host (subst (λ t. CredentialDecodes t r.host) credentials.2 h.host) k.host in
    let paths = path_same suffix r.path other.path h.path k.path in
    λ i. record { protocol = schemes i; user = credentials.0 i; password = credentials.1 i; host = hosts i; path = paths i }

-- so a text is read in one way, also if a part is of several lines
pub one_of_pieces : (t authority suffix place rest : List ℕ) (r other : CredentialReading) → CutsText t r.protocol authority suffix → ReadsPieces authority suffix r → CutsText t other.protocol place rest → ReadsPieces place rest other → r ≡ other
one_of_pieces t authority suffix place rest r other cut h cut' k =
    let same = text_same t r.protocol other.protocol authority place suffix rest cut cut' in
    pieces_same place rest r other same.0 (subst (λ b. ReadsPieces place b r) same.2 (subst (λ a. ReadsPieces a suffix r) same.1 h)) k

-- also as the parts that are found
pub one_of_parts : (t : List ℕ) (r other : CredentialReading) → FindsParts t r → FindsParts t other → r ≡ other
one_of_parts t r other h k = one_of_pieces t h.authority h.suffix k.authority k.suffix r other h.cut h.pieces k.cut k.pieces

-- Git's credential code reads one thing in a text
pub one_credential : OneCredentialReading
one_credential t r other h k = one_of_parts t r other h.found k.found
