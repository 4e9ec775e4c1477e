-- A text has one refusal at most: each form has one flaw that is found first, and the forms exclude one another.
use Rattle.std.proofs.Common.{◌≡◌, ℕ, ◌+◌, Bool, true, false, List, [], ◌∷◌, ◌++◌, length, refl, sym, ap, ◌∙◌, arith, length-append, codes, bytes_eq}
use Rattle.std.proofs.lemmas.Bool.{both_ways}
use Rattle.std.specs.Char.{is_whitespace, is_ascii_alphabetic}
use Rattle.git_syntax.specs.declared.refusal.UrlKind.{UrlKind}
use Rattle.git_syntax.specs.declared.refusal.UrlKind.TheVariants.{Url, Scp, Local}
use Rattle.git_syntax.specs.Bytes.{colon, at_sign, left_bracket, right_bracket}
use Rattle.git_syntax.specs.Hosts.{HostSyntax, IsPlainHost}
use Rattle.git_syntax.specs.Schemes.{is_web_scheme, host_syntax_of, requires_host}
use Rattle.git_syntax.specs.Flaws.{UrlForm, OtherUrlForm}
use Rattle.git_syntax.specs.Grammar.{ScpForm, AddressedForm}
use Rattle.git_syntax.proofs.Texts.CutLemmas.{heads, tails, path_cut_unique, cut_unique, last_cut_unique, mark_cut_unique}
use Rattle.git_syntax.proofs.Parsing.ClassifierLemmas.{same_front, url_form_not_neither}
use Rattle.git_syntax.proofs.Parsing.ScpFrontLemmas.{addressed_unique, begins_apart}
use Rattle.git_refusals.specs.declared.place.Place.{Place}
use Rattle.git_refusals.specs.declared.reason.Reason.TheVariants as reason
use Rattle.git_refusals.specs.declared.refusal.Refusal.{Refusal}
use Rattle.git_refusals.specs.Kinds.{refusal_of}
use Rattle.git_refusals.specs.Characters.{is_no_scheme_character}
use Rattle.git_refusals.specs.Laws.{OneRefusal}
use Rattle.git_refusals.specs.Reasons.{Shifted, Then, Undecodable, BadHost, BadUser, NoHostAfter, NoHostAtAll, BadParts, BadAuthority, TooLong, BadScheme, NoPath, BadRest, BadUrl, NoFilePath, BadFile, NoScpPath, NoScpHost, BadScpName, BadScpHost, BadFront, BadScp, BadAddressed, Refused}
use Rattle.git_refusals.proofs.Refusing.UrlLemmas.{FoundAfter}
use Rattle.git_parts.proofs.Refusing.OneCheckLemmas.{One, free_apart, stands_alike, character_unique, one_at, one_at_both, one_after, one_then, one_undecodable, one_not_text, one_character, one_backslash, one_broken}
use Rattle.git_parts.proofs.Refusing.OneHostLemmas.{closed_apart, one_host}

-- ---- authorities

-- the flaw of a user and a password
abbrev BadPassword : List ℕ → List ℕ → Place → Type 0
BadPassword u w = Then (Shifted (length u + 1) (Undecodable w)) (Undecodable u)

-- they have one flaw at most that is found first
one_password : (u w : List ℕ) → One (BadPassword u w)
one_password u w = one_then _ _ (one_after _ _ (one_undecodable w)) (one_undecodable u)

-- so has user information
one_user : (information : List ℕ) → One (BadUser information)
one_user information p q (BadUser.alone f h) (BadUser.alone g k) = one_undecodable information p q h k
one_user information p q (BadUser.alone f h) (BadUser.with_password v z g i k) = absurd (free_apart colon information v z f i)
one_user information p q (BadUser.with_password u w f e h) (BadUser.alone g k) = absurd (free_apart colon information u w g e)
one_user information p q (BadUser.with_password u w f e h) (BadUser.with_password v z g i k) =
    let cut = cut_unique colon u v w z f g (sym e ∙ i) in
    one_at_both BadPassword one_password u w v z p q cut.0 cut.1 h k

-- nothing after user information is one flaw
one_no_host_after : (authority piece : List ℕ) → One (NoHostAfter authority piece)
one_no_host_after authority piece p q h k = stands_alike p q refl refl h.stands k.stands

-- so is a host that is missing
one_no_host_at_all : (needed : Bool) (authority : List ℕ) → One (NoHostAtAll needed authority)
one_no_host_at_all needed authority p q h k = stands_alike p q refl refl h.stands k.stands

-- the flaw of user information and the text after it
abbrev BadUserHost : HostSyntax → List ℕ → List ℕ → List ℕ → Place → Type 0
BadUserHost syntax authority information piece = Then (BadUser information)
    (Then (Shifted (length information + 1) (BadHost syntax piece)) (NoHostAfter authority piece))

-- they have one flaw at most that is found first
one_user_host : (syntax : HostSyntax) (authority information piece : List ℕ) → One (BadUserHost syntax authority information piece)
one_user_host syntax authority information piece =
    one_then _ _ (one_user information) (one_then _ _ (one_after _ _ (one_host syntax piece)) (one_no_host_after authority piece))

-- so has an authority without a backslash
one_parts : (syntax : HostSyntax) (needed : Bool) (authority : List ℕ) → One (BadParts syntax needed authority)
one_parts syntax needed authority p q (BadParts.alone f h) (BadParts.alone g k) =
    one_then _ _ (one_host syntax authority) (one_no_host_at_all needed authority) p q h k
one_parts syntax needed authority p q (BadParts.alone f h) (BadParts.with_user v z g i k) = absurd (free_apart at_sign authority v z f i)
one_parts syntax needed authority p q (BadParts.with_user u w f e h) (BadParts.alone g k) = absurd (free_apart at_sign authority u w g e)
one_parts syntax needed authority p q (BadParts.with_user u w f e h) (BadParts.with_user v z g i k) =
    let cut = last_cut_unique at_sign u v w z f g (sym e ∙ i) in
    one_at_both (BadUserHost syntax authority) (one_user_host syntax authority) u w v z p q cut.0 cut.1 h k

-- and any authority
one_authority : (syntax : HostSyntax) (needed : Bool) (authority : List ℕ) → One (BadAuthority syntax needed authority)
one_authority syntax needed authority = one_then _ _ (one_backslash reason.Backslash authority) (one_parts syntax needed authority)

-- ---- URLs

-- the scheme is too long, or the text after it
one_too_long : (scheme rest : List ℕ) → One (TooLong scheme rest)
one_too_long scheme rest p q (TooLong.long_scheme n h) (TooLong.long_scheme m k) = stands_alike p q refl refl h k
one_too_long scheme rest p q (TooLong.long_scheme n h) (TooLong.long_rest m f k) = absurd (omega (arith, n, m))
one_too_long scheme rest p q (TooLong.long_rest n f h) (TooLong.long_scheme m k) = absurd (omega (arith, n, m))
one_too_long scheme rest p q (TooLong.long_rest n f h) (TooLong.long_rest m g k) = stands_alike p q refl refl h k

-- nothing isn't something
nil_apart : (text rest : List ℕ) (c : ℕ) → text ≡ [] → text ≡ c ∷ rest → ⊥
nil_apart text rest c e f = let clash : [] ≡ c ∷ rest = sym e ∙ f in cc

-- a text begins with a letter, or doesn't
letter_apart : (text x y : List ℕ) (c d : ℕ) → text ≡ c ∷ x → text ≡ d ∷ y → is_ascii_alphabetic c ≡ false → is_ascii_alphabetic d ≡ true → ⊥
letter_apart text x y c d e f h k = both_ways (is_ascii_alphabetic c) h (ap is_ascii_alphabetic (heads (sym e ∙ f)) ∙ k)

-- the text before `://` has one flaw at most that is found first
one_scheme : (scheme : List ℕ) → One (BadScheme scheme)
one_scheme scheme p q (BadScheme.missing e h) (BadScheme.missing i k) = stands_alike p q refl refl h k
one_scheme scheme p q (BadScheme.missing e h) (BadScheme.bad_start d y m i b t k) = absurd (nil_apart scheme y d e i)
one_scheme scheme p q (BadScheme.missing e h) (BadScheme.bad_character d y i b k) = absurd (nil_apart scheme y d e i)
one_scheme scheme p q (BadScheme.bad_start c x n e a s h) (BadScheme.missing i k) = absurd (nil_apart scheme x c i e)
one_scheme scheme p q (BadScheme.bad_start c x n e a s h) (BadScheme.bad_start d y m i b t k) =
    stands_alike p q refl (character_unique (λ _. true) scheme 0 n 0 m s t).1 h k
one_scheme scheme p q (BadScheme.bad_start c x n e a s h) (BadScheme.bad_character d y i b k) = absurd (letter_apart scheme x y c d e i a b)
one_scheme scheme p q (BadScheme.bad_character c x e a h) (BadScheme.missing i k) = absurd (nil_apart scheme x c i e)
one_scheme scheme p q (BadScheme.bad_character c x e a h) (BadScheme.bad_start d y m i b t k) = absurd (letter_apart scheme y x d c i e b a)
one_scheme scheme p q (BadScheme.bad_character c x e a h) (BadScheme.bad_character d y i b k) =
    one_character reason.SchemeCharacter is_no_scheme_character scheme p q h k

-- a path that is missing is one flaw
one_no_path : (scheme b path : List ℕ) → One (NoPath scheme b path)
one_no_path scheme b path p q h k = stands_alike p q refl refl h.stands k.stands

-- an authority and a path have one flaw at most that is found first
one_rest_parts : (b scheme authority path : List ℕ) → One (FoundAfter b scheme authority path)
one_rest_parts b scheme authority path =
    one_then _ _ (one_after _ _ (one_undecodable path))
    (one_then _ _ (one_after _ _ (one_authority (host_syntax_of scheme) (requires_host scheme) authority)) (one_no_path scheme b path))

-- so has the text after `://`
one_rest : (b scheme rest : List ℕ) → One (BadRest b scheme rest)
one_rest b scheme rest p q h k =
    let cut = path_cut_unique (is_web_scheme scheme) h.authority k.authority h.path k.path h.before_path k.before_path h.path_starts k.path_starts (sym h.joined ∙ k.joined) in
    one_at_both (FoundAfter b scheme) (one_rest_parts b scheme) h.authority h.path k.authority k.path p q cut.0 cut.1 h.found k.found

-- and a URL that isn't a file URL
one_url : (b scheme rest : List ℕ) → One (BadUrl b scheme rest)
one_url b scheme rest =
    one_then _ _ (one_too_long scheme rest)
    (one_then _ _ (one_not_text b)
    (one_then _ _ (one_character reason.WhiteSpace is_whitespace b)
    (one_then _ _ (one_broken b)
    (one_then _ _ (one_scheme scheme) (one_rest b scheme rest)))))

-- a path that is missing in a file URL is one flaw
one_no_file_path : (b rest : List ℕ) → One (NoFilePath b rest)
one_no_file_path b rest p q h k = stands_alike p q refl refl h.stands k.stands

-- so a file URL has one flaw at most that is found first
one_file : (b rest : List ℕ) → One (BadFile b rest)
one_file b rest = one_then _ _ (one_not_text b) (one_no_file_path b rest)

-- ---- the scp form

-- a path that is missing is one flaw
one_no_scp_path : (b path : List ℕ) → One (NoScpPath b path)
one_no_scp_path b path p q h k = stands_alike p q refl refl h.stands k.stands

-- so is a host
one_no_scp_host : (host : List ℕ) → One (NoScpHost host)
one_no_scp_host host p q h k = stands_alike p q refl refl h.stands k.stands

-- a host with a bracket at its front isn't a plain one and a port's place
plain_apart : (host suffix text digits : List ℕ) → host ≡ left_bracket ∷ suffix → IsPlainHost text → host ≡ text ++ colon ∷ digits → ⊥
plain_apart host suffix text digits e t i = begins_apart suffix text digits colon t.no_bracket (sym e ∙ i) refl

-- brackets or a port's place are one flaw
one_scp_name : (host : List ℕ) → One (BadScpName host)
one_scp_name host p q (BadScpName.unclosed a f e h) (BadScpName.unclosed b g i k) = stands_alike p q refl refl h k
one_scp_name host p q (BadScpName.unclosed a f e h) (BadScpName.after_bracket y s g m i k) = absurd (closed_apart host a y s f e i)
one_scp_name host p q (BadScpName.unclosed a f e h) (BadScpName.port_place v d u g i k) = absurd (plain_apart host a v d e u i)
one_scp_name host p q (BadScpName.after_bracket x r f n e h) (BadScpName.unclosed b g i k) = absurd (closed_apart host b x r g i e)
one_scp_name host p q (BadScpName.after_bracket x r f n e h) (BadScpName.after_bracket y s g m i k) =
    let cut = cut_unique right_bracket x y r s f g (tails (sym e ∙ i)) in
    stands_alike p q (ap (λ (z : List ℕ). length z + 2) cut.0) (ap length cut.1) h k
one_scp_name host p q (BadScpName.after_bracket x r f n e h) (BadScpName.port_place v d u g i k) =
    absurd (plain_apart host (x ++ right_bracket ∷ r) v d e u i)
one_scp_name host p q (BadScpName.port_place w c t f e h) (BadScpName.unclosed b g i k) = absurd (plain_apart host b w c i t e)
one_scp_name host p q (BadScpName.port_place w c t f e h) (BadScpName.after_bracket y s g m i k) =
    absurd (plain_apart host (y ++ right_bracket ∷ s) w c i t e)
one_scp_name host p q (BadScpName.port_place w c t f e h) (BadScpName.port_place v d u g i k) =
    let cut = cut_unique colon w v c d t.no_colon u.no_colon (sym e ∙ i) in
    stands_alike p q (ap (λ (z : List ℕ). length z + 1) cut.0) (ap length cut.1) h k

-- so the host of the scp form has one flaw at most that is found first
one_scp_host : (host : List ℕ) → One (BadScpHost host)
one_scp_host host =
    one_then _ _ (one_character reason.WhiteSpaceInHost is_whitespace host)
    (one_then _ _ (one_backslash reason.BackslashInHost host) (one_then _ _ (one_no_scp_host host) (one_scp_name host)))

-- and its front
one_front : (front : List ℕ) → One (BadFront front)
one_front front p q (BadFront.alone f h) (BadFront.alone g k) = one_scp_host front p q h k
one_front front p q (BadFront.alone f h) (BadFront.with_user v z g i k) = absurd (free_apart at_sign front v z f i)
one_front front p q (BadFront.with_user u w f e h) (BadFront.alone g k) = absurd (free_apart at_sign front u w g e)
one_front front p q (BadFront.with_user u w f e h) (BadFront.with_user v z g i k) =
    let cut = last_cut_unique at_sign u v w z f g (sym e ∙ i) in
    one_at_both (λ (user host : List ℕ). Shifted (length user + 1) (BadScpHost host)) (λ user host. one_after _ _ (one_scp_host host)) u w v z p q cut.0 cut.1 h k

-- and the whole
one_scp : (b front path : List ℕ) → One (BadScp b front path)
one_scp b front path = one_then _ _ (one_not_text b) (one_then _ _ (one_no_scp_path b path) (one_front front))

-- so has the form `user@[address]:path`
one_addressed : (b path : List ℕ) → One (BadAddressed b path)
one_addressed b path = one_then _ _ (one_not_text b) (one_no_scp_path b path)

-- ---- all texts

-- nothing has no form of a URL
empty_no_url : (b front rest : List ℕ) → b ≡ [] → UrlForm b front rest → ⊥
empty_no_url b front rest e s = absurd (omega (arith, length-append front (codes "://" ++ rest), ap length (sym e ∙ s.joined)))

-- nor the scp form
empty_no_scp : (b front path : List ℕ) → b ≡ [] → ScpForm b front path → ⊥
empty_no_scp b front path e s = absurd (omega (arith, length-append front (colon ∷ path), ap length (sym e ∙ s.joined)))

-- nor that with an address
empty_no_addressed : (b user address path : List ℕ) → b ≡ [] → AddressedForm b user address path → ⊥
empty_no_addressed b user address path e s =
    absurd (omega (arith, length-append user (at_sign ∷ (left_bracket ∷ (address ++ right_bracket ∷ (colon ∷ path)))), ap length (sym e ∙ s.cut.joined)))

-- the text before and after the first `://` of a URL is determined
form_unique : (b front rest second last : List ℕ) → UrlForm b front rest → UrlForm b second last → (front ≡ second) × (rest ≡ last)
form_unique b front rest second last s t = mark_cut_unique front second rest last s.first t.first (sym s.joined ∙ t.joined)

-- a file URL is not another URL
file_apart : (b rest second last : List ℕ) → UrlForm b (codes "file") rest → OtherUrlForm b second last → ⊥
file_apart b rest second last s t =
    both_ways (bytes_eq second (codes "file")) t.not_file (ap (λ z. bytes_eq z (codes "file")) (sym (form_unique b (codes "file") rest second last s t.form).0))

-- refusals of one form at one place are the same
same_refusal : (kind : UrlKind) (r s : Refusal) (p q : Place) → r ≡ refusal_of kind p → s ≡ refusal_of kind q → p ≡ q → r ≡ s
same_refusal kind r s p q e f g = e ∙ ap (refusal_of kind) g ∙ sym f

-- a text has one refusal at most
pub one_refusal : OneRefusal
one_refusal b r s (Refused.empty p e h v) (Refused.empty q i k w) = same_refusal Local r s p q v w (stands_alike p q refl refl h k)
one_refusal b r s (Refused.empty p e h v) (Refused.file y q i k w) = absurd (empty_no_url b (codes "file") y e i)
one_refusal b r s (Refused.empty p e h v) (Refused.url t y q i k w) = absurd (empty_no_url b t y e i.form)
one_refusal b r s (Refused.empty p e h v) (Refused.addressed u a y q i k w) = absurd (empty_no_addressed b u a y e i)
one_refusal b r s (Refused.empty p e h v) (Refused.scp f y q i n k w) = absurd (empty_no_scp b f y e i)
one_refusal b r s (Refused.file x p e h v) (Refused.empty q i k w) = absurd (empty_no_url b (codes "file") x i e)
one_refusal b r s (Refused.file x p e h v) (Refused.file y q i k w) =
    same_refusal Url r s p q v w (one_at (BadFile b) (one_file b) x y p q (form_unique b (codes "file") x (codes "file") y e i).1 h k)
one_refusal b r s (Refused.file x p e h v) (Refused.url t y q i k w) = absurd (file_apart b x t y e i)
one_refusal b r s (Refused.file x p e h v) (Refused.addressed u a y q i k w) = absurd (url_form_not_neither b (codes "file") x e i.neither)
one_refusal b r s (Refused.file x p e h v) (Refused.scp f y q i n k w) = absurd (url_form_not_neither b (codes "file") x e i.neither)
one_refusal b r s (Refused.url z x p e h v) (Refused.empty q i k w) = absurd (empty_no_url b z x i e.form)
one_refusal b r s (Refused.url z x p e h v) (Refused.file y q i k w) = absurd (file_apart b y z x i e)
one_refusal b r s (Refused.url z x p e h v) (Refused.url t y q i k w) =
    let cut = form_unique b z x t y e.form i.form in
    same_refusal Url r s p q v w (one_at_both (BadUrl b) (one_url b) z x t y p q cut.0 cut.1 h k)
one_refusal b r s (Refused.url z x p e h v) (Refused.addressed u a y q i k w) = absurd (url_form_not_neither b z x e.form i.neither)
one_refusal b r s (Refused.url z x p e h v) (Refused.scp f y q i n k w) = absurd (url_form_not_neither b z x e.form i.neither)
one_refusal b r s (Refused.addressed c d x p e h v) (Refused.empty q i k w) = absurd (empty_no_addressed b c d x i e)
one_refusal b r s (Refused.addressed c d x p e h v) (Refused.file y q i k w) = absurd (url_form_not_neither b (codes "file") y i e.neither)
one_refusal b r s (Refused.addressed c d x p e h v) (Refused.url t y q i k w) = absurd (url_form_not_neither b t y i.form e.neither)
one_refusal b r s (Refused.addressed c d x p e h v) (Refused.addressed u a y q i k w) =
    same_refusal Scp r s p q v w (one_at (BadAddressed b) (one_addressed b) x y p q (addressed_unique b c u d a x y e i).2 h k)
one_refusal b r s (Refused.addressed c d x p e h v) (Refused.scp f y q i n k w) = absurd (n (c, d, x, e))
one_refusal b r s (Refused.scp g x p e m h v) (Refused.empty q i k w) = absurd (empty_no_scp b g x i e)
one_refusal b r s (Refused.scp g x p e m h v) (Refused.file y q i k w) = absurd (url_form_not_neither b (codes "file") y i e.neither)
one_refusal b r s (Refused.scp g x p e m h v) (Refused.url t y q i k w) = absurd (url_form_not_neither b t y i.form e.neither)
one_refusal b r s (Refused.scp g x p e m h v) (Refused.addressed u a y q i k w) = absurd (m (u, a, y, i))
one_refusal b r s (Refused.scp g x p e m h v) (Refused.scp f y q i n k w) =
    let cut = same_front b g x f y e.joined i.joined e.form i.form in
    same_refusal Scp r s p q v w (one_at_both (BadScp b) (one_scp b) g x f y p q cut.0 cut.1 h k)
