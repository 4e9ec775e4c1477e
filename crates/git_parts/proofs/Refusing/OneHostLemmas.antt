-- A host and a port have one flaw at most that is found first.
use Rattle.std.proofs.Common.{◌≡◌, ℕ, ◌+◌, ◌<◌, ◌==◌, ◌⊎◌, true, false, inl, inr, List, [], ◌∷◌, ◌++◌, length, refl, sym, ap, subst, ◌∙◌, arith}
use Rattle.std.proofs.lemmas.Bool.{both_ways, false≢true}
use Rattle.git_syntax.specs.Bytes.{colon, left_bracket, right_bracket, FreeOf, begins_with}
use Rattle.git_syntax.specs.Hosts.{HostSyntax, IsManyColoned, IsPlainHost}
use Rattle.git_syntax.specs.Hosts.HostSyntax.{http_hosts, git_hosts, other_hosts}
use Rattle.git_syntax.proofs.Texts.CutLemmas.{tails, class_cut_unique, cut_unique, last_cut_unique, begins-append, free_begins, not_free}
use Rattle.git_refusals.specs.declared.place.Place.{Place}
use Rattle.git_refusals.specs.declared.reason.Reason.TheVariants as reason
use Rattle.git_refusals.specs.Characters.{is_no_host_character}
use Rattle.git_refusals.specs.Reasons.{IsAt, Shifted, Passes, Then, NoHostText, NoOther, NoInner, NoDigits, PortOutside, WebColons, BadColons, BadHost}
use Rattle.git_refusals.proofs.Refusing.HostLemmas.{after_only}
use Rattle.git_parts.proofs.Refusing.OneCheckLemmas.{One, stands_alike, one_stands, one_at, one_at_both, one_after, one_then, one_undecodable, one_character}

-- ---- the pieces of a host and a port

-- a text outside brackets has one flaw at most
pub one_no_host_text : (syntax : HostSyntax) (text : List ℕ) → One (NoHostText syntax text)
one_no_host_text http_hosts text = one_character reason.HostCharacter is_no_host_character text
one_no_host_text git_hosts text = one_undecodable text
one_no_host_text other_hosts text = one_undecodable text

-- so has a text between brackets that isn't a literal
one_no_other : (syntax : HostSyntax) (text : List ℕ) → One (NoOther syntax text)
one_no_other http_hosts text = one_stands reason.NotAnAddress 0 (length text)
one_no_other git_hosts text = one_undecodable text
one_no_other other_hosts text = one_undecodable text

-- and any text between brackets
pub one_no_inner : (syntax : HostSyntax) (text : List ℕ) → One (NoInner syntax text)
one_no_inner syntax text p q h k = one_no_other syntax text p q h.no_other k.no_other

-- a text that isn't a number is one flaw
pub one_no_digits : (digits : List ℕ) → One (NoDigits digits)
one_no_digits digits p q h k = stands_alike p q refl refl h.stands k.stands

-- a number is too large, or zero
pub one_outside : (syntax : HostSyntax) (digits : List ℕ) → One (PortOutside syntax digits)
one_outside syntax digits p q (PortOutside.too_large d n h) (PortOutside.too_large e m k) = stands_alike p q refl refl h k
one_outside syntax digits p q (PortOutside.too_large d n h) (PortOutside.is_zero web e m k) = absurd (omega (arith, n, m))
one_outside syntax digits p q (PortOutside.is_zero web d n h) (PortOutside.too_large e m k) = absurd (omega (arith, n, m))
one_outside syntax digits p q (PortOutside.is_zero web d n h) (PortOutside.is_zero same e m k) = stands_alike p q refl refl h k

-- the text in the place of a port has one flaw at most
pub one_port : (syntax : HostSyntax) (digits : List ℕ) → One (Then (NoDigits digits) (PortOutside syntax digits))
one_port syntax digits = one_then (NoDigits digits) (PortOutside syntax digits) (one_no_digits digits) (one_outside syntax digits)

-- ---- colons that mark no port

-- one colon at the front isn't two
colon_apart : (piece digits x y z : List ℕ) → FreeOf colon digits → FreeOf colon x → piece ≡ colon ∷ digits → piece ≡ x ++ colon ∷ (y ++ colon ∷ z) → ⊥
colon_apart piece digits x y z f g e k =
    let rest = (cut_unique colon [] x digits (y ++ colon ∷ z) refl g (sym e ∙ k)).1 in
    not_free colon y z (subst (λ t. FreeOf colon t) rest f)

-- the colons of a piece of HTTP are one flaw
pub one_web_colons : (piece : List ℕ) → One (WebColons piece)
one_web_colons piece p q (WebColons.bare i h) (WebColons.bare j k) = stands_alike p q refl refl h k
one_web_colons piece p q (WebColons.bare i h) (WebColons.bare_colon b m j f k) = absurd (m i)
one_web_colons piece p q (WebColons.bare i h) (WebColons.no_host d m g f k) = absurd (m (inl i))
one_web_colons piece p q (WebColons.bare i h) (WebColons.second_colon x y z m g l f k) = absurd (m (inl i))
one_web_colons piece p q (WebColons.bare_colon a n i e h) (WebColons.bare j k) = absurd (n j)
one_web_colons piece p q (WebColons.bare_colon a n i e h) (WebColons.bare_colon b m j f k) =
    stands_alike p q refl (ap length (last_cut_unique colon a b [] [] refl refl (sym e ∙ f)).0) h k
one_web_colons piece p q (WebColons.bare_colon a n i e h) (WebColons.no_host d m g f k) = absurd (m (inr (a, i, e)))
one_web_colons piece p q (WebColons.bare_colon a n i e h) (WebColons.second_colon x y z m g l f k) = absurd (m (inr (a, i, e)))
one_web_colons piece p q (WebColons.no_host c n f e h) (WebColons.bare j k) = absurd (n (inl j))
one_web_colons piece p q (WebColons.no_host c n f e h) (WebColons.bare_colon b m j i k) = absurd (n (inr (b, j, i)))
one_web_colons piece p q (WebColons.no_host c n f e h) (WebColons.no_host d m g i k) = stands_alike p q refl refl h k
one_web_colons piece p q (WebColons.no_host c n f e h) (WebColons.second_colon x y z m g l i k) = absurd (colon_apart piece c x y z f g e i)
one_web_colons piece p q (WebColons.second_colon u v w n f g e h) (WebColons.bare j k) = absurd (n (inl j))
one_web_colons piece p q (WebColons.second_colon u v w n f g e h) (WebColons.bare_colon b m j i k) = absurd (n (inr (b, j, i)))
one_web_colons piece p q (WebColons.second_colon u v w n f g e h) (WebColons.no_host d m l i k) = absurd (colon_apart piece d u v w l f i e)
one_web_colons piece p q (WebColons.second_colon u v w n f g e h) (WebColons.second_colon x y z m l o i k) =
    let outer = cut_unique colon u x (v ++ colon ∷ w) (y ++ colon ∷ z) f l (sym e ∙ i) in
    let inner = cut_unique colon v y w z g o outer.1 in
    stands_alike p q (λ j. length (outer.0 j) + 1 + length (inner.0 j)) refl h k

-- so are those of any piece
one_colons : (syntax : HostSyntax) (piece : List ℕ) → One (BadColons syntax piece)
one_colons http_hosts piece = one_web_colons piece
one_colons git_hosts piece = one_undecodable piece
one_colons other_hosts piece = one_undecodable piece

-- a text without a colon doesn't hold colons
free_not_many : (piece : List ℕ) → FreeOf colon piece → IsManyColoned piece → ⊥
free_not_many piece free (inl h) = both_ways (begins_with colon piece) (free_begins colon piece free) h
free_not_many piece free (inr (x, y, z, e)) = not_free colon x (y ++ colon ∷ z) (subst (λ t. FreeOf colon t) e free)

-- a host and a port don't hold colons that mark no port
port_not_many : (piece text digits : List ℕ) → IsPlainHost text → FreeOf colon digits → piece ≡ text ++ colon ∷ digits → IsManyColoned piece → ⊥
port_not_many piece text digits t g e (inl h) =
    both_ways (begins_with colon text) (free_begins colon text t.no_colon) (sym (begins-append colon text (colon ∷ digits) t.nonempty) ∙ ap (begins_with colon) (sym e) ∙ h)
port_not_many piece text digits t g e (inr (x, y, z, f)) =
    not_free colon y z (after_only text digits x (y ++ colon ∷ z) t.no_colon g (sym e ∙ f))

-- ---- outside brackets

-- the flaw of `host:port`
abbrev pub BadPair : HostSyntax → List ℕ → List ℕ → Place → Type 0
BadPair syntax text digits = Then (Shifted (length text + 1) (NoDigits digits)) (Then (NoHostText syntax text) (Shifted (length text + 1) (PortOutside syntax digits)))

-- it has one flaw at most that is found first
one_pair : (syntax : HostSyntax) (text digits : List ℕ) → One (BadPair syntax text digits)
one_pair syntax text digits =
    one_then (Shifted (length text + 1) (NoDigits digits)) (Then (NoHostText syntax text) (Shifted (length text + 1) (PortOutside syntax digits)))
    (one_after (length text + 1) (NoDigits digits) (one_no_digits digits))
    (one_then (NoHostText syntax text) (Shifted (length text + 1) (PortOutside syntax digits)) (one_no_host_text syntax text) (one_after (length text + 1) (PortOutside syntax digits) (one_outside syntax digits)))

-- the flaw of a piece that begins with no bracket
data BadOutside (syntax : HostSyntax) (piece : List ℕ) (p : Place) : Type 0 where
  colons : IsManyColoned piece → BadColons syntax piece p → BadOutside syntax piece p
  plain : IsPlainHost piece → NoHostText syntax piece p → BadOutside syntax piece p
  with_port : (text digits : List ℕ) → IsPlainHost text → FreeOf colon digits → piece ≡ text ++ colon ∷ digits → BadPair syntax text digits p → BadOutside syntax piece p

-- it has one flaw at most that is found first
one_bad_outside : (syntax : HostSyntax) (piece : List ℕ) → One (BadOutside syntax piece)
one_bad_outside syntax piece p q (BadOutside.colons m h) (BadOutside.colons n k) = one_colons syntax piece p q h k
one_bad_outside syntax piece p q (BadOutside.colons m h) (BadOutside.plain t k) = absurd (free_not_many piece t.no_colon m)
one_bad_outside syntax piece p q (BadOutside.colons m h) (BadOutside.with_port x d t f e k) = absurd (port_not_many piece x d t f e m)
one_bad_outside syntax piece p q (BadOutside.plain t h) (BadOutside.colons n k) = absurd (free_not_many piece t.no_colon n)
one_bad_outside syntax piece p q (BadOutside.plain t h) (BadOutside.plain u k) = one_no_host_text syntax piece p q h k
one_bad_outside syntax piece p q (BadOutside.plain t h) (BadOutside.with_port x d u f e k) =
    absurd (not_free colon x d (subst (λ z. FreeOf colon z) e t.no_colon))
one_bad_outside syntax piece p q (BadOutside.with_port x d t f e h) (BadOutside.colons n k) = absurd (port_not_many piece x d t f e n)
one_bad_outside syntax piece p q (BadOutside.with_port x d t f e h) (BadOutside.plain u k) =
    absurd (not_free colon x d (subst (λ z. FreeOf colon z) e u.no_colon))
one_bad_outside syntax piece p q (BadOutside.with_port x d t f e h) (BadOutside.with_port y c u g i k) =
    let cut = cut_unique colon x y d c t.no_colon u.no_colon (sym e ∙ i) in
    one_at_both (BadPair syntax) (one_pair syntax) x d y c p q cut.0 cut.1 h k

-- ---- in brackets

-- the flaw of brackets and the text after them
data BadBrackets (syntax : HostSyntax) (x suffix : List ℕ) (p : Place) : Type 0 where
  followed : (wrong rest : List ℕ) → FreeOf colon wrong → 0 < length wrong → (rest ≡ []) ⊎ (begins_with colon rest ≡ true) → suffix ≡ wrong ++ rest
      → IsAt reason.BehindBracket (length x + 2) (length wrong) p → BadBrackets syntax x suffix p
  between : (suffix ≡ []) ⊎ (begins_with colon suffix ≡ true) → Shifted 1 (NoInner syntax x) p → BadBrackets syntax x suffix p
  port : (digits : List ℕ) → Passes (NoInner syntax x) → suffix ≡ colon ∷ digits → Shifted (length x + 3) (Then (NoDigits digits) (PortOutside syntax digits)) p → BadBrackets syntax x suffix p

-- the text after brackets doesn't both begin with a colon, or the end, and with another byte
followed_apart : (suffix wrong rest : List ℕ) → FreeOf colon wrong → 0 < length wrong → suffix ≡ wrong ++ rest → (suffix ≡ []) ⊎ (begins_with colon suffix ≡ true) → ⊥
followed_apart suffix [] rest f some e h = omega (arith, some)
followed_apart suffix (b ∷ wrong) rest f some e (inl none) = let clash : [] ≡ b ∷ (wrong ++ rest) = sym none ∙ e in cc
followed_apart suffix (b ∷ wrong) rest f some e (inr begins) = both_ways (b == colon) (free_begins colon (b ∷ wrong) f) (ap (begins_with colon) (sym e) ∙ begins)

-- a colon and a port's place begin with a colon
begins_port : (suffix digits : List ℕ) → suffix ≡ colon ∷ digits → (suffix ≡ []) ⊎ (begins_with colon suffix ≡ true)
begins_port suffix digits e = inr (ap (begins_with colon) e)

-- they have one flaw at most that is found first
one_bad_brackets : (syntax : HostSyntax) (x suffix : List ℕ) → One (BadBrackets syntax x suffix)
one_bad_brackets syntax x suffix p q (BadBrackets.followed v r f n o e h) (BadBrackets.followed w s g m t i k) =
    stands_alike p q refl (ap length (class_cut_unique (λ b. b == colon) v w r s f g o t (sym e ∙ i)).0) h k
one_bad_brackets syntax x suffix p q (BadBrackets.followed v r f n o e h) (BadBrackets.between t k) = absurd (followed_apart suffix v r f n e t)
one_bad_brackets syntax x suffix p q (BadBrackets.followed v r f n o e h) (BadBrackets.port d m i k) = absurd (followed_apart suffix v r f n e (begins_port suffix d i))
one_bad_brackets syntax x suffix p q (BadBrackets.between o h) (BadBrackets.followed w s g m t i k) = absurd (followed_apart suffix w s g m i o)
one_bad_brackets syntax x suffix p q (BadBrackets.between o h) (BadBrackets.between t k) = one_after 1 (NoInner syntax x) (one_no_inner syntax x) p q h k
one_bad_brackets syntax x suffix p q (BadBrackets.between o h) (BadBrackets.port d m i k) = absurd (m h.inside h.found)
one_bad_brackets syntax x suffix p q (BadBrackets.port c n e h) (BadBrackets.followed w s g m t i k) = absurd (followed_apart suffix w s g m i (begins_port suffix c e))
one_bad_brackets syntax x suffix p q (BadBrackets.port c n e h) (BadBrackets.between t k) = absurd (n k.inside k.found)
one_bad_brackets syntax x suffix p q (BadBrackets.port c n e h) (BadBrackets.port d m i k) =
    one_at (λ (digits : List ℕ). Shifted (length x + 3) (Then (NoDigits digits) (PortOutside syntax digits)))
    (λ digits. one_after (length x + 3) (Then (NoDigits digits) (PortOutside syntax digits)) (one_port syntax digits))
    c d p q (tails (sym e ∙ i)) h k

-- ---- all pieces

-- the flaw of a piece, by the byte at its front
data BadPiece (syntax : HostSyntax) (piece : List ℕ) (p : Place) : Type 0 where
  unclosed : (suffix : List ℕ) → FreeOf right_bracket suffix → piece ≡ left_bracket ∷ suffix → IsAt reason.UnclosedBracket 0 1 p → BadPiece syntax piece p
  closed : (x suffix : List ℕ) → FreeOf right_bracket x → piece ≡ left_bracket ∷ (x ++ right_bracket ∷ suffix) → BadBrackets syntax x suffix p → BadPiece syntax piece p
  outside : begins_with left_bracket piece ≡ false → BadOutside syntax piece p → BadPiece syntax piece p

-- every flaw is one of these
piece_flaw : (syntax : HostSyntax) (piece : List ℕ) (p : Place) → BadHost syntax piece p → BadPiece syntax piece p
piece_flaw syntax piece p (BadHost.unclosed suffix f e h) = BadPiece.unclosed suffix f e h
piece_flaw syntax piece p (BadHost.after_bracket x wrong rest f g n o e h) = BadPiece.closed x (wrong ++ rest) f e (BadBrackets.followed wrong rest g n o refl h)
piece_flaw syntax piece p (BadHost.between x rest a h) = BadPiece.closed x rest a.closed a.joined (BadBrackets.between a.followed h)
piece_flaw syntax piece p (BadHost.port_after x digits f n e h) = BadPiece.closed x (colon ∷ digits) f e (BadBrackets.port digits n refl h)
piece_flaw syntax piece p (BadHost.colons b m r h) = BadPiece.outside b (BadOutside.colons m h)
piece_flaw syntax piece p (BadHost.plain t h) = BadPiece.outside t.no_bracket (BadOutside.plain t h)
piece_flaw syntax piece p (BadHost.with_port text digits t f e h) =
    BadPiece.outside (ap (begins_with left_bracket) e ∙ begins-append left_bracket text (colon ∷ digits) t.nonempty ∙ t.no_bracket) (BadOutside.with_port text digits t f e h)

-- a bracket at the front is not another byte
pub bracket_apart : (piece suffix : List ℕ) → piece ≡ left_bracket ∷ suffix → begins_with left_bracket piece ≡ false → ⊥
bracket_apart piece suffix e h = false≢true (sym h ∙ ap (begins_with left_bracket) e)

-- a bracket isn't both closed and not
pub closed_apart : (piece open_after x suffix : List ℕ) → FreeOf right_bracket open_after → piece ≡ left_bracket ∷ open_after → piece ≡ left_bracket ∷ (x ++ right_bracket ∷ suffix) → ⊥
closed_apart piece open_after x suffix f e i = not_free right_bracket x suffix (subst (λ z. FreeOf right_bracket z) (tails (sym e ∙ i)) f)

-- it has one flaw at most that is found first
one_bad_piece : (syntax : HostSyntax) (piece : List ℕ) → One (BadPiece syntax piece)
one_bad_piece syntax piece p q (BadPiece.unclosed a f e h) (BadPiece.unclosed b g i k) = stands_alike p q refl refl h k
one_bad_piece syntax piece p q (BadPiece.unclosed a f e h) (BadPiece.closed y b g i k) = absurd (closed_apart piece a y b f e i)
one_bad_piece syntax piece p q (BadPiece.unclosed a f e h) (BadPiece.outside n k) = absurd (bracket_apart piece a e n)
one_bad_piece syntax piece p q (BadPiece.closed x a f e h) (BadPiece.unclosed b g i k) = absurd (closed_apart piece b x a g i e)
one_bad_piece syntax piece p q (BadPiece.closed x a f e h) (BadPiece.closed y b g i k) =
    let cut = cut_unique right_bracket x y a b f g (tails (sym e ∙ i)) in
    one_at_both (BadBrackets syntax) (one_bad_brackets syntax) x a y b p q cut.0 cut.1 h k
one_bad_piece syntax piece p q (BadPiece.closed x a f e h) (BadPiece.outside n k) = absurd (bracket_apart piece (x ++ right_bracket ∷ a) e n)
one_bad_piece syntax piece p q (BadPiece.outside n h) (BadPiece.unclosed b g i k) = absurd (bracket_apart piece b i n)
one_bad_piece syntax piece p q (BadPiece.outside n h) (BadPiece.closed y b g i k) = absurd (bracket_apart piece (y ++ right_bracket ∷ b) i n)
one_bad_piece syntax piece p q (BadPiece.outside n h) (BadPiece.outside m k) = one_bad_outside syntax piece p q h k

-- a host and a port have one flaw at most that is found first
pub one_host : (syntax : HostSyntax) (piece : List ℕ) → One (BadHost syntax piece)
one_host syntax piece p q h k = one_bad_piece syntax piece p q (piece_flaw syntax piece p h) (piece_flaw syntax piece q k)
