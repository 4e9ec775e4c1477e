-- Brackets that Git finds around a host: which bracket opens them, which closes them, and that a text has one
-- pair at most.
use Rattle.std.proofs.Common.{◌≡◌, ◌∙◌, ℕ, ◌+◌, ◌<◌, false, Some, None, List, [], ◌∷◌, ◌++◌, length, take, drop, refl, sym, ap, subst, arith, append_assoc}
use Rattle.std.proofs.lemmas.Bool.{both_ways}
use Rattle.std.proofs.lemmas.List.{drop_at, length-append, length-take-le, take_at}
use Rattle.bstr.specs.Find.{FindsNeedle}
use Rattle.git_syntax.specs.Bytes.{at_sign, left_bracket, right_bracket, FreeOf, Holds, begins_with}
use Rattle.git_syntax.proofs.Texts.CutLemmas.{cut_unique, different_bytes, heads, held_cut_unique, none_held, none_held_before, not_free, occurs_cut, tails}
use Rattle.git_reads.specs.Git.{host_mark, CutsPlace, HostEnd, BracketCut, LacksHostBrackets, OpensHost}
use Rattle.git_reads.specs.Internal.{CutsPlaceAt}

-- ---- the bracket that opens a host

-- the first mark opens one
pub opened_after : (t front rest : List ℕ) (n : ℕ) → FindsNeedle t host_mark 0 (Some n) → front ≡ take (n + 1) t → rest ≡ drop (n + 2) t → OpensHost t front rest
opened_after t front rest n h first suffix =
    let user = take n t in
    let e : t ≡ user ++ (host_mark ++ drop (n + 2) t) = occurs_cut t host_mark n h.1 in
    let joined : t ≡ (user ++ at_sign ∷ []) ++ left_bracket ∷ drop (n + 2) t = e ∙ sym (append_assoc user (at_sign ∷ []) (left_bracket ∷ drop (n + 2) t)) in
    let size : length (user ++ at_sign ∷ []) ≡ n + 1 = omega (arith, length-append user (at_sign ∷ []), length-take-le n t (omega (arith, h.1.fits))) in
    let cut : take (n + 1) t ≡ user ++ at_sign ∷ [] = ap (take (n + 1)) joined ∙ take_at (user ++ at_sign ∷ []) (left_bracket ∷ drop (n + 2) t) (n + 1) size in
    OpensHost.after_at user (none_held_before t host_mark n (omega arith) (λ j l. h.0.before j (omega arith) l)) (first ∙ cut) (e ∙ ap (λ x. user ++ (host_mark ++ x)) (sym suffix))

-- a text in which the mark is nowhere found doesn't hold it
pub unopened : (t : List ℕ) → FindsNeedle t host_mark 0 None → ¬ Holds host_mark t
unopened t h = none_held t host_mark (λ j l. h j (omega arith) l)

-- a text without the mark that begins with a bracket is opened by that
pub opened_front : (t front rest : List ℕ) → FindsNeedle t host_mark 0 None → front ≡ [] → t ≡ left_bracket ∷ rest → OpensHost t front rest
opened_front t front rest h first e = OpensHost.at_front (unopened t h) first e

-- ---- the text around brackets

-- the bracket is between the two pieces
opened_joined : (t front rest : List ℕ) → OpensHost t front rest → t ≡ front ++ left_bracket ∷ rest
opened_joined t front rest (OpensHost.after_at user none first e) =
    e ∙ sym (append_assoc user (at_sign ∷ []) (left_bracket ∷ rest)) ∙ ap (λ x. x ++ left_bracket ∷ rest) (sym first)
opened_joined t front rest (OpensHost.at_front none first e) = e ∙ ap (λ x. x ++ left_bracket ∷ rest) (sym first)

-- the text up to the bracket that closes them, and the rest
brackets_joined : (t front inside suffix : List ℕ) → BracketCut t front inside suffix → t ≡ (front ++ left_bracket ∷ inside) ++ right_bracket ∷ suffix
brackets_joined t front inside suffix h =
    opened_joined t front (inside ++ right_bracket ∷ suffix) h.opened ∙ sym (append_assoc front (left_bracket ∷ inside) (right_bracket ∷ suffix))

-- the place of that bracket
brackets_length : (front inside : List ℕ) → length (front ++ left_bracket ∷ inside) ≡ length front + 1 + length inside
brackets_length front inside = omega (arith, length-append front (left_bracket ∷ inside))

-- the text is passed over up to there
pub brackets_end : (t front inside suffix passed rest : List ℕ) (n : ℕ) → BracketCut t front inside suffix → n ≡ length front + 1 + length inside → passed ≡ take n t → rest ≡ drop n t → HostEnd t passed rest
brackets_end t front inside suffix passed rest n h place first last =
    let e = brackets_joined t front inside suffix h in
    let size : length (front ++ left_bracket ∷ inside) ≡ n = brackets_length front inside ∙ sym place in
    HostEnd.brackets front inside suffix h
    (first ∙ ap (take n) e ∙ take_at (front ++ left_bracket ∷ inside) (right_bracket ∷ suffix) n size)
    (last ∙ ap (drop n) e ∙ drop_at (front ++ left_bracket ∷ inside) (right_bracket ∷ suffix) n size)

-- ---- one pair of brackets

-- no mark reaches from a text without it into one that follows
mark_no_overlap : (b : ℕ) (bs x y : List ℕ) → ¬ Holds host_mark (b ∷ bs) → host_mark ++ x ≡ b ∷ (bs ++ (host_mark ++ y)) → ⊥
mark_no_overlap b [] x y h e = different_bytes 91 64 refl (tails e)
mark_no_overlap b (c ∷ bs) x y h e =
    h ([], bs, ap (λ z. z ∷ c ∷ bs) (sym (heads e)) ∙ ap (λ z. 64 ∷ z ∷ bs) (sym (heads (tails e))))

-- one bracket opens the host
opens_unique : (t front rest other more : List ℕ) → OpensHost t front rest → OpensHost t other more → (front ≡ other) × (rest ≡ more)
opens_unique t front rest other more (OpensHost.after_at user none is e) (OpensHost.after_at name none' is' e') =
    let same = held_cut_unique host_mark mark_no_overlap user name rest more none none' (sym e ∙ e') in
    (is ∙ ap (λ u. u ++ at_sign ∷ []) same.0 ∙ sym is', same.1)
opens_unique t front rest other more (OpensHost.after_at user none is e) (OpensHost.at_front none' is' e') = absurd (none' (user, rest, e))
opens_unique t front rest other more (OpensHost.at_front none is e) (OpensHost.after_at name none' is' e') = absurd (none (name, more, e'))
opens_unique t front rest other more (OpensHost.at_front none is e) (OpensHost.at_front none' is' e') = (is ∙ sym is', tails (sym e ∙ e'))

-- and one closes it
pub brackets_unique : (t front inside suffix other within beyond : List ℕ) → BracketCut t front inside suffix → BracketCut t other within beyond → (front ≡ other) × (inside ≡ within) × (suffix ≡ beyond)
brackets_unique t front inside suffix other within beyond h k =
    let opened = opens_unique t front (inside ++ right_bracket ∷ suffix) other (within ++ right_bracket ∷ beyond) h.opened k.opened in
    let closed = cut_unique right_bracket inside within suffix beyond h.next k.next opened.1 in
    (opened.0, closed.0, closed.1)

-- a bracket that opens a host rules out that none does
opened_not_lacked : (t front rest : List ℕ) → OpensHost t front rest → ¬ Holds host_mark t → begins_with left_bracket t ≡ false → ⊥
opened_not_lacked t front rest (OpensHost.after_at user none is e) lacks begins = lacks (user, rest, e)
opened_not_lacked t front rest (OpensHost.at_front none is e) lacks begins = both_ways _ begins (ap (begins_with left_bracket) e)

-- a pair of host brackets rules out that a text lacks one
pub brackets_not_lacked : (t front inside suffix : List ℕ) → BracketCut t front inside suffix → LacksHostBrackets t → ⊥
brackets_not_lacked t front inside suffix h (LacksHostBrackets.unopened none begins) = opened_not_lacked t front (inside ++ right_bracket ∷ suffix) h.opened none begins
brackets_not_lacked t front inside suffix h (LacksHostBrackets.unclosed other rest opened free) =
    let same = opens_unique t front (inside ++ right_bracket ∷ suffix) other rest h.opened opened in
    not_free right_bracket inside suffix (subst (λ s. FreeOf right_bracket s) (sym same.1) free)

-- one front is passed over
pub host_end_unique : (t passed rest other more : List ℕ) → HostEnd t passed rest → HostEnd t other more → (passed ≡ other) × (rest ≡ more)
host_end_unique t passed rest other more (HostEnd.brackets f i b h p r) (HostEnd.brackets f' i' b' h' p' r') =
    let same = brackets_unique t f i b f' i' b' h h' in
    (p ∙ ap (λ x. x ++ left_bracket ∷ i) same.0 ∙ ap (λ x. f' ++ left_bracket ∷ x) same.1 ∙ sym p', r ∙ ap (λ x. right_bracket ∷ x) same.2 ∙ sym r')
host_end_unique t passed rest other more (HostEnd.brackets f i b h p r) (HostEnd.none lacks p' r') = absurd (brackets_not_lacked t f i b h lacks)
host_end_unique t passed rest other more (HostEnd.none lacks p r) (HostEnd.brackets f i b h p' r') = absurd (brackets_not_lacked t f i b h lacks)
host_end_unique t passed rest other more (HostEnd.none lacks p r) (HostEnd.none lacks' p' r') = (p ∙ sym p', r ∙ sym r')

-- a text is the skipped front and the rest
end_joined : (t passed rest : List ℕ) → HostEnd t passed rest → t ≡ passed ++ rest
end_joined t passed rest (HostEnd.brackets f i b h p r) =
    brackets_joined t f i b h ∙ ap (λ x. x ++ right_bracket ∷ b) (sym p) ∙ ap (λ x. passed ++ x) (sym r)
end_joined t passed rest (HostEnd.none lacks p r) = sym r ∙ ap (λ x. x ++ rest) (sym p)

-- ---- cuts after brackets

-- a text that is cut isn't empty
pub cut_some : (c : ℕ) (t place rest : List ℕ) → CutsPlace c t place rest → 0 < length t
cut_some c t place rest h =
    let whole = ap length (end_joined t h.passed (h.between ++ c ∷ rest) h.end) in
    omega (arith, whole, length-append h.passed (h.between ++ c ∷ rest), length-append h.between (c ∷ rest))

-- a text without the byte after the brackets isn't cut at it
pub uncut : (c : ℕ) (t passed rest : List ℕ) → HostEnd t passed rest → FreeOf c rest → (place more : List ℕ) → ¬ CutsPlace c t place more
uncut c t passed rest end free place more h =
    let ends = host_end_unique t passed rest h.passed (h.between ++ c ∷ more) end h.end in
    not_free c h.between more (subst (λ s. FreeOf c s) ends.1 free)

-- one with it is cut there
pub cut_after : (c : ℕ) (t passed rest between suffix place found : List ℕ) (n : ℕ) → HostEnd t passed rest → t ≡ passed ++ rest → FreeOf c between → rest ≡ between ++ c ∷ suffix → n ≡ length passed + length between → place ≡ take n t → found ≡ drop n t → CutsPlaceAt c t place found
cut_after c t passed rest between suffix place found n end whole first e size front back =
    let joined : t ≡ (passed ++ between) ++ c ∷ suffix = whole ∙ ap (λ x. passed ++ x) e ∙ sym (append_assoc passed between (c ∷ suffix)) in
    let counted : length (passed ++ between) ≡ n = length-append passed between ∙ sym size in
    let ends : HostEnd t passed (between ++ c ∷ suffix) = subst (λ x. HostEnd t passed x) e end in (
      suffix,
      back ∙ ap (drop n) joined ∙ drop_at (passed ++ between) (c ∷ suffix) n counted,
      record {
        passed = passed;
        between = between;
        end = ends;
        first = first;
        joined = front ∙ ap (take n) joined ∙ take_at (passed ++ between) (c ∷ suffix) n counted;
      },
    )
