-- The effect of putting a text into a sink, and that two texts have the effect of the joined one: for a
-- formatter, and for the length check. The text that follows is arbitrary, so texts join without counting.
use Rattle.std.specs.Prelude.{◌≡◌, ℕ, List, [], ◌∷◌, ◌++◌, refl}
use Rattle.std.proofs.Common.{sym, ap, subst, ◌∙◌, append_assoc}
use Rattle.std.specs.List.{FoldsTo}
use Rattle.std.proofs.lemmas.List.Folds.{concat-append}
use Rattle.std.specs.declared.fmt.Formatter.{Formatter}
use Rattle.std.specs.Fmt.{HasWrittenStyled, IsFlush}
use Rattle.git_syntax.specs.declared.length.LengthCheck.{LengthCheck}
use Rattle.git_syntax.specs.Bytes.{lossy_text}
use Rattle.git_syntax.specs.Internal.LengthChecks.{is_text_in_time}

-- ---- a formatter

module _ {W : Type 0} (took : W → List ℕ → W → Type 0) where
  -- a formatter that doesn't indent wrote a text that is output unchanged, whatever follows it and whatever its
  -- options
  abbrev pub ShowsText : Formatter W → List ℕ → Formatter W → Type 0
  ShowsText old text new =
      ((suffix : List ℕ) → lossy_text (text ++ suffix) ≡ text ++ lossy_text suffix)
      × (IsFlush old → HasWrittenStyled took old text new)

  -- it wrote the end of a text, which may be any bytes
  abbrev pub ShowsEnd : Formatter W → List ℕ → Formatter W → Type 0
  ShowsEnd old end new = IsFlush old → HasWrittenStyled took old (lossy_text end) new

  -- two sequences of calls, joined
  calls_joined : (w : W) (xs : List (List ℕ)) (v : W) (ys : List (List ℕ)) (u : W)
      → FoldsTo took w xs v → FoldsTo took v ys u → FoldsTo took w (xs ++ ys) u
  calls_joined w [] v ys u p q = subst (λ x. FoldsTo took x ys u) (sym p) q
  calls_joined w (x ∷ xs) v ys u p q = (p.0, p.1, calls_joined p.0 xs v ys u p.2 q)

  -- two written texts, joined
  joined : (a b c : Formatter W) (x y : List ℕ) → HasWrittenStyled took a x b
      → HasWrittenStyled took b y c → HasWrittenStyled took a (x ++ y) c
  joined a b c x y first second = let p = first.wrote in let q = second.wrote in record {
    wrote = record {
      parts = p.parts ++ q.parts;
      calls = calls_joined a.writer p.parts b.writer q.parts c.writer p.calls q.calls;
      whole = concat-append p.parts q.parts ∙ (λ i. p.whole i ++ q.whole i);
    };
    spec = second.spec ∙ first.spec;
    flush = second.flush;
  }

  pub shows_nothing : (a : Formatter W) → ShowsText a [] a
  shows_nothing a = (
    λ suffix. refl,
    λ flush. record {
      wrote = record {
        parts = [];
        calls = refl;
        whole = refl;
      };
      spec = refl;
      flush = flush;
    },
  )

  pub shows_joined : (a b c : Formatter W) (x y : List ℕ) → ShowsText a x b → ShowsText b y c
      → ShowsText a (x ++ y) c
  shows_joined a b c x y first second = (
    λ suffix.
        ap lossy_text (append_assoc x y suffix) ∙ first.0 (y ++ suffix) ∙ ap
        (λ z. x ++ z) (second.0 suffix) ∙ sym (append_assoc x y (lossy_text suffix)),
    λ flush. let before = first.1 flush in joined a b c x y before (second.1 before.flush),
  )

  pub shows_to_end : (a b c : Formatter W) (x y : List ℕ) → ShowsText a x b → ShowsEnd b y c
      → ShowsEnd a (x ++ y) c
  shows_to_end a b c x y first second flush =
      let before = first.1 flush in
      subst (λ t. HasWrittenStyled took a t c) (sym (first.0 y))
      (joined a b c x (lossy_text y) before (second before.flush))

-- ---- a length check

-- the check after a text has the outcome of the check before it, whatever follows
abbrev pub ChecksPast : LengthCheck → List ℕ → LengthCheck → Type 0
ChecksPast old text new = (suffix : List ℕ)
    → is_text_in_time new suffix ≡ is_text_in_time old (text ++ suffix)

pub checks_nothing : (a : LengthCheck) → ChecksPast a [] a
checks_nothing a suffix = refl

pub checks_joined : (a b c : LengthCheck) (x y : List ℕ) → ChecksPast a x b → ChecksPast b y c
    → ChecksPast a (x ++ y) c
checks_joined a b c x y first second suffix = second suffix ∙ first (y ++ suffix) ∙ sym
    (ap (is_text_in_time a) (append_assoc x y suffix))
