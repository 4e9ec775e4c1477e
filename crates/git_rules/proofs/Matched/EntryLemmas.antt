-- The rank of an entry, by that of its URL.
use Rattle.std.proofs.Common.{◌≡◌, ◌∙◌, ◌∷◌, ◌++◌, ap, All, take, drop, get_or, suc, ℕ, ◌+◌, ◌*◌, ◌<◌, ◌≤◌, List, length, refl, sym, subst, arith, Bool, true, Option, Some, None, IfSome, Result, Ok, Err}
use Rattle.std.proofs.lemmas.List.{take_all}
use Rattle.git_rules.specs.declared.normal.NormalError.{NormalError}
use Rattle.git_rules.specs.declared.normal.NormalError.TheVariants.{NoRoom, NoUrl, BrokenEscape, NoHost, BadHost, BadPort, AboveRoot}
use Rattle.git_rules.specs.declared.pattern.Rank.{Rank}
use Rattle.git_rules.specs.Config.{ConfigEntry, sets}
use Rattle.git_rules.specs.Normal.{NormalPlace, IsNormalOf}
use Rattle.git_rules.specs.NormalFlaws.{NormalizesIn}
use Rattle.git_rules.specs.Patterns.{HasRank, RanksFor}
use Rattle.git_rules.specs.PatternEntries.{BufferSuffices, LacksBufferFirst, RanksIn, RanksSubsection, RanksUrlIn}
use Rattle.git_rules.proofs.NormalForms.NormalUnique.{normal_unique}
use Rattle.git_rules.proofs.Rules.RankLemmas.{cut_here}

-- the rank of a URL is that of its one normal form
pub url_ranked : (place pattern : NormalPlace) (url : List ℕ) (r : Option Rank) → IsNormalOf true url pattern → HasRank (RanksFor place) pattern r → HasRank (RanksSubsection (Some place)) (Some url) r
url_ranked place pattern url None form none =
    λ k ranked. none k (subst (λ p. RanksFor place p k) (normal_unique true url ranked.0 pattern ranked.1 form) ranked.2)
url_ranked place pattern url (Some rank) form ranks = (
  (pattern, form, ranks.0),
  λ k ranked. ranks.1 k (subst (λ p. RanksFor place p k) (normal_unique true url ranked.0 pattern ranked.1 form) ranked.2),
)

-- a text that is refused with a buffer that suffices has no normal form
pub no_form : (globs : Bool) (text : List ℕ) (buffer_len : ℕ) (e : NormalError) → ¬ (e ≡ NoRoom) → NormalizesIn globs text buffer_len (Err e) → (n : NormalPlace) → ¬ IsNormalOf globs text n
no_form globs text buffer_len NoRoom other h = absurd (other refl)
no_form globs text buffer_len NoUrl other h = h.2
no_form globs text buffer_len BrokenEscape other h = h.2
no_form globs text buffer_len NoHost other h = h.2
no_form globs text buffer_len BadHost other h = h.2
no_form globs text buffer_len BadPort other h = h.2
no_form globs text buffer_len AboveRoot other h = h.2

-- or the buffer is too short
pub too_short : (text : List ℕ) (buffer_len : ℕ) (e : NormalError) → e ≡ NoRoom → NormalizesIn true text buffer_len (Err e) → buffer_len < 3 * length text + 1
too_short text buffer_len e same h = subst (λ x. NormalizesIn true text buffer_len (Err x)) same h

-- otherwise the buffer suffices
pub long_enough : (globs : Bool) (text : List ℕ) (buffer_len : ℕ) (e : NormalError) → ¬ (e ≡ NoRoom) → NormalizesIn globs text buffer_len (Err e) → 3 * length text + 1 ≤ buffer_len
long_enough globs text buffer_len NoRoom other h = absurd (other refl)
long_enough globs text buffer_len NoUrl other h = h.0
long_enough globs text buffer_len BrokenEscape other h = h.0
long_enough globs text buffer_len NoHost other h = h.0
long_enough globs text buffer_len BadHost other h = h.0
long_enough globs text buffer_len BadPort other h = h.0
long_enough globs text buffer_len AboveRoot other h = h.0

-- an entry of the variable has the rank of its URL
pub entry_ranked : (section name url : List ℕ) (place : NormalPlace) (buffer_len : ℕ) (e : ConfigEntry) (r : Result (Option Rank) NormalError) → sets section name e ≡ true → e.subsection ≡ Some url → RanksUrlIn place buffer_len url r → RanksIn section name (Some place) buffer_len e r
entry_ranked section name url place buffer_len e (Ok None) of same none =
    λ k ranked. none k (subst (λ s. RanksSubsection (Some place) s k) same ranked.1)
entry_ranked section name url place buffer_len e (Ok (Some rank)) of same ranks = (
  (of, subst (λ s. RanksSubsection (Some place) s rank) (sym same) ranks.0),
  λ k ranked. ranks.1 k (subst (λ s. RanksSubsection (Some place) s k) same ranked.1),
)
entry_ranked section name url place buffer_len e (Err error) of same h = (
  h.0,
  λ fits.
      let need : 3 * length url + 1 ≤ buffer_len = subst (λ s. IfSome s (λ u. 3 * length u + 1 ≤ buffer_len)) same (fits of) in
      omega (arith, need, h.1),
)

-- ---- entries for which the buffer suffices

-- all of a front that is the whole list
pub all_of : {T : Type 0} (P : T → Type 0) (items : List T) (n : ℕ) → length items ≤ n → All P (take n items) → All P items
all_of P items n whole h = subst (All P) (take_all n items whole) h

-- the entry after a front for which the buffer sufficed
pub first_short : (section name : List ℕ) (place : Option NormalPlace) (buffer_len : ℕ) (entries : List ConfigEntry) (i : ℕ) (e : ConfigEntry) → i < length entries → e ≡ get_or entries i e → All (BufferSuffices section name place buffer_len) (take i entries) → ¬ BufferSuffices section name place buffer_len e → LacksBufferFirst section name place buffer_len entries
first_short section name place buffer_len entries i e within is enough short = record {
  before = take i entries;
  entry = e;
  others = drop (suc i) entries;
  joined = cut_here entries i e within ∙ ap (λ x. take i entries ++ x ∷ drop (suc i) entries) (sym is);
  enough = enough;
  short = short;
}
