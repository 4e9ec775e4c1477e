-- The answers on settings: the entries that were found, why none were, and that the answer is one.
use Rattle.std.proofs.Common.{◌≡◌, ℕ, suc, ◌+◌, ◌<◌, inl, inr, List, [], ◌∷◌, ◌++◌, length, take, drop, get_or, refl, sym, ap, subst, ◌∙◌, arith, append_assoc, add-one, Option, None, option_to_list, Ok, Err, All, codes}
use Rattle.std.proofs.Math.Seq.{take-append_seam, take-suc}
use Rattle.std.proofs.lemmas.List.{length-take-le}
use Rattle.std.proofs.lemmas.List.Elements.{All-contains, All-take}
use Rattle.std.proofs.lemmas.List.Kept.{AllPairs-from_increasing}
use Rattle.git_rules.specs.declared.pattern.Rank.{Rank}
use Rattle.git_rules.specs.declared.pattern.settings.SettingsError.{SettingsError}
use Rattle.git_rules.specs.declared.pattern.settings.SettingsError.TheVariants.{Memory, NoRoom, NoValue}
use Rattle.git_rules.specs.Config.{ConfigEntry}
use Rattle.git_rules.specs.Normal.{NormalPlace}
use Rattle.git_rules.specs.PatternEntries.{BufferSuffices, LacksBufferFirst}
use Rattle.git_rules.specs.Patterns.{HasRank, IsBestAt, IsBetter}
use Rattle.git_rules.specs.Settings.{AddsBest, AddsValue, AreFlawless, AreSettings, AreUsed, EntryFails, FirstTakenLacks, IsListName, IsOfFirst, IsTakenAt, RanksSetting, RefusesSettings}
use Rattle.git_rules.proofs.Matched.RankLemmas.{step}
use Rattle.git_rules.proofs.Rules.RankLemmas.{cut_here}
use Rattle.git_rules.proofs.Settled.ListLemmas.{same_ascending}
use Rattle.git_rules.proofs.Settled.TakenLemmas.{at_cut, grow, same_best, shrink}
use Rattle.git_rules.proofs.Settled.UsedLemmas.{ListedSoFar, here_by_index, listed_more}

-- ---- a front of the entries

-- one entry further
pub further : (name : List ℕ) (place : Option NormalPlace) (entries : List ConfigEntry) (i : ℕ) (e : ConfigEntry) (best r : Option (ℕ × Rank)) (rank : Option Rank) (old new : List ℕ) (u : Unit {0}) → i < length entries → e ≡ get_or entries i e → ListedSoFar name place (take i entries) best old → HasRank (RanksSetting name place) e rank → IsBetter best i rank r → AddsBest r e i old new (Ok u) → ListedSoFar name place (take (i + 1) entries) r new
further name place entries i e best r rank old new u within is h ranked better add =
    let done = take i entries in
    let size : length done ≡ i = length-take-le i entries (omega arith) in
    let next : done ++ e ∷ [] ≡ take (i + 1) entries =
    ap (λ x. done ++ x ∷ []) is ∙ sym (take-suc entries i e within) ∙ ap (λ n. take n entries) (sym (add-one i)) in
    subst (λ es. ListedSoFar name place es r new) next (listed_more name place done e best r rank old new u h ranked (subst (λ n. IsBetter best n rank r) (sym size) better) (subst (λ n. AddsBest r e n old new (Ok u)) (sym size) add))

-- the first entry that is taken and has no value
first_lacks : (name : List ℕ) (place : Option NormalPlace) (done others : List ConfigEntry) (e : ConfigEntry) (found : List ℕ) (at : ℕ) → AreUsed name place done found → IsTakenAt name place (done ++ e ∷ []) (length done) e → e.value ≡ None → at ≡ e.at → FirstTakenLacks name place (done ++ e ∷ others) at
first_lacks name place done others e found at h here lacks begins = record {
  index = length done;
  entry = e;
  taken = subst (λ es. IsTakenAt name place es (length done) e) (append_assoc done (e ∷ []) others) (grow name place (done ++ e ∷ []) others (length done) e here);
  lacks = lacks;
  begins = begins;
  first = λ j f before taken. h.values j f (shrink name place done (e ∷ others) j f before taken);
}

-- an entry that is refused
refused_here : (name : List ℕ) (place : Option NormalPlace) (buffer_len : ℕ) (done others : List ConfigEntry) (e : ConfigEntry) (found new : List ℕ) (error : SettingsError) → IsListName name → AreUsed name place done found → IsTakenAt name place (done ++ e ∷ []) (length done) e → AddsValue e (length done) found new (Err error) → RefusesSettings name place buffer_len (done ++ e ∷ others) error
refused_here name place buffer_len done others e found new Memory list h here add = tt
refused_here name place buffer_len done others e found new NoRoom list h here add = absurd add
refused_here name place buffer_len done others e found new (NoValue at) list h here add =
    (list, first_lacks name place done others e found at h here add.0 add.1)

refused_by : (name : List ℕ) (place : Option NormalPlace) (buffer_len : ℕ) (done others : List ConfigEntry) (e : ConfigEntry) (best r : Option (ℕ × Rank)) (rank : Option Rank) (found new : List ℕ) (error : SettingsError) → IsListName name → ListedSoFar name place done best found → HasRank (RanksSetting name place) e rank → IsBetter best (length done) rank r → AddsBest r e (length done) found new (Err error) → RefusesSettings name place buffer_len (done ++ e ∷ others) error
refused_by name place buffer_len done others e best r rank found new error list h ranked better (inl (index, add)) =
    let next = step (RanksSetting name place) done e (length done) best r rank h.so_far refl ranked better in
    refused_here name place buffer_len done others e found new error list h.used (here_by_index name place done e r next index) add
refused_by name place buffer_len done others e best r rank found new error list h ranked better (inr (other, same, is)) = absurd cc

-- the same for an entry at an index of the list
pub refused_at : (name : List ℕ) (place : Option NormalPlace) (buffer_len : ℕ) (entries : List ConfigEntry) (i : ℕ) (e : ConfigEntry) (best r : Option (ℕ × Rank)) (rank : Option Rank) (old new : List ℕ) (error : SettingsError) → IsListName name → i < length entries → e ≡ get_or entries i e → ListedSoFar name place (take i entries) best old → HasRank (RanksSetting name place) e rank → IsBetter best i rank r → AddsBest r e i old new (Err error) → RefusesSettings name place buffer_len entries error
refused_at name place buffer_len entries i e best r rank old new error list within is h ranked better add =
    let done = take i entries in
    let size : length done ≡ i = length-take-le i entries (omega arith) in
    let whole : entries ≡ done ++ e ∷ drop (suc i) entries = cut_here entries i e within ∙ ap (λ x. done ++ x ∷ drop (suc i) entries) (sym is) in
    subst (λ es. RefusesSettings name place buffer_len es error) (sym whole) (refused_by name place buffer_len done (drop (suc i) entries) e best r rank old new error list h ranked (subst (λ n. IsBetter best n rank r) (sym size) better) (subst (λ n. AddsBest r e n old new (Err error)) (sym size) add))

-- ---- the first error

-- the entries so far have no error
flawless_so_far : (name : List ℕ) (place : Option NormalPlace) (buffer_len : ℕ) (done : List ConfigEntry) (found : List ℕ) → AreUsed name place done found → All (BufferSuffices (codes "http") name place buffer_len) done → AreFlawless name place buffer_len done
flawless_so_far name place buffer_len done found h enough = record { enough = enough; values = λ list i e taken. h.values i e taken }

-- the error of an entry that is taken
fails_here : (name : List ℕ) (place : Option NormalPlace) (buffer_len : ℕ) (done : List ConfigEntry) (e : ConfigEntry) (found new : List ℕ) (error : SettingsError) → IsListName name → BufferSuffices (codes "http") name place buffer_len e → IsTakenAt name place (done ++ e ∷ []) (length done) e → AddsValue e (length done) found new (Err error) → EntryFails name place buffer_len done e error
fails_here name place buffer_len done e found new Memory list fits here add = (fits, here, λ _. add)
fails_here name place buffer_len done e found new NoRoom list fits here add = absurd add
fails_here name place buffer_len done e found new (NoValue at) list fits here add = (fits, list, here, add.0, add.1)

-- the error of an entry, by the best of those up to it
fails_by : (name : List ℕ) (place : Option NormalPlace) (buffer_len : ℕ) (done : List ConfigEntry) (e : ConfigEntry) (best r : Option (ℕ × Rank)) (rank : Option Rank) (found new : List ℕ) (error : SettingsError) → IsListName name → BufferSuffices (codes "http") name place buffer_len e → ListedSoFar name place done best found → HasRank (RanksSetting name place) e rank → IsBetter best (length done) rank r → AddsBest r e (length done) found new (Err error) → EntryFails name place buffer_len done e error
fails_by name place buffer_len done e best r rank found new error list fits h ranked better (inl (index, add)) =
    let next = step (RanksSetting name place) done e (length done) best r rank h.so_far refl ranked better in
    fails_here name place buffer_len done e found new error list fits (here_by_index name place done e r next index) add
fails_by name place buffer_len done e best r rank found new error list fits h ranked better (inr (other, same, is)) = absurd cc

-- the first error is that of the entry at an index of the list
first_here : (name : List ℕ) (place : Option NormalPlace) (buffer_len : ℕ) (entries : List ConfigEntry) (i : ℕ) (e : ConfigEntry) (found : List ℕ) (error : SettingsError) → i < length entries → e ≡ get_or entries i e → AreUsed name place (take i entries) found → All (BufferSuffices (codes "http") name place buffer_len) (take i entries) → EntryFails name place buffer_len (take i entries) e error → IsOfFirst name place buffer_len entries error
first_here name place buffer_len entries i e found error within is h enough fails = record {
  before = take i entries;
  entry = e;
  others = drop (suc i) entries;
  joined = cut_here entries i e within ∙ ap (λ x. take i entries ++ x ∷ drop (suc i) entries) (sym is);
  flawless = flawless_so_far name place buffer_len (take i entries) found h enough;
  fails = fails;
}

-- so it is for an entry for which the buffer is too short
pub first_unfit : (name : List ℕ) (place : Option NormalPlace) (buffer_len : ℕ) (entries : List ConfigEntry) (i : ℕ) (e : ConfigEntry) (best : Option (ℕ × Rank)) (found : List ℕ) → i < length entries → e ≡ get_or entries i e → ListedSoFar name place (take i entries) best found → All (BufferSuffices (codes "http") name place buffer_len) (take i entries) → ¬ BufferSuffices (codes "http") name place buffer_len e → IsOfFirst name place buffer_len entries NoRoom
first_unfit name place buffer_len entries i e best found within is h enough short = first_here name place buffer_len entries i e found NoRoom within is h.used enough short

-- and for an entry that is refused
pub first_refused : (name : List ℕ) (place : Option NormalPlace) (buffer_len : ℕ) (entries : List ConfigEntry) (i : ℕ) (e : ConfigEntry) (best r : Option (ℕ × Rank)) (rank : Option Rank) (old new : List ℕ) (error : SettingsError) → IsListName name → i < length entries → e ≡ get_or entries i e → ListedSoFar name place (take i entries) best old → All (BufferSuffices (codes "http") name place buffer_len) (take i entries) → BufferSuffices (codes "http") name place buffer_len e → HasRank (RanksSetting name place) e rank → IsBetter best i rank r → AddsBest r e i old new (Err error) → IsOfFirst name place buffer_len entries error
first_refused name place buffer_len entries i e best r rank old new error list within is h enough fits ranked better add =
    let size : length (take i entries) ≡ i = length-take-le i entries (omega arith) in
    let fails = fails_by name place buffer_len (take i entries) e best r rank old new error list fits h ranked (subst (λ n. IsBetter best n rank r) (sym size) better) (subst (λ n. AddsBest r e n old new (Err error)) (sym size) add) in
    first_here name place buffer_len entries i e old error within is h.used enough fails

-- the first error of a name that isn't a list is that of the buffer
pub first_of_buffer : (name : List ℕ) (place : Option NormalPlace) (buffer_len : ℕ) (entries : List ConfigEntry) → ¬ IsListName name → LacksBufferFirst (codes "http") name place buffer_len entries → IsOfFirst name place buffer_len entries NoRoom
first_of_buffer name place buffer_len entries single h = record {
  before = h.before;
  entry = h.entry;
  others = h.others;
  joined = h.joined;
  flawless = record { enough = h.enough; values = λ list i e taken. absurd (single list) };
  fails = h.short;
}

-- or memory is refused for the best entry, if the buffer suffices
pub first_of_memory : (name : List ℕ) (place : Option NormalPlace) (buffer_len : ℕ) (entries : List ConfigEntry) (i : ℕ) → ¬ IsListName name → All (BufferSuffices (codes "http") name place buffer_len) entries → IsBestAt (RanksSetting name place) entries i → IsOfFirst name place buffer_len entries Memory
first_of_memory name place buffer_len entries i single enough best =
    let Fits = BufferSuffices (codes "http") name place buffer_len in
    let all : All Fits (best.before ++ best.best ∷ best.suffix) = subst (All Fits) best.joined enough in
    record {
      before = best.before;
      entry = best.best;
      others = best.suffix;
      joined = best.joined;
      flawless = record {
        enough = subst (All Fits) (take-append_seam best.before (best.best ∷ best.suffix)) (All-take Fits (length best.before) (best.before ++ best.best ∷ best.suffix) all);
        values = λ list i e taken. absurd (single list);
      };
      fails = (
        All-contains Fits (best.before ++ best.best ∷ best.suffix) best.best all (at_cut best.before best.best best.suffix),
        record { before = best.before; others = []; rank = best.rank; joined = refl; index = refl; ranks = best.ranks.0; not_higher = best.not_higher },
        λ list. absurd (single list),
      );
    }

-- ---- one answer

pub one_answer : (name : List ℕ) (place : Option NormalPlace) (entries : List ConfigEntry) (a b : List ℕ) → AreSettings name place entries a → AreSettings name place entries b → a ≡ b
one_answer name place entries a b (inl (list, h)) (inl (_, k)) =
    same_ascending a b (AllPairs-from_increasing a h.in_order) (AllPairs-from_increasing b k.in_order) (λ i. (λ there. (k.used i).1 ((h.used i).0 there), λ there. (h.used i).1 ((k.used i).0 there)))
one_answer name place entries a b (inl (list, h)) (inr (single, k)) = absurd (single list)
one_answer name place entries a b (inr (single, h)) (inl (list, k)) = absurd (single list)
one_answer name place entries a b (inr (_, (best, is_best, found))) (inr (_, (other, is_other, same))) =
    found ∙ ap option_to_list (same_best name place entries best other is_best is_other) ∙ sym same
