-- The runs of a text: the first one and those of the rest.
use Rattle.std.proofs.Common.{◌≡◌, ◌≢◌, ◌∙◌, ℕ, ◌+◌, Bool, true, false, if◌then◌else◌, List, [], ◌∷◌, length, take, drop, Option, Some, None, option_map, refl, sym, ap, subst, arith, zero, suc}
use Rattle.std.proofs.Math.Seq.{drop-length, take-length}
use Rattle.git_secrets.specs.declared.mark.Class.{Class}
use Rattle.git_secrets.specs.Secrets.{first_of, is_of, onto_run, runs}

-- an index that is found one later
pub one_less : (found : Option ℕ) (n : ℕ) → option_map (λ k. k + 1) found ≡ Some n → (k : ℕ) × (found ≡ Some k) × (suc k ≡ n)
one_less None n e = cc
one_less (Some k) n e = (k, refl, (let same : k + 1 ≡ n = cc in omega arith))

none_less : (found : Option ℕ) → option_map (λ k. k + 1) found ≡ None → found ≡ None
none_less None e = refl
none_less (Some k) e = cc

module _ (c : Class) where
  -- the first so many bytes of a text are its first run
  abbrev pub CutsRun : List ℕ → ℕ → Type 0
  CutsRun text n = runs c text ≡ take n text ∷ runs c (drop n text)

  -- the byte that is found in a text whose first byte may be of the class
  found_by : (b : ℕ) (bs : List ℕ) (is : Bool) (found : Option ℕ) → is_of c b ≡ is → first_of c (b ∷ bs) ≡ found → (if is then Some 0 else option_map (λ k. k + 1) (first_of c bs)) ≡ found
  found_by b bs is found e h = ap (λ (t : Bool). if t then Some 0 else option_map (λ k. k + 1) (first_of c bs)) (sym e) ∙ h

  -- the runs of a text, by whether its first byte is of the class
  pub runs_by : (b : ℕ) (bs : List ℕ) (is : Bool) → is_of c b ≡ is → runs c (b ∷ bs) ≡ (if is then (b ∷ []) ∷ runs c bs else onto_run c b (runs c bs))
  runs_by b bs is e = ap (λ (t : Bool). if t then (b ∷ []) ∷ runs c bs else onto_run c b (runs c bs)) e

  -- a byte before runs, by whether the first byte of the first of them is of the class
  pub onto_by : (b d : ℕ) (more : List ℕ) (rest : List (List ℕ)) (is : Bool) → is_of c d ≡ is → onto_run c b ((d ∷ more) ∷ rest) ≡ (if is then (b ∷ []) ∷ (d ∷ more) ∷ rest else (b ∷ d ∷ more) ∷ rest)
  onto_by b d more rest is e = ap (λ (t : Bool). if t then (b ∷ []) ∷ (d ∷ more) ∷ rest else (b ∷ d ∷ more) ∷ rest) e

  -- a byte of the class is found at the place at which it is first
  is_here : (b : ℕ) (bs : List ℕ) (is : Bool) → is_of c b ≡ is → first_of c (b ∷ bs) ≡ Some 0 → is ≡ true
  is_here b bs true e found = refl
  is_here b bs false e found =
      let less = one_less (first_of c bs) 0 (found_by b bs false (Some 0) e found) in absurd (omega (arith, less.2))

  -- it is found after a byte that is none
  is_after : (b : ℕ) (bs : List ℕ) (n : ℕ) (is : Bool) → is_of c b ≡ is → first_of c (b ∷ bs) ≡ Some (suc n) → (is ≡ false) × (first_of c bs ≡ Some n)
  is_after b bs n true e found =
      let wrong : ◌≡◌ {A = Option ℕ} (Some 0) (Some (suc n)) = found_by b bs true (Some (suc n)) e found in
      let numbers : 0 ≡ suc n = cc in absurd (omega arith)
  is_after b bs n false e found =
      let less = one_less (first_of c bs) (suc n) (found_by b bs false (Some (suc n)) e found) in
      (refl, less.1 ∙ ap Some (omega (arith, less.2)))

  -- a byte of the class is alone
  alone : (b : ℕ) (bs : List ℕ) → first_of c (b ∷ bs) ≡ Some 0 → CutsRun (b ∷ bs) 1
  alone b bs found = runs_by b bs true (is_here b bs (is_of c b) refl found)

  run_onto : (b : ℕ) (bs : List ℕ) (n : ℕ) → first_of c bs ≡ Some n → ((k : ℕ) → n ≡ suc k → CutsRun bs n) → onto_run c b (runs c bs) ≡ (b ∷ take n bs) ∷ runs c (drop n bs)
  run_onto b [] n found rest = cc
  run_onto b (d ∷ ds) zero found rest =
      let is : is_of c d ≡ true = is_here d ds (is_of c d) refl found in
      ap (onto_run c b) (runs_by d ds true is) ∙ onto_by b d [] (runs c ds) true is ∙ ap (λ t. (b ∷ []) ∷ t) (sym (runs_by d ds true is))
  run_onto b (d ∷ ds) (suc n) found rest =
      let is = is_after d ds n (is_of c d) refl found in
      ap (onto_run c b) (rest n refl) ∙ onto_by b d (take n ds) (runs c (drop n ds)) false is.0

  -- other bytes are a run up to the first one of the class
  up_to : (text : List ℕ) (n : ℕ) → first_of c text ≡ Some (suc n) → CutsRun text (suc n)
  up_to [] n found = cc
  up_to (b ∷ bs) n found =
      let is = is_after b bs n (is_of c b) refl found in
      runs_by b bs false is.0 ∙ run_onto b bs n is.1 (λ k e. subst (CutsRun bs) (sym e) (up_to bs k (is.1 ∙ ap Some e)))

  no_byte : (b : ℕ) (bs : List ℕ) (is : Bool) → is_of c b ≡ is → first_of c (b ∷ bs) ≡ None → (is ≡ false) × (first_of c bs ≡ None)
  no_byte b bs true e found = let wrong : ◌≡◌ {A = Option ℕ} (Some 0) None = found_by b bs true None e found in cc
  no_byte b bs false e found = (refl, none_less _ (found_by b bs false None e found))

  -- a text without a byte of the class is one run
  one_run : (b : ℕ) (bs : List ℕ) → first_of c (b ∷ bs) ≡ None → runs c (b ∷ bs) ≡ (b ∷ bs) ∷ []
  one_run b [] found = runs_by b [] false ((no_byte b [] (is_of c b) refl found).0)
  one_run b (d ∷ ds) found =
      let none = no_byte b (d ∷ ds) (is_of c b) refl found in
      let next = no_byte d ds (is_of c d) refl none.1 in
      runs_by b (d ∷ ds) false none.0 ∙ ap (onto_run c b) (one_run d ds none.1) ∙ onto_by b d ds [] false next.0

  -- ---- answers

  -- the first run of a text that is cut, and the rest, by other names
  pub cut_named : (text front back : List ℕ) (n : ℕ) → front ≡ take n text → back ≡ drop n text → CutsRun text n → runs c text ≡ front ∷ runs c back
  cut_named text front back n is_front is_back cut = cut ∙ ap (λ t. t ∷ runs c (drop n text)) (sym is_front) ∙ ap (λ t. front ∷ runs c t) (sym is_back)

  -- a text that isn't empty and has no byte of the class
  pub whole_run : (text : List ℕ) → text ≢ [] → None ≡ first_of c text → CutsRun text (length text)
  whole_run [] some none = absurd (some refl)
  whole_run (b ∷ bs) some none =
      one_run b bs (sym none) ∙ ap (λ t. t ∷ []) (sym (take-length (b ∷ bs))) ∙ ap (λ t. take (length (b ∷ bs)) (b ∷ bs) ∷ t) (sym (ap (runs c) (drop-length (b ∷ bs))))

  -- a text that begins with a byte of the class
  pub byte_run : (text : List ℕ) (n : ℕ) → n ≡ 0 → Some n ≡ first_of c text → CutsRun text 1
  byte_run [] n front found = cc
  byte_run (b ∷ bs) n front found = alone b bs (sym found ∙ ap Some front)

  -- a text that begins with another byte
  pub first_run : (text : List ℕ) (n : ℕ) → ¬ (n ≡ 0) → Some n ≡ first_of c text → CutsRun text n
  first_run text zero front found = absurd (front refl)
  first_run text (suc n) front found = up_to text n (sym found)
