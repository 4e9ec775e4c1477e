-- The pieces of a text, and their numbers, one after the other.
use Rattle.std.proofs.Common.{◌≡◌, ◌∙◌, ℕ, ◌+◌, ◌*◌, ◌≤◌, List, [], ◌∷◌, ◌++◌, length, map, refl, ap, sym, arith, append_assoc, append-nil, length-append}
use Rattle.std.specs.List.{flat_map}
use Rattle.std.proofs.lemmas.Grind.{flat_map-append}
use Rattle.git_audit.specs.declared.secret.Piece.{Piece}
use Rattle.git_audit.specs.Secrets.{Part, piece_part}
use Rattle.git_audit.specs.Secrets.Part.{shown, hidden}
use Rattle.c_values.specs.PieceNumbers.{part_numbers}

-- one piece more
pieces_more : (done : List Piece) (piece : Piece) (next : List Part)
    → map piece_part done ++ piece_part piece ∷ next ≡ map piece_part (done ++ piece ∷ []) ++ next
pieces_more [] piece next = refl
pieces_more (d ∷ done) piece next = ap (λ parts. piece_part d ∷ parts) (pieces_more done piece next)

-- the rest is cut once more
pub cut_more : (all : List Part) (done : List Piece) (piece : Piece) (left next : List Part)
    → all ≡ map piece_part done ++ left → left ≡ piece_part piece ∷ next
    → all ≡ map piece_part (done ++ piece ∷ []) ++ next
cut_more all done piece left next h cut = h ∙ ap (λ parts. map piece_part done ++ parts) cut ∙ pieces_more done piece next

-- nothing is left
pub cut_all : (all : List Part) (done : List Piece) (left : List Part) → all ≡ map piece_part done ++ left → left ≡ []
    → all ≡ map piece_part done
cut_all all done left h empty = h ∙ ap (λ parts. map piece_part done ++ parts) empty ∙ append-nil (map piece_part done)

-- the numbers of one piece more
pub numbers_more : (done : List Piece) (piece : Piece)
    → flat_map part_numbers (map piece_part done) ++ part_numbers (piece_part piece)
    ≡ flat_map part_numbers (map piece_part (done ++ piece ∷ []))
numbers_more [] piece = sym (append-nil (part_numbers (piece_part piece)))
numbers_more (d ∷ done) piece =
    append_assoc (part_numbers (piece_part d)) (flat_map part_numbers (map piece_part done)) (part_numbers (piece_part piece))
    ∙ ap (λ numbers. part_numbers (piece_part d) ++ numbers) (numbers_more done piece)

-- the numbers of all are those of some pieces, of the next one, and of the rest
numbers_of_all : (all : List Part) (done : List Piece) (piece : Piece) (next : List Part)
    → all ≡ map piece_part done ++ piece_part piece ∷ next
    → length (flat_map part_numbers all) ≡ length (flat_map part_numbers (map piece_part done))
    + (length (part_numbers (piece_part piece)) + length (flat_map part_numbers next))
numbers_of_all all done piece next h =
    let before = flat_map part_numbers (map piece_part done) in
    let suffix = part_numbers (piece_part piece) ++ flat_map part_numbers next in
    ap (λ parts. length (flat_map part_numbers parts)) h
    ∙ ap length (flat_map-append part_numbers (map piece_part done) (piece_part piece ∷ next))
    ∙ length-append before suffix
    ∙ ap (λ n. length before + n) (length-append (part_numbers (piece_part piece)) (flat_map part_numbers next))

-- so there is buffer for the next one
pub next_fits : (all : List Part) (done : List Piece) (piece : Piece) (left next : List Part) (at size buffer : ℕ)
    → all ≡ map piece_part done ++ left → left ≡ piece_part piece ∷ next
    → at ≡ length (flat_map part_numbers (map piece_part done)) → length (flat_map part_numbers all) ≤ size → buffer ≡ size
    → at + length (part_numbers (piece_part piece)) ≤ buffer
next_fits all done piece left next at size buffer h cut here fits same =
    let sum = numbers_of_all all done piece next (h ∙ ap (λ parts. map piece_part done ++ parts) cut) in
    omega (arith, sum, here, fits, same)

-- each piece has two numbers
pub two_each : (parts : List Part) → length (flat_map part_numbers parts) ≡ 2 * length parts
two_each [] = refl
two_each (shown bytes ∷ parts) = let all = two_each parts in omega (arith, all)
two_each (hidden bytes ∷ parts) = let all = two_each parts in omega (arith, all)
