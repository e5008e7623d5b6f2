-- What the tables of the rounds add to a mixed column, tested at all of their entries.
use Rattle.std.proofs.Common.{◌≡◌, ℕ, ◌<◌, Bool, true, false, T, eqb, List, [], ◌∷◌, get_or, refl, ap, ◌∙◌, eqb→eq}
use Rattle.aes.specs.Blocks.{word_bytes}
use Rattle.aes.specs.Rows.{moved_down, row_table}
use Rattle.standards.specs.Fips197.{s_box, s_box_table, times}
use Rattle.standards.proofs.Printed.{s_box_entry}
use Rattle.standards.proofs.Tables.{at, both, both_left, both_right, every}

abbrev same : List ℕ → List ℕ → Bool
same [] [] = true
same [] (y ∷ ys) = false
same (x ∷ xs) [] = false
same (x ∷ xs) (y ∷ ys) = both (eqb x y) (same xs ys)

same_eq : (xs ys : List ℕ) → T (same xs ys) → xs ≡ ys
same_eq [] [] t = refl
same_eq [] (y ∷ ys) t = absurd t
same_eq (x ∷ xs) [] t = absurd t
same_eq (x ∷ xs) (y ∷ ys) t =
    let e : x ≡ y = eqb→eq x y (both_left (eqb x y) (same xs ys) t) in
    let f : xs ≡ ys = same_eq xs ys (both_right (eqb x y) (same xs ys) t) in
    cc

-- what the byte s in row k of a column adds to the mixed column
abbrev pub mixed_row : ℕ → ℕ → List ℕ
mixed_row k s = moved_down k (times 2 s ∷ s ∷ s ∷ times 3 s ∷ [])

right : ℕ → ℕ → ℕ → Bool
right k b entry = same (word_bytes entry) (mixed_row k (get_or s_box_table b 0))

right_table : ℕ → ℕ → Bool
right_table k _ = every (right k) 0 (row_table k)

right_tables : (k : ℕ) → k < 4 → T (every (right k) 0 (row_table k))
unfolding right_table right times
right_tables k h = at right_table (0 ∷ 0 ∷ 0 ∷ 0 ∷ []) tt k h

pub row_entry : (k b : ℕ) → k < 4 → b < 256 → word_bytes (get_or (row_table k) b 0) ≡ mixed_row k (s_box b)
unfolding right
row_entry k b hk hb =
    let e = at (right k) (row_table k) (right_tables k hk) b hb in
    same_eq (word_bytes (get_or (row_table k) b 0)) (mixed_row k (get_or s_box_table b 0)) e ∙ ap (mixed_row k) (s_box_entry b hb)
