-- A cubic by Horner's rule, modulo 2^64, and a piece's payload in memory.
use Rattle.std.specs.Prelude.{ℕ, List, [], ◌∷◌, slice_index}
use Rattle.group.specs.declared.Word.{Word}
use Rattle.group.specs.declared.Pair.{Pair}
use Rattle.group.specs.Quads.{quad_from}
use Rattle.shares.specs.Piece.{added, multiplied, moved0, moved1, moved2}

abbrev pub by_horner : ℕ → ℕ → ℕ → ℕ → ℕ → ℕ
by_horner w0 w1 w2 w3 m = added (multiplied (added (multiplied (added (multiplied w3 m) w2) m) w1) m) w0

-- the coefficients c moved by the mask r
abbrev pub moved_quad : ℕ → List ℕ → Pair (Pair Word Word) (Pair Word Word)
moved_quad r c =
    let c0 : ℕ = slice_index c 0 in
    let c1 : ℕ = slice_index c 1 in
    let c2 : ℕ = slice_index c 2 in
    let c3 : ℕ = slice_index c 3 in
    quad_from (moved0 r c0 c1 c2 c3 ∷ moved1 r c1 c2 c3 ∷ moved2 r c2 c3 ∷ c3 ∷ [])
