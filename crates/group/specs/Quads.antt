-- Four words as two pairs.
use Rattle.std.specs.Prelude.{ℕ, List, slice_index}
use Rattle.group.specs.declared.Word.{Word}
use Rattle.group.specs.declared.Pair.{Pair}

abbrev pub quad_from : List ℕ → Pair (Pair Word Word) (Pair Word Word)
quad_from ws = record {
  left = record { left = record { 0 = slice_index ws 0 }; right = record { 0 = slice_index ws 1 } };
  right = record { left = record { 0 = slice_index ws 2 }; right = record { 0 = slice_index ws 3 } };
}
