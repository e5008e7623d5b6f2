-- The bytes of words, flags and quads as they stand in memory.
use Rattle.std.specs.Prelude.{ℕ, List, ◌++◌}
use Rattle.group.specs.declared.Flags.{Flags}
use Rattle.group.specs.declared.Pair.{Pair}
use Rattle.group.specs.declared.Word as code
use Rattle.stored.specs.Forms.{four_bytes, eight_bytes}

abbrev pub word_form : code.Word → List ℕ
word_form w = eight_bytes w.0

abbrev pub flag_form : Flags → List ℕ
flag_form f = four_bytes f.0

abbrev pub quad_form : Pair (Pair code.Word code.Word) (Pair code.Word code.Word) → List ℕ
quad_form q =
    (word_form q.left.left ++ word_form q.left.right) ++ (word_form q.right.left ++ word_form q.right.right)
