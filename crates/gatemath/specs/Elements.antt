-- What words, flags and quads in memory mean, and the step of a shift.
use Rattle.std.specs.Prelude.{ℕ, ◌^◌}
use Rattle.group.specs.Residues.{Residue}
use Rattle.group.specs.declared.Flags.{Flags}
use Rattle.group.specs.declared.Pair.{Pair}
use Rattle.group.specs.declared.Word as code
use Rattle.shares.specs.Words.{Word, word, Quad, quad, flag_word}
use Rattle.gatekeys.specs.declared.ranges.Shift.{Shift}

abbrev pub word_mean : code.Word → Word
word_mean w = word w.0

abbrev pub flag_mean : Flags → Residue (2 ^ 32)
flag_mean f = flag_word f.0

abbrev pub quad_mean : Pair (Pair code.Word code.Word) (Pair code.Word code.Word) → Quad
quad_mean q = quad q.left.left.0 q.left.right.0 q.right.left.0 q.right.right.0

-- S = 2^s
abbrev pub step_of : Shift → ℕ
step_of s = 2 ^ s.by
