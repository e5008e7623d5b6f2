-- What 64-bit words, quads of words and flags mean as group elements.
use Rattle.std.specs.Prelude.{ℕ, ◌^◌}
use Rattle.std.proofs.Common.{lit<}
use Rattle.group.specs.Groups.{OutputGroup}
use Rattle.group.specs.Residues.{Residue, reduce, residues}
use Rattle.group.specs.Pairs.{both}

abbrev pub Word : Type 0
Word = Residue (2 ^ 64)

-- a number as a word
abbrev pub word : ℕ → Word
word a = reduce (2 ^ 64) a

-- words under addition modulo 2^64
abbrev pub words : OutputGroup Word
words = residues (2 ^ 64) (lit< tt)

-- four words, as a pair of pairs
abbrev pub Quad : Type 0
Quad = (Word × Word) × (Word × Word)

-- four numbers as a quad
abbrev pub quad : ℕ → ℕ → ℕ → ℕ → Quad
quad a b c d = ((word a, word b), (word c, word d))

-- quads, added word by word
abbrev pub quads : OutputGroup Quad
quads = both (both words words) (both words words)

-- a number as 32 flags
abbrev pub flag_word : ℕ → Residue (2 ^ 32)
flag_word a = reduce (2 ^ 32) a
