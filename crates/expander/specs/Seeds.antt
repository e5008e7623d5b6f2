-- Seeds and their XOR, byte by byte.
use Rattle.std.specs.Prelude.{bit_xor}
use Rattle.std.specs.Simd.Lanes.{zip2}
use Rattle.expander.specs.declared.Seed.{Seed}

abbrev pub xor_seeds : Seed → Seed → Seed
xor_seeds a b = record { bytes = zip2 bit_xor a.bytes b.bytes }
