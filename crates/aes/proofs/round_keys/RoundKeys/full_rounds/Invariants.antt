use Rattle.std.proofs.Common.{◌≡◌}
use Rattle.aes.specs.Blocks.{block_bytes}
use Rattle.aes.specs.Keys.{key_of}
use Rattle.standards.specs.Fips197.{full_rounds}
use Rattle.aes.proofs.round_keys.RoundKeys.full_rounds.Given as goal

abbrev pub invariant-loop-key : goal.invariant-loop-key
invariant-loop-key l = block_bytes l.state ≡ full_rounds l.key-index (key_of l.self) (block_bytes l.initial.state)
