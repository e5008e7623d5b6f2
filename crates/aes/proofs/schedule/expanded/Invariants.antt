use Rattle.std.proofs.Common.{◌≡◌, ℕ, ◌+◌, ◌<◌, length}
use Rattle.aes.specs.Blocks.{block_bytes, key_at}
use Rattle.standards.specs.Fips197.{round_key}
use Rattle.aes.proofs.schedule.expanded.Given as goal

abbrev pub invariant-loop-round : goal.invariant-loop-round
invariant-loop-round l =
    (block_bytes l.last ≡ round_key l.round (block_bytes l.initial.last)) ×
    ((j : ℕ) → j < l.round + 1 → key_at l.keys j ≡ round_key j (block_bytes l.initial.last)) ×
    (length l.keys ≡ 11)
