-- One more round, over lists of bytes.
use Rattle.std.proofs.Common.{◌≡◌, ℕ, ◌+◌, List, add-one}
use Rattle.standards.specs.Fips197.{full_round, full_rounds, round_key}

pub one_more_round : (n : ℕ) (key k s start r : List ℕ) → r ≡ full_round k s → k ≡ round_key (n + 1) key → s ≡ full_rounds n key start
    → r ≡ full_rounds (n + 1) key start
unfolding full_rounds
one_more_round n key k s start r hr hk hs = let e = add-one n in cc
