-- A shift of unsigned or of signed values.
use Rattle.std.specs.Prelude.{ℕ, ◌-◌, ◌/◌, Bool}
use Rattle.gatekeys.specs.declared.keyed.Sign.{Sign}
use Rattle.gatekeys.specs.declared.keyed.Sign.TheVariants.{Unsigned, Signed}
use Rattle.shares.specs.Shifts.{shift_share, signed_held, signed_share}

-- the held value that a shift's keys are asked about
abbrev pub asked_at : Sign → ℕ → ℕ → ℕ
asked_at Unsigned N m = m
asked_at Signed N m = signed_held N m

-- N less the steps of one half, where values are signed
abbrev pub half_steps : Sign → ℕ → ℕ → ℕ
half_steps Unsigned N S = 0
half_steps Signed N S = N - N / 2 / S

-- a box's share
abbrev pub share_by : Sign → Bool → ℕ → ℕ → ℕ → ℕ → ℕ → ℕ → ℕ
share_by Unsigned one N S m low high rest = shift_share one N S m low high rest
share_by Signed one N S m low high rest = signed_share one N S m low high rest
