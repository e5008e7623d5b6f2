use Rattle.shares.proofs.Shifts as shifts
use Rattle.shares.proofs.shifts_join.Goals as goal

pub returns : goal.returns
returns c = record { shift = shifts.shift_joins; signed = shifts.signed_shift_joins; powers = shifts.shift_powers }
