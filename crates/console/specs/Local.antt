-- The gates that a box works out alone, as they are ordered.
use Rattle.std.specs.Prelude.{ℕ}
use Rattle.shares.specs.Local.{sum_of, scale_mask, xor_of}
use Rattle.masking.specs.Masking.{size}
use Rattle.jobs.specs.declared.LocalJob.{LocalJob}
use Rattle.jobs.specs.declared.LocalJob.TheVariants.{Sum, Scale, Xor}

-- the mask of the output, by those of the inputs
abbrev pub local_mask : LocalJob → ℕ
local_mask (Sum width a b) = sum_of (size width) a b
local_mask (Scale width a c d) = scale_mask (size width) c a
local_mask (Xor width a b) = xor_of a b
