-- Allowed widths.
use Rattle.std.specs.Prelude.{ℕ, ◌^◌, ◌&&◌, [], ◌∷◌, Ok, Err, Result, nat_le}
use Rattle.refusal.specs.declared.Refusal.{Refusal}
use Rattle.refusal.specs.declared.Refusal.TheVariants.{KeyWidth}
use Rattle.refusal.specs.Questions.{answered}
use Rattle.masking.specs.declared.width.Width.{Width}

-- a width by its bits
abbrev pub width_answer : Result Width Refusal → Result ℕ Refusal
width_answer (Ok w) = Ok w.bits
width_answer (Err e) = Err e

-- is the width 1 to 32?
abbrev pub allowed : ℕ → Result ℕ Refusal
allowed bits = answered ((nat_le 1 bits && nat_le bits 32, KeyWidth) ∷ []) bits

-- N
abbrev pub size : Width → ℕ
size w = 2 ^ w.bits
