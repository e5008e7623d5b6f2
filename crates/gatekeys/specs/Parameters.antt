-- Parameters of gates, by their numbers.
use Rattle.std.specs.Prelude.{ℕ, ◌^◌, ◌&&◌, [], ◌∷◌, Ok, Err, Result, nat_le, nat_lt}
use Rattle.refusal.specs.declared.Refusal.{Refusal}
use Rattle.refusal.specs.declared.Refusal.TheVariants.{PlanFields}
use Rattle.refusal.specs.Questions.{answered}
use Rattle.gatekeys.specs.declared.ranges.Interval.{Interval}
use Rattle.gatekeys.specs.declared.ranges.Shift.{Shift}

-- an interval's width, low end and high end
abbrev pub interval_view : Interval → ℕ × ℕ × ℕ
interval_view i = (i.width.bits, i.low, i.high)

-- a shift's width and bits
abbrev pub shift_view : Shift → ℕ × ℕ
shift_view s = (s.width.bits, s.by)

abbrev pub view_answer : {A B : Type 0} → (A → B) → Result A Refusal → Result B Refusal
view_answer view (Ok a) = Ok (view a)
view_answer view (Err e) = Err e

-- is p at most q, and both below N?
abbrev pub interval_answer : ℕ → ℕ → ℕ → Result (ℕ × ℕ × ℕ) Refusal
interval_answer n p q = answered ((nat_le p q && nat_lt q (2 ^ n), PlanFields) ∷ []) (n, p, q)

-- is the shift 1 to n − 1?
abbrev pub shift_answer : ℕ → ℕ → Result (ℕ × ℕ) Refusal
shift_answer n s = answered ((nat_le 1 s && nat_lt s n, PlanFields) ∷ []) (n, s)
