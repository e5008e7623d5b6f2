-- Fresh keys read from a book's bytes, and why a reading is refused.
use Rattle.std.specs.Prelude.{◌≡◌, ℕ, Bool, ◌⊎◌, List, length, Ok, Err, Result}
use Rattle.refusal.specs.declared.Refusal.{Refusal}
use Rattle.refusal.specs.declared.Refusal.TheVariants.{BookBodies}
use Rattle.refusal.specs.Questions.{answered}
use Rattle.key.specs.declared.BoxNumber.{BoxNumber}
use Rattle.key.specs.declared.Row.{Row}
use Rattle.masking.specs.declared.width.Width.{Width}
use Rattle.gatekeys.specs.declared.ranges.Interval.{Interval}
use Rattle.gatekeys.specs.declared.ranges.Shift.{Shift}
use Rattle.keyform.specs.GateKeys.{IntervalIn, IntervalRead, ShiftIn, ShiftRead, ProductIn, three_numbers}
use Rattle.gates.specs.declared.states.Fresh.{Fresh}
use Rattle.gates.specs.declared.interval_key.IntervalKey.{IntervalKey}
use Rattle.gates.specs.declared.product.ProductKey.{ProductKey}
use Rattle.gates.specs.declared.shift.ShiftKey.{ShiftKey}
use Rattle.gates.specs.Questions.{row_asks}
use Rattle.gates.specs.ShiftQuestions.{shift_row_asks}

-- the tables' rows are asked first, then whether a key has the bytes
abbrev pub ReadRefused : List (Bool × Refusal) → Type 0 → Refusal → Type 0
ReadRefused asks held e =
    (answered asks (tt {0}) ≡ Err e) ⊎ ((answered asks (tt {0}) ≡ Ok (tt {0})) × (held → ⊥) × (e ≡ BookBodies))

-- a key of this box and interval, with these bytes; or a refusal, and the rows stay
abbrev pub IntervalKeyRead : {M : Type 0} → (M → List ℕ) → BoxNumber → Interval → List ℕ → List (Row M) → List (Row M)
    → Result (Fresh (IntervalKey M)) Refusal → Type 0
IntervalKeyRead form b i bytes old new (Ok f) =
    (f.key.number ≡ b) × (f.key.interval ≡ i) × IntervalRead form i.width.bits bytes new f.key.parts
IntervalKeyRead form b i bytes old new (Err e) =
    ReadRefused (row_asks (length old) i.width.bits) (IntervalIn form i.width.bits bytes) e × (new ≡ old)

-- the same for a shift, with two tables
abbrev pub ShiftKeyRead : {M : Type 0} → (M → List ℕ) → BoxNumber → Shift → List ℕ → (low high low' high' : List (Row M))
    → Result (Fresh (ShiftKey M)) Refusal → Type 0
ShiftKeyRead form b s bytes low high low' high' (Ok f) =
    (f.key.number ≡ b) × (f.key.shift ≡ s)
    × ShiftRead form s.by s.width.bits bytes low' high' f.key.parts
ShiftKeyRead form b s bytes low high low' high' (Err e) =
    ReadRefused (shift_row_asks s (length low) (length high)) (ShiftIn form s.by s.width.bits bytes) e
    × (low' ≡ low) × (high' ≡ high)

abbrev pub ProductKeyRead : BoxNumber → Width → List ℕ → Result (Fresh ProductKey) Refusal → Type 0
ProductKeyRead b w bytes (Ok f) =
    (f.key.number ≡ b) × (f.key.width ≡ w) × (three_numbers f.key.parts.a f.key.parts.b f.key.parts.c ≡ bytes)
ProductKeyRead b w bytes (Err e) = (ProductIn bytes → ⊥) × (e ≡ BookBodies)
