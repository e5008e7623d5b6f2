-- Where every question is answered yes, a call answers and does not refuse.
use Rattle.std.proofs.Common.{◌≡◌, ℕ, ◌-◌, ◌≤◌, true, eqb, List, length, take, Ok, Err, Result, ap, ◌∙◌, arith, length-take-le}
use Rattle.std.proofs.lemmas.Bool.Decides.{nat_tests}
use Rattle.refusal.specs.declared.Refusal.{Refusal}
use Rattle.refusal.specs.Questions.{answered}
use Rattle.gatekeys.specs.declared.ranges.Shift.{Shift}
use Rattle.gates.specs.Questions.{row_asks}
use Rattle.gates.specs.ShiftQuestions.{shift_row_asks}

pub said : {Y : Type 0} (y z : Y) (r : Result Y Refusal) → Ok y ≡ r → r ≡ Ok z → y ≡ z
said y z r p q = cc

pub unsaid : {Y : Type 0} (z : Y) (e : Refusal) (r : Result Y Refusal) → Err e ≡ r → r ≡ Ok z → ⊥
unsaid z e r p q = let f : ◌≡◌ {A = ℕ} 0 1 = cc in omega arith

pub rows_yes : {Y : Type 0} (rows n : ℕ) (y : Y) → rows ≡ n → answered (row_asks rows n) y ≡ Ok y
rows_yes rows n y h = let t : eqb rows n ≡ true = grind (arith, nat_tests) in rw t

pub shift_rows_yes : {Y : Type 0} (s : Shift) (low high : ℕ) (y : Y) → low ≡ s.by → high ≡ s.width.bits
    → answered (shift_row_asks s low high) y ≡ Ok y
shift_rows_yes s low high y h k =
    let t : eqb low s.by ≡ true = grind (arith, nat_tests) in
    let u : eqb high s.width.bits ≡ true = grind (arith, nat_tests) in
    rw (t, u)

-- a table that is cut to n of its rows
pub cut_long : {A : Type 0} (k n : ℕ) (rows all : List A) → rows ≡ take (k - 0) all → k ≡ n → n ≤ length all → length rows ≡ n
cut_long k n rows all e h f = ap length e ∙ length-take-le (k - 0) all (omega arith) ∙ omega arith
