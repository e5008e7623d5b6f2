-- The questions as the code asks them.
use Rattle.std.proofs.Common.{◌≡◌, ℕ, ◌^◌, ◌<◌, eqb, ltb, List, [], ◌∷◌, Bool, Ok, Err, sym}
use Rattle.std.proofs.lemmas.Bool.{eqb-true, ltb-true}
use Rattle.refusal.specs.declared.Refusal.{Refusal}
use Rattle.refusal.specs.declared.Refusal.TheVariants.{PlanFields, KeyRange, KeyRows}
use Rattle.refusal.specs.Questions.{answered}
use Rattle.refusal.proofs.Answered.{refused_alike, answered_alike, first_yes, rest_yes}
use Rattle.gatekeys.specs.declared.ranges.Shift.{Shift}
use Rattle.gates.specs.Questions.{gate_asks, product_asks}
use Rattle.gates.specs.ShiftQuestions.{shift_row_asks, shift_asks}

-- what is known once the questions of a whole gate were answered yes
pub record Allowed (n r m k j : ℕ) : Type 0 where
  pub mask : r < 2 ^ n
  pub held : m < 2 ^ n
  pub rows0 : k ≡ n
  pub rows1 : j ≡ n

pub gate_allowed : (n r m k j : ℕ) (u : Unit {0}) → answered (gate_asks n r m k j) (tt {0}) ≡ Ok u → Allowed n r m k j
gate_allowed n r m k j u h =
    let q3 : List (Bool × Refusal) = (eqb j n, KeyRows) ∷ [] in
    let q2 : List (Bool × Refusal) = (eqb k n, KeyRows) ∷ q3 in
    let q1 : List (Bool × Refusal) = (ltb m (2 ^ n), KeyRange) ∷ q2 in
    let h1 = rest_yes (ltb r (2 ^ n)) PlanFields q1 (tt {0}) u h in
    let h2 = rest_yes (ltb m (2 ^ n)) KeyRange q2 (tt {0}) u h1 in
    let h3 = rest_yes (eqb k n) KeyRows q3 (tt {0}) u h2 in
    record {
      mask = ltb-true r (2 ^ n) (first_yes (ltb r (2 ^ n)) PlanFields q1 (tt {0}) u h);
      held = ltb-true m (2 ^ n) (first_yes (ltb m (2 ^ n)) KeyRange q2 (tt {0}) u h1);
      rows0 = eqb-true k n (first_yes (eqb k n) KeyRows q3 (tt {0}) u h2);
      rows1 = eqb-true j n (first_yes (eqb j n) KeyRows [] (tt {0}) u h3);
    }

-- the questions of a product
pub product_refused : {Y : Type 0} (n r s m k : ℕ) (e : Refusal) (y : Y) → Err e ≡ answered (product_asks n r s m k) (tt {0})
    → answered (product_asks n r s m k) y ≡ Err e
product_refused n r s m k e y h = refused_alike (product_asks n r s m k) (tt {0}) y e (sym h)

pub product_accepted : {Y : Type 0} (n r s m k : ℕ) (u : Unit {0}) (y : Y) → Ok u ≡ answered (product_asks n r s m k) (tt {0})
    → answered (product_asks n r s m k) y ≡ Ok y
product_accepted n r s m k u y h = answered_alike (product_asks n r s m k) (tt {0}) u y (sym h)

-- both masks of a product
pub product_allowed : (n r s m k : ℕ) (u : Unit {0}) → answered (product_asks n r s m k) (tt {0}) ≡ Ok u → (r < 2 ^ n) × (s < 2 ^ n)
product_allowed n r s m k u h =
    let q2 : List (Bool × Refusal) = (ltb m (2 ^ n), KeyRange) ∷ (ltb k (2 ^ n), KeyRange) ∷ [] in
    let q1 : List (Bool × Refusal) = (ltb s (2 ^ n), PlanFields) ∷ q2 in
    let h1 = rest_yes (ltb r (2 ^ n)) PlanFields q1 (tt {0}) u h in (
      ltb-true r (2 ^ n) (first_yes (ltb r (2 ^ n)) PlanFields q1 (tt {0}) u h),
      ltb-true s (2 ^ n) (first_yes (ltb s (2 ^ n)) PlanFields q2 (tt {0}) u h1),
    )

-- a shift's tables have their rows
pub tables_allowed : (s : Shift) (l h : ℕ) (u : Unit {0}) → answered (shift_row_asks s l h) (tt {0}) ≡ Ok u → (l ≡ s.by) × (h ≡ s.width.bits)
tables_allowed s l h u e =
    let last : List (Bool × Refusal) = (eqb h s.width.bits, KeyRows) ∷ [] in (
      eqb-true l s.by (first_yes (eqb l s.by) KeyRows last (tt {0}) u e),
      eqb-true h s.width.bits (first_yes (eqb h s.width.bits) KeyRows [] (tt {0}) u (rest_yes (eqb l s.by) KeyRows last (tt {0}) u e)),
    )

-- what is known once the questions of a shift's gate were answered yes
pub record ShiftAllowed (s : Shift) (r m a b c d : ℕ) : Type 0 where
  pub mask : r < 2 ^ s.width.bits
  pub held : m < 2 ^ s.width.bits
  pub low0 : a ≡ s.by
  pub high0 : b ≡ s.width.bits
  pub low1 : c ≡ s.by
  pub high1 : d ≡ s.width.bits

pub shift_allowed : (s : Shift) (r m a b c d : ℕ) (u : Unit {0}) → answered (shift_asks s r m a b c d) (tt {0}) ≡ Ok u
    → ShiftAllowed s r m a b c d
shift_allowed s r m a b c d u h =
    let n : ℕ = s.width.bits in
    let q4 : List (Bool × Refusal) = shift_row_asks s c d in
    let q3 : List (Bool × Refusal) = (eqb b n, KeyRows) ∷ q4 in
    let q2 : List (Bool × Refusal) = (eqb a s.by, KeyRows) ∷ q3 in
    let q1 : List (Bool × Refusal) = (ltb m (2 ^ n), KeyRange) ∷ q2 in
    let h1 = rest_yes (ltb r (2 ^ n)) PlanFields q1 (tt {0}) u h in
    let h2 = rest_yes (ltb m (2 ^ n)) KeyRange q2 (tt {0}) u h1 in
    let h3 = rest_yes (eqb a s.by) KeyRows q3 (tt {0}) u h2 in
    let h4 = rest_yes (eqb b n) KeyRows q4 (tt {0}) u h3 in
    let one = tables_allowed s c d u h4 in
    record {
      mask = ltb-true r (2 ^ n) (first_yes (ltb r (2 ^ n)) PlanFields q1 (tt {0}) u h);
      held = ltb-true m (2 ^ n) (first_yes (ltb m (2 ^ n)) KeyRange q2 (tt {0}) u h1);
      low0 = eqb-true a s.by (first_yes (eqb a s.by) KeyRows q3 (tt {0}) u h2);
      high0 = eqb-true b n (first_yes (eqb b n) KeyRows q4 (tt {0}) u h3);
      low1 = one.0;
      high1 = one.1;
    }
