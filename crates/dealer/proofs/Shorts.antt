-- A plan that is allowed has a book of at most 54,880 bytes.
use Rattle.std.proofs.Common.{◌≡◌, ℕ, zero, suc, ◌+◌, ◌-◌, ◌*◌, ◌<◌, ◌≤◌, Bool, true, false, cond, ◌&&◌, eqb, ltb, leb, List, [], ◌∷◌, length, get_or, map, sum, sym, refl, ap, ◌∙◌, add-one, arith}
use Rattle.std.specs.List.{range_with_len}
use Rattle.std.proofs.lemmas.List.FromFn.{sum_by-map-range_with_len_more}
use Rattle.std.proofs.lemmas.Bool.Decides.{nat_tests}
use Rattle.plan.specs.declared.PlanRow.{PlanRow}
use Rattle.plan.specs.Gates.{GateBody}
use Rattle.plan.specs.declared.gates.Gate.TheVariants.{Sum, Scale, Product, Piece, Flag, Shift, SignedShift, Xor}
use Rattle.plan.specs.declared.PlanWire.TheVariants.{Input, Gate}
use Rattle.plan.specs.Plans.{Planned, wires, is_input, row_at, wire_at, no_row}
use Rattle.plan.specs.Questions.{fields_fit, all_fields_fit, shift_fits}
use Rattle.plan.specs.Allowed as passed
use Rattle.dealer.specs.Book.{WireFits}
use Rattle.dealer.specs.Lengths.{Allowed, rest_length, body_length, lengths_below, place}

pub and_both : (a b : Bool) → (a && b) ≡ true → (a ≡ true) × (b ≡ true)
and_both true b h = (refl, h)
and_both false b h = (h, absurd (let f : ◌≡◌ {A = ℕ} 0 1 = cc in omega arith))

-- every row's fields fit, also where there is none
pub fields_at : (n : ℕ) (rows : List PlanRow) (i : ℕ) → all_fields_fit n rows ≡ true → fields_fit n (get_or rows i no_row).body ≡ true
fields_at n [] i h = refl
fields_at n (r ∷ rs) zero h = (and_both _ _ h).0
fields_at n (r ∷ rs) (suc i) h = fields_at n rs i (and_both _ _ h).1

-- what the lengths rest on, of a plan that passed its questions
pub of_passed : (p : Planned) → passed.Allowed p → Allowed p
of_passed p a = record { least = a.least; most = a.most; inputs = a.inputs; gates = a.gates; fields = a.fields }

-- the rows of an allowed plan fit
pub wire_fits : (p : Planned) (k : ℕ) → passed.Allowed p → WireFits p.width (wire_at p k)
wire_fits p k a = pick (is_input p k)
  where
    pick : (i : Bool) → WireFits p.width (cond i (Input (get_or p.owners k 0)) (Gate (row_at p k)))
    pick true = tt
    pick false = fields_at p.width p.rows (k - length p.owners) a.fields

shift_below : (n s : ℕ) → shift_fits n s ≡ true → s < n
shift_below n s h = let t = (and_both (leb 1 s) (ltb s n) h).1 in grind (arith, nat_tests)

pub rest_short : (n : ℕ) (b : GateBody) → n ≤ 32 → fields_fit n b ≡ true → rest_length n b ≤ 1692
rest_short n (Sum a b) h f = omega arith
rest_short n (Scale a c d) h f = omega arith
rest_short n (Product a b) h f = omega arith
rest_short n (Piece a p q c) h f = omega arith
rest_short n (Flag a p q t) h f = omega arith
rest_short n (Shift a s) h f = let l = shift_below n s f in omega arith
rest_short n (SignedShift a s) h f = let l = shift_below n s f in omega arith
rest_short n (Xor a b) h f = omega arith

pub body_short : (p : Planned) (b k : ℕ) → Allowed p → body_length p b k ≤ cond (is_input p k) 5 1700
body_short p b k h = pick (is_input p k) (eqb (get_or p.owners k 0) b) (row_at p k).shown
  where
    pick : (i o s : Bool) → cond i (1 + cond o 4 0) (4 + cond s 4 0 + rest_length p.width (row_at p k).body) ≤ cond i 5 1700
    pick true true s = omega arith
    pick true false s = omega arith
    pick false o true = let l = rest_short p.width (row_at p k).body h.most (fields_at p.width p.rows _ h.fields) in omega arith
    pick false o false = let l = rest_short p.width (row_at p k).body h.most (fields_at p.width p.rows _ h.fields) in omega arith

pub lengths_more : (p : Planned) (b k : ℕ) → lengths_below p b (k + 1) ≡ lengths_below p b k + body_length p b k
lengths_more p b k = ap (lengths_below p b) (add-one k)

-- the bodies' lengths in a row
pub bodies_sum : (p : Planned) (b k : ℕ) → sum (map (body_length p b) (range_with_len 0 k)) ≡ lengths_below p b k
bodies_sum p b zero = refl
bodies_sum p b (suc k) =
    let m = sum_by-map-range_with_len_more (λ x. x) (body_length p b) 0 k k (omega arith) in
    let r = bodies_sum p b k in
    ap (λ i. sum (map (body_length p b) (range_with_len 0 i))) (sym (add-one k)) ∙ m ∙ ap (λ i. i + body_length p b k) r

pub lengths_short : (p : Planned) (b k : ℕ) → Allowed p → lengths_below p b k ≤ 5 * k + 1695 * (k - length p.owners)
lengths_short p b zero h = omega arith
lengths_short p b (suc k) h =
    let r = lengths_short p b k h in
    let s : body_length p b k ≤ cond (ltb k (length p.owners)) 5 1700 = body_short p b k h in
    pick (ltb k (length p.owners)) refl s r
  where
    pick : (i : Bool) → ltb k (length p.owners) ≡ i → body_length p b k ≤ cond i 5 1700
        → lengths_below p b k ≤ 5 * k + 1695 * (k - length p.owners)
        → lengths_below p b k + body_length p b k ≤ 5 * suc k + 1695 * (suc k - length p.owners)
    pick true e s r = omega arith
    pick false e s r = let n : length p.owners ≤ k = grind (arith, nat_tests) in omega arith

pub book_short : (p : Planned) (b : ℕ) → Allowed p → place p b (wires p) ≤ 54880
book_short p b h =
    let l = lengths_short p b (wires p) h in
    let i = h.inputs in
    let g = h.gates in
    omega arith
