-- What holds of a plan that passes its questions.
use Rattle.std.proofs.Common.{◌≡◌, ℕ, zero, suc, ◌+◌, ◌-◌, ◌<◌, ◌≤◌, Bool, true, ltb, leb, List, [], ◌∷◌, length, get_or, Ok, sym, refl, ap, ◌∙◌, arith}
use Rattle.std.proofs.lemmas.Bool.{and_parts, leb-true, ltb-true}
use Rattle.std.specs.List.{enumerate_from}
use Rattle.std.proofs.lemmas.List.Sums.{AllPass-from_list_all}
use Rattle.std.proofs.lemmas.List.FromFn.{length-enumerate_from, get_or-enumerate_from}
use Rattle.refusal.specs.declared.Refusal.{Refusal}
use Rattle.refusal.specs.Questions.{answered}
use Rattle.refusal.proofs.Answered.{first_yes, rest_yes}
use Rattle.plan.specs.declared.PlanRow.{PlanRow}
use Rattle.plan.specs.Plans.{Planned, wires, row_at, no_row, words_needed}
use Rattle.plan.specs.Questions.{within, owners_fit, reads_fit, reads_fit_from, fields_fit, all_fields_fit, plan_asks}

pub record Accepted (p : Planned) (b words : ℕ) : Type 0 where
  pub some_bits : 1 ≤ p.width
  pub few_bits : p.width ≤ 32
  pub some_inputs : 1 ≤ length p.owners
  pub few_inputs : length p.owners ≤ 16
  pub some_gates : 1 ≤ length p.rows
  pub few_gates : length p.rows ≤ 32
  pub box : b < 2
  pub owners : owners_fit p.owners ≡ true
  pub reads : reads_fit_from p (length p.owners) p.rows ≡ true
  pub fields : all_fields_fit p.width p.rows ≡ true
  pub enough : words_needed p ≤ words

within_parts : (l h x : ℕ) → within l h x ≡ true → (l ≤ x) × (x ≤ h)
within_parts l h x e = let c = and_parts (leb l x) (leb x h) e in (leb-true l x c.0, leb-true x h c.1)

-- each question was answered yes
abbrev pub AllYes : List (Bool × Refusal) → Type 0
AllYes [] = Unit {0}
AllYes (q ∷ qs) = (q.0 ≡ true) × AllYes qs

pub all_yes : {X : Type 0} (qs : List (Bool × Refusal)) (x z : X) → answered qs x ≡ Ok z → AllYes qs
all_yes [] x z h = tt
all_yes ((b, e) ∷ qs) x z h = (first_yes b e qs x z h, all_yes qs x z (rest_yes b e qs x z h))

pub accepted : (p : Planned) (b words : ℕ) → answered (plan_asks p b words) (tt {0}) ≡ Ok (tt {0}) → Accepted p b words
accepted p b words h =
    let y : AllYes (plan_asks p b words) = all_yes (plan_asks p b words) (tt {0}) (tt {0}) h in
    let w = within_parts 1 32 p.width y.0 in
    let c = and_parts (within 1 16 (length p.owners)) (within 1 32 (length p.rows)) y.1.0 in
    let i = within_parts 1 16 (length p.owners) c.0 in
    let g = within_parts 1 32 (length p.rows) c.1 in
    let o = and_parts (ltb b 2) (owners_fit p.owners) y.1.1.0 in
    record {
      some_bits = w.0;
      few_bits = w.1;
      some_inputs = i.0;
      few_inputs = i.1;
      some_gates = g.0;
      few_gates = g.1;
      box = ltb-true b 2 o.0;
      owners = o.1;
      reads = y.1.1.1.0;
      fields = y.1.1.1.1.0;
      enough = leb-true (words_needed p) words y.1.1.1.1.1.0;
    }

-- row by row
reads_each : (p : Planned) (k : ℕ) (rows : List PlanRow) → reads_fit_from p k rows ≡ true → (i : ℕ) → i < length rows
    → reads_fit p (k + i) (get_or rows i no_row).body ≡ true
reads_each p k rows h i l =
    let test : ℕ × PlanRow → Bool = λ r. reads_fit p (k + r.0) r.1.body in
    let d : ℕ × PlanRow = (0, no_row) in
    let n : i < length (enumerate_from 0 rows) = omega (arith, length-enumerate_from 0 rows) in
    let z : 0 + i ≡ i = omega arith in
    ap (λ j. reads_fit p (k + j) (get_or rows i no_row).body) (sym z)
    ∙ ap test (sym (get_or-enumerate_from 0 rows i d l))
    ∙ AllPass-from_list_all test (enumerate_from 0 rows) h i d n

fields_each : (n : ℕ) (rows : List PlanRow) (i : ℕ) → all_fields_fit n rows ≡ true → fields_fit n (get_or rows i no_row).body ≡ true
fields_each n [] i h = refl
fields_each n (r ∷ rs) zero h = (and_parts (fields_fit n r.body) (all_fields_fit n rs) h).0
fields_each n (r ∷ rs) (suc i) h = fields_each n rs i (and_parts (fields_fit n r.body) (all_fields_fit n rs) h).1

-- the gate of wire k
pub gate_reads : (p : Planned) (b words : ℕ) → Accepted p b words → (k : ℕ) → length p.owners ≤ k → k < wires p
    → reads_fit p k (row_at p k).body ≡ true
gate_reads p b words a k l h =
    let e : length p.owners + (k - length p.owners) ≡ k = omega arith in
    ap (λ j. reads_fit p j (row_at p k).body) (sym e)
    ∙ reads_each p (length p.owners) p.rows a.reads (k - length p.owners) (omega arith)

pub gate_fields : (p : Planned) (b words : ℕ) → Accepted p b words → (k : ℕ) → fields_fit p.width (row_at p k).body ≡ true
gate_fields p b words a k = fields_each p.width p.rows (k - length p.owners) a.fields

-- each owner is 0 or 1
owner_each : (os : List ℕ) (k : ℕ) → owners_fit os ≡ true → ltb (get_or os k 0) 2 ≡ true
owner_each [] k h = refl
owner_each (o ∷ os) zero h = (and_parts (ltb o 2) (owners_fit os) h).0
owner_each (o ∷ os) (suc k) h = owner_each os k (and_parts (ltb o 2) (owners_fit os) h).1

pub owner_small : (p : Planned) (b words : ℕ) → Accepted p b words → (k : ℕ) → get_or p.owners k 0 < 2
owner_small p b words a k = ltb-true (get_or p.owners k 0) 2 (owner_each p.owners k a.owners)
