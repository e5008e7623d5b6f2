-- The questions about a plan, each over the whole plan before the next.
use Rattle.std.specs.Prelude.{ℕ, ◌+◌, Bool, ◌&&◌, List, [], ◌∷◌, length, nat_le, nat_lt, slice_index}
use Rattle.std.specs.List.{list_all, enumerate_from}
use Rattle.refusal.specs.declared.Refusal.{Refusal}
use Rattle.refusal.specs.declared.Refusal.TheVariants.{PlanWidth, PlanCounts, PlanOwners, PlanReads, PlanFields, DealWords}
use Rattle.plan.specs.declared.PlanRow.{PlanRow}
use Rattle.plan.specs.declared.gates.Gate.TheVariants.{Piece, Flag}
use Rattle.plan.specs.Gates as gate
use Rattle.plan.specs.Gates.{GateBody, numbers_fit}
use Rattle.plan.specs.Plans.{Planned, is_flag, words_needed}
pub use Rattle.plan.specs.Gates.{below, interval_fits, shift_fits}

abbrev pub within : ℕ → ℕ → ℕ → Bool
within low high x = nat_le low x && nat_le x high

-- is each owner 0 or 1?
abbrev pub owners_fit : List ℕ → Bool
owners_fit owners = list_all (λ o. nat_lt o 2) owners

-- a wire of the plan below k that carries a number, and one that carries flags
abbrev pub lower_number : Planned → ℕ → ℕ → Bool
lower_number p k w = gate.lower_number (is_flag p) k w

abbrev pub lower_flag : Planned → ℕ → ℕ → Bool
lower_flag p k w = gate.lower_flag (is_flag p) k w

-- does the gate of wire k read lower wires of the right kind?
abbrev pub reads_fit : Planned → ℕ → GateBody → Bool
reads_fit p k g = gate.reads_fit (is_flag p) k g

-- the gates from wire k on
abbrev pub reads_fit_from : Planned → ℕ → List PlanRow → Bool
reads_fit_from p k rows = list_all (λ r. reads_fit p (k + r.0) r.1.body) (enumerate_from 0 rows)

-- are the four coefficients below N?
abbrev pub all_below : ℕ → List ℕ → Bool
all_below n c = below n (slice_index c 0) && (below n (slice_index c 1) && (below n (slice_index c 2) && below n (slice_index c 3)))

-- are a gate's numbers and its coefficients below N, p at most q, and the shift allowed? A flag's pattern is any 32 bits
abbrev pub fields_fit : ℕ → GateBody → Bool
fields_fit n (Piece a p q c) = interval_fits n p q && all_below n c
fields_fit n (Flag a p q t) = interval_fits n p q && below 32 t
fields_fit n g = numbers_fit n g

abbrev pub all_fields_fit : ℕ → List PlanRow → Bool
all_fields_fit n rows = list_all (λ r. fields_fit n r.body) rows

-- the questions 1 to 6, for box b and so many random words
abbrev pub plan_asks : Planned → ℕ → ℕ → List (Bool × Refusal)
plan_asks p b words =
    (within 1 32 p.width, PlanWidth)
    ∷ (within 1 16 (length p.owners) && within 1 32 (length p.rows), PlanCounts)
    ∷ (nat_lt b 2 && owners_fit p.owners, PlanOwners)
    ∷ (reads_fit_from p (length p.owners) p.rows, PlanReads)
    ∷ (all_fields_fit p.width p.rows, PlanFields)
    ∷ (nat_le (words_needed p) words, DealWords)
    ∷ []
