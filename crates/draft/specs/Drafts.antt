-- What was read of a plan so far.
use Rattle.std.specs.Prelude.{ℕ, zero, suc, Bool, true, cond, List, [], ◌∷◌, ◌++◌, Ok, Err, Some, None, vec_items, Option, Result, slice_index_or}
use Rattle.std.specs.Option.{is_some, unwrap_or}
use Rattle.orders.specs.declared.types.Fault.{Fault}
use Rattle.orders.specs.Text.{pieces, words, nth, decimal_of, or_zero}
use Rattle.plan.specs.declared.PlanRow.{PlanRow}
use Rattle.planlines.specs.declared.types.PlanLine.{PlanLine}
use Rattle.planlines.specs.declared.types.PlanLine.TheVariants.{Begin, Gate, Words, Books, Book}
use Rattle.draft.specs.declared.Draft.{Draft}

pub record Drafted : Type 0 where
  pub begun : Bool
  pub width : ℕ
  pub owners : List ℕ
  pub rows : List PlanRow
  pub words : List ℕ

abbrev pub drafted : Bool → ℕ → List ℕ → List PlanRow → List ℕ → Drafted
drafted begun width owners rows random =
    record { begun = begun; width = width; owners = owners; rows = rows; words = random }

abbrev pub view : Draft → Drafted
view d = drafted (is_some d.width) (unwrap_or d.width 0) (vec_items d.owners) (vec_items d.rows) (vec_items d.words)

-- the first numbers of a word, as a type holds them
abbrev pub numbers_held : {A : Type 0} → (ℕ → A) → ℕ → List ℕ → ℕ → List A
numbers_held held most w zero = []
numbers_held held most w (suc k) =
    numbers_held held most w k ++ (held (or_zero (decimal_of most (slice_index_or (pieces 44 w) k []))) ∷ [])

abbrev pub numbers_of : ℕ → List ℕ → ℕ → List ℕ
numbers_of most w k = numbers_held (λ n. n) most w k

-- one gate more
abbrev pub with_row : Drafted → PlanRow → Drafted
with_row d row = drafted d.begun d.width d.owners (d.rows ++ (row ∷ [])) d.words

-- the first numbers of a word as further random words
abbrev pub with_words : Drafted → List ℕ → ℕ → Drafted
with_words d w count = drafted d.begun d.width d.owners d.rows (d.words ++ numbers_of 18446744073709551615 w count)

-- what a line makes of it: gates and random words go into a plan that was begun
abbrev pub followed : List ℕ → PlanLine → Drafted → Drafted
followed line (Begin width owners) d = drafted true width (numbers_of 255 (nth (words line) 3) owners) [] []
followed line (Gate row) d = cond d.begun (with_row d row) d
followed line (Words count) d = cond d.begun (with_words d (nth (words line) 2) count) d
followed line (Books kind deal room whole) d = d
followed line (Book kind bytes) d = d

-- a line that makes no sense, or says nothing of plans, changes nothing
abbrev pub after : List ℕ → Result (Option PlanLine) Fault → Drafted → Drafted
after line (Ok None) d = d
after line (Ok (Some order)) d = followed line order d
after line (Err fault) d = d
