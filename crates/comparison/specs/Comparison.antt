-- Answers and rows by what they mean.
use Rattle.std.specs.Prelude.{◌≡◌, ℕ, true, false, List, map, Ok, Err, Result}
use Rattle.refusal.specs.declared.Refusal.{Refusal}
use Rattle.group.specs.Groups.{OutputGroup}
use Rattle.expander.specs.Meaning.{Expansion}
use Rattle.expander.specs.declared.Seed.{Seed}
use Rattle.key.specs.declared.Row.{Row}
use Rattle.key.specs.Rows.{row_mean}
use Rattle.joining.specs.Joining.{dealt_answer}
use Rattle.comparison.specs.declared.Answers.{Answers}

-- an answer by what its element means
abbrev pub answer_mean : {A B : Type 0} → (A → B) → Result A Refusal → Result B Refusal
answer_mean mean (Ok a) = Ok (mean a)
answer_mean mean (Err e) = Err e

-- a dealt key's rows stand in the table, by meaning; a refusal leaves the table as it was
abbrev pub RowsAfter : {A G M : Type 0} → (G → M) → Result A Refusal → List (Row G) → List (Row G) → List (Row M) → Type 0
RowsAfter mean (Ok a) before after dealt = map (row_mean mean) after ≡ dealt
RowsAfter mean (Err e) before after dealt = after ≡ before

abbrev pub answers_mean : {G M : Type 0} → (G → M) → Answers G → Answers M
answers_mean mean a = record { answer0 = mean a.answer0; answer1 = mean a.answer1; joined = mean a.joined }

abbrev pub joined_mean : {G M : Type 0} → (G → M) → Answers G → M
joined_mean mean a = mean a.joined

-- both boxes' answers from the key that a dealer deals, and their sum
abbrev pub both_answers : {M : Type 0} → OutputGroup M → Expansion → Expansion → Expansion → ℕ → ℕ → M → Seed → Seed → ℕ → Answers M
both_answers g d x y n α β root0 root1 m =
    let a0 = dealt_answer g d x n α β root0 root1 false root0 m in
    let a1 = dealt_answer g d y n α β root0 root1 true root1 m in
    record { answer0 = a0; answer1 = a1; joined = g.sum a0 a1 }
