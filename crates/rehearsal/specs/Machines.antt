-- Two boxes by what each does on a call, a list of calls at them, and a round.
use Rattle.std.specs.Prelude.{ℕ, zero, suc, Bool, cond, List, [], ◌∷◌}
use Rattle.key.specs.declared.BoxNumber.{BoxNumber}
use Rattle.key.specs.declared.BoxNumber.TheVariants.{Zero, One}
use Rattle.runs.specs.Plans.{Wiring, Deal}
use Rattle.runs.specs.Boxes.{Slot, Act, Put, Work, Send, Take, Answer, Done, Sent, Shown, Counted, Refused, step}
use Rattle.runs.specs.Runs.{Call, event, Here, last_answer}
use Rattle.boxview.specs.Steps.{box_step}

-- what each of two boxes answers and leaves
pub record Machine : Type 0 where
  pub zero_step : List Slot → Act → Answer × List Slot
  pub one_step : List Slot → Act → Answer × List Slot

-- two boxes with these books, and with the shares that the books give them
abbrev pub book_machine : List ℕ → (ℕ → List ℕ → ℕ) → List ℕ → (ℕ → List ℕ → ℕ) → Machine
book_machine book0 share0 book1 share1 = record { zero_step = box_step book0 share0; one_step = box_step book1 share1 }

-- two boxes by the definitions of a deal
abbrev pub deal_machine : Wiring → Deal → Machine
deal_machine p d = record { zero_step = step p d Zero; one_step = step p d One }

module _ (m : Machine) where
  -- one call: at box 0 or at box 1
  abbrev pub moved : BoxNumber → Here → Act → Here
  moved Zero h a = record {
    left = (m.zero_step h.left a).1;
    right = h.right;
    past = event Zero a (m.zero_step h.left a).0 ∷ h.past;
  }
  moved One h a = record {
    left = h.left;
    right = (m.one_step h.right a).1;
    past = event One a (m.one_step h.right a).0 ∷ h.past;
  }

  -- a list of calls
  abbrev pub ran : Here → List Call → Here
  ran h [] = h
  ran h (c ∷ cs) = ran (moved c.at h c.act) cs

  -- a box takes what the other wrote, if it wrote anything
  abbrev pub take_if : BoxNumber → Answer → Here → Here
  take_if b Done h = h
  take_if b (Sent x) h = moved b h (Take x)
  take_if b (Shown x) h = h
  take_if b (Counted u w) h = h
  take_if b (Refused n) h = h

  -- both send the wire, and each takes what the other wrote
  abbrev pub exchanged : ℕ → Here → Here
  exchanged k h =
      let one = moved Zero h (Send k 10) in
      let two = moved One one (Send k 10) in
      take_if Zero (last_answer two.past) (take_if One (last_answer one.past) two)

  -- an input's reading is put at its owner, a gate is worked at both
  abbrev pub begun : (ℕ → Bool) → (ℕ → BoxNumber) → (ℕ → ℕ) → ℕ → Here → Here
  begun inputs owner vs k h = cond (inputs k) (moved (owner k) h (Put k (vs k))) (moved One (moved Zero h (Work k)) (Work k))

  -- a round over n wires from wire k on, lowest first
  abbrev pub rounded : (ℕ → Bool) → (ℕ → BoxNumber) → (ℕ → ℕ) → ℕ → ℕ → Here → Here
  rounded inputs owner vs zero k h = h
  rounded inputs owner vs (suc n) k h = rounded inputs owner vs n (suc k) (exchanged k (begun inputs owner vs k h))
