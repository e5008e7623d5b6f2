-- What every list of calls at two boxes with the books of a deal keeps.
use Rattle.std.specs.Prelude.{◌≡◌, ℕ, ◌^◌, ◌<◌, true, List, length, Ok}
use Rattle.refusal.specs.Questions.{answered}
use Rattle.expander.specs.Meaning.{Expansion}
use Rattle.joining.specs.Joining.{AllWide}
use Rattle.key.specs.declared.BoxNumber.TheVariants.{Zero, One}
use Rattle.plan.specs.Plans.{Planned}
use Rattle.plan.specs.Questions.{plan_asks}
use Rattle.runs.specs.Plans.{Wiring, Deal, wires, is_input}
use Rattle.runs.specs.Runs.{Call, Here, loaded, Fair}
use Rattle.runs.specs.Theorem.{ShownRight, CountsRight, MessagesRight, EveryFull}
use Rattle.boxview.specs.Reading.{SharesOf}
use Rattle.linked.specs.Linked.{book_of}
use Rattle.sharing.specs.Wirings.{wiring_of, deal_of}
use Rattle.rehearsal.specs.Machines.{Machine, book_machine, ran, rounded}

-- one round from here, whatever readings in range it puts, leaves every wire full at both boxes
abbrev pub RoundFills : Wiring → Machine → Here → Type 0
RoundFills w m h =
    (vs : ℕ → ℕ) → ((k : ℕ) → is_input w k ≡ true → (w.group k).within (vs k) ≡ true)
    → EveryFull w (rounded m (is_input w) w.owner vs (wires w) 0 h)

-- what is promised of a list of calls, by what happened in it (the last first) and by where it led
pub record Kept (w : Wiring) (d : Deal) (m : Machine) (here : Here) : Type 0 where
  -- every value that a box has shown is that wire's plain value on the readings put
  pub shown : ShownRight w here.past
  -- in every count used keys are the box's accepted works on keyed wires until then, and all keys are the plan's keyed gates
  pub counts : CountsRight w here.past
  -- every message that was written is the masked value of the reading put, or the share of that gate at the held values
  pub messages : MessagesRight w d here.past
  -- from here one round fills every wire at both boxes
  pub rounds : RoundFills w m here

-- for two boxes that hold the two books of a deal and were just loaded, and every list of calls in which each accepted take was
-- handed a message that the other box had written
abbrev pub RehearsalsStand : Type 0
RehearsalsStand =
    (d x y : Expansion) → AllWide d → d ≡ x → d ≡ y
    → (p : Planned) (number : ℕ) (words : List ℕ) → answered (plan_asks p 0 (length words)) (tt {0}) ≡ Ok (tt {0}) → number < 2 ^ 32
    → (share0 share1 : ℕ → List ℕ → ℕ)
    → ((k : ℕ) (hs : List ℕ) → share0 k hs ≡ (deal_of d x y p number words).share Zero k hs)
    → ((k : ℕ) (hs : List ℕ) → share1 k hs ≡ (deal_of d x y p number words).share One k hs)
    → (let m : Machine = book_machine (book_of d p number words Zero) share0 (book_of d p number words One) share1 in
    SharesOf x (book_of d p number words Zero) share0 × SharesOf y (book_of d p number words One) share1
    × ((cs : List Call) → Fair (ran m (loaded 48) cs).past → Kept (wiring_of p) (deal_of d x y p number words) m (ran m (loaded 48) cs)))
