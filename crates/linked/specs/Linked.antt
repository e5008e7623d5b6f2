-- Boxes that hold the two books of a deal take the steps that the laws over runs speak of.
use Rattle.std.specs.Prelude.{◌≡◌, ℕ, ◌^◌, ◌<◌, List, length, Ok}
use Rattle.refusal.specs.Questions.{answered}
use Rattle.expander.specs.Meaning.{Expansion}
use Rattle.joining.specs.Joining.{AllWide}
use Rattle.key.specs.declared.BoxNumber.{BoxNumber}
use Rattle.plan.specs.Plans.{Planned}
use Rattle.plan.specs.Questions.{plan_asks}
use Rattle.dealer.specs.Book.{order, dealt_book}
use Rattle.runs.specs.Boxes.{Slot, Act, box_byte, step}
use Rattle.boxview.specs.Reading.{SharesOf}
use Rattle.boxview.specs.Steps.{box_step}
use Rattle.sharing.specs.Wirings.{own, wiring_of, deal_of}

-- box b's book of a deal
abbrev pub book_of : Expansion → Planned → ℕ → List ℕ → BoxNumber → List ℕ
book_of d p number words b = dealt_book d (order p (box_byte b) number words)

-- a box with its book of the deal, whose expander means what the dealer's means: the deal's shares are its shares, and each of its
-- steps is that of the deal
pub record BoxLinked (d x y : Expansion) (p : Planned) (number : ℕ) (words : List ℕ) (b : BoxNumber) : Type 0 where
  pub shares : SharesOf (own x y b) (book_of d p number words b) ((deal_of d x y p number words).share b)
  pub steps : (s : List Slot) (a : Act)
      → box_step (book_of d p number words b) ((deal_of d x y p number words).share b) s a ≡ step (wiring_of p) (deal_of d x y p number words) b s a

abbrev pub BoxesAreLinked : Type 0
BoxesAreLinked =
    (d x y : Expansion) → AllWide d → d ≡ x → d ≡ y
    → (p : Planned) (number : ℕ) (words : List ℕ) → answered (plan_asks p 0 (length words)) (tt {0}) ≡ Ok (tt {0}) → number < 2 ^ 32
    → (b : BoxNumber) → BoxLinked d x y p number words b
