-- A book that was dealt is read back.
use Rattle.std.specs.Prelude.{◌≡◌, ℕ, ◌^◌, ◌<◌, ◌≤◌, cond, List, length, Some, Ok, Err, Result, ◌==◌}
use Rattle.refusal.specs.declared.Refusal.{Refusal}
use Rattle.refusal.specs.declared.Refusal.TheVariants.{BookKind}
use Rattle.refusal.specs.Questions.{answered}
use Rattle.expander.specs.Meaning.{Expansion}
use Rattle.plan.specs.Plans.{wires}
use Rattle.plan.specs.Questions.{plan_asks}
use Rattle.layout.specs.Wires.{wire_bytes}
use Rattle.dealer.specs.Book.{Order, dealt_wire, header, dealt_book, dealt}
use Rattle.reader.specs.Reading.{header_in, body_in, wire_in, said}
use Rattle.reader.specs.Questions.{book_answer}

-- what a reader finds in the book of an order: it passes every question, and its header, each body and each wire's fields are those dealt
pub record Returned (x : Expansion) (o : Order) : Type 0 where
  pub passes : book_answer x.kind (dealt_book x o) ≡ Ok tt
  pub header : header_in (dealt_book x o) ≡ header x o
  pub bodies : (k : ℕ) → k < wires o.plan → body_in (dealt_book x o) k ≡ wire_bytes (dealt_wire x o k)
  pub fields : (k : ℕ) → k < wires o.plan → wire_in (dealt_book x o) k ≡ Some (said (dealt_wire x o k))
  pub short : length (dealt_book x o) ≤ 54880

-- every plan that the dealer's questions pass gives a book that is read back, for every meaning of an expander and all words
abbrev pub DealtIsRead : Type 0
DealtIsRead =
    (x : Expansion) (o : Order) → answered {Y = Unit {0}} (plan_asks o.plan o.box (length o.words)) tt ≡ Ok tt
    → o.deal < 2 ^ 32 → Returned x o

-- what a box answers to a deal: the book's kind is all that it can refuse
abbrev pub checked : ℕ → ℕ → Result ℕ Refusal → Result ℕ Refusal
checked kind own (Ok long) = cond (kind == own) (Ok long) (Err BookKind)
checked kind own (Err e) = Err e

-- a deal by an expander of meaning x, and then the answer of a box whose expander has the kind `own`
abbrev pub dealt_and_checked : Expansion → ℕ → Order → List ℕ → Result ℕ Refusal × List ℕ
dealt_and_checked x own o out = (checked x.kind own (dealt x o out).0, (dealt x o out).1)
