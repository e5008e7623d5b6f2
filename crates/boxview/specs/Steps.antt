-- What each call at a box answers and leaves, from its book and its slots.
use Rattle.std.specs.Prelude.{◌≡◌, ℕ, Bool, true, false, cond, List, [], ◌∷◌, ◌++◌, length, drop, replicate, Ok, Err, Result, ◌==◌}
use Rattle.refusal.specs.declared.Refusal.{Refusal}
use Rattle.refusal.specs.declared.Refusal.TheVariants.{NotInput, NotGate, NotSendable, MessageLength, MessageOrigin, NotShown}
use Rattle.expander.specs.Meaning.{Expansion}
use Rattle.runs.specs.Boxes.{Slot, Empty, Act, Put, Work, Send, Take, Show, Count, Answer, Done, Sent, Shown, Counted, Refused, step}
use Rattle.reader.specs.Reading.{header_in}
use Rattle.boxview.specs.Values.{box_of}
use Rattle.boxview.specs.Reading.{wiring_in, deal_in, SharesOf}

-- a box without a book has no wires and no deal
abbrev pub bookless : Act → Answer
bookless (Put k v) = Refused NotInput
bookless (Work k) = Refused NotGate
bookless (Send k room) = Refused NotSendable
bookless (Take m) = Refused (cond (length m == 10) MessageOrigin MessageLength)
bookless (Show k) = Refused NotShown
bookless Count = Counted 0 0

abbrev pub no_book : List ℕ → Bool
no_book [] = true
no_book (b ∷ bs) = false

-- the answer to a call and the slots after it, for a box with this book and these shares
abbrev pub box_step : List ℕ → (ℕ → List ℕ → ℕ) → List Slot → Act → Answer × List Slot
box_step book share s a =
    cond (no_book book) (bookless a, s) (step (wiring_in book) (deal_in book share) (box_of (header_in book).box) s a)

-- a call that asks no key was answered by r and left the slots t
abbrev pub Answers : List ℕ → List Slot → Act → Answer → List Slot → Type 0
Answers book s a r t = (share : ℕ → List ℕ → ℕ) → (let p : Answer × List Slot = (r, t) in p) ≡ box_step book share s a

-- the same for a call that may ask a key: with the shares that the box's book gives
abbrev pub Works : Expansion → List ℕ → List Slot → Act → Answer → List Slot → Type 0
Works x book s a r t =
    (share : ℕ → List ℕ → ℕ) → SharesOf x book share → (let p : Answer × List Slot = (r, t) in p) ≡ box_step book share s a

-- an answer as a call returns it
abbrev pub done : Result Unit Refusal → Answer
done (Ok u) = Done
done (Err e) = Refused e

abbrev pub shown : Result ℕ Refusal → Answer
shown (Ok v) = Shown v
shown (Err e) = Refused e

abbrev pub sent : Result Unit Refusal → List ℕ → Answer
sent (Ok u) message = Sent message
sent (Err e) message = Refused e

-- what a buffer holds after a send: the message at its front, or after a refusal what it held
abbrev pub buffered : Answer → List ℕ → List ℕ
buffered (Sent m) out = m ++ drop (length m) out
buffered Done out = out
buffered (Shown v) out = out
buffered (Counted u w) out = out
buffered (Refused e) out = out

-- a load: the book and empty slots where every question is answered yes, else what was there
abbrev pub loaded_book : Result Unit Refusal → List ℕ → List ℕ → List ℕ
loaded_book (Ok u) new old = new
loaded_book (Err e) new old = old

abbrev pub loaded_slots : Result Unit Refusal → List Slot → List Slot
loaded_slots (Ok u) old = replicate 48 Empty
loaded_slots (Err e) old = old
