-- The number of every refusal.
use Rattle.std.specs.Prelude.{ℕ}
use Rattle.refusal.specs.declared.Refusal.{Refusal}
use Rattle.refusal.specs.declared.Refusal.TheVariants.{PlanWidth, PlanCounts, PlanOwners, PlanReads, PlanFields, DealWords, DealRoom}
use Rattle.refusal.specs.declared.Refusal.TheVariants.{BookLength, BookHeader, BookKind, BookCounts, BookContents, BookBodies, NotInput}
use Rattle.refusal.specs.declared.Refusal.TheVariants.{NotOwned, ReadingRange, NotEmpty, NotGate, NotReady, NotSendable, NothingHeld}
use Rattle.refusal.specs.declared.Refusal.TheVariants.{BufferLength, MessageLength, MessageOrigin, NotTakeable, ValueRange, NotAwaited, NotShown}
use Rattle.refusal.specs.declared.Refusal.TheVariants.{NotFull, KeyWidth, KeyRange, KeyRows, KeyWords}

abbrev pub number : Refusal → ℕ
number PlanWidth = 1
number PlanCounts = 2
number PlanOwners = 3
number PlanReads = 4
number PlanFields = 5
number DealWords = 6
number DealRoom = 7
number BookLength = 11
number BookHeader = 12
number BookKind = 13
number BookCounts = 14
number BookContents = 15
number BookBodies = 16
number NotInput = 21
number NotOwned = 22
number ReadingRange = 23
number NotEmpty = 24
number NotGate = 25
number NotReady = 26
number NotSendable = 27
number NothingHeld = 28
number BufferLength = 29
number MessageLength = 30
number MessageOrigin = 31
number NotTakeable = 32
number ValueRange = 33
number NotAwaited = 34
number NotShown = 35
number NotFull = 36
number KeyWidth = 41
number KeyRange = 42
number KeyRows = 43
number KeyWords = 44
