-- Laws over whole runs, in the subject's own words.
use Rattle.std.specs.Prelude.{◌≡◌, ℕ, ◌+◌, ◌<◌, ◌≤◌, true, ◌⊎◌, List, [], ◌∷◌, Some, Option}
use Rattle.key.specs.declared.BoxNumber.{BoxNumber}
use Rattle.runs.specs.Plans.{Wiring, Deal, Formed, Dealt, wires, is_input, is_keyed, hide, hide_all, all_of, plain}
use Rattle.runs.specs.Boxes.{Show, Shown, Count, Counted, is_full, slot_at, message}
use Rattle.runs.specs.Runs.{Call, Event, Here, after, loaded, Fair, Wrote, readings, ◌∈◌, box_at, round, keyed_works, keyed_gates}

-- every value that a box has shown is that wire's plain value on the readings put
abbrev pub ShownRight : Wiring → List Event → Type 0
ShownRight p past = (e : Event) (k v : ℕ) → ◌∈◌ e past → e.act ≡ Show k → e.answer ≡ Shown v → plain p (readings past) k ≡ Some v

abbrev pub EveryFull : Wiring → Here → Type 0
EveryFull p h = (b : BoxNumber) (k : ℕ) → k < wires p → is_full (slot_at (box_at b h) k) ≡ true

-- in every count that a box has given, used keys are its accepted works on keyed wires until then,
-- and used and unused keys together are the keyed gates of the plan
abbrev pub CountsRight : Wiring → List Event → Type 0
CountsRight p [] = Unit {0}
CountsRight p (e ∷ past) =
    ((u w : ℕ) → e.act ≡ Count → e.answer ≡ Counted u w → (u ≡ keyed_works p e.at past) × (u + w ≡ keyed_gates p)) × CountsRight p past

-- a message of box b holds the masked value of the reading put at an input, or the box's share of a keyed gate at the held values
abbrev pub MessageRight : Wiring → Deal → (ℕ → Option ℕ) → BoxNumber → List ℕ → Type 0
MessageRight p d r b m =
    (k : ℕ) × (x : ℕ) × (m ≡ message d b k x)
    × (((is_input p k ≡ true) × ((v : ℕ) × (r k ≡ Some v) × (x ≡ hide p d k v)))
    ⊎ ((is_keyed p k ≡ true) × ((vs : List ℕ) × (all_of (plain p r) (p.reads k) ≡ Some vs) × (x ≡ d.share b k (hide_all p d (p.reads k) vs)))))

-- so it is with every message that an accepted send wrote
abbrev pub MessagesRight : Wiring → Deal → List Event → Type 0
MessagesRight p d past = (b : BoxNumber) (m : List ℕ) → Wrote b m past → MessageRight p d (readings past) b m

-- After every list of calls at two boxes that were just loaded, in which accepted takes were handed what the other box had written,
-- every value that a box has shown is that wire's plain value on the readings put.
abbrev pub ShownValuesStand : Type 0
ShownValuesStand = (p : Wiring) (d : Deal) → Formed p → Dealt p d → (room : ℕ) → wires p ≤ room → (cs : List Call)
    → Fair (after p d (loaded room) cs).past → ShownRight p (after p d (loaded room) cs).past

-- After every such list one round, whatever readings in range it puts, leaves every wire full at both boxes.
abbrev pub RoundsFill : Type 0
RoundsFill = (p : Wiring) (d : Deal) → Formed p → Dealt p d → (room : ℕ) → wires p ≤ room → (cs : List Call)
    → Fair (after p d (loaded room) cs).past → (vs : ℕ → ℕ) → ((k : ℕ) → is_input p k ≡ true → (p.group k).within (vs k) ≡ true)
    → EveryFull p (round p d vs (after p d (loaded room) cs))

-- After every list of calls at two boxes that were just loaded, every count that a box has given is right.
abbrev pub CountsStand : Type 0
CountsStand = (p : Wiring) (d : Deal) (room : ℕ) → wires p ≤ room → (cs : List Call) → CountsRight p (after p d (loaded room) cs).past

-- A round is itself a list of calls, in which takes are handed what the other box had written.
abbrev pub RoundsRun : Type 0
RoundsRun = (p : Wiring) (d : Deal) (vs : ℕ → ℕ) (h : Here)
    → (cs : List Call) × (round p d vs h ≡ after p d h cs) × (Fair h.past → Fair (round p d vs h).past)

-- After every such list every message that was written is right.
abbrev pub MessagesStand : Type 0
MessagesStand = (p : Wiring) (d : Deal) → Formed p → Dealt p d → (room : ℕ) → wires p ≤ room → (cs : List Call)
    → Fair (after p d (loaded room) cs).past → MessagesRight p d (after p d (loaded room) cs).past
