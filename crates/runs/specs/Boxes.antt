-- What a box holds, and what each call answers and leaves.
use Rattle.std.specs.Prelude.{ℕ, zero, suc, ◌+◌, ◌*◌, ◌/◌, ◌%◌, Bool, true, false, cond, not, ◌&&◌, ◌||◌, List, [], ◌∷◌, length, Some, None, Option, ◌==◌, nat_le, slice_index, slice_index_or, slice_set}
use Rattle.key.specs.declared.BoxNumber.{BoxNumber}
use Rattle.key.specs.declared.BoxNumber.TheVariants.{Zero, One}
use Rattle.refusal.specs.declared.Refusal.{Refusal}
use Rattle.refusal.specs.declared.Refusal.TheVariants.{NotInput, NotOwned, ReadingRange, NotEmpty, NotGate, NotReady, NotSendable, NothingHeld}
use Rattle.refusal.specs.declared.Refusal.TheVariants.{BufferLength, MessageLength, MessageOrigin, NotTakeable, ValueRange, NotAwaited, NotShown, NotFull}
use Rattle.runs.specs.Plans.{other, same_box, Group, Wiring, Deal, is_input, is_gate, is_keyed, hide, reveal, all_of}

-- A full wire that has a key keeps its own share beside the value.
pub data Slot : Type 0 where
  Empty : Slot
  Half : ℕ → Slot
  Full : ℕ → Option ℕ → Slot

pub data Act : Type 0 where
  Put : ℕ → ℕ → Act
  Work : ℕ → Act
  Send : ℕ → ℕ → Act
  Take : List ℕ → Act
  Show : ℕ → Act
  Count : Act

pub data Answer : Type 0 where
  Done : Answer
  Sent : List ℕ → Answer
  Shown : ℕ → Answer
  Counted : ℕ → ℕ → Answer
  Refused : Refusal → Answer

abbrev pub is_empty : Slot → Bool
is_empty Empty = true
is_empty (Half s) = false
is_empty (Full m o) = false

abbrev pub is_full : Slot → Bool
is_full Empty = false
is_full (Half s) = false
is_full (Full m o) = true

abbrev pub full_in : Slot → Option ℕ
full_in Empty = None
full_in (Half s) = None
full_in (Full m o) = Some m

abbrev pub slot_at : List Slot → ℕ → Slot
slot_at s k = slice_index_or s k Empty

abbrev pub held_at : List Slot → ℕ → Option ℕ
held_at s k = full_in (slot_at s k)

abbrev pub is_some : {A : Type 0} → Option A → Bool
is_some None = false
is_some (Some x) = true

abbrev pub list_in : Option (List ℕ) → List ℕ
list_in None = []
list_in (Some xs) = xs

-- the own share, or an input's held value
abbrev pub own_in : Option ℕ → ℕ → ℕ
own_in None m = m
own_in (Some s) m = s

abbrev pub outgoing : Slot → ℕ
outgoing Empty = 0
outgoing (Half s) = s
outgoing (Full m o) = own_in o m

abbrev pub number_bytes : ℕ → List ℕ → List ℕ
number_bytes n rest = (n % 256) ∷ (n / 256 % 256) ∷ (n / 65536 % 256) ∷ (n / 16777216 % 256) ∷ rest

abbrev pub number_at : List ℕ → ℕ → ℕ
number_at m i = slice_index m i + slice_index m (i + 1) * 256 + slice_index m (i + 2) * 65536 + slice_index m (i + 3) * 16777216

abbrev pub box_byte : BoxNumber → ℕ
box_byte Zero = 0
box_byte One = 1

-- ten bytes: sender, wire, deal number, value
abbrev pub message : Deal → BoxNumber → ℕ → ℕ → List ℕ
message d b k x = box_byte b ∷ k ∷ number_bytes d.number (number_bytes x [])

-- Questions run in order; the first no gives its number, and without a no the call is carried out.
abbrev pub carried : List (Bool × Refusal) → List Slot → Answer → List Slot → Answer × List Slot
carried [] before says after = (says, after)
carried (q ∷ qs) before says after = cond q.0 (carried qs before says after) (Refused q.1, before)

abbrev pub sendable : Wiring → BoxNumber → ℕ → Bool
sendable p b k = (is_input p k && same_box (p.owner k) b) || is_keyed p k

abbrev pub awaited : Wiring → BoxNumber → ℕ → Bool
awaited p b k = (is_input p k && same_box (p.owner k) (other b)) || is_keyed p k

abbrev pub awaits : Slot → Bool → Bool
awaits Empty input = input
awaits (Half s) input = not input
awaits (Full m o) input = false

abbrev pub asks : Wiring → Deal → BoxNumber → List Slot → Act → List (Bool × Refusal)
asks p d b s (Put k v) = ((is_input p k, NotInput) ∷ (same_box (p.owner k) b, NotOwned) ∷ ((p.group k).within v, ReadingRange) ∷ (is_empty (slot_at s k), NotEmpty) ∷ [])
asks p d b s (Work k) = ((is_gate p k, NotGate) ∷ (is_empty (slot_at s k), NotEmpty) ∷ (is_some (all_of (held_at s) (p.reads k)), NotReady) ∷ [])
asks p d b s (Send k room) = ((sendable p b k, NotSendable) ∷ (not (is_empty (slot_at s k)), NothingHeld) ∷ (nat_le 10 room, BufferLength) ∷ [])
asks p d b s (Take m) =
    (((length m == 10), MessageLength)
    ∷ (slice_index m 0 == box_byte (other b) && (number_at m 2 == d.number), MessageOrigin)
    ∷ (awaited p b (slice_index m 1), NotTakeable)
    ∷ ((p.group (slice_index m 1)).within (number_at m 6), ValueRange)
    ∷ (awaits (slot_at s (slice_index m 1)) (is_input p (slice_index m 1)), NotAwaited)
    ∷ [])
asks p d b s (Show k) = ((is_gate p k && p.shown k, NotShown) ∷ (is_full (slot_at s k), NotFull) ∷ [])
asks p d b s Count = []

abbrev pub value_in : Slot → ℕ
value_in Empty = 0
value_in (Half s) = 0
value_in (Full m o) = m

-- a wire's key that was used, and that was not
abbrev pub used_at : (ℕ → Bool) → List Slot → ℕ → ℕ
used_at keyed s k = cond (keyed k && not (is_empty (slot_at s k))) 1 0

abbrev pub unused_at : (ℕ → Bool) → List Slot → ℕ → ℕ
unused_at keyed s k = cond (keyed k && is_empty (slot_at s k)) 1 0

-- of n wires from k on
abbrev pub used_from : (ℕ → Bool) → List Slot → ℕ → ℕ → ℕ
used_from keyed s zero k = 0
used_from keyed s (suc n) k = used_at keyed s k + used_from keyed s n (k + 1)

abbrev pub unused_from : (ℕ → Bool) → List Slot → ℕ → ℕ → ℕ
unused_from keyed s zero k = 0
unused_from keyed s (suc n) k = unused_at keyed s k + unused_from keyed s n (k + 1)

abbrev pub keyed_from : (ℕ → Bool) → ℕ → ℕ → ℕ
keyed_from keyed zero k = 0
keyed_from keyed (suc n) k = cond (keyed k) 1 0 + keyed_from keyed n (k + 1)

abbrev pub used : Wiring → List Slot → ℕ
used p s = used_from p.keyed s p.gates p.inputs

abbrev pub unused : Wiring → List Slot → ℕ
unused p s = unused_from p.keyed s p.gates p.inputs

abbrev pub says : Wiring → Deal → BoxNumber → List Slot → Act → Answer
says p d b s (Put k v) = Done
says p d b s (Work k) = Done
says p d b s (Send k room) = Sent (message d b k (outgoing (slot_at s k)))
says p d b s (Take m) = Done
says p d b s (Show k) = Shown (reveal p d k (value_in (slot_at s k)))
says p d b s Count = Counted (used p s) (unused p s)

-- an input's value, or both shares added
abbrev pub filled : Group → Slot → ℕ → Slot
filled g Empty x = Full x None
filled g (Half s) x = Full (g.sum s x) (Some s)
filled g (Full m o) x = Full m o

abbrev pub worked : Wiring → Deal → BoxNumber → ℕ → List ℕ → Slot
worked p d b k hs = cond (p.keyed k) (Half (d.share b k hs)) (Full (d.locally k hs) None)

abbrev pub leaves : Wiring → Deal → BoxNumber → List Slot → Act → List Slot
leaves p d b s (Put k v) = slice_set s k (Full (hide p d k v) None)
leaves p d b s (Work k) = slice_set s k (worked p d b k (list_in (all_of (held_at s) (p.reads k))))
leaves p d b s (Send k room) = s
leaves p d b s (Take m) = slice_set s (slice_index m 1) (filled (p.group (slice_index m 1)) (slot_at s (slice_index m 1)) (number_at m 6))
leaves p d b s (Show k) = s
leaves p d b s Count = s

abbrev pub step : Wiring → Deal → BoxNumber → List Slot → Act → Answer × List Slot
step p d b s a = carried (asks p d b s a) s (says p d b s a) (leaves p d b s a)
