-- Lists of calls at two boxes, and what happened in them.
use Rattle.std.specs.Prelude.{◌≡◌, ℕ, zero, suc, ◌+◌, Bool, true, false, cond, ◌&&◌, ◌⊎◌, List, [], ◌∷◌, replicate, Some, None, Option, ◌==◌}
use Rattle.key.specs.declared.BoxNumber.{BoxNumber}
use Rattle.key.specs.declared.BoxNumber.TheVariants.{Zero, One}
use Rattle.runs.specs.Plans.{other, Wiring, Deal, wires, is_input, same_box}
use Rattle.runs.specs.Boxes.{Slot, Empty, Act, Put, Work, Send, Take, Show, Count, Answer, Done, Sent, Shown, Counted, Refused, keyed_from, step}

pub record Call : Type 0 where
  pub at : BoxNumber
  pub act : Act

-- a call and its answer
pub record Event : Type 0 where
  pub at : BoxNumber
  pub act : Act
  pub answer : Answer

-- two boxes, and what happened so far, the last first
pub record Here : Type 0 where
  pub left : List Slot
  pub right : List Slot
  pub past : List Event

abbrev pub call : BoxNumber → Act → Call
call b a = record { at = b; act = a }

abbrev pub event : BoxNumber → Act → Answer → Event
event b a x = record { at = b; act = a; answer = x }

abbrev pub box_at : BoxNumber → Here → List Slot
box_at Zero h = h.left
box_at One h = h.right

abbrev pub next_at : Wiring → Deal → BoxNumber → Here → Act → Here
next_at p d Zero h a = record { left = (step p d Zero h.left a).1; right = h.right; past = event Zero a (step p d Zero h.left a).0 ∷ h.past }
next_at p d One h a = record { left = h.left; right = (step p d One h.right a).1; past = event One a (step p d One h.right a).0 ∷ h.past }

abbrev pub next : Wiring → Deal → Here → Call → Here
next p d h c = next_at p d c.at h c.act

-- after a list of calls
abbrev pub after : Wiring → Deal → Here → List Call → Here
after p d h [] = h
after p d h (c ∷ cs) = after p d (next p d h c) cs

-- two boxes that were just loaded, with room for n wires
abbrev pub loaded : ℕ → Here
loaded n = record { left = replicate n Empty; right = replicate n Empty; past = [] }

-- what a box has written in an accepted send
abbrev pub Wrote : BoxNumber → List ℕ → List Event → Type 0
Wrote b m [] = ⊥
Wrote b m (e ∷ past) = ((e.at ≡ b) × (e.answer ≡ Sent m)) ⊎ Wrote b m past

-- an accepted take was handed a message that the other box had written
abbrev pub Handed : List Event → Event → Type 0
Handed past e = (m : List ℕ) → e.act ≡ Take m → e.answer ≡ Done → Wrote (other e.at) m past

abbrev pub Fair : List Event → Type 0
Fair [] = Unit {0}
Fair (e ∷ past) = Handed past e × Fair past

-- the reading of an input's first accepted put
abbrev pub first : Option ℕ → Option ℕ → Option ℕ
first None y = y
first (Some x) y = Some x

abbrev pub with_put : Act → Answer → (ℕ → Option ℕ) → ℕ → Option ℕ
with_put (Put j v) Done r k = first (r k) (cond (j == k) (Some v) None)
with_put (Put j v) (Sent m) r k = r k
with_put (Put j v) (Shown x) r k = r k
with_put (Put j v) (Counted u w) r k = r k
with_put (Put j v) (Refused n) r k = r k
with_put (Work j) a r k = r k
with_put (Send j room) a r k = r k
with_put (Take m) a r k = r k
with_put (Show j) a r k = r k
with_put Count a r k = r k

abbrev pub readings : List Event → ℕ → Option ℕ
readings [] k = None
readings (e ∷ past) k = with_put e.act e.answer (readings past) k

abbrev pub ◌∈◌ : Event → List Event → Type 0
◌∈◌ e [] = ⊥
◌∈◌ e (x ∷ past) = (e ≡ x) ⊎ ◌∈◌ e past

abbrev pub is_done : Answer → Bool
is_done Done = true
is_done (Sent m) = false
is_done (Shown x) = false
is_done (Counted u w) = false
is_done (Refused n) = false

-- 1 for an accepted work on a keyed wire, else 0
abbrev pub keyed_work : Wiring → Act → Answer → ℕ
keyed_work p (Put k v) x = 0
keyed_work p (Work k) x = cond (is_done x && p.keyed k) 1 0
keyed_work p (Send k room) x = 0
keyed_work p (Take m) x = 0
keyed_work p (Show k) x = 0
keyed_work p Count x = 0

-- a box's accepted works on keyed wires
abbrev pub keyed_works : Wiring → BoxNumber → List Event → ℕ
keyed_works p b [] = 0
keyed_works p b (e ∷ past) = keyed_works p b past + cond (same_box e.at b) (keyed_work p e.act e.answer) 0

abbrev pub keyed_gates : Wiring → ℕ
keyed_gates p = keyed_from p.keyed p.gates p.inputs

-- the last answer
abbrev pub last_answer : List Event → Answer
last_answer [] = Done
last_answer (e ∷ past) = e.answer

-- a box takes what the other wrote, if it wrote anything
abbrev pub take_if : Wiring → Deal → BoxNumber → Answer → Here → Here
take_if p d b Done h = h
take_if p d b (Sent m) h = next_at p d b h (Take m)
take_if p d b (Shown x) h = h
take_if p d b (Counted u w) h = h
take_if p d b (Refused n) h = h

abbrev pub exchange : Wiring → Deal → ℕ → Here → Here
exchange p d k h =
    let one = next_at p d Zero h (Send k 10) in
    let two = next_at p d One one (Send k 10) in
    take_if p d Zero (last_answer two.past) (take_if p d One (last_answer one.past) two)

abbrev pub begun : Wiring → Deal → (ℕ → ℕ) → ℕ → Here → Here
begun p d vs k h = cond (is_input p k) (next_at p d (p.owner k) h (Put k (vs k))) (next_at p d One (next_at p d Zero h (Work k)) (Work k))

-- a round over n wires from k on, lowest first
abbrev pub round_from : Wiring → Deal → (ℕ → ℕ) → ℕ → ℕ → Here → Here
round_from p d vs zero k h = h
round_from p d vs (suc n) k h = round_from p d vs n (suc k) (exchange p d k (begun p d vs k h))

abbrev pub round : Wiring → Deal → (ℕ → ℕ) → Here → Here
round p d vs h = round_from p d vs (wires p) 0 h
