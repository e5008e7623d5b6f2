-- Which calls fill a wire, and that a full wire stays full.
use Rattle.std.proofs.Common.{◌≡◌, ℕ, ◌<◌, Bool, true, false, cond, ◌&&◌, eqb, ◌≢◌, List, [], ◌∷◌, length, get_or, set, Some, None, Option, sym, refl, ap, ◌∙◌, subst, ap₂, ⊎_elim, arith, get_or-set_other, get_or-set_same}
use Rattle.std.proofs.lemmas.Bool.{cases_Bool, and_from, both_ways, eq-eqb, false≢true, not_from_false}
use Rattle.key.specs.declared.BoxNumber.{BoxNumber}
use Rattle.key.specs.declared.BoxNumber.TheVariants.{Zero, One}
use Rattle.runs.specs.Plans.{other, same_box, Wiring, Deal, Formed, Dealt, Group, AllBelow, all_of, joined, hide, is_input, is_gate, is_keyed, wires}
use Rattle.refusal.specs.declared.Refusal.{Refusal}
use Rattle.runs.specs.Boxes.{Slot, Empty, Half, Full, Act, Put, Work, Send, Take, Show, Count, Answer, Done, Refused, slot_at, held_at, full_in, is_empty, is_full, is_some, list_in, filled, worked, awaits, awaited, number_at, box_byte, carried, asks, says, leaves, step}
use Rattle.runs.specs.Runs.{Event, event, Here, box_at, next_at, Wrote, Handed, readings}
use Rattle.runs.proofs.Invariant.{Good, input_unkeyed, input_below, gate_below, carries_within}
use Rattle.runs.proofs.Steps.{Yes, carried_both, message_value, message_deal}
use Rattle.runs.proofs.ShownRight.{Sound, next_sound}

-- a call that every question lets pass, and one that some question does not

pub carried_yes : (qs : List (Bool × Refusal)) (s : List Slot) (x : Answer) (t : List Slot) → Yes qs → carried qs s x t ≡ (x, t)
carried_yes [] s x t y = refl
carried_yes (q ∷ qs) s x t y = ap (λ (b : Bool). cond b (carried qs s x t) (Refused q.1, s)) y.0 ∙ carried_yes qs s x t y.1

pub carried_no : (qs : List (Bool × Refusal)) (s : List Slot) (x : Answer) (t : List Slot) → (Yes qs → ⊥) → (carried qs s x t).1 ≡ s
carried_no [] s x t y = absurd (y tt)
carried_no (q ∷ qs) s x t y =
    ⊎_elim
    (λ e. ap (λ (b : Bool). (cond b (carried qs s x t) (Refused q.1, s)).1) e ∙ carried_no qs s x t (λ z. y (e, z)))
    (λ e. ap (λ (b : Bool). (cond b (carried qs s x t) (Refused q.1, s)).1) e)
    (cases_Bool q.0)

-- the boxes after a call

pub box_same : (p : Wiring) (d : Deal) (b : BoxNumber) (h : Here) (a : Act) → box_at b (next_at p d b h a) ≡ (step p d b (box_at b h) a).1
box_same p d Zero h a = refl
box_same p d One h a = refl

pub box_other : (p : Wiring) (d : Deal) (b : BoxNumber) (h : Here) (a : Act) → box_at (other b) (next_at p d b h a) ≡ box_at (other b) h
box_other p d Zero h a = refl
box_other p d One h a = refl

send_leaves : (p : Wiring) (d : Deal) (b : BoxNumber) (s : List Slot) (k room : ℕ) → (step p d b s (Send k room)).1 ≡ s
send_leaves p d b s k room = carried_both (λ x t. t ≡ s) (asks p d b s (Send k room)) s (says p d b s (Send k room)) s (λ n. refl) (λ y. refl)

pub box_sent : (p : Wiring) (d : Deal) (b c : BoxNumber) (h : Here) (k room : ℕ) → box_at c (next_at p d b h (Send k room)) ≡ box_at c h
box_sent p d Zero Zero h k room = send_leaves p d Zero h.left k room
box_sent p d Zero One h k room = refl
box_sent p d One Zero h k room = refl
box_sent p d One One h k room = send_leaves p d One h.right k room

-- a full wire stays full

set_stays : (s : List Slot) (k : ℕ) (x : Slot) → is_full (slot_at s k) ≡ false → (j : ℕ) → is_full (slot_at s j) ≡ true → is_full (slot_at (set s k x) j) ≡ true
set_stays s k x e j h =
    let ne : j ≢ k = λ q. both_ways (is_full (slot_at s k)) e (ap (λ (i : ℕ). is_full (slot_at s i)) (sym q) ∙ h) in
    ap is_full (get_or-set_other s k j x Empty ne) ∙ h

empty_not_full : (y : Slot) → is_empty y ≡ true → is_full y ≡ false
empty_not_full Empty e = refl
empty_not_full (Half s) e = refl
empty_not_full (Full m o) e = absurd (false≢true e)

awaits_not_full : (y : Slot) (t : Bool) → awaits y t ≡ true → is_full y ≡ false
awaits_not_full Empty t e = refl
awaits_not_full (Half s) t e = refl
awaits_not_full (Full m o) t e = absurd (false≢true e)

leaves_full : (p : Wiring) (d : Deal) (b : BoxNumber) (s : List Slot) (a : Act) (j : ℕ) → is_full (slot_at s j) ≡ true → Yes (asks p d b s a) → is_full (slot_at (leaves p d b s a) j) ≡ true
leaves_full p d b s (Put k v) j h y = set_stays s k _ (empty_not_full _ y.1.1.1.0) j h
leaves_full p d b s (Work k) j h y = set_stays s k _ (empty_not_full _ y.1.0) j h
leaves_full p d b s (Send k room) j h y = h
leaves_full p d b s (Take m) j h y = set_stays s (get_or m 1 0) _ (awaits_not_full _ (is_input p (get_or m 1 0)) y.1.1.1.1.0) j h
leaves_full p d b s (Show k) j h y = h
leaves_full p d b s Count j h y = h

step_full : (p : Wiring) (d : Deal) (b : BoxNumber) (s : List Slot) (a : Act) (j : ℕ) → is_full (slot_at s j) ≡ true → is_full (slot_at (step p d b s a).1 j) ≡ true
step_full p d b s a j h =
    carried_both (λ x t. is_full (slot_at t j) ≡ true) (asks p d b s a) s (says p d b s a) (leaves p d b s a) (λ n. h) (leaves_full p d b s a j h)

pub stays_full : (p : Wiring) (d : Deal) (b c : BoxNumber) (h : Here) (a : Act) (j : ℕ) → is_full (slot_at (box_at c h) j) ≡ true → is_full (slot_at (box_at c (next_at p d b h a)) j) ≡ true
stays_full p d Zero Zero h a j e = step_full p d Zero h.left a j e
stays_full p d Zero One h a j e = e
stays_full p d One Zero h a j e = e
stays_full p d One One h a j e = step_full p d One h.right a j e

-- calls other than take are handed nothing

abbrev act_tag : Act → ℕ
act_tag (Put k v) = 0
act_tag (Work k) = 1
act_tag (Send k room) = 2
act_tag (Take m) = 3
act_tag (Show k) = 4
act_tag Count = 5

pub not_take : (past : List Event) (b : BoxNumber) (a : Act) (x : Answer) → act_tag a ≢ 3 → Handed past (event b a x)
not_take past b a x h m e q = absurd (h (ap act_tag e))

take_inj : (m n : List ℕ) → Take m ≡ Take n → m ≡ n
take_inj m n e = cc

pub is_handed : (past : List Event) (b : BoxNumber) (m : List ℕ) (x : Answer) → Wrote (other b) m past → Handed past (event b (Take m) x)
is_handed past b m x w n e q = subst (λ (y : List ℕ). Wrote (other b) y past) (take_inj m n e) w

module _ (p : Wiring) (d : Deal) (f : Formed p) (g : Dealt p d) where
  pub put_sound : (b : BoxNumber) (h : Here) (k v : ℕ) → Sound p d h → Sound p d (next_at p d b h (Put k v))
  put_sound b h k v i = next_sound p d f g b h (Put k v) i (not_take h.past b (Put k v) _ (omega arith))

  pub work_sound : (b : BoxNumber) (h : Here) (k : ℕ) → Sound p d h → Sound p d (next_at p d b h (Work k))
  work_sound b h k i = next_sound p d f g b h (Work k) i (not_take h.past b (Work k) _ (omega arith))

  pub send_sound : (b : BoxNumber) (h : Here) (k room : ℕ) → Sound p d h → Sound p d (next_at p d b h (Send k room))
  send_sound b h k room i = next_sound p d f g b h (Send k room) i (not_take h.past b (Send k room) _ (omega arith))

  pub take_sound : (b : BoxNumber) (h : Here) (m : List ℕ) → Sound p d h → Wrote (other b) m h.past → Sound p d (next_at p d b h (Take m))
  take_sound b h m i w = next_sound p d f g b h (Take m) i (is_handed h.past b m _ w)

  -- the slot that a carried call wrote
  wrote_slot : (b : BoxNumber) (h : Here) (a : Act) (k : ℕ) (x : Slot) → Sound p d h → k < wires p → Yes (asks p d b (box_at b h) a) → leaves p d b (box_at b h) a ≡ set (box_at b h) k x
      → slot_at (box_at b (next_at p d b h a)) k ≡ x
  wrote_slot b h a k x i l y e =
      let w : k < length (box_at b h) = let z = i.long b in omega arith in
      let c : (step p d b (box_at b h) a).1 ≡ leaves p d b (box_at b h) a
      = ap (λ (t : Answer × List Slot). t.1) (carried_yes (asks p d b (box_at b h) a) (box_at b h) (says p d b (box_at b h) a) (leaves p d b (box_at b h) a) y) in
      ap (λ (s : List Slot). slot_at s k) (box_same p d b h a ∙ c ∙ e) ∙ get_or-set_same (box_at b h) k x Empty w

  same_refl : (b : BoxNumber) → same_box b b ≡ true
  same_refl Zero = refl
  same_refl One = refl

  -- an input's slot is never half
  pub input_slot : (r : ℕ → Option ℕ) (b : BoxNumber) (k : ℕ) (y : Slot) → is_keyed p k ≡ false → Good p d r b k y → is_empty y ≡ false → is_full y ≡ true
  input_slot r b k Empty n h e = absurd (false≢true (sym e))
  input_slot r b k (Half s) n h e = absurd (both_ways (is_keyed p k) n h.0)
  input_slot r b k (Full m o) n h e = refl

  pub put_fills : (b : BoxNumber) (h : Here) (k v : ℕ) → Sound p d h → is_input p k ≡ true → p.owner k ≡ b → (p.group k).within v ≡ true
      → is_full (slot_at (box_at b (next_at p d b h (Put k v))) k) ≡ true
  put_fills b h k v i t o w =
      ⊎_elim
      (λ e.
      let own : same_box (p.owner k) b ≡ true = ap (λ (c : BoxNumber). same_box c b) o ∙ same_refl b in
      ap is_full (wrote_slot b h (Put k v) k (Full (hide p d k v) None) i (input_below p k t) (t, (own, (w, (e, tt)))) refl))
      (λ e. stays_full p d b b h (Put k v) k (input_slot (readings h.past) b k (slot_at (box_at b h) k) (input_unkeyed p k t) (i.slots b k) e))
      (cases_Bool (is_empty (slot_at (box_at b h) k)))

  all_held : (s : List Slot) (k : ℕ) (ks : List ℕ) → ((j : ℕ) → j < k → is_full (slot_at s j) ≡ true) → AllBelow k ks → is_some (all_of (held_at s) ks) ≡ true
  all_held s k [] h b = refl
  all_held s k (j ∷ ks) h b = go (slot_at s j) (all_of (held_at s) ks) (h j b.0) (all_held s k ks h b.1)
    where
      go : (y : Slot) (o : Option (List ℕ)) → is_full y ≡ true → is_some o ≡ true → is_some (joined (full_in y) o) ≡ true
      go Empty o e q = absurd (false≢true e)
      go (Half s) o e q = absurd (false≢true e)
      go (Full m w) None e q = absurd (false≢true q)
      go (Full m w) (Some xs) e q = refl

  -- what work leaves: not empty, and full where the gate is local
  Worked : ℕ → Slot → Type 0
  Worked k y = (is_empty y ≡ false) × (is_keyed p k ≡ false → is_full y ≡ true)

  pub work_fills : (b : BoxNumber) (h : Here) (k : ℕ) → Sound p d h → is_gate p k ≡ true → ((j : ℕ) → j < k → is_full (slot_at (box_at b h) j) ≡ true)
      → (is_empty (slot_at (box_at b (next_at p d b h (Work k))) k) ≡ false) × (is_keyed p k ≡ false → is_full (slot_at (box_at b (next_at p d b h (Work k))) k) ≡ true)
  unfolding Worked
  work_fills b h k i t low =
      ⊎_elim
      (λ e.
      let x : Slot = worked p d b k (list_in (all_of (held_at (box_at b h)) (p.reads k))) in
      let w = wrote_slot b h (Work k) k x i (gate_below p k t) (t, (e, (all_held (box_at b h) k (p.reads k) low (f.lower k), tt))) refl in
      subst (Worked k) (sym w) (made (list_in (all_of (held_at (box_at b h)) (p.reads k))) (p.keyed k) refl))
      (λ e.
      let s : box_at b (next_at p d b h (Work k)) ≡ box_at b h
      = box_same p d b h (Work k) ∙ carried_no (asks p d b (box_at b h) (Work k)) (box_at b h) Done _ (λ y. both_ways (is_empty (slot_at (box_at b h) k)) e y.1.0) in
      subst (λ (z : List Slot). Worked k (slot_at z k)) (sym s) (e, (λ n. input_slot (readings h.past) b k (slot_at (box_at b h) k) n (i.slots b k) e)))
      (cases_Bool (is_empty (slot_at (box_at b h) k)))
    where
      made : (hs : List ℕ) (c : Bool) → p.keyed k ≡ c → Worked k (cond c (Half (d.share b k hs)) (Full (d.locally k hs) None))
      made hs true e = (refl, (λ n. absurd (both_ways (is_keyed p k) n (and_from (is_gate p k) (p.keyed k) t e))))
      made hs false e = (refl, (λ n. refl))

  takes : (r : ℕ → Option ℕ) (b : BoxNumber) (k : ℕ) (y : Slot) → Good p d r b k y → (is_input p k ≡ false → is_empty y ≡ false) → is_full y ≡ false → awaits y (is_input p k) ≡ true
  takes r b k Empty h n e = ⊎_elim (λ t. t) (λ t. absurd (false≢true (sym (n t)))) (cases_Bool (is_input p k))
  takes r b k (Half s) h n e = ⊎_elim (λ t. absurd (both_ways (is_keyed p k) (input_unkeyed p k t) h.0)) (λ t. not_from_false (is_input p k) t) (cases_Bool (is_input p k))
  takes r b k (Full m o) h n e = absurd (false≢true (sym e))

  filled_full : (q : Group) (y : Slot) (x : ℕ) → is_full (filled q y x) ≡ true
  filled_full q Empty x = refl
  filled_full q (Half s) x = refl
  filled_full q (Full m o) x = refl

  -- a box that awaits a wire takes what the other box wrote of it
  pub take_fills : (b : BoxNumber) (h : Here) (m : List ℕ) → Sound p d h → Wrote (other b) m h.past → awaited p b (get_or m 1 0) ≡ true
      → (is_input p (get_or m 1 0) ≡ false → is_empty (slot_at (box_at b h) (get_or m 1 0)) ≡ false)
      → is_full (slot_at (box_at b (next_at p d b h (Take m))) (get_or m 1 0)) ≡ true
  take_fills b h m i w aw ne =
      ⊎_elim
      (λ e. stays_full p d b b h (Take m) (get_or m 1 0) e)
      (λ e.
      let r = readings h.past in
      let t = i.sent (other b) m w in
      let k : ℕ = t.0 in
      let x : ℕ = t.1 in
      let within = carries_within p d f g r i.range (other b) k x t.3 t.4 in
      let wk : get_or m 1 0 ≡ k = ap (λ (n : List ℕ). get_or n 1 0) t.2 in
      let u : number_at m 6 ≡ x = ap (λ (n : List ℕ). number_at n 6) t.2 ∙ message_value p d f g (other b) k x ((f.lawful k).small x within) in
      let q30 : eqb (length m) 10 ≡ true = eq-eqb _ _ (ap length t.2) in
      let q31 : (eqb (get_or m 0 0) (box_byte (other b)) && eqb (number_at m 2) d.number) ≡ true
      = and_from (eqb (get_or m 0 0) (box_byte (other b))) _ (eq-eqb _ _ (ap (λ (n : List ℕ). get_or n 0 0) t.2))
      (eq-eqb _ _ (ap (λ (n : List ℕ). number_at n 2) t.2 ∙ message_deal p d f g (other b) k x)) in
      let q33 : (p.group (get_or m 1 0)).within (number_at m 6) ≡ true
      = ap₂ (λ (n y : ℕ). (p.group n).within y) wk u ∙ within in
      let q34 = takes r b (get_or m 1 0) (slot_at (box_at b h) (get_or m 1 0)) (i.slots b (get_or m 1 0)) ne e in
      let l : get_or m 1 0 < wires p = subst (λ (n : ℕ). n < wires p) (sym wk) t.3 in
      ap is_full (wrote_slot b h (Take m) (get_or m 1 0) (filled (p.group (get_or m 1 0)) (slot_at (box_at b h) (get_or m 1 0)) (number_at m 6)) i l (q30, (q31, (aw, (q33, (q34, tt))))) refl)
      ∙ filled_full (p.group (get_or m 1 0)) (slot_at (box_at b h) (get_or m 1 0)) (number_at m 6))
      (cases_Bool (is_full (slot_at (box_at b h) (get_or m 1 0))))
