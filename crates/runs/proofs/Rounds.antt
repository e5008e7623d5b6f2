-- One round fills every wire at both boxes.
use Rattle.std.proofs.Common.{◌≡◌, ℕ, zero, suc, ◌+◌, ◌<◌, ◌≤◌, true, false, List, sym, refl, ap, ◌∙◌, subst, inl, inr, ⊎_elim, arith}
use Rattle.std.proofs.lemmas.Bool.{cases_Bool, cases_eq, and_from, or_left, or_right, both_ways, false≢true, not_from_false, cond-true, cond-false}
use Rattle.key.specs.declared.BoxNumber.{BoxNumber}
use Rattle.key.specs.declared.BoxNumber.TheVariants.{Zero, One}
use Rattle.runs.specs.Plans.{other, same_box, Wiring, Deal, Formed, Dealt, is_input, is_keyed, wires}
use Rattle.runs.specs.Boxes.{Slot, Act, Put, Work, Send, Take, Answer, Done, Sent, Shown, Counted, Refused, slot_at, is_empty, is_full, outgoing, awaited, sendable, message, asks, says, step}
use Rattle.runs.specs.Runs.{Here, box_at, next_at, after, loaded, Wrote, last_answer, take_if, begun, round_from}
use Rattle.runs.specs.Theorem.{RoundsFill}
use Rattle.runs.proofs.Plain.{gate_from}
use Rattle.runs.proofs.ShownRight.{Sound, run_sound}
use Rattle.runs.proofs.Filling.{carried_yes, box_other, box_sent, stays_full, put_sound, work_sound, send_sound, take_sound, put_fills, work_fills, take_fills}

full_not_empty : (y : Slot) → is_full y ≡ true → is_empty y ≡ false
full_not_empty Slot.Empty e = absurd (false≢true e)
full_not_empty (Slot.Half s) e = refl
full_not_empty (Slot.Full m o) e = refl

abbrev pub FullBelow : ℕ → Here → Type 0
FullBelow n h = (b : BoxNumber) (j : ℕ) → j < n → is_full (slot_at (box_at b h) j) ≡ true

-- a take that is made if there is something to take

pub take_if_full : (p : Wiring) (d : Deal) (b c : BoxNumber) (x : Answer) (h : Here) (j : ℕ) → is_full (slot_at (box_at c h) j) ≡ true → is_full (slot_at (box_at c (take_if p d b x h)) j) ≡ true
take_if_full p d b c Done h j e = e
take_if_full p d b c (Sent m) h j e = stays_full p d b c h (Take m) j e
take_if_full p d b c (Shown x) h j e = e
take_if_full p d b c (Counted u w) h j e = e
take_if_full p d b c (Refused n) h j e = e

take_if_other : (p : Wiring) (d : Deal) (b : BoxNumber) (x : Answer) (h : Here) → box_at (other b) (take_if p d b x h) ≡ box_at (other b) h
take_if_other p d b Done h = refl
take_if_other p d b (Sent m) h = box_other p d b h (Take m)
take_if_other p d b (Shown x) h = refl
take_if_other p d b (Counted u w) h = refl
take_if_other p d b (Refused n) h = refl

pub next_wrote : (p : Wiring) (d : Deal) (b c : BoxNumber) (h : Here) (a : Act) (m : List ℕ) → Wrote c m h.past → Wrote c m (next_at p d b h a).past
next_wrote p d Zero c h a m w = inr w
next_wrote p d One c h a m w = inr w

pub take_if_wrote : (p : Wiring) (d : Deal) (b c : BoxNumber) (x : Answer) (h : Here) (m : List ℕ) → Wrote c m h.past → Wrote c m (take_if p d b x h).past
take_if_wrote p d b c Done h m w = w
take_if_wrote p d b c (Sent n) h m w = next_wrote p d b c h (Take n) m w
take_if_wrote p d b c (Shown x) h m w = w
take_if_wrote p d b c (Counted u v) h m w = w
take_if_wrote p d b c (Refused n) h m w = w

pub last_wrote : (p : Wiring) (d : Deal) (b : BoxNumber) (h : Here) (a : Act) (m : List ℕ) → last_answer (next_at p d b h a).past ≡ Sent m → Wrote b m (next_at p d b h a).past
last_wrote p d Zero h a m e = inl (refl, e)
last_wrote p d One h a m e = inl (refl, e)

last_is : (p : Wiring) (d : Deal) (b : BoxNumber) (h : Here) (a : Act) → last_answer (next_at p d b h a).past ≡ (step p d b (box_at b h) a).0
last_is p d Zero h a = refl
last_is p d One h a = refl

-- an accepted send
send_says : (p : Wiring) (d : Deal) (b : BoxNumber) (h : Here) (k : ℕ) → sendable p b k ≡ true → is_empty (slot_at (box_at b h) k) ≡ false
    → last_answer (next_at p d b h (Send k 10)).past ≡ Sent (message d b k (outgoing (slot_at (box_at b h) k)))
send_says p d b h k s e =
    last_is p d b h (Send k 10)
    ∙ ap (λ (t : Answer × List Slot). t.0) (carried_yes (asks p d b (box_at b h) (Send k 10)) (box_at b h) (says p d b (box_at b h) (Send k 10)) (box_at b h) (s, (not_from_false _ e, (refl, tt))))

module _ (p : Wiring) (d : Deal) (f : Formed p) (g : Dealt p d) where
  take_if_sound : (b : BoxNumber) (x : Answer) (h : Here) → Sound p d h → ((m : List ℕ) → x ≡ Sent m → Wrote (other b) m h.past) → Sound p d (take_if p d b x h)
  take_if_sound b Done h i w = i
  take_if_sound b (Sent m) h i w = take_sound p d f g b h m i (w m refl)
  take_if_sound b (Shown x) h i w = i
  take_if_sound b (Counted u v) h i w = i
  take_if_sound b (Refused n) h i w = i

  take_if_fills : (b : BoxNumber) (x : Answer) (h : Here) (k y : ℕ) → x ≡ Sent (message d (other b) k y) → Sound p d h → Wrote (other b) (message d (other b) k y) h.past → awaited p b k ≡ true
      → (is_input p k ≡ false → is_empty (slot_at (box_at b h) k) ≡ false) → is_full (slot_at (box_at b (take_if p d b x h)) k) ≡ true
  take_if_fills b x h k y e i w a n =
      ap (λ (z : Answer). is_full (slot_at (box_at b (take_if p d b z h)) k)) e ∙ take_fills p d f g b h (message d (other b) k y) i w a n

  one : ℕ → Here → Here
  one k h = next_at p d Zero h (Send k 10)

  two : ℕ → Here → Here
  two k h = next_at p d One (one k h) (Send k 10)

  three : ℕ → Here → Here
  three k h = take_if p d One (last_answer (one k h).past) (two k h)

  four : ℕ → Here → Here
  four k h = take_if p d Zero (last_answer (two k h).past) (three k h)

  two_sound : (k : ℕ) (h : Here) → Sound p d h → Sound p d (two k h)
  unfolding one two
  two_sound k h i = send_sound p d f g One (next_at p d Zero h (Send k 10)) k 10 (send_sound p d f g Zero h k 10 i)

  two_box : (k : ℕ) (h : Here) (c : BoxNumber) → box_at c (two k h) ≡ box_at c h
  unfolding one two
  two_box k h c = box_sent p d One c (next_at p d Zero h (Send k 10)) k 10 ∙ box_sent p d Zero c h k 10

  left_wrote : (k : ℕ) (h : Here) (m : List ℕ) → last_answer (one k h).past ≡ Sent m → Wrote Zero m (two k h).past
  unfolding one two
  left_wrote k h m e = next_wrote p d One Zero (next_at p d Zero h (Send k 10)) (Send k 10) m (last_wrote p d Zero h (Send k 10) m e)

  right_wrote : (k : ℕ) (h : Here) (m : List ℕ) → last_answer (two k h).past ≡ Sent m → Wrote One m (two k h).past
  unfolding one two
  right_wrote k h m e = last_wrote p d One (next_at p d Zero h (Send k 10)) (Send k 10) m e

  left_says : (k : ℕ) (h : Here) → sendable p Zero k ≡ true → is_empty (slot_at (box_at Zero h) k) ≡ false → last_answer (one k h).past ≡ Sent (message d Zero k (outgoing (slot_at (box_at Zero h) k)))
  unfolding one
  left_says k h s e = send_says p d Zero h k s e

  right_says : (k : ℕ) (h : Here) → sendable p One k ≡ true → is_empty (slot_at (box_at One h) k) ≡ false → last_answer (two k h).past ≡ Sent (message d One k (outgoing (slot_at (box_at One h) k)))
  unfolding one two
  right_says k h s e = send_says p d One (next_at p d Zero h (Send k 10)) k s e

  three_sound : (k : ℕ) (h : Here) → Sound p d h → Sound p d (three k h)
  unfolding three
  three_sound k h i = take_if_sound One (last_answer (one k h).past) (two k h) (two_sound k h i) (left_wrote k h)

  four_sound : (k : ℕ) (h : Here) → Sound p d h → Sound p d (four k h)
  unfolding three four
  four_sound k h i =
      take_if_sound Zero (last_answer (two k h).past) (three k h) (three_sound k h i)
      (λ m e. take_if_wrote p d One One (last_answer (one k h).past) (two k h) m (right_wrote k h m e))

  four_full : (k : ℕ) (h : Here) (c : BoxNumber) (j : ℕ) → is_full (slot_at (box_at c h) j) ≡ true → is_full (slot_at (box_at c (four k h)) j) ≡ true
  unfolding three four
  four_full k h c j e =
      take_if_full p d Zero c (last_answer (two k h).past) (three k h) j
      (take_if_full p d One c (last_answer (one k h).past) (two k h) j (ap (λ (s : List Slot). is_full (slot_at s j)) (two_box k h c) ∙ e))

  -- the right box is given what the left one holds
  fed_right : (k : ℕ) (h : Here) → Sound p d h → sendable p Zero k ≡ true → is_empty (slot_at (box_at Zero h) k) ≡ false → awaited p One k ≡ true
      → (is_input p k ≡ false → is_empty (slot_at (box_at One h) k) ≡ false) → is_full (slot_at (box_at One (four k h)) k) ≡ true
  unfolding three four
  fed_right k h i s e a n =
      let x = outgoing (slot_at (box_at Zero h) k) in
      let q = left_says k h s e in
      take_if_full p d Zero One (last_answer (two k h).past) (three k h) k
      (take_if_fills One (last_answer (one k h).past) (two k h) k x q (two_sound k h i) (left_wrote k h (message d Zero k x) q) a
      (λ t. ap (λ (z : List Slot). is_empty (slot_at z k)) (two_box k h One) ∙ n t))

  -- the left box is given what the right one holds
  fed_left : (k : ℕ) (h : Here) → Sound p d h → sendable p One k ≡ true → is_empty (slot_at (box_at One h) k) ≡ false → awaited p Zero k ≡ true
      → (is_input p k ≡ false → is_empty (slot_at (box_at Zero h) k) ≡ false) → is_full (slot_at (box_at Zero (four k h)) k) ≡ true
  unfolding three four
  fed_left k h i s e a n =
      let x = outgoing (slot_at (box_at One h) k) in
      let q = right_says k h s e in
      take_if_fills Zero (last_answer (two k h).past) (three k h) k x q (three_sound k h i)
      (take_if_wrote p d One One (last_answer (one k h).past) (two k h) (message d One k x) (right_wrote k h (message d One k x) q)) a
      (λ t. ap (λ (z : List Slot). is_empty (slot_at z k)) (take_if_other p d One (last_answer (one k h).past) (two k h) ∙ two_box k h Zero) ∙ n t)

  -- one wire of a round

  owner_sends : (b : BoxNumber) (k : ℕ) → is_input p k ≡ true → p.owner k ≡ b → sendable p b k ≡ true
  owner_sends b k t o = or_left _ (is_keyed p k) (and_from (is_input p k) (same_box (p.owner k) b) t (ap (λ (c : BoxNumber). same_box c b) o ∙ same b))
    where
      same : (c : BoxNumber) → same_box c c ≡ true
      same Zero = refl
      same One = refl

  other_awaits : (b : BoxNumber) (k : ℕ) → is_input p k ≡ true → p.owner k ≡ other b → awaited p b k ≡ true
  other_awaits b k t o = or_left _ (is_keyed p k) (and_from (is_input p k) (same_box (p.owner k) (other b)) t (ap (λ (c : BoxNumber). same_box c (other b)) o ∙ same b))
    where
      same : (c : BoxNumber) → same_box (other c) (other c) ≡ true
      same Zero = refl
      same One = refl

  input_filled : (o : BoxNumber) (k : ℕ) (h : Here) → Sound p d h → is_input p k ≡ true → p.owner k ≡ o → is_full (slot_at (box_at o h) k) ≡ true
      → (b : BoxNumber) → is_full (slot_at (box_at b (four k h)) k) ≡ true
  input_filled Zero k h i t o e Zero = four_full k h Zero k e
  input_filled Zero k h i t o e One =
      fed_right k h i (owner_sends Zero k t o) (full_not_empty _ e) (other_awaits One k t o) (λ n. absurd (both_ways (is_input p k) n t))
  input_filled One k h i t o e Zero =
      fed_left k h i (owner_sends One k t o) (full_not_empty _ e) (other_awaits Zero k t o) (λ n. absurd (both_ways (is_input p k) n t))
  input_filled One k h i t o e One = four_full k h One k e

  gate_filled : (k : ℕ) (h : Here) → Sound p d h → ((b : BoxNumber) → (is_empty (slot_at (box_at b h) k) ≡ false) × (is_keyed p k ≡ false → is_full (slot_at (box_at b h) k) ≡ true))
      → (b : BoxNumber) → is_full (slot_at (box_at b (four k h)) k) ≡ true
  gate_filled k h i w b = ⊎_elim (λ t. keyed b t) (λ t. four_full k h b k ((w b).1 t)) (cases_Bool (is_keyed p k))
    where
      keyed : (c : BoxNumber) → is_keyed p k ≡ true → is_full (slot_at (box_at c (four k h)) k) ≡ true
      keyed Zero t = fed_left k h i (or_right _ (is_keyed p k) t) (w One).0 (or_right _ (is_keyed p k) t) (λ n. (w Zero).0)
      keyed One t = fed_right k h i (or_right _ (is_keyed p k) t) (w Zero).0 (or_right _ (is_keyed p k) t) (λ n. (w One).0)

  -- below a wire all stays full, and the wire becomes so
  grown : (k : ℕ) (h : Here) → FullBelow k h → ((b : BoxNumber) → is_full (slot_at (box_at b h) k) ≡ true) → FullBelow (suc k) h
  grown k h low top b j l =
      ⊎_elim (λ e. ap (λ (n : ℕ). is_full (slot_at (box_at b h) n)) e ∙ top b) (λ e. low b j (omega arith)) (cases_eq j k)

  abbrev Filled : ℕ → Here → Type 0
  Filled n h = Sound p d h × FullBelow n h

  wire_fills : (vs : ℕ → ℕ) → ((j : ℕ) → is_input p j ≡ true → (p.group j).within (vs j) ≡ true) → (k : ℕ) (h : Here) → k < wires p → Filled k h
      → Filled (suc k) (four k (begun p d vs k h))
  wire_fills vs r k h l i =
      ⊎_elim
      (λ t.
      let h1 : Here = next_at p d (p.owner k) h (Put k (vs k)) in
      let e : begun p d vs k h ≡ h1 = cond-true (is_input p k) _ _ t in
      let s : Sound p d h1 = put_sound p d f g (p.owner k) h k (vs k) i.0 in
      let full = put_fills p d f g (p.owner k) h k (vs k) i.0 t refl (r k t) in
      subst (λ (x : Here). Filled (suc k) (four k x)) (sym e) (
        four_sound k h1 s,
        grown k (four k h1) (λ b j q. four_full k h1 b j (stays_full p d (p.owner k) b h (Put k (vs k)) j (i.1 b j q))) (input_filled (p.owner k) k h1 s t refl full),
      ))
      (λ t.
      let ga = gate_from p k t l in
      let hl : Here = next_at p d Zero h (Work k) in
      let h1 : Here = next_at p d One hl (Work k) in
      let e : begun p d vs k h ≡ h1 = cond-false (is_input p k) _ _ t in
      let sl : Sound p d hl = work_sound p d f g Zero h k i.0 in
      let s : Sound p d h1 = work_sound p d f g One hl k sl in
      let wl = work_fills p d f g Zero h k i.0 ga (i.1 Zero) in
      let wr = work_fills p d f g One hl k sl ga (i.1 One) in
      subst (λ (x : Here). Filled (suc k) (four k x)) (sym e) (
        four_sound k h1 s,
        grown k (four k h1)
            (λ b j q. four_full k h1 b j (stays_full p d One b hl (Work k) j (stays_full p d Zero b h (Work k) j (i.1 b j q))))
            (gate_filled k h1 s (elim [ Zero ↦ wl | One ↦ wr ])),
      ))
      (cases_Bool (is_input p k))

  from_fills : (vs : ℕ → ℕ) → ((j : ℕ) → is_input p j ≡ true → (p.group j).within (vs j) ≡ true) → (n k : ℕ) (h : Here) → k + n ≤ wires p → Filled k h → Filled (k + n) (round_from p d vs n k h)
  unfolding one two three four
  from_fills vs r zero k h l i = (i.0, λ b j q. i.1 b j (omega arith))
  from_fills vs r (suc n) k h l i =
      let t = from_fills vs r n (suc k) (four k (begun p d vs k h)) (omega arith) (wire_fills vs r k h (omega arith) i) in
      (t.0, λ b j q. t.1 b j (omega arith))

pub rounds_fill : RoundsFill
rounds_fill p d f g room fits cs q vs r b k l =
    (from_fills p d f g vs r (wires p) 0 (after p d (loaded room) cs) (omega arith) (run_sound p d f g room fits cs q, λ c j n. absurd (omega arith))).1 b k (omega arith)
