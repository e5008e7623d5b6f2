-- Every count of a run is right.
use Rattle.std.proofs.Common.{◌≡◌, ℕ, zero, suc, ◌+◌, ◌<◌, ◌≤◌, Bool, true, false, cond, not, ◌&&◌, ltb, leb, List, [], ◌∷◌, length, get_or, set, replicate, None, sym, refl, ap, ◌∙◌, ap₂, inl, ⊎_elim, arith, length-set}
use lib.ListN.{length-replicate}
use Rattle.std.proofs.lemmas.Bool.{and_parts, or_cases, ltb-true, leb-true, false≢true}
use Rattle.key.specs.declared.BoxNumber.{BoxNumber}
use Rattle.key.specs.declared.BoxNumber.TheVariants.{Zero, One}
use Rattle.runs.specs.Plans.{other, same_box, Wiring, Deal, is_input, is_gate, is_keyed, wires, all_of}
use Rattle.refusal.specs.declared.Refusal.{Refusal}
use Rattle.runs.specs.Boxes.{Slot, Empty, Half, Full, Act, Put, Work, Send, Take, Show, Count, Counted, Refused, slot_at, held_at, is_empty, list_in, filled, worked, awaits, awaited, number_at, used_at, used_from, used, unused, asks, says, leaves, step}
use Rattle.runs.specs.Runs.{Call, Here, box_at, next_at, next, after, loaded, keyed_work, keyed_works, keyed_gates}
use Rattle.runs.specs.Theorem.{CountsRight, CountsStand}
use Rattle.runs.proofs.Invariant.{input_below, gate_below, keyed_gate}
use Rattle.runs.proofs.Steps.{Yes, carried_both}
use Rattle.runs.proofs.Counting.{used_out, used_same, used_more, at_same, counts_sum}

refused_none : (p : Wiring) (a : Act) (n : Refusal) → keyed_work p a (Refused n) ≡ 0
refused_none p (Put k v) n = refl
refused_none p (Work k) n = refl
refused_none p (Send k room) n = refl
refused_none p (Take m) n = refl
refused_none p (Show k) n = refl
refused_none p Count n = refl

bit : (x y : Bool) → x ≡ y → cond {A = ℕ} x 1 0 ≡ cond {A = ℕ} y 1 0
bit x y e = ap (λ (b : Bool). cond {A = ℕ} b 1 0) e

-- a write at a wire that was not empty, and is not
still_used : (p : Wiring) (s : List Slot) (k : ℕ) (x : Slot) → k < length s → is_empty (slot_at s k) ≡ false → is_empty x ≡ false → used p (set s k x) ≡ used p s
still_used p s k x l e q =
    used_same p.keyed s k x p.gates p.inputs
    (at_same p.keyed s k x l ∙ ap (λ (b : Bool). cond {A = ℕ} (p.keyed k && not b) 1 0) (q ∙ sym e))

input_unused : (p : Wiring) (s : List Slot) (k : ℕ) (x : Slot) → is_input p k ≡ true → used p (set s k x) ≡ used p s
input_unused p s k x t = let h : k < p.inputs = ltb-true _ _ t in used_out p.keyed s k x p.gates p.inputs (inl h)

taken : (p : Wiring) (s : List Slot) (k x : ℕ) (y : Slot) → slot_at s k ≡ y → wires p ≤ length s → k < wires p → awaits y (is_input p k) ≡ true → used p (set s k (filled (p.group k) y x)) ≡ used p s
taken p s k x Empty e l w a = input_unused p s k _ a
taken p s k x (Half z) e l w a = still_used p s k _ (omega arith) (ap is_empty e) refl
taken p s k x (Full m o) e l w a = absurd (false≢true a)

empty_unused : (keyed : ℕ → Bool) (s : List Slot) (k : ℕ) → is_empty (slot_at s k) ≡ true → used_at keyed s k ≡ 0
empty_unused keyed s k e = ap (λ (b : Bool). cond {A = ℕ} (keyed k && not b) 1 0) e ∙ none (keyed k)
  where
    none : (b : Bool) → cond {A = ℕ} (b && false) 1 0 ≡ 0
    none true = refl
    none false = refl

work_uses : (p : Wiring) (s : List Slot) (k : ℕ) (x : Slot) → wires p ≤ length s → is_gate p k ≡ true → is_empty (slot_at s k) ≡ true → is_empty x ≡ false
    → (t : Bool) → p.keyed k ≡ t → used p (set s k x) ≡ used p s + cond t 1 0
work_uses p s k x l ga e n true t =
    let h = and_parts (leb p.inputs k) (ltb k (wires p)) ga in
    let low : p.inputs ≤ k = leb-true _ _ h.0 in
    let high : k < p.inputs + p.gates = ltb-true _ _ h.1 in
    let a = at_same p.keyed s k x (omega arith) in
    let c : cond {A = ℕ} (p.keyed k && not (is_empty x)) 1 0 ≡ 1 = ap₂ (λ (y z : Bool). cond {A = ℕ} (y && not z) 1 0) t n in
    let z = empty_unused p.keyed s k e in
    used_more p.keyed s k x p.gates p.inputs low high (omega arith)
work_uses p s k x l ga e n false t =
    let h = and_parts (leb p.inputs k) (ltb k (wires p)) ga in
    let high : k < p.inputs + p.gates = ltb-true _ _ h.1 in
    let a = at_same p.keyed s k x (omega arith) in
    let c : cond {A = ℕ} (p.keyed k && not (is_empty x)) 1 0 ≡ 0 = ap (λ (y : Bool). cond {A = ℕ} (y && not (is_empty x)) 1 0) t in
    let z = empty_unused p.keyed s k e in
    let same = used_same p.keyed s k x p.gates p.inputs (omega arith) in
    omega arith

worked_filled : (p : Wiring) (d : Deal) (b : BoxNumber) (k : ℕ) (hs : List ℕ) → is_empty (worked p d b k hs) ≡ false
worked_filled p d b k hs = go (p.keyed k)
  where
    go : (t : Bool) → is_empty (cond t (Half (d.share b k hs)) (Full (d.locally k hs) None)) ≡ false
    go true = refl
    go false = refl

awaited_below : (p : Wiring) (b : BoxNumber) (k : ℕ) → awaited p b k ≡ true → k < wires p
awaited_below p b k e =
    ⊎_elim (λ t. input_below p k (and_parts (is_input p k) _ t).0) (λ t. gate_below p k (keyed_gate p k t).0) (or_cases (is_input p k && same_box (p.owner k) (other b)) (is_keyed p k) e)

carried_out : (p : Wiring) (d : Deal) (b : BoxNumber) (s : List Slot) (a : Act) → wires p ≤ length s → Yes (asks p d b s a) → used p (leaves p d b s a) ≡ used p s + keyed_work p a (says p d b s a)
carried_out p d b s (Put k v) l y = let z = input_unused p s k _ y.0 in z ∙ omega arith
carried_out p d b s (Work k) l y =
    work_uses p s k _ l y.0 y.1.0 (worked_filled p d b k (list_in (all_of (held_at s) (p.reads k)))) (p.keyed k) refl
carried_out p d b s (Send k room) l y = omega arith
carried_out p d b s (Take m) l y = taken p s (get_or m 1 0) (number_at m 6) (slot_at s (get_or m 1 0)) refl l (awaited_below p b (get_or m 1 0) y.1.1.0) y.1.1.1.1.0 ∙ omega arith
carried_out p d b s (Show k) l y = omega arith
carried_out p d b s Count l y = omega arith

step_uses : (p : Wiring) (d : Deal) (b : BoxNumber) (s : List Slot) (a : Act) → wires p ≤ length s → used p (step p d b s a).1 ≡ used p s + keyed_work p a (step p d b s a).0
step_uses p d b s a l =
    carried_both (λ x t. used p t ≡ used p s + keyed_work p a x) (asks p d b s a) s (says p d b s a) (leaves p d b s a)
    (λ n. omega (arith, refused_none p a n)) (carried_out p d b s a l)

leaves_long : (p : Wiring) (d : Deal) (b : BoxNumber) (s : List Slot) (a : Act) → length (leaves p d b s a) ≡ length s
leaves_long p d b s (Put k v) = length-set s k _
leaves_long p d b s (Work k) = length-set s k _
leaves_long p d b s (Send k room) = refl
leaves_long p d b s (Take m) = length-set s (get_or m 1 0) _
leaves_long p d b s (Show k) = refl
leaves_long p d b s Count = refl

step_long : (p : Wiring) (d : Deal) (b : BoxNumber) (s : List Slot) (a : Act) → length (step p d b s a).1 ≡ length s
step_long p d b s a = carried_both (λ x t. length t ≡ length s) (asks p d b s a) s (says p d b s a) (leaves p d b s a) (λ n. refl) (λ y. leaves_long p d b s a)

counted_right : (p : Wiring) (d : Deal) (b : BoxNumber) (s : List Slot) (a : Act) (u w : ℕ) → a ≡ Count → (step p d b s a).0 ≡ Counted u w → (u ≡ used p s) × (u + w ≡ keyed_gates p)
counted_right p d b s a u w e q =
    let t : Counted (used p s) (unused p s) ≡ Counted u w = ap (λ (c : Act). (step p d b s c).0) (sym e) ∙ q in
    let x : used p s ≡ u = counted_one _ _ _ _ t in
    let y : unused p s ≡ w = counted_two _ _ _ _ t in
    let z = counts_sum p.keyed s p.gates p.inputs in
    (sym x, omega arith)
  where
    counted_one : (m n i j : ℕ) → Counted m n ≡ Counted i j → m ≡ i
    counted_one m n i j r = cc

    counted_two : (m n i j : ℕ) → Counted m n ≡ Counted i j → n ≡ j
    counted_two m n i j r = cc

pub record Counting (p : Wiring) (h : Here) : Type 0 where
  pub long : (b : BoxNumber) → wires p ≤ length (box_at b h)
  pub counts : (b : BoxNumber) → used p (box_at b h) ≡ keyed_works p b h.past
  pub right : CountsRight p h.past

plus : (x y : ℕ) → x ≡ y → x ≡ y + 0
plus x y e = omega arith

next_counts : (p : Wiring) (d : Deal) (b : BoxNumber) (h : Here) (a : Act) → Counting p h → Counting p (next_at p d b h a)
next_counts p d Zero h a c = record {
  long = elim [ Zero ↦ omega (arith, step_long p d Zero h.left a, c.long Zero) | One ↦ c.long One ];
  counts = elim [ Zero ↦ step_uses p d Zero h.left a (c.long Zero) ∙ ap (λ (n : ℕ). n + keyed_work p a (step p d Zero h.left a).0) (c.counts Zero) | One ↦ plus _ _ (c.counts One) ];
  right = ((λ u w e q. let t = counted_right p d Zero h.left a u w e q in (t.0 ∙ c.counts Zero, t.1)), c.right);
}
next_counts p d One h a c = record {
  long = elim [ Zero ↦ c.long Zero | One ↦ omega (arith, step_long p d One h.right a, c.long One) ];
  counts = elim [ Zero ↦ plus _ _ (c.counts Zero) | One ↦ step_uses p d One h.right a (c.long One) ∙ ap (λ (n : ℕ). n + keyed_work p a (step p d One h.right a).0) (c.counts One) ];
  right = ((λ u w e q. let t = counted_right p d One h.right a u w e q in (t.0 ∙ c.counts One, t.1)), c.right);
}

after_counts : (p : Wiring) (d : Deal) (h : Here) (cs : List Call) → Counting p h → Counting p (after p d h cs)
after_counts p d h [] c = c
after_counts p d h (x ∷ cs) c = after_counts p d (next p d h x) cs (next_counts p d x.at h x.act c)

get_d_none : (m k : ℕ) → slot_at (replicate m Empty) k ≡ Empty
get_d_none zero k = refl
get_d_none (suc m) zero = refl
get_d_none (suc m) (suc k) = get_d_none m k

none_used : (keyed : ℕ → Bool) (m n k : ℕ) → used_from keyed (replicate m Empty) n k ≡ 0
none_used keyed m zero k = refl
none_used keyed m (suc n) k =
    let a = empty_unused keyed (replicate m Empty) k (ap is_empty (get_d_none m k)) in
    let b = none_used keyed m n (k + 1) in
    omega arith

pub counts_stand : CountsStand
counts_stand p d room fits cs = (after_counts p d (loaded room) cs start).right
  where
    start : Counting p (loaded room)
    start = record {
      long = elim [ Zero ↦ omega (arith, length-replicate room Empty) | One ↦ omega (arith, length-replicate room Empty) ];
      counts = elim [ Zero ↦ none_used p.keyed room p.gates p.inputs | One ↦ none_used p.keyed room p.gates p.inputs ];
      right = tt;
    }
