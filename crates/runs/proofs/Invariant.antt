-- What holds of two boxes and their past after every fair list of calls.
use Rattle.std.proofs.Common.{◌≡◌, ℕ, ◌+◌, ◌*◌, ◌/◌, ◌%◌, ◌^◌, ◌<◌, ◌≤◌, true, false, ◌||◌, ltb, leb, ◌≢◌, ◌⊎◌, List, [], ◌∷◌, length, set, Some, None, Option, sym, refl, ap, ◌∙◌, subst, inl, inr, ⊎_elim, arith, length-set, get_or-set_other, get_or-set_same}
use mathlib.Core.Path.{fun_ext}
use native.Mathlib.Nat.{div-div-eq-div-mul}
use Rattle.std.proofs.lemmas.Bool.{cases_Bool, cases_eq, and_parts, both_ways, ltb-true, leb-true, le-ltb}
use Rattle.key.specs.declared.BoxNumber.{BoxNumber}
use Rattle.key.specs.declared.BoxNumber.TheVariants.{Zero, One}
use Rattle.runs.specs.Plans.{Wiring, Deal, Formed, Dealt, all_of, plain, hide, hide_all, is_input, is_gate, is_keyed, wires}
use Rattle.runs.specs.Boxes.{Slot, Empty, Half, Full, Act, Show, Answer, Done, Sent, Shown, Counted, Refused, slot_at, message, number_at, number_bytes}
use Rattle.runs.specs.Runs.{Event, Wrote, ◌∈◌}
use Rattle.runs.proofs.Plain.{Grows, plain_grows, all_of_grows, plain_within, reads_within, InRange}

-- a wire's value is held: it is the plain value, hidden
abbrev pub Held : Wiring → Deal → (ℕ → Option ℕ) → ℕ → ℕ → Type 0
Held p d r k m = (v : ℕ) × (plain p r k ≡ Some v) × (m ≡ hide p d k v)

-- a box's share of a keyed wire
abbrev pub Shared : Wiring → Deal → (ℕ → Option ℕ) → BoxNumber → ℕ → ℕ → Type 0
Shared p d r b k s = (vs : List ℕ) × (all_of (plain p r) (p.reads k) ≡ Some vs) × (s ≡ d.share b k (hide_all p d (p.reads k) vs))

abbrev pub GoodOwn : Wiring → Deal → (ℕ → Option ℕ) → BoxNumber → ℕ → Option ℕ → Type 0
GoodOwn p d r b k None = is_keyed p k ≡ false
GoodOwn p d r b k (Some s) = (is_keyed p k ≡ true) × Shared p d r b k s

abbrev pub Good : Wiring → Deal → (ℕ → Option ℕ) → BoxNumber → ℕ → Slot → Type 0
Good p d r b k Empty = Unit {0}
Good p d r b k (Half s) = (is_keyed p k ≡ true) × Shared p d r b k s
Good p d r b k (Full m o) = Held p d r k m × GoodOwn p d r b k o

-- what a message carries: a share of a keyed wire, or the value of another
abbrev pub Carries : Wiring → Deal → (ℕ → Option ℕ) → BoxNumber → ℕ → ℕ → Type 0
Carries p d r b k x = ((is_keyed p k ≡ true) × Shared p d r b k x) ⊎ ((is_keyed p k ≡ false) × Held p d r k x)

abbrev pub GoodMessage : Wiring → Deal → (ℕ → Option ℕ) → BoxNumber → List ℕ → Type 0
GoodMessage p d r b m =
    (k : ℕ) × (x : ℕ) × (m ≡ message d b k x) × (k < wires p) × Carries p d r b k x × ((is_input p k || is_keyed p k) ≡ true)

pub record Inv (p : Wiring) (d : Deal) (box : BoxNumber → List Slot) (past : List Event) (r : ℕ → Option ℕ) : Type 0 where
  pub long : (b : BoxNumber) → wires p ≤ length (box b)
  pub slots : (b : BoxNumber) (k : ℕ) → Good p d r b k (slot_at (box b) k)
  pub unput : (b : BoxNumber) (k : ℕ) → p.owner k ≡ b → slot_at (box b) k ≡ Empty → r k ≡ None
  pub range : InRange p r
  pub sent : (b : BoxNumber) (m : List ℕ) → Wrote b m past → GoodMessage p d r b m
  pub shown : (e : Event) (k v : ℕ) → ◌∈◌ e past → e.act ≡ Show k → e.answer ≡ Shown v → plain p r k ≡ Some v

-- all of it stays as more readings are put
pub held_grows : (p : Wiring) (d : Deal) (r s : ℕ → Option ℕ) → Grows r s → (k m : ℕ) → Held p d r k m → Held p d s k m
held_grows p d r s g k m h = (h.0, plain_grows p r s g k h.0 h.1, h.2)

pub shared_grows : (p : Wiring) (d : Deal) (r s : ℕ → Option ℕ) → Grows r s → (b : BoxNumber) (k x : ℕ) → Shared p d r b k x → Shared p d s b k x
shared_grows p d r s g b k x h = (h.0, all_of_grows (plain p r) (plain p s) (p.reads k) (λ j v. plain_grows p r s g j v) h.0 h.1, h.2)

pub own_grows : (p : Wiring) (d : Deal) (r s : ℕ → Option ℕ) → Grows r s → (b : BoxNumber) (k : ℕ) (o : Option ℕ) → GoodOwn p d r b k o → GoodOwn p d s b k o
own_grows p d r s g b k None h = h
own_grows p d r s g b k (Some x) h = (h.0, shared_grows p d r s g b k x h.1)

pub good_grows : (p : Wiring) (d : Deal) (r s : ℕ → Option ℕ) → Grows r s → (b : BoxNumber) (k : ℕ) (y : Slot) → Good p d r b k y → Good p d s b k y
good_grows p d r s g b k Empty h = tt
good_grows p d r s g b k (Half x) h = (h.0, shared_grows p d r s g b k x h.1)
good_grows p d r s g b k (Full m o) h = (held_grows p d r s g k m h.0, own_grows p d r s g b k o h.1)

pub carries_grows : (p : Wiring) (d : Deal) (r s : ℕ → Option ℕ) → Grows r s → (b : BoxNumber) (k x : ℕ) → Carries p d r b k x → Carries p d s b k x
carries_grows p d r s g b k x (inl h) = inl (h.0, shared_grows p d r s g b k x h.1)
carries_grows p d r s g b k x (inr h) = inr (h.0, held_grows p d r s g k x h.1)

pub message_grows : (p : Wiring) (d : Deal) (r s : ℕ → Option ℕ) → Grows r s → (b : BoxNumber) (m : List ℕ) → GoodMessage p d r b m → GoodMessage p d s b m
message_grows p d r s g b m h = (h.0, h.1, h.2, h.3, carries_grows p d r s g b h.0 h.1 h.4, h.5)

-- wires of the plan
pub keyed_gate : (p : Wiring) (k : ℕ) → is_keyed p k ≡ true → (is_gate p k ≡ true) × (p.keyed k ≡ true)
keyed_gate p k e = and_parts (is_gate p k) (p.keyed k) e

pub gate_below : (p : Wiring) (k : ℕ) → is_gate p k ≡ true → k < wires p
gate_below p k e = ltb-true _ _ (and_parts (leb p.inputs k) (ltb k (wires p)) e).1

pub gate_no_input : (p : Wiring) (k : ℕ) → is_gate p k ≡ true → is_input p k ≡ false
gate_no_input p k e = le-ltb _ _ (leb-true _ _ (and_parts (leb p.inputs k) (ltb k (wires p)) e).0)

pub input_below : (p : Wiring) (k : ℕ) → is_input p k ≡ true → k < wires p
input_below p k e = let h : k < p.inputs = ltb-true _ _ e in omega arith

pub input_unkeyed : (p : Wiring) (k : ℕ) → is_input p k ≡ true → is_keyed p k ≡ false
input_unkeyed p k e =
    ⊎_elim (λ t. absurd (both_ways (is_input p k) (gate_no_input p k (keyed_gate p k t).0) e)) (λ t. t) (cases_Bool (is_keyed p k))

-- a number of four bytes is read as it was written
split : (n : ℕ) → n ≡ n % 256 + n / 256 * 256
split n = omega arith

small_top : (n : ℕ) → n < 2 ^ 32 → n / 16777216 % 256 ≡ n / 16777216
small_top n h = let a : n / 16777216 < 256 = omega arith in omega arith

sums : (n a b c x y z : ℕ) → n ≡ x + a * 256 → a ≡ y + b * 256 → b ≡ z + c * 256 → x + y * 256 + z * 65536 + c * 16777216 ≡ n
sums n a b c x y z p q t = omega arith

pub read_back : (n : ℕ) → n < 2 ^ 32 → number_at (number_bytes n []) 0 ≡ n
read_back n h =
    let a : n / 256 / 256 ≡ n / 65536 = div-div-eq-div-mul n 256 256 in
    let b : n / 65536 / 256 ≡ n / 16777216 = div-div-eq-div-mul n 65536 256 in
    ap (λ (t : ℕ). n % 256 + n / 256 % 256 * 256 + n / 65536 % 256 * 65536 + t * 16777216) (small_top n h)
    ∙ sums n (n / 256) (n / 65536) (n / 16777216) (n % 256) (n / 256 % 256) (n / 65536 % 256) (split n)
    (split (n / 256) ∙ ap (λ (t : ℕ). n / 256 % 256 + t * 256) a) (split (n / 65536) ∙ ap (λ (t : ℕ). n / 65536 % 256 + t * 256) b)

-- what a message carries is a value of its wire's kind
pub carries_within : (p : Wiring) (d : Deal) → Formed p → Dealt p d → (r : ℕ → Option ℕ) → InRange p r → (b : BoxNumber) (k x : ℕ) → k < wires p → Carries p d r b k x → (p.group k).within x ≡ true
carries_within p d f g r i b k x l (inl h) =
    let q = keyed_gate p k h.0 in
    subst (λ (y : ℕ). (p.group k).within y ≡ true) (sym h.1.2) (g.shares b k h.1.0 q.0 q.1 (reads_within p f r i k l h.1.0 h.1.1))
carries_within p d f g r i b k x l (inr h) =
    subst (λ (y : ℕ). (p.group k).within y ≡ true) (sym h.1.2) ((f.lawful k).closed h.1.0 (d.mask k) (plain_within p f r i k h.1.0 l h.1.1) (g.masks k))

-- the boxes after one of them was changed
abbrev pub upd : (BoxNumber → List Slot) → BoxNumber → List Slot → BoxNumber → List Slot
upd box Zero s Zero = s
upd box Zero s One = box One
upd box One s Zero = box Zero
upd box One s One = s

pub upd_same : (box : BoxNumber → List Slot) (b : BoxNumber) → upd box b (box b) ≡ box
upd_same box Zero = fun_ext (elim [ Zero ↦ refl | One ↦ refl ])
upd_same box One = fun_ext (elim [ Zero ↦ refl | One ↦ refl ])

side_tag : BoxNumber → ℕ
side_tag Zero = 0
side_tag One = 1

pub sides_apart : Zero ≡ One → ⊥
unfolding side_tag
sides_apart e = let z : ◌≡◌ {A = ℕ} 0 1 = ap side_tag e in omega arith

set_slot : (P : ℕ → Slot → Type 0) (s : List Slot) (k : ℕ) (x : Slot) → k < length s → ((j : ℕ) → j ≢ k → P j (slot_at s j)) → P k x → (j : ℕ) → P j (slot_at (set s k x) j)
set_slot P s k x l h new j =
    ⊎_elim
    (λ e. subst (λ (i : ℕ). P i (slot_at (set s k x) i)) (sym e) (subst (P k) (sym (get_or-set_same s k x Empty l)) new))
    (λ e. subst (P j) (sym (get_or-set_other s k j x Empty e)) (h j e))
    (cases_eq j k)

-- what holds of every other slot, and of the one that was written
pub set_slots : (P : BoxNumber → ℕ → Slot → Type 0) (box : BoxNumber → List Slot) (b : BoxNumber) (k : ℕ) (x : Slot) → k < length (box b)
    → ((c : BoxNumber) (j : ℕ) → (c ≡ b → j ≡ k → ⊥) → P c j (slot_at (box c) j)) → P b k x → (c : BoxNumber) (j : ℕ) → P c j (slot_at (upd box b (set (box b) k x) c) j)
set_slots P box Zero k x l h new Zero j = set_slot (P Zero) (box Zero) k x l (λ i e. h Zero i (λ _ q. e q)) new j
set_slots P box Zero k x l h new One j = h One j (λ e _. sides_apart (sym e))
set_slots P box One k x l h new Zero j = h Zero j (λ e _. sides_apart e)
set_slots P box One k x l h new One j = set_slot (P One) (box One) k x l (λ i e. h One i (λ _ q. e q)) new j

pub set_long : (n : ℕ) (box : BoxNumber → List Slot) (b : BoxNumber) (k : ℕ) (x : Slot) → ((c : BoxNumber) → n ≤ length (box c)) → (c : BoxNumber) → n ≤ length (upd box b (set (box b) k x) c)
set_long n box Zero k x h Zero = subst (λ (l : ℕ). n ≤ l) (sym (length-set (box Zero) k x)) (h Zero)
set_long n box Zero k x h One = h One
set_long n box One k x h Zero = h Zero
set_long n box One k x h One = subst (λ (l : ℕ). n ≤ l) (sym (length-set (box One) k x)) (h One)

-- a call that changes no box
pub quiet : (p : Wiring) (d : Deal) (box : BoxNumber → List Slot) (past : List Event) (r : ℕ → Option ℕ) (e : Event) → Inv p d box past r
    → ((m : List ℕ) → e.answer ≡ Sent m → GoodMessage p d r e.at m)
    → ((k v : ℕ) → e.act ≡ Show k → e.answer ≡ Shown v → plain p r k ≡ Some v)
    → Inv p d box (e ∷ past) r
quiet p d box past r e i m s = record {
  long = i.long;
  slots = i.slots;
  unput = i.unput;
  range = i.range;
  sent = λ b x. ⊎_elim (λ h. subst (λ (c : BoxNumber). GoodMessage p d r c x) h.0 (m x h.1)) (i.sent b x);
  shown = λ x k v. ⊎_elim (λ h a q. s k v (sym (ap (λ (y : Event). y.act) h) ∙ a) (sym (ap (λ (y : Event). y.answer) h) ∙ q)) (i.shown x k v);
}

abbrev pub tag : Answer → ℕ
tag Done = 0
tag (Sent m) = 1
tag (Shown x) = 2
tag (Refused n) = 3
tag (Counted u w) = 4

pub apart : (x y : Answer) → tag x ≢ tag y → x ≡ y → ⊥
apart x y h e = h (ap tag e)

-- a call that fills a wire at one box
pub changed : (p : Wiring) (d : Deal) (box : BoxNumber → List Slot) (past : List Event) (r s : ℕ → Option ℕ) (b : BoxNumber) (a : Act) (k : ℕ) (x : Slot)
    → Inv p d box past r → Grows r s → k < wires p → Good p d s b k x
    → ((c : BoxNumber) (j : ℕ) → p.owner j ≡ c → slot_at (upd box b (set (box b) k x) c) j ≡ Empty → s j ≡ None) → InRange p s
    → Inv p d (upd box b (set (box b) k x)) (record { at = b; act = a; answer = Done } ∷ past) s
changed p d box past r s b a k x i g l new un ra =
    let w : k < length (box b) = let z = i.long b in omega arith in
    record {
      long = set_long (wires p) box b k x i.long;
      slots = set_slots (λ c j y. Good p d s c j y) box b k x w (λ c j _. good_grows p d r s g c j (slot_at (box c) j) (i.slots c j)) new;
      unput = un;
      range = ra;
      sent = λ c m. ⊎_elim (λ h. absurd (apart Done (Sent m) (omega arith) h.1)) (λ h. message_grows p d r s g c m (i.sent c m h));
      shown = λ e j v. ⊎_elim (λ h q t. absurd (apart Done (Shown v) (omega arith) (sym (ap (λ (y : Event). y.answer) h) ∙ t)))
          (λ h q t. plain_grows p r s g j v (i.shown e j v h q t));
    }
