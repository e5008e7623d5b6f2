-- Each call keeps what holds of two boxes and their past.
use Rattle.std.proofs.Common.{◌≡◌, ℕ, ◌^◌, ◌<◌, Bool, true, false, cond, ◌&&◌, ◌||◌, eqb, List, [], ◌∷◌, length, get_or, set, Some, None, Option, sym, refl, ap, ◌∙◌, subst, ap₂, inl, inr, ⊎_elim, arith}
use mathlib.Core.Path.{fun_ext}
use Rattle.std.proofs.lemmas.Bool.{cases_eq, and_parts, and_from, and_right, or_cases, both_ways, eqb-true, eq-eqb, ne_eqb, not-true, false≢true, or_left, or_right}
use Rattle.key.specs.declared.BoxNumber.{BoxNumber}
use Rattle.key.specs.declared.BoxNumber.TheVariants.{Zero, One}
use Rattle.runs.specs.Plans.{other, same_box, Wiring, Deal, Formed, Dealt, all_of, meant, plain, hide, reveal, hide_all, is_input, is_gate, is_keyed, wires}
use Rattle.refusal.specs.declared.Refusal.{Refusal}
use Rattle.runs.specs.Boxes.{Slot, Empty, Half, Full, Act, Put, Work, Send, Take, Show, Count, Answer, Done, Sent, Shown, Counted, Refused, used, unused, slot_at, held_at, full_in, is_empty, is_full, is_some, list_in, outgoing, value_in, filled, worked, awaits, sendable, message, number_at, carried, asks, says, leaves, step}
use Rattle.runs.specs.Runs.{Event, event, Handed, readings, with_put, first}
use Rattle.runs.proofs.Plain.{Grows, plain_within, reads_within, InRange, plain_input, plain_gate, none_some, some_inj, joined_some, joined_from}
use Rattle.runs.proofs.Invariant.{Held, Good, Carries, Inv, keyed_gate, gate_below, gate_no_input, input_below, input_unkeyed, read_back, carries_within, upd, upd_same, set_slots, quiet, changed, apart}

-- each question was answered by yes
abbrev pub Yes : List (Bool × Refusal) → Type 0
Yes [] = Unit {0}
Yes (q ∷ qs) = (q.0 ≡ true) × Yes qs

-- what holds of every refusal, and of the call carried out
pub carried_both : (P : Answer → List Slot → Type 0) (qs : List (Bool × Refusal)) (s : List Slot) (x : Answer) (t : List Slot)
    → ((n : Refusal) → P (Refused n) s) → (Yes qs → P x t) → P (carried qs s x t).0 (carried qs s x t).1
carried_both P [] s x t no_way f = f tt
carried_both P (q ∷ qs) s x t no_way f =
    let go : (b : Bool) → q.0 ≡ b → P (cond b (carried qs s x t) (Refused q.1, s)).0 (cond b (carried qs s x t) (Refused q.1, s)).1
    = λ b e. (elim b as (λ v. q.0 ≡ v → P (cond v (carried qs s x t) (Refused q.1, s)).0 (cond v (carried qs s x t) (Refused q.1, s)).1)
    [ true ↦ (λ h. carried_both P qs s x t no_way (λ y. f (h, y))) | false ↦ (λ h. no_way q.1) ]) e in
    go q.0 refl

pub empty_is : (y : Slot) → is_empty y ≡ true → y ≡ Empty
empty_is Empty e = refl
empty_is (Half s) e = absurd (false≢true e)
empty_is (Full m o) e = absurd (false≢true e)

pub same_is : (b c : BoxNumber) → same_box b c ≡ true → b ≡ c
same_is Zero Zero e = refl
same_is Zero One e = absurd (false≢true e)
same_is One Zero e = absurd (false≢true e)
same_is One One e = refl

pub some_is : (o : Option (List ℕ)) → is_some o ≡ true → o ≡ Some (list_in o)
some_is None e = absurd (false≢true e)
some_is (Some xs) e = refl

pub refused_same : (a : Act) (n : Refusal) (r : ℕ → Option ℕ) (k : ℕ) → with_put a (Refused n) r k ≡ r k
refused_same (Put j v) n r k = refl
refused_same (Work j) n r k = refl
refused_same (Send j room) n r k = refl
refused_same (Take m) n r k = refl
refused_same (Show j) n r k = refl
refused_same Count n r k = refl

module _ (p : Wiring) (d : Deal) (f : Formed p) (g : Dealt p d) where
  abbrev pub Goes : (BoxNumber → List Slot) → List Event → BoxNumber → Act → Answer → List Slot → Type 0
  Goes box past b a x t = Handed past (event b a x) → Inv p d (upd box b t) (event b a x ∷ past) (readings (event b a x ∷ past))

  refused : (box : BoxNumber → List Slot) (past : List Event) (b : BoxNumber) (a : Act) → Inv p d box past (readings past) → (n : Refusal) → Goes box past b a (Refused n) (box b)
  refused box past b a i n h =
      let q = quiet p d box past (readings past) (event b a (Refused n)) i
      (λ m e. absurd (apart (Refused n) (Sent m) (omega arith) e)) (λ k v t e. absurd (apart (Refused n) (Shown v) (omega arith) e)) in
      let r : readings (event b a (Refused n) ∷ past) ≡ readings past = fun_ext (λ k. refused_same a n (readings past) k) in
      subst (λ (bx : BoxNumber → List Slot). Inv p d bx (event b a (Refused n) ∷ past) (readings (event b a (Refused n) ∷ past))) (sym (upd_same box b))
      (subst (λ (s : ℕ → Option ℕ). Inv p d box (event b a (Refused n) ∷ past) s) (sym r) q)

  -- put

  put_grows : (r : ℕ → Option ℕ) (k v : ℕ) → Grows r (λ j. first (r j) (cond (eqb k j) (Some v) None))
  put_grows r k v j u e = ap (λ (o : Option ℕ). first o (cond (eqb k j) (Some v) None)) e

  put_range : (r : ℕ → Option ℕ) (k v : ℕ) → InRange p r → (p.group k).within v ≡ true → InRange p (λ j. first (r j) (cond (eqb k j) (Some v) None))
  put_range r k v i w j u = go (r j) refl (eqb k j) refl
    where
      go : (o : Option ℕ) → r j ≡ o → (t : Bool) → eqb k j ≡ t → first o (cond t (Some v) None) ≡ Some u → (p.group j).within u ≡ true
      go (Some x) e t q h = i j u (e ∙ h)
      go None e true q h =
          let y : v ≡ u = some_inj v u h in
          let z : k ≡ j = eqb-true k j q in
          subst (λ (n : ℕ). (p.group n).within u ≡ true) z (subst (λ (n : ℕ). (p.group k).within n ≡ true) y w)
      go None e false q h = absurd (none_some u h)

  put_goes : (box : BoxNumber → List Slot) (past : List Event) (b : BoxNumber) (k v : ℕ) → Inv p d box past (readings past)
      → Yes (asks p d b (box b) (Put k v)) → Goes box past b (Put k v) Done (leaves p d b (box b) (Put k v))
  put_goes box past b k v i y h =
      let own : p.owner k ≡ b = same_is _ _ y.1.0 in
      let low = input_below p k y.0 in
      let l : k < length (box b) = let z = i.long b in omega arith in
      let non : readings past k ≡ None = i.unput b k own (empty_is _ y.1.1.1.0) in
      let now : first (readings past k) (cond (eqb k k) (Some v) None) ≡ Some v
      = ap₂ (λ (o : Option ℕ) (t : Bool). first o (cond t (Some v) None)) non (eq-eqb k k refl) in
      let new : Slot = Full (hide p d k v) None in
      changed p d box past (readings past) (λ j. first (readings past j) (cond (eqb k j) (Some v) None)) b (Put k v) k new i (put_grows (readings past) k v) low
      ((v, plain_input p (λ j. first (readings past j) (cond (eqb k j) (Some v) None)) k y.0 ∙ now, refl), input_unkeyed p k y.0)
      (set_slots (λ c j x. p.owner j ≡ c → x ≡ Empty → first (readings past j) (cond (eqb k j) (Some v) None) ≡ None) box b k new l
      (λ c j ne o e.
      let was : readings past j ≡ None = i.unput c j o e in
      ⊎_elim
      (λ q. absurd (ne (sym o ∙ ap p.owner (sym q) ∙ own) (sym q)))
      (λ q. ap₂ (λ (x : Option ℕ) (t : Bool). first x (cond t (Some v) None)) was (ne_eqb k j q))
      (cases_eq k j))
      (λ o e. absurd (false≢true (ap is_empty e))))
      (put_range (readings past) k v i.range y.1.1.0)

  -- what is written at a wire leaves the readings
  kept_unput : (box : BoxNumber → List Slot) (past : List Event) (b : BoxNumber) (k : ℕ) (x : Slot) → Inv p d box past (readings past) → k < wires p → is_empty x ≡ false
      → (c : BoxNumber) (j : ℕ) → p.owner j ≡ c → slot_at (upd box b (set (box b) k x) c) j ≡ Empty → readings past j ≡ None
  kept_unput box past b k x i low e =
      let l : k < length (box b) = let z = i.long b in omega arith in
      set_slots (λ c j y. p.owner j ≡ c → y ≡ Empty → readings past j ≡ None) box b k x l (λ c j _. i.unput c j) (λ o q. absurd (false≢true (sym e ∙ ap is_empty q)))

  -- work

  held_plain : (r : ℕ → Option ℕ) (b : BoxNumber) (s : List Slot) → ((k : ℕ) → Good p d r b k (slot_at s k)) → (k m : ℕ) → held_at s k ≡ Some m → Held p d r k m
  held_plain r b s h k m = go (slot_at s k) (h k)
    where
      go : (y : Slot) → Good p d r b k y → full_in y ≡ Some m → Held p d r k m
      go Empty t e = absurd (none_some m e)
      go (Half x) t e = absurd (none_some m e)
      go (Full x o) t e = subst (λ (n : ℕ). Held p d r k n) (some_inj x m e) t.0

  all_plain : (r : ℕ → Option ℕ) (b : BoxNumber) (s : List Slot) → ((k : ℕ) → Good p d r b k (slot_at s k)) → (ks hs : List ℕ) → all_of (held_at s) ks ≡ Some hs
      → (vs : List ℕ) × (all_of (plain p r) ks ≡ Some vs) × (hs ≡ hide_all p d ks vs)
  all_plain r b s h [] hs e = ([], refl, sym (some_inj [] hs e))
  all_plain r b s h (k ∷ ks) hs e =
      let t = joined_some (held_at s k) (all_of (held_at s) ks) hs e in
      let a = held_plain r b s h k t.0 t.2 in
      let c = all_plain r b s h ks t.1 t.3 in
      (a.0 ∷ c.0, joined_from (plain p r k) (all_of (plain p r) ks) a.0 c.0 a.1 c.1, sym t.4 ∙ ap₂ ◌∷◌ a.2 c.2)

  worked_good : (r : ℕ → Option ℕ) (b : BoxNumber) (k : ℕ) (vs hs : List ℕ) → InRange p r → is_gate p k ≡ true → all_of (plain p r) (p.reads k) ≡ Some vs → hs ≡ hide_all p d (p.reads k) vs
      → (t : Bool) → p.keyed k ≡ t → Good p d r b k (cond t (Half (d.share b k hs)) (Full (d.locally k hs) None))
  worked_good r b k vs hs ra ga e q true t = (and_from (is_gate p k) (p.keyed k) ga t, (vs, e, ap (d.share b k) q))
  worked_good r b k vs hs ra ga e q false t = (
    (
      p.meaning k vs,
      plain_gate p f r k (gate_no_input p k ga) ∙ ap (meant (p.meaning k)) e,
      ap (d.locally k) q ∙ g.local k vs ga t (reads_within p f r ra k (gate_below p k ga) vs e),
    ),
    and_right (is_gate p k) (p.keyed k) t,
  )

  worked_filled : (b : BoxNumber) (k : ℕ) (hs : List ℕ) → is_empty (worked p d b k hs) ≡ false
  worked_filled b k hs = go (p.keyed k)
    where
      go : (t : Bool) → is_empty (cond t (Half (d.share b k hs)) (Full (d.locally k hs) None)) ≡ false
      go true = refl
      go false = refl

  work_goes : (box : BoxNumber → List Slot) (past : List Event) (b : BoxNumber) (k : ℕ) → Inv p d box past (readings past)
      → Yes (asks p d b (box b) (Work k)) → Goes box past b (Work k) Done (leaves p d b (box b) (Work k))
  work_goes box past b k i y h =
      let hs : List ℕ = list_in (all_of (held_at (box b)) (p.reads k)) in
      let low = gate_below p k y.0 in
      let a = all_plain (readings past) b (box b) (i.slots b) (p.reads k) hs (some_is _ y.1.1.0) in
      changed p d box past (readings past) (readings past) b (Work k) k (worked p d b k hs) i (λ j v e. e) low
      (worked_good (readings past) b k a.0 hs i.range y.0 a.1 a.2 (p.keyed k) refl)
      (kept_unput box past b k (worked p d b k hs) i low (worked_filled b k hs))
      i.range

  -- send

  outgoing_carries : (r : ℕ → Option ℕ) (b : BoxNumber) (k : ℕ) (y : Slot) → Good p d r b k y → is_empty y ≡ false → Carries p d r b k (outgoing y)
  outgoing_carries r b k Empty h e = absurd (false≢true (sym e))
  outgoing_carries r b k (Half s) h e = inl h
  outgoing_carries r b k (Full m None) h e = inr (h.1, h.0)
  outgoing_carries r b k (Full m (Some s)) h e = inl h.1

  sendable_below : (b : BoxNumber) (k : ℕ) → sendable p b k ≡ true → k < wires p
  sendable_below b k e =
      ⊎_elim (λ t. input_below p k (and_parts (is_input p k) _ t).0) (λ t. gate_below p k (keyed_gate p k t).0) (or_cases (is_input p k && same_box (p.owner k) b) (is_keyed p k) e)

  sent_inj : (m n : List ℕ) → Sent m ≡ Sent n → m ≡ n
  sent_inj m n e = cc

  sendable_kind : (b : BoxNumber) (k : ℕ) → sendable p b k ≡ true → (is_input p k || is_keyed p k) ≡ true
  sendable_kind b k e =
      ⊎_elim (λ h. or_left (is_input p k) (is_keyed p k) (and_parts (is_input p k) (same_box (p.owner k) b) h).0)
      (λ h. or_right (is_input p k) (is_keyed p k) h) (or_cases (is_input p k && same_box (p.owner k) b) (is_keyed p k) e)

  send_goes : (box : BoxNumber → List Slot) (past : List Event) (b : BoxNumber) (k room : ℕ) → Inv p d box past (readings past)
      → Yes (asks p d b (box b) (Send k room)) → Goes box past b (Send k room) (Sent (message d b k (outgoing (slot_at (box b) k)))) (box b)
  send_goes box past b k room i y h =
      let x : ℕ = outgoing (slot_at (box b) k) in
      let c = outgoing_carries (readings past) b k (slot_at (box b) k) (i.slots b k) (not-true _ y.1.0) in
      let q = quiet p d box past (readings past) (event b (Send k room) (Sent (message d b k x))) i
      (λ m e. (k, x, sym (sent_inj _ _ e), sendable_below b k y.0, c, sendable_kind b k y.0))
      (λ j v t e. absurd (apart (Sent (message d b k x)) (Shown v) (omega arith) e)) in
      subst (λ (bx : BoxNumber → List Slot). Inv p d bx (event b (Send k room) (Sent (message d b k x)) ∷ past) (readings past)) (sym (upd_same box b)) q

  -- show

  shown_inj : (m n : ℕ) → Shown m ≡ Shown n → m ≡ n
  shown_inj m n e = cc

  show_inj : (m n : ℕ) → Show m ≡ Show n → m ≡ n
  show_inj m n e = cc

  revealed : (r : ℕ → Option ℕ) (b : BoxNumber) (k : ℕ) (y : Slot) → InRange p r → k < wires p → Good p d r b k y → is_full y ≡ true → plain p r k ≡ Some (reveal p d k (value_in y))
  revealed r b k Empty ra l h e = absurd (false≢true e)
  revealed r b k (Half s) ra l h e = absurd (false≢true e)
  revealed r b k (Full m o) ra l h e =
      let v = h.0.0 in
      let c : reveal p d k (hide p d k v) ≡ v = (f.lawful k).cancels v (d.mask k) (plain_within p f r ra k v l h.0.1) (g.masks k) in
      h.0.1 ∙ ap Some (sym c) ∙ ap (λ (n : ℕ). Some (reveal p d k n)) (sym h.0.2)

  show_goes : (box : BoxNumber → List Slot) (past : List Event) (b : BoxNumber) (k : ℕ) → Inv p d box past (readings past)
      → Yes (asks p d b (box b) (Show k)) → Goes box past b (Show k) (Shown (reveal p d k (value_in (slot_at (box b) k)))) (box b)
  show_goes box past b k i y h =
      let x : ℕ = reveal p d k (value_in (slot_at (box b) k)) in
      let low = gate_below p k (and_parts (is_gate p k) (p.shown k) y.0).0 in
      let c : plain p (readings past) k ≡ Some x = revealed (readings past) b k (slot_at (box b) k) i.range low (i.slots b k) y.1.0 in
      let q = quiet p d box past (readings past) (event b (Show k) (Shown x)) i
      (λ m e. absurd (apart (Shown x) (Sent m) (omega arith) e))
      (λ j v t e. ap (plain p (readings past)) (sym (show_inj k j t)) ∙ c ∙ ap Some (shown_inj x v e)) in
      subst (λ (bx : BoxNumber → List Slot). Inv p d bx (event b (Show k) (Shown x) ∷ past) (readings past)) (sym (upd_same box b)) q

  -- count

  count_goes : (box : BoxNumber → List Slot) (past : List Event) (b : BoxNumber) → Inv p d box past (readings past) → Goes box past b Count (Counted (used p (box b)) (unused p (box b))) (box b)
  count_goes box past b i h =
      let q = quiet p d box past (readings past) (event b Count (Counted (used p (box b)) (unused p (box b)))) i
      (λ m e. absurd (apart (Counted (used p (box b)) (unused p (box b))) (Sent m) (omega arith) e))
      (λ j v t e. absurd (apart (Counted (used p (box b)) (unused p (box b))) (Shown v) (omega arith) e)) in
      subst (λ (bx : BoxNumber → List Slot). Inv p d bx (event b Count (Counted (used p (box b)) (unused p (box b))) ∷ past) (readings past)) (sym (upd_same box b)) q

  -- take

  join_both : (b : BoxNumber) (k : ℕ) (vs : List ℕ) (s x : ℕ)
      → (p.group k).sum (d.share Zero k (hide_all p d (p.reads k) vs)) (d.share One k (hide_all p d (p.reads k) vs)) ≡ hide p d k (p.meaning k vs)
      → s ≡ d.share b k (hide_all p d (p.reads k) vs) → x ≡ d.share (other b) k (hide_all p d (p.reads k) vs) → (p.group k).sum s x ≡ hide p d k (p.meaning k vs)
  join_both Zero k vs s x j e q = ap₂ (p.group k).sum e q ∙ j
  join_both One k vs s x j e q = ap₂ (p.group k).sum e q ∙ (f.lawful k).comm _ _ ∙ j

  filled_good : (r : ℕ → Option ℕ) (b : BoxNumber) (k x : ℕ) (y : Slot) → InRange p r → Good p d r b k y → Carries p d r (other b) k x → awaits y (is_input p k) ≡ true
      → Good p d r b k (filled (p.group k) y x)
  filled_good r b k x Empty ra h (inl c) e = absurd (both_ways (is_keyed p k) (input_unkeyed p k e) c.0)
  filled_good r b k x Empty ra h (inr c) e = (c.1, c.0)
  filled_good r b k x (Half s) ra h (inl c) e =
      let ga = keyed_gate p k h.0 in
      let vs = h.1.0 in
      let same : c.1.0 ≡ vs = some_inj _ _ (sym c.1.1 ∙ h.1.1) in
      let w = reads_within p f r ra k (gate_below p k ga.0) vs h.1.1 in (
        (
          p.meaning k vs,
          plain_gate p f r k (gate_no_input p k ga.0) ∙ ap (meant (p.meaning k)) h.1.1,
          join_both b k vs s x (g.joins k vs ga.0 ga.1 w) h.1.2 (c.1.2 ∙ ap (λ (us : List ℕ). d.share (other b) k (hide_all p d (p.reads k) us)) same),
        ),
        h,
      )
  filled_good r b k x (Half s) ra h (inr c) e = absurd (both_ways (is_keyed p k) c.0 h.0)
  filled_good r b k x (Full m o) ra h c e = absurd (false≢true e)

  filled_not_empty : (k x : ℕ) (y : Slot) → is_empty (filled (p.group k) y x) ≡ false
  filled_not_empty k x Empty = refl
  filled_not_empty k x (Half s) = refl
  filled_not_empty k x (Full m o) = refl

  pub message_value : (b : BoxNumber) (k x : ℕ) → x < 2 ^ 32 → number_at (message d b k x) 6 ≡ x
  message_value b k x h = read_back x h

  pub message_deal : (b : BoxNumber) (k x : ℕ) → number_at (message d b k x) 2 ≡ d.number
  message_deal b k x = read_back d.number g.numbered

  take_goes : (box : BoxNumber → List Slot) (past : List Event) (b : BoxNumber) (m : List ℕ) → Inv p d box past (readings past)
      → Yes (asks p d b (box b) (Take m)) → Goes box past b (Take m) Done (leaves p d b (box b) (Take m))
  take_goes box past b m i y h =
      let t = i.sent (other b) m (h m refl refl) in
      let k : ℕ = t.0 in
      let x : ℕ = t.1 in
      let w : get_or m 1 0 ≡ k = ap (λ (n : List ℕ). get_or n 1 0) t.2 in
      let small : x < 2 ^ 32 = (f.lawful k).small x (carries_within p d f g (readings past) i.range (other b) k x t.3 t.4) in
      let u : number_at m 6 ≡ x = ap (λ (n : List ℕ). number_at n 6) t.2 ∙ message_value (other b) k x small in
      let aw : awaits (slot_at (box b) k) (is_input p k) ≡ true = subst (λ (n : ℕ). awaits (slot_at (box b) n) (is_input p n) ≡ true) w y.1.1.1.1.0 in
      let new : Slot = filled (p.group k) (slot_at (box b) k) x in
      let r = changed p d box past (readings past) (readings past) b (Take m) k new i (λ j v e. e) t.3
      (filled_good (readings past) b k x (slot_at (box b) k) i.range (i.slots b k) t.4 aw)
      (kept_unput box past b k new i t.3 (filled_not_empty k x (slot_at (box b) k)))
      i.range in
      subst (λ (n : ℕ). Inv p d (upd box b (set (box b) n (filled (p.group n) (slot_at (box b) n) (number_at m 6)))) (event b (Take m) Done ∷ past) (readings past)) (sym w)
      (subst (λ (n : ℕ). Inv p d (upd box b (set (box b) k (filled (p.group k) (slot_at (box b) k) n))) (event b (Take m) Done ∷ past) (readings past)) (sym u) r)

  goes : (box : BoxNumber → List Slot) (past : List Event) (b : BoxNumber) (a : Act) → Inv p d box past (readings past) → Yes (asks p d b (box b) a) → Goes box past b a (says p d b (box b) a) (leaves p d b (box b) a)
  goes box past b (Put k v) i y = put_goes box past b k v i y
  goes box past b (Work k) i y = work_goes box past b k i y
  goes box past b (Send k room) i y = send_goes box past b k room i y
  goes box past b (Take m) i y = take_goes box past b m i y
  goes box past b (Show k) i y = show_goes box past b k i y
  goes box past b Count i y = count_goes box past b i

  -- every call, refused or carried out
  pub step_goes : (box : BoxNumber → List Slot) (past : List Event) (b : BoxNumber) (a : Act) → Inv p d box past (readings past)
      → Goes box past b a (step p d b (box b) a).0 (step p d b (box b) a).1
  step_goes box past b a i =
      carried_both (Goes box past b a) (asks p d b (box b) a) (box b) (says p d b (box b) a) (leaves p d b (box b) a)
      (refused box past b a i) (goes box past b a i)
