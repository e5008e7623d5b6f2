-- Two readings of one book give the same steps, where they agree on what a step looks at.
use Rattle.std.proofs.Common.{◌≡◌, ℕ, Bool, true, false, cond, List, [], ◌∷◌, set, None, sym, refl, ap, ◌∙◌}
use mathlib.Core.Path.{fun_ext}
use Rattle.std.proofs.lemmas.Bool.{and_parts}
use Rattle.refusal.specs.declared.Refusal.{Refusal}
use Rattle.key.specs.declared.BoxNumber.{BoxNumber}
use Rattle.runs.specs.Plans.{Group, Wiring, Deal, is_input, is_gate, same_box, all_of}
use Rattle.runs.specs.Boxes.{Slot, Half, Full, Act, Put, Work, Send, Take, Show, Count, Answer, Done, Shown, held_at, list_in, slot_at, value_in, carried, asks, step}
use Rattle.runs.proofs.Steps.{Yes}

-- a call is carried out alike where that is so once every question was answered yes
carried_alike : (qs : List (Bool × Refusal)) (s : List Slot) (x y : Answer) (t u : List Slot)
    → (Yes qs → ◌≡◌ {A = Answer × List Slot} (x, t) (y, u)) → carried qs s x t ≡ carried qs s y u
carried_alike [] s x y t u f = f tt
carried_alike ((true, e) ∷ qs) s x y t u f = carried_alike qs s x y t u (λ h. f (refl, h))
carried_alike ((false, e) ∷ qs) s x y t u f = refl

-- two deals agree on what box b's steps look at
pub record DealAlike (p : Wiring) (b : BoxNumber) (d e : Deal) : Type 0 where
  pub number : d.number ≡ e.number
  pub owned : (k : ℕ) → is_input p k ≡ true → same_box (p.owner k) b ≡ true → d.mask k ≡ e.mask k
  pub shown : (k : ℕ) → is_gate p k ≡ true → p.shown k ≡ true → d.mask k ≡ e.mask k
  pub local : (k : ℕ) (hs : List ℕ) → is_gate p k ≡ true → p.keyed k ≡ false → d.locally k hs ≡ e.locally k hs
  pub share : (k : ℕ) (hs : List ℕ) → is_gate p k ≡ true → p.keyed k ≡ true → d.share b k hs ≡ e.share b k hs

module _ (p : Wiring) (b : BoxNumber) (d e : Deal) (h : DealAlike p b d e) where
  worked_alike : (k : ℕ) (hs : List ℕ) (t : Bool) → is_gate p k ≡ true → p.keyed k ≡ t
      → ◌≡◌ {A = Slot} (cond t (Half (d.share b k hs)) (Full (d.locally k hs) None)) (cond t (Half (e.share b k hs)) (Full (e.locally k hs) None))
  worked_alike k hs true g y = ap Half (h.share k hs g y)
  worked_alike k hs false g y = ap (λ m. Full m None) (h.local k hs g y)

  pub step_of_deals : (s : List Slot) (a : Act) → step p d b s a ≡ step p e b s a
  step_of_deals s (Put k v) =
      carried_alike (asks p d b s (Put k v)) s Done Done _ _
      (λ y. λ i. (Done, set s k (Full ((p.group k).sum v (h.owned k y.0 y.1.0 i)) None)))
  step_of_deals s (Work k) =
      carried_alike (asks p d b s (Work k)) s Done Done _ _
      (λ y. λ i. (Done, set s k (worked_alike k (list_in (all_of (held_at s) (p.reads k))) (p.keyed k) y.0 refl i)))
  step_of_deals s (Send k room) =
      ap (λ n. step p (record { number = n; mask = d.mask; locally = d.locally; share = d.share }) b s (Send k room)) h.number
  step_of_deals s (Take m) =
      ap (λ n. step p (record { number = n; mask = d.mask; locally = d.locally; share = d.share }) b s (Take m)) h.number
  step_of_deals s (Show k) =
      carried_alike (asks p d b s (Show k)) s _ _ s s
      (λ y. let c = and_parts (is_gate p k) (p.shown k) y.0 in
      λ i. (Shown ((p.group k).sum (value_in (slot_at s k)) ((p.group k).inv (h.shown k c.0 c.1 i))), s))
  step_of_deals s Count = refl

-- two wirings agree on what steps look at: all but what gates mean
pub record WiringAlike (p q : Wiring) : Type 0 where
  pub inputs : p.inputs ≡ q.inputs
  pub gates : p.gates ≡ q.gates
  pub owner : (k : ℕ) → p.owner k ≡ q.owner k
  pub reads : (k : ℕ) → p.reads k ≡ q.reads k
  pub keyed : (k : ℕ) → p.keyed k ≡ q.keyed k
  pub shown : (k : ℕ) → p.shown k ≡ q.shown k
  pub group : (k : ℕ) → p.group k ≡ q.group k

-- a wiring with no meaning of gates
abbrev bare : ℕ → ℕ → (ℕ → BoxNumber) → (ℕ → List ℕ) → (ℕ → Bool) → (ℕ → Bool) → (ℕ → Group) → Wiring
bare i g o r k s v = record { inputs = i; gates = g; owner = o; reads = r; keyed = k; shown = s; group = v; meaning = λ k vs. 0 }

abbrev stripped : Wiring → Wiring
stripped p = bare p.inputs p.gates p.owner p.reads p.keyed p.shown p.group

no_meaning : (p : Wiring) (d : Deal) (b : BoxNumber) (s : List Slot) (a : Act) → step (stripped p) d b s a ≡ step p d b s a
no_meaning p d b s (Put k v) = refl
no_meaning p d b s (Work k) = refl
no_meaning p d b s (Send k room) = refl
no_meaning p d b s (Take m) = refl
no_meaning p d b s (Show k) = refl
no_meaning p d b s Count = refl

stripped_alike : (p q : Wiring) → WiringAlike p q → stripped p ≡ stripped q
stripped_alike p q w = λ i. bare (w.inputs i) (w.gates i) (fun_ext w.owner i) (fun_ext w.reads i) (fun_ext w.keyed i) (fun_ext w.shown i) (fun_ext w.group i)

pub step_of_wirings : (p q : Wiring) (d : Deal) (b : BoxNumber) (s : List Slot) (a : Act) → WiringAlike p q → step p d b s a ≡ step q d b s a
step_of_wirings p q d b s a w = sym (no_meaning p d b s a) ∙ ap (λ z. step z d b s a) (stripped_alike p q w) ∙ no_meaning q d b s a
