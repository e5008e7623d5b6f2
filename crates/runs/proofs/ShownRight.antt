-- Every value that a box has shown is that wire's plain value.
use Rattle.std.proofs.Common.{◌≡◌, ℕ, zero, suc, ◌≤◌, List, [], ◌∷◌, length, replicate, Option, sym, refl, ap, ◌∙◌, subst, arith}
use mathlib.Core.Path.{fun_ext}
use lib.ListN.{length-replicate}
use Rattle.key.specs.declared.BoxNumber.{BoxNumber}
use Rattle.key.specs.declared.BoxNumber.TheVariants.{Zero, One}
use Rattle.runs.specs.Plans.{Wiring, Deal, Formed, Dealt, wires}
use Rattle.runs.specs.Boxes.{Slot, Empty, Act, slot_at, step}
use Rattle.runs.specs.Runs.{Call, event, Here, box_at, next_at, next, after, loaded, Handed, Fair, readings}
use Rattle.runs.specs.Theorem.{ShownValuesStand}
use Rattle.runs.proofs.Plain.{none_some}
use Rattle.runs.proofs.Invariant.{Inv, Good, upd}
use Rattle.runs.proofs.Steps.{step_goes}

abbrev pub Sound : Wiring → Deal → Here → Type 0
Sound p d h = Inv p d (λ b. box_at b h) h.past (readings h.past)

pub next_sound : (p : Wiring) (d : Deal) → Formed p → Dealt p d → (b : BoxNumber) (h : Here) (a : Act) → Sound p d h → Handed h.past (event b a (step p d b (box_at b h) a).0) → Sound p d (next_at p d b h a)
next_sound p d f g Zero h a i q =
    let e : (λ b. box_at b (next_at p d Zero h a)) ≡ upd (λ b. box_at b h) Zero (step p d Zero h.left a).1 = fun_ext (elim [ Zero ↦ refl | One ↦ refl ]) in
    subst (λ (box : BoxNumber → List Slot). Inv p d box (next_at p d Zero h a).past (readings (next_at p d Zero h a).past)) (sym e) (step_goes p d f g (λ b. box_at b h) h.past Zero a i q)
next_sound p d f g One h a i q =
    let e : (λ b. box_at b (next_at p d One h a)) ≡ upd (λ b. box_at b h) One (step p d One h.right a).1 = fun_ext (elim [ Zero ↦ refl | One ↦ refl ]) in
    subst (λ (box : BoxNumber → List Slot). Inv p d box (next_at p d One h a).past (readings (next_at p d One h a).past)) (sym e) (step_goes p d f g (λ b. box_at b h) h.past One a i q)

fair_next : (p : Wiring) (d : Deal) (b : BoxNumber) (h : Here) (a : Act) → Fair (next_at p d b h a).past → Handed h.past (event b a (step p d b (box_at b h) a).0) × Fair h.past
fair_next p d Zero h a q = q
fair_next p d One h a q = q

fair_before : (p : Wiring) (d : Deal) (h : Here) (cs : List Call) → Fair (after p d h cs).past → Fair h.past
fair_before p d h [] q = q
fair_before p d h (c ∷ cs) q = (fair_next p d c.at h c.act (fair_before p d (next p d h c) cs q)).1

after_sound : (p : Wiring) (d : Deal) → Formed p → Dealt p d → (h : Here) (cs : List Call) → Sound p d h → Fair (after p d h cs).past → Sound p d (after p d h cs)
after_sound p d f g h [] i q = i
after_sound p d f g h (c ∷ cs) i q =
    after_sound p d f g (next p d h c) cs (next_sound p d f g c.at h c.act i (fair_next p d c.at h c.act (fair_before p d (next p d h c) cs q)).0) q

none_there : (m k : ℕ) → slot_at (replicate m Empty) k ≡ Empty
none_there zero k = refl
none_there (suc m) zero = refl
none_there (suc m) (suc k) = none_there m k

good_there : (p : Wiring) (d : Deal) (r : ℕ → Option ℕ) (b : BoxNumber) (k : ℕ) (s : List Slot) → slot_at s k ≡ Empty → Good p d r b k (slot_at s k)
good_there p d r b k s e = subst (Good p d r b k) (sym e) tt

all_empty : (n : ℕ) (b : BoxNumber) → box_at b (loaded n) ≡ replicate n Empty
all_empty n Zero = refl
all_empty n One = refl

loaded_sound : (p : Wiring) (d : Deal) (room : ℕ) → wires p ≤ room → Sound p d (loaded room)
loaded_sound p d room fits = record {
  long = λ b. omega (arith, ap length (all_empty room b) ∙ length-replicate room Empty);
  slots = λ b k. good_there p d (readings []) b k (box_at b (loaded room)) (ap (λ (s : List Slot). slot_at s k) (all_empty room b) ∙ none_there room k);
  unput = λ b k o e. refl;
  range = λ k v e. absurd (none_some v e);
  sent = λ b m w. absurd w;
  shown = λ e k v w. absurd w;
}

-- what holds after every fair list of calls
pub run_sound : (p : Wiring) (d : Deal) → Formed p → Dealt p d → (room : ℕ) → wires p ≤ room → (cs : List Call) → Fair (after p d (loaded room) cs).past → Sound p d (after p d (loaded room) cs)
run_sound p d f g room fits cs q = after_sound p d f g (loaded room) cs (loaded_sound p d room fits) q

pub shown_values_stand : ShownValuesStand
shown_values_stand p d f g room fits cs q = (run_sound p d f g room fits cs q).shown
