-- What the questions say where they are answered, and the first no otherwise.
use Rattle.std.proofs.Common.{◌≡◌, ℕ, Bool, true, false, cond, List, [], ◌∷◌, ◌++◌, Ok, Err, Result, refl, ap, ◌∙◌, arith, sym}
use Rattle.refusal.specs.declared.Refusal.{Refusal}
use Rattle.refusal.specs.Questions.{answered, asked}
use Rattle.refusal.proofs.Answered.{refused_alike, answered_alike}
use Rattle.plan.specs.Plans.{Planned}
use Rattle.plan.specs.Questions.{plan_asks}
use Rattle.plan.proofs.Accepted.{accepted}
use Rattle.dealer.specs.Lengths.{Allowed}

-- whether all questions are answered yes, or the first no
abbrev pub passed : List (Bool × Refusal) → Result (Unit {0}) Refusal
passed qs = answered qs tt

-- a question that was answered yes, and the answer of the rest
yes : {Y : Type 0} (q : Bool) (e : Refusal) (r : Result Y Refusal) (y : Y) → cond q r (Err e) ≡ Ok y → (q ≡ true) × (r ≡ Ok y)
yes true e r y h = (refl, h)
yes false e r y h = absurd (let f : ◌≡◌ {A = ℕ} 0 1 = cc in omega arith)

-- more questions after those that were answered
pub more_asked : {Y : Type 0} (qs rs : List (Bool × Refusal)) (y : Y) → passed qs ≡ Ok tt → answered (qs ++ rs) y ≡ answered rs y
more_asked [] rs y h = refl
more_asked (q ∷ qs) rs y h =
    let t = yes q.0 q.1 (passed qs) tt h in
    ap (λ b. cond b (answered (qs ++ rs) y) (Err q.1)) t.0 ∙ more_asked qs rs y t.1

no : {Y : Type 0} (b : Bool) (f : Refusal) (r : Result (Unit {0}) Refusal) (s : Result Y Refusal) (e : Refusal) → (r ≡ Err e → s ≡ Err e)
    → cond b r (Err f) ≡ Err e → cond b s (Err f) ≡ Err e
no true f r s e rest h = rest h
no false f r s e rest h = let t : f ≡ e = cc in ap Err t

-- a refusal stands whatever is asked after it
pub no_more : {Y : Type 0} (qs rs : List (Bool × Refusal)) (y : Y) (e : Refusal) → passed qs ≡ Err e → answered (qs ++ rs) y ≡ Err e
no_more [] rs y e h = absurd (let f : ◌≡◌ {A = ℕ} 0 1 = cc in omega arith)
no_more (q ∷ qs) rs y e h = no q.0 q.1 (passed qs) (answered (qs ++ rs) y) e (λ g. no_more qs rs y e g) h

pub asked_no : (b : Bool) (e r : Refusal) → Err r ≡ asked b e → (b ≡ false) × (r ≡ e)
asked_no true e r h = absurd (let f : ◌≡◌ {A = ℕ} 0 1 = cc in omega arith)
asked_no false e r h = (refl, cc)

pub allowed : (p : Planned) (b w : ℕ) → passed (plan_asks p b w) ≡ Ok tt → Allowed p
allowed p b w h =
    let a = accepted p b w h in
    record { least = a.some_bits; most = a.few_bits; inputs = a.few_inputs; gates = a.few_gates; fields = a.fields }

-- what is answered is what was to be
pub answer_is : {Y : Type 0} (qs : List (Bool × Refusal)) (y z : Y) → answered qs y ≡ Ok z → y ≡ z
answer_is [] y z h = cc
answer_is (q ∷ qs) y z h = answer_is qs y z (yes q.0 q.1 (answered qs y) z h).1

-- the plan that passed is the plan that was given; its questions were answered, or the first no stands
module _ (p : Planned) (b words : ℕ) where
  pub same_plan : (q : Planned) → Ok q ≡ answered (plan_asks p b words) p → p ≡ q
  same_plan q h = answer_is (plan_asks p b words) p q (sym h)

  pub plan_passed : (q : Planned) → Ok q ≡ answered (plan_asks p b words) p → passed (plan_asks q b words) ≡ Ok tt
  plan_passed q h =
      ap (λ r. passed (plan_asks r b words)) (sym (same_plan q h)) ∙ answered_alike (plan_asks p b words) p q tt (sym h)

  pub plan_refused : (e : Refusal) → Err e ≡ answered (plan_asks p b words) p → passed (plan_asks p b words) ≡ Err e
  plan_refused e h = refused_alike (plan_asks p b words) p tt e (sym h)
