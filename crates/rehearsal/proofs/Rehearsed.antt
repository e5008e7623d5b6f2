-- Two boxes with the books of a deal run as the deal's definitions do.
use Rattle.std.proofs.Common.{◌≡◌, ℕ, zero, suc, ◌≤◌, cond, List, [], ◌∷◌, length, sym, refl, ap, ◌∙◌, subst, arith}
use mathlib.Core.Path.{fun_ext}
use Rattle.key.specs.declared.BoxNumber.{BoxNumber}
use Rattle.key.specs.declared.BoxNumber.TheVariants.{Zero, One}
use Rattle.plan.proofs.Accepted.{accepted}
use Rattle.runs.specs.Plans.{Wiring, Deal, Formed, Dealt, wires, is_input}
use Rattle.runs.specs.Boxes.{Act, Put, Work, Send, Take, Answer, Done, Sent, Shown, Counted, Refused, step}
use Rattle.runs.specs.Runs as runs
use Rattle.runs.specs.Runs.{Call, Event, Here, loaded, Fair, after, round}
use Rattle.runs.specs.Theorem.{EveryFull}
use Rattle.runs.proofs.ShownRight.{shown_values_stand}
use Rattle.runs.proofs.CountsOfRuns.{counts_stand}
use Rattle.runs.proofs.Messages.{messages_stand}
use Rattle.runs.proofs.Rounds.{rounds_fill}
use Rattle.boxview.specs.Reading.{SharesOf}
use Rattle.boxview.specs.Steps.{box_step}
use Rattle.linked.specs.Linked.{book_of, BoxLinked}
use Rattle.linked.proofs.Dealt.{boxes_are_linked}
use Rattle.sharing.specs.Wirings.{wiring_of, deal_of}
use Rattle.sharing.proofs.Formed.{plans_are_formed}
use Rattle.sharing.proofs.Dealt.{deals_fit}
use Rattle.rehearsal.specs.Machines.{Machine, book_machine, deal_machine, moved, ran, take_if, exchanged, begun, rounded}
use Rattle.rehearsal.specs.Rehearsed.{Kept, RehearsalsStand}

module _ (p : Wiring) (d : Deal) where
  abbrev M : Machine
  M = deal_machine p d

  same_move : (b : BoxNumber) (h : Here) (a : Act) → moved M b h a ≡ runs.next_at p d b h a
  same_move Zero h a = refl
  same_move One h a = refl

  same_run : (h : Here) (cs : List Call) → ran M h cs ≡ after p d h cs
  same_run h [] = refl
  same_run h (c ∷ cs) = ap (λ z. ran M z cs) (same_move c.at h c.act) ∙ same_run (runs.next p d h c) cs

  same_take : (b : BoxNumber) (x : Answer) (h : Here) → take_if M b x h ≡ runs.take_if p d b x h
  same_take b Done h = refl
  same_take b (Sent x) h = same_move b h (Take x)
  same_take b (Shown x) h = refl
  same_take b (Counted u w) h = refl
  same_take b (Refused n) h = refl

  same_exchange : (k : ℕ) (h : Here) → exchanged M k h ≡ runs.exchange p d k h
  same_exchange k h =
      let one : Here = moved M Zero h (Send k 10) in
      let two : Here = moved M One one (Send k 10) in
      same_take Zero (runs.last_answer two.past) (take_if M One (runs.last_answer one.past) two)
      ∙ ap (runs.take_if p d Zero (runs.last_answer two.past)) (same_take One (runs.last_answer one.past) two)

  same_begin : (vs : ℕ → ℕ) (k : ℕ) (h : Here) → begun M (is_input p) p.owner vs k h ≡ runs.begun p d vs k h
  same_begin vs k h =
      ap (λ z. cond (is_input p k) z (moved M One (moved M Zero h (Work k)) (Work k))) (same_move (p.owner k) h (Put k (vs k)))

  same_round : (vs : ℕ → ℕ) (n k : ℕ) (h : Here) → rounded M (is_input p) p.owner vs n k h ≡ runs.round_from p d vs n k h
  same_round vs zero k h = refl
  same_round vs (suc n) k h =
      ap (rounded M (is_input p) p.owner vs n (suc k)) (same_exchange k (begun M (is_input p) p.owner vs k h) ∙ ap (runs.exchange p d k) (same_begin vs k h))
      ∙ same_round vs n (suc k) (runs.exchange p d k (runs.begun p d vs k h))

  -- what the laws over runs say, of the machine
  kept : Formed p → Dealt p d → wires p ≤ 48 → (cs : List Call) → Fair (ran M (loaded 48) cs).past → Kept p d M (ran M (loaded 48) cs)
  kept f g few cs q =
      let e = same_run (loaded 48) cs in
      let fair : Fair (after p d (loaded 48) cs).past = subst (λ (h : Here). Fair h.past) e q in
      subst (λ (h : Here). Kept p d M h) (sym e) (record {
        shown = shown_values_stand p d f g 48 few cs fair;
        counts = counts_stand p d 48 few cs;
        messages = messages_stand p d f g 48 few cs fair;
        rounds = λ vs r. subst (EveryFull p) (sym (same_round vs (wires p) 0 (after p d (loaded 48) cs))) (rounds_fill p d f g 48 few cs fair vs r);
      })

pub rehearsals_stand : RehearsalsStand
rehearsals_stand d x y wide ex ey p number words h small share0 share1 e0 e1 =
    let D : Deal = deal_of d x y p number words in
    let W : Wiring = wiring_of p in
    let l0 : BoxLinked d x y p number words Zero = boxes_are_linked d x y wide ex ey p number words h small Zero in
    let l1 : BoxLinked d x y p number words One = boxes_are_linked d x y wide ex ey p number words h small One in
    let s0 : share0 ≡ D.share Zero = fun_ext (λ k. fun_ext (λ hs. e0 k hs)) in
    let s1 : share1 ≡ D.share One = fun_ext (λ k. fun_ext (λ hs. e1 k hs)) in
    let z0 : box_step (book_of d p number words Zero) (D.share Zero) ≡ step W D Zero = fun_ext (λ s. fun_ext (λ a. l0.steps s a)) in
    let z1 : box_step (book_of d p number words One) (D.share One) ≡ step W D One = fun_ext (λ s. fun_ext (λ a. l1.steps s a)) in
    let m : book_machine (book_of d p number words Zero) share0 (book_of d p number words One) share1 ≡ deal_machine W D
    = (λ i. book_machine (book_of d p number words Zero) (s0 i) (book_of d p number words One) (s1 i))
    ∙ (λ i. record { zero_step = z0 i; one_step = z1 i }) in
    let a = accepted p 0 (length words) h in
    let few : wires W ≤ 48 = (let i = a.few_inputs in let g = a.few_gates in omega arith) in
    let f = plans_are_formed p 0 (length words) h in
    let g = deals_fit d x y wide ex ey p 0 number words (length words) h small in (
      subst (SharesOf x (book_of d p number words Zero)) (sym s0) l0.shares,
      subst (SharesOf y (book_of d p number words One)) (sym s1) l1.shares,
      λ cs. subst (λ (n : Machine). Fair (ran n (loaded 48) cs).past → Kept W D n (ran n (loaded 48) cs)) (sym m) (kept W D f g few cs),
    )
