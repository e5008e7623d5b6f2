-- What a box answers to a book that was just dealt.
use Rattle.std.proofs.Common.{◌≡◌, ℕ, ◌^◌, ◌<◌, ◌≤◌, Bool, true, false, cond, eqb, leb, List, [], ◌∷◌, ◌++◌, length, get_or, take, drop, Ok, Err, Result, sym, refl, ap, ◌∙◌, arith, take_at}
use Rattle.std.proofs.lemmas.Bool.{leb-true, eqb-true}
use Rattle.refusal.specs.declared.Refusal.{Refusal}
use Rattle.refusal.specs.declared.Refusal.TheVariants.{DealRoom, BookLength, BookHeader, BookKind, BookCounts, BookContents, BookBodies}
use Rattle.refusal.specs.Questions.{answered}
use Rattle.expander.specs.Meaning.{Expansion}
use Rattle.plan.specs.Questions.{plan_asks}
use Rattle.dealer.specs.Book.{Order, header, dealt_body, dealt_length, dealt_book, deal_asks, written, dealt}
use Rattle.reader.specs.Questions.{book_asks, book_answer}
use Rattle.reader.proofs.Laid.{book_long}
use Rattle.reader.proofs.Yes.{all_yes}
use Rattle.returned.specs.Returned.{Returned, checked, dealt_and_checked}
use Rattle.returned.proofs.Back.{laid, dealt_is_read}

ok_never : {A : Type 0} (y : A) (e : Refusal) → Err e ≡ Ok y → ⊥
ok_never y e h = let z : ◌≡◌ {A = ℕ} 0 1 = cc in omega arith

-- questions in two parts
parts_yes : {Y : Type 0} (qs rs : List (Bool × Refusal)) (y z : Y) → answered (qs ++ rs) y ≡ Ok z
    → (answered {Y = Unit {0}} qs tt ≡ Ok tt) × (answered rs y ≡ Ok z)
parts_yes [] rs y z h = (refl, h)
parts_yes ((true, e) ∷ qs) rs y z h = parts_yes qs rs y z h
parts_yes ((false, e) ∷ qs) rs y z h = absurd (ok_never z e h)

one_yes : {Y : Type 0} (b : Bool) (e : Refusal) (y z : Y) → answered ((b, e) ∷ []) y ≡ Ok z → (b ≡ true) × (y ≡ z)
one_yes true e y z h = (refl, cc)
one_yes false e y z h = absurd (ok_never z e h)

module _ (x : Expansion) (o : Order) (out : List ℕ) where
  length_of_book : length (dealt_book x o) ≡ dealt_length x o
  unfolding dealt_length
  length_of_book = book_long (header x o) (dealt_body x o) (dealt_book x o) (laid x o)

  -- a deal that was made: the plan passes, and the book stands at the front of the buffer
  pub record Made (long : ℕ) (after : List ℕ) : Type 0 where
    pub passes : answered {Y = Unit {0}} (plan_asks o.plan o.box (length o.words)) tt ≡ Ok tt
    pub room : long ≤ length out
    pub front : take long after ≡ dealt_book x o

  pub was_made : (long : ℕ) (after : List ℕ) → (Ok long, after) ≡ dealt x o out → Made long after
  was_made long after e =
      let r : answered (deal_asks x o (length out)) (dealt_length x o) ≡ Ok long = sym (ap (λ p. p.0) e) in
      let t = parts_yes (plan_asks o.plan o.box (length o.words)) ((leb (dealt_length x o) (length out), DealRoom) ∷ []) (dealt_length x o) long r in
      let u = one_yes (leb (dealt_length x o) (length out)) DealRoom (dealt_length x o) long t.1 in
      let l = leb-true (dealt_length x o) (length out) u.0 in
      let is : dealt_length x o ≡ long = u.1 in
      let a : after ≡ dealt_book x o ++ drop long out = ap (λ p. p.1) e ∙ ap (λ q. written q (dealt_book x o) out) r in
      record {
        passes = t.0;
        room = omega arith;
        front = ap (take long) a ∙ take_at (dealt_book x o) (drop long out) long (length_of_book ∙ is);
      }

  -- the kind is all that a box can refuse
  pub kind_decides : Returned x o → (own : ℕ) → book_answer own (dealt_book x o) ≡ cond (eqb x.kind own) (Ok tt) (Err BookKind)
  kind_decides b own =
      let book = dealt_book x o in
      let q = all_yes (book_asks x.kind book) b.passes in
      let k : get_or book 2 0 ≡ x.kind = eqb-true (get_or book 2 0) x.kind q.1.1.0 in
      λ i. answered ((q.0 i, BookLength) ∷ (q.1.0 i, BookHeader) ∷ (eqb (k i) own, BookKind) ∷ (q.1.1.1.0 i, BookCounts) ∷ (q.1.1.1.1.0 i, BookContents)
      ∷ (q.1.1.1.1.1.0 i, BookBodies) ∷ []) tt

  module _ (own long : ℕ) (after : List ℕ) (e : (Ok long, after) ≡ dealt x o out) (small : o.deal < 2 ^ 32) where
    pub read : Returned x o
    read = dealt_is_read x o (was_made long after e).passes small

    -- an answer about the book that was dealt is decided by the kind
    answer_is : (answer : Result Unit Refusal) → answer ≡ book_answer own (take long after) → answer ≡ cond (eqb x.kind own) (Ok tt) (Err BookKind)
    answer_is answer a = a ∙ ap (book_answer own) (was_made long after e).front ∙ kind_decides read own

    both_are : (b : Bool) → eqb x.kind own ≡ b → (cond b (Ok long) (Err BookKind), after) ≡ dealt_and_checked x own o out
    both_are b k = ap (λ c. (cond c (Ok long) (Err BookKind), after)) (sym k) ∙ ap (λ p. (checked x.kind own p.0, p.1)) e

    abbrev Both : Result ℕ Refusal → Type 0
    Both r = (r, after) ≡ dealt_and_checked x own o out

    pub accepted : Ok tt ≡ book_answer own (take long after) → (Ok long, after) ≡ dealt_and_checked x own o out
    accepted a = go (eqb x.kind own) refl (answer_is (Ok tt) a)
      where
        go : (b : Bool) → eqb x.kind own ≡ b → ◌≡◌ {A = Result (Unit {0}) Refusal} (Ok tt) (cond b (Ok tt) (Err BookKind)) → Both (Ok long)
        go true k h = both_are true k
        go false k h = absurd (ok_never {A = Unit {0}} tt BookKind (sym h))

    pub refused : (e1 : Refusal) → Err e1 ≡ book_answer own (take long after) → (Err e1, after) ≡ dealt_and_checked x own o out
    refused e1 a = go (eqb x.kind own) refl (answer_is (Err e1) a)
      where
        go : (b : Bool) → eqb x.kind own ≡ b → ◌≡◌ {A = Result (Unit {0}) Refusal} (Err e1) (cond b (Ok tt) (Err BookKind)) → Both (Err e1)
        go true k h = absurd (ok_never {A = Unit {0}} tt e1 h)
        go false k h = (let f : e1 ≡ BookKind = cc in ap (λ r. (Err r, after)) f) ∙ both_are false k
