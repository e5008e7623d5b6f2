-- The parts written make the book, and the answer is the deal's.
use Rattle.std.proofs.Common.{◌≡◌, ℕ, ◌+◌, ◌*◌, ◌<◌, ◌≤◌, Bool, true, false, cond, leb, List, [], ◌∷◌, ◌++◌, length, drop, Ok, Err, Result, sym, ap, ◌∙◌, arith, length-append}
use Rattle.std.proofs.lemmas.Bool.Decides.{nat_tests}
use Rattle.refusal.specs.declared.Refusal.{Refusal}
use Rattle.refusal.specs.declared.Refusal.TheVariants.{DealRoom}
use Rattle.stored.specs.Forms.{four_bytes}
use Rattle.expander.specs.Meaning.{Expansion}
use Rattle.plan.specs.Plans.{wires}
use Rattle.plan.specs.Questions.{plan_asks}
use Rattle.layout.specs.Bytes.{joined}
use Rattle.layout.specs.Books.{header_bytes, entry_bytes}
use Rattle.buffers.specs.declared.Writer.{Writer}
use Rattle.buffers.specs.Forms.{put_at, Put}
use Rattle.buffers.proofs.Puts.{put_at_start}
use Rattle.dealer.specs.Lengths.{place, entry}
use Rattle.dealer.specs.Book.{Order, header, header_of, dealt_body, dealt_length, dealt_book, written, dealt}
use Rattle.dealer.proofs.Accepted.{passed, more_asked, no_more}
use Rattle.dealer.proofs.Longs.{body_long, bodies_long, contents_long}

module _ (x : Expansion) (o : Order) where
  -- what the code writes, by lengths
  abbrev pub parts : ℕ → List ℕ
  parts long =
      header_bytes (header_of x.kind o) long
      ++ (joined (entry o.plan o.box) (wires o.plan) ++ joined (dealt_body x o) (wires o.plan))

  pub length_is : place o.plan o.box (wires o.plan) ≡ dealt_length x o
  unfolding dealt_length
  length_is = ap (λ t. 16 + 8 * wires o.plan + t) (sym (bodies_long x o (wires o.plan)))

  entries : (k : ℕ) → entry o.plan o.box k ≡ entry_bytes (header x o) (dealt_body x o) k
  entries k =
      λ i. four_bytes (16 + 8 * wires o.plan + sym (bodies_long x o k) i) ++ four_bytes (sym (body_long x o k) i)

  parts_are : (long : ℕ) → long ≡ dealt_length x o → parts long ≡ dealt_book x o
  unfolding dealt_length dealt_book
  parts_are long e =
      λ i. header_bytes (header_of x.kind o) (e i)
      ++ (joined (λ k. entries k i) (wires o.plan) ++ joined (dealt_body x o) (wires o.plan))

  pub parts_long : (long : ℕ) → length (parts long) ≡ place o.plan o.box (wires o.plan)
  parts_long long =
      let a = length-append (joined (entry o.plan o.box) (wires o.plan)) (joined (dealt_body x o) (wires o.plan)) in
      let b = contents_long o.plan o.box (wires o.plan) in
      let c = bodies_long x o (wires o.plan) in
      omega arith

  -- the answer, and what the buffer holds then
  abbrev answer : List ℕ → Result ℕ Refusal → Result ℕ Refusal × List ℕ
  answer out r = (r, written r (dealt_book x o) out)

  module _ (out : List ℕ) where
    abbrev asks : List (Bool × Refusal)
    asks = plan_asks o.plan o.box (length o.words)

    abbrev room : List (Bool × Refusal)
    room = (leb (dealt_length x o) (length out), DealRoom) ∷ []

    -- a plan that was refused
    pub refused : (e : Refusal) → passed asks ≡ Err e → (Err e, out) ≡ dealt x o out
    refused e h = sym (ap (answer out) (no_more asks room (dealt_length x o) e h))

    -- a buffer that is too short
    pub too_short : (long : ℕ) → long ≡ place o.plan o.box (wires o.plan) → length out < long
        → passed asks ≡ Ok tt → (Err DealRoom, out) ≡ dealt x o out
    too_short long e h ok =
        let l : long ≡ dealt_length x o = e ∙ length_is in
        let t : leb (dealt_length x o) (length out) ≡ false = grind (arith, nat_tests) in
        sym (ap (answer out)
        (more_asked asks room (dealt_length x o) ok
        ∙ ap (λ b. cond b (Ok (dealt_length x o)) (Err DealRoom)) t))

    -- a book that was written
    pub made_book : (w w1 : Writer) (long : ℕ) → w.out.now ≡ out → w.at ≡ 0 → long ≡ place o.plan o.box (wires o.plan)
        → long ≤ length out → passed asks ≡ Ok tt → Put w (parts long) w1 → (Ok long, w1.out.now) ≡ dealt x o out
    made_book w w1 long wo wa e h ok p =
        let l : long ≡ dealt_length x o = e ∙ length_is in
        let t : leb (dealt_length x o) (length out) ≡ true = grind (arith, nat_tests) in
        let z : length (parts long) ≡ dealt_length x o = parts_long long ∙ length_is in
        let is : w1.out.now ≡ dealt_book x o ++ drop (dealt_length x o) out =
        p.after ∙ (λ i. put_at (wo i) (wa i) (parts long)) ∙ put_at_start out (parts long)
        ∙ (λ i. parts_are long l i ++ drop (z i) out) in
        (λ i. (Ok (l i), is i))
        ∙ sym (ap (answer out)
        (more_asked asks room (dealt_length x o) ok
        ∙ ap (λ b. cond b (Ok (dealt_length x o)) (Err DealRoom)) t))

-- what the buffer holds in the end
pub left_as : {after now : List ℕ} {r : Result ℕ Refusal} {d : Result ℕ Refusal × List ℕ} → after ≡ now → (r, now) ≡ d → (r, after) ≡ d
left_as {r} e h = ap (λ o. (r, o)) e ∙ h
