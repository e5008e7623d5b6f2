-- The bodies of a book, one after another.
use Rattle.std.proofs.Common.{◌≡◌, ℕ, zero, suc, ◌+◌, ◌-◌, ◌*◌, ◌≤◌, Bool, true, false, cond, ◌&&◌, eqb, leb, List, [], ◌∷◌, length, Some, None, Option, sym, refl, ap, ◌∙◌, subst, arith, MatchOption}
use Rattle.std.proofs.lemmas.Bool.{le-leb}
use Rattle.std.specs.Iterator.{Yields}
use Rattle.std.specs.List.{FoldsTo}
use Rattle.std.specs.Option.{option_eq}
use Rattle.std.specs.Fn.{Called}
use Rattle.std.specs.declared.ops.Range.{Range}
use Rattle.std.proofs.iter.Yields.{nat_range_steps}
use denote.Param.Members.{Mut}
use Rattle.layout.specs.Bytes.{number_at}
use Rattle.reader.specs.Questions.{entry_fits, body_end, gapless}

module _ (book : List ℕ) where
  abbrev then_end : Option ℕ → (ℕ → Option ℕ) → Option ℕ
  then_end None f = None
  then_end (Some e) f = f e

  -- where the last of the n bodies from wire k on ends
  abbrev pub last_end : ℕ → ℕ → ℕ → Option ℕ
  last_end zero k at = Some at
  last_end (suc n) k at = then_end (body_end book k at) (λ e. last_end n (k + 1) e)

  abbrev ends : Option ℕ → Bool
  ends o = option_eq eqb o (Some (length book))

  one_more : (n k at : ℕ) (b : Bool) → ends (last_end n (k + 1) (at + number_at book (20 + 8 * k))) ≡ gapless book n (k + 1) (at + number_at book (20 + 8 * k))
      → ends (then_end (cond b (Some (at + number_at book (20 + 8 * k))) None) (λ e. last_end n (k + 1) e))
      ≡ (b && gapless book n (k + 1) (at + number_at book (20 + 8 * k)))
  one_more n k at true h = h
  one_more n k at false h = refl

  -- the bodies are without gaps where the last ends the book
  pub ends_book : (n k at : ℕ) → 16 + 8 * (k + n) ≤ length book → ends (last_end n k at) ≡ gapless book n k at
  ends_book zero k at l = refl
  ends_book (suc n) k at l =
      let t : leb (24 + 8 * k) (length book) ≡ true = le-leb (24 + 8 * k) (length book) (omega arith) in
      let e = at + number_at book (20 + 8 * k) in
      ap (λ b. ends (then_end (cond (b && entry_fits book k at) (Some e) None) (λ e. last_end n (k + 1) e))) t
      ∙ one_more n k at (entry_fits book k at) (ends_book n (k + 1) e (omega arith))

  -- one turn of a fold that goes on
  abbrev pub Turn : {F : Type 0} → Mut F (ℕ × (ℕ × Unit {0})) (Option ℕ) → F × ℕ → ℕ → F × ℕ → Type 0
  Turn g p x q = (v : Option ℕ) × Called g p.0 (p.1, (x, tt)) v q.0 × (v ≡ Some q.1)

  -- what a fold of a closure that gives each body's end comes to, over the wires of a range
  module _ {F : Type 0} (g : Mut F (ℕ × (ℕ × Unit {0})) (Option ℕ)) (f : F)
      (pure : (a x : ℕ) (v : Option ℕ) (q : F) → Called g f (a, (x, tt)) v q → (q ≡ f) × (v ≡ body_end book x a)) where
    folded : (E : Type 0) (xs : List ℕ) (s t u : Range ℕ) (o : Option ℕ) (f' : F) (a0 a : ℕ) (r : Option ℕ)
        → Yields nat_range_steps s xs t → nat_range_steps t o u
        → FoldsTo (Turn g) (f, a0) xs (f', a)
        → MatchOption o (r ≡ Some a) (λ x. (v : Option ℕ) × (h : F) × (e : E) × Called g f' (a, (x, tt)) v h × (v ≡ None) × (r ≡ None))
        → r ≡ last_end (s.end - s.start) s.start a0
    folded E [] s t u None f' a0 a r y st fold m =
        let n : s.end - s.start ≡ 0 = omega (arith, ap (λ k. k.end) y, ap (λ k. k.start) y, st.1.0) in
        m ∙ ap Some (sym (ap (λ p. p.1) fold)) ∙ sym (ap (λ j. last_end j s.start a0) n)
    folded E [] s t u (Some x) f' a0 a r y st fold m =
        let n : s.end - s.start ≡ suc (s.end - s.start - 1) = omega (arith, ap (λ k. k.end) y, ap (λ k. k.start) y, st.1.0) in
        let here : x ≡ s.start = st.1.1 ∙ sym (ap (λ k. k.start) y) in
        let called : Called g f (a0, (x, tt)) m.0 m.1 = subst (λ p. Called g p.0 (p.1, (x, tt)) m.0 m.1) (sym fold) m.3 in
        let none : body_end book s.start a0 ≡ None = ap (λ i. body_end book i a0) (sym here) ∙ sym (pure a0 x m.0 m.1 called).1 ∙ m.4 in
        m.5 ∙ sym (ap (λ j. last_end j s.start a0) n ∙ ap (λ o. then_end o (λ e. last_end (s.end - s.start - 1) (s.start + 1) e)) none)
    folded E (x ∷ xs) s t u o f' a0 a r y st (j, turn, rest) m =
        let w = y.0 in
        let p = pure a0 x turn.0 j.0 turn.1 in
        let same = subst (λ q. FoldsTo (Turn g) (q, j.1) xs (f', a)) p.0 rest in
        let n : s.end - s.start ≡ suc (w.end - w.start) = omega (arith, y.1.0, y.1.1.0, y.1.1.2) in
        let stands : body_end book s.start a0 ≡ Some j.1 = ap (λ i. body_end book i a0) (sym y.1.1.1) ∙ sym p.1 ∙ turn.2 in
        folded E xs w t u o f' j.1 a r y.2 st same m ∙ ap (λ i. last_end (w.end - w.start) i j.1) y.1.1.2
        ∙ sym (ap (λ j. last_end j s.start a0) n ∙ ap (λ o. then_end o (λ e. last_end (w.end - w.start) (s.start + 1) e)) stands)

  -- the same, with what is known of the closure last
  pub try_folded : {F : Type 0} (E : Type 0) (g : Mut F (ℕ × (ℕ × Unit {0})) (Option ℕ)) (f : F)
      (s u : Range ℕ) (a0 : ℕ) (r : Option ℕ)
      → (xs : List ℕ) × (o : Option ℕ) × (f' : F) × (a : ℕ) × ((t : Range ℕ) × Yields nat_range_steps s xs t × nat_range_steps t o u)
      × FoldsTo (Turn g) (f, a0) xs (f', a)
      × MatchOption o (r ≡ Some a) (λ x. (v : Option ℕ) × (h : F) × (e : E) × Called g f' (a, (x, tt)) v h × (v ≡ None) × (r ≡ None))
      → ((a x : ℕ) (v : Option ℕ) (q : F) → Called g f (a, (x, tt)) v q → (q ≡ f) × (v ≡ body_end book x a))
      → r ≡ last_end (s.end - s.start) s.start a0
  try_folded E g f s u a0 r d pure = folded g f pure E d.0 s d.4.0 u d.1 d.2 a0 d.3 r d.4.1 d.4.2 d.5 d.6
