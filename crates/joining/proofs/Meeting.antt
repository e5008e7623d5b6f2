-- The two boxes' answers join to the payload below the threshold, and to zero elsewhere.
use Rattle.std.proofs.Common.{◌≡◌, ℕ, zero, suc, ◌^◌, ◌<◌, Bool, true, false, cond, not, List, [], ◌∷◌, length, sym, refl, ap, ◌∙◌, subst, arith}
use Rattle.std.specs.Simd.Lanes.{zip2}
use Rattle.std.specs.Int.Bits.{bit_xor, xor_assoc, xor_comm, xor_self, xor_zero_l}
use Rattle.group.specs.Groups.{OutputGroup, minus}
use Rattle.expander.specs.Meaning.{Expansion}
use Rattle.expander.specs.Seeds.{xor_seeds}
use Rattle.expander.specs.declared.Seed.{Seed}
use Rattle.key.specs.declared.Row.{Row}
use Rattle.key.specs.Rows.{row_bit}
use Rattle.evaluation.specs.declared.Walk.{Walk}
use Rattle.evaluation.specs.Evaluation.{differ, side_of, bit_at, stepped, walked, ended}
use Rattle.dealing.specs.declared.Descent.{Descent}
use Rattle.dealing.specs.Dealing.{next_seed, next_control, row_at, next_at, dealt_rows, dealt_last, draw, cancelling}
use Rattle.joining.specs.Joining.{AllWide, dealt_answer, compared}
use Rattle.joining.proofs.Order.{pick, below, below_is}
use Rattle.joining.proofs.Sums.{both_add, cancel_r, step_sum, gone_signed, left_over}

zip_back : (a b : List ℕ) → length a ≡ length b → zip2 bit_xor a (zip2 bit_xor a b) ≡ b
zip_back [] [] h = refl
zip_back [] (y ∷ ys) h = absurd (omega arith)
zip_back (x ∷ xs) [] h = absurd (omega arith)
zip_back (x ∷ xs) (y ∷ ys) h =
    ap (λ v. v ∷ zip2 bit_xor xs (zip2 bit_xor xs ys)) (sym (xor_assoc x x y) ∙ ap (λ n. bit_xor n y) (xor_self x) ∙ xor_zero_l y)
    ∙ ap (λ v. y ∷ v) (zip_back xs ys (omega arith))

zip_over : (a b : List ℕ) → length a ≡ length b → a ≡ zip2 bit_xor b (zip2 bit_xor a b)
zip_over [] [] h = refl
zip_over [] (y ∷ ys) h = absurd (omega arith)
zip_over (x ∷ xs) [] h = absurd (omega arith)
zip_over (x ∷ xs) (y ∷ ys) h =
    ap (λ v. v ∷ xs) (sym (ap (bit_xor y) (xor_comm x y) ∙ sym (xor_assoc y y x) ∙ ap (λ n. bit_xor n x) (xor_self y) ∙ xor_zero_l x))
    ∙ ap (λ v. bit_xor y (bit_xor x y) ∷ v) (zip_over xs ys (omega arith))

abbrev seed_of : List ℕ → Seed
seed_of bs = record { bytes = bs }

-- off the threshold's way both boxes come to one seed
seeds_meet : (t : Bool) (p q : Seed) → length p.bytes ≡ length q.bytes → next_seed (not t) p (xor_seeds p q) ≡ next_seed t q (xor_seeds p q)
seeds_meet true p q h = ap seed_of (zip_over p.bytes q.bytes h)
seeds_meet false p q h = ap seed_of (zip_back p.bytes q.bytes h)

controls_meet : (t p q : Bool) → next_control (not t) p (differ p q) ≡ next_control t q (differ p q)
controls_meet true true true = refl
controls_meet true true false = refl
controls_meet true false true = refl
controls_meet true false false = refl
controls_meet false true true = refl
controls_meet false true false = refl
controls_meet false false true = refl
controls_meet false false false = refl

differ_false : (p : Bool) → differ p false ≡ p
differ_false true = refl
differ_false false = refl

-- on its way their control bits stay apart
controls_apart : (t p q : Bool) → next_control (not t) p (differ (differ p q) true) ≡ not (next_control t q (differ (differ p q) true))
controls_apart true true true = refl
controls_apart true true false = refl
controls_apart true false true = refl
controls_apart true false false = refl
controls_apart false true true = refl
controls_apart false true false = refl
controls_apart false false true = refl
controls_apart false false false = refl

module _ {M : Type 0} (x : Expansion) (g : OutputGroup M) (β : M) (α m : ℕ) where
  abbrev at : Seed → Bool → M → Walk M
  at s t a = record { seed = s; control = t; sum = a }

  abbrev deal : Seed → Seed → Bool → Bool → M → Descent M
  deal s0 s1 t0 t1 a = record { seed0 = s0; seed1 = s1; control0 = t0; control1 = t1; apart = a }

  -- what both answers come to
  abbrev joined : List (Row M) → M → Walk M → Walk M → M
  joined rows last w0 w1 = g.sum (ended x g (λ v. v) last false (walked x g (λ v. v) rows m w0)) (ended x g (λ v. v) last true (walked x g (λ v. v) rows m w1))

  off : (rows : List (Row M)) (last : M) (s : Seed) (t : Bool) (a b : M) → joined rows last (at s t a) (at s t b) ≡ minus g a b
  off [] last s true a b = both_add g.laws (g.sum a (draw x g s)) (g.sum b (draw x g s)) last ∙ both_add g.laws a b (draw x g s)
  off [] last s false a b = both_add g.laws a b (draw x g s)
  off (r ∷ rs) last s true a b =
      let right : Bool = bit_at m (length rs) in
      let c : M = draw x g (side_of (x.branch s) right).value in
      off rs last (xor_seeds (side_of (x.branch s) right).seed r.word) (differ (side_of (x.branch s) right).bit (row_bit r right)) (g.sum
      (g.sum a c) r.element) (g.sum (g.sum b c) r.element)
      ∙ both_add g.laws (g.sum a c) (g.sum b c) r.element ∙ both_add g.laws a b c
  off (r ∷ rs) last s false a b =
      let right : Bool = bit_at m (length rs) in
      let c : M = draw x g (side_of (x.branch s) right).value in
      off rs last (side_of (x.branch s) right).seed (side_of (x.branch s) right).bit (g.sum a c) (g.sum b c)
      ∙ both_add g.laws a b c

  -- the sum after a row
  abbrev add_row : Bool → M → M → M → M
  add_row t a c v = cond t (g.sum (g.sum a c) v) (g.sum a c)

  step_is : (r : Row M) (right : Bool) (s : Seed) (t : Bool) (a : M)
      → stepped x g (λ v. v) r right (at s t a)
      ≡ at (next_seed t (side_of (x.branch s) right).seed r.word) (next_control t (side_of (x.branch s) right).bit (row_bit r right)) (add_row t a
      (draw x g (side_of (x.branch s) right).value) r.element)
  step_is r right s true a = refl
  step_is r right s false a = refl

  dealt_length : (k : ℕ) (d : Descent M) → length (dealt_rows x g β α k d) ≡ k
  dealt_length zero d = refl
  dealt_length (suc k) d = ap suc (dealt_length k (next_at x g β (bit_at α k) d))

  abbrev Joins : ℕ → Seed → Seed → Bool → Bool → M → M → M → Type 0
  Joins k s0 s1 t0 t1 e a b =
      joined (dealt_rows x g β α k (deal s0 s1 t0 t1 e)) (dealt_last x g β α k (deal s0 s1 t0 t1 e)) (at s0 t0 a) (at s1 t1 b) ≡ cond (below k m α) β g.zero

  abbrev On : ℕ → Type 0
  On k = (s0 s1 : Seed) (t : Bool) (a b : M) → Joins k s0 s1 (not t) t (minus g a b) a b

  from : (k : ℕ) (s0 s1 : Seed) (t0 t1 : Bool) (e a b : M) → On k → t0 ≡ not t1 → minus g a b ≡ e → Joins k s0 s1 t0 t1 e a b
  from k s0 s1 t0 t1 e a b on p q = subst (λ u. Joins k s0 s1 u t1 e a b) (sym p) (subst (λ h. Joins k s0 s1 (not t1) t1 h a b) q (on s0 s1 t1 a b))

  on_none : On zero
  on_none s0 s1 t a b =
      let c : M = draw x g s0 in
      let d : M = draw x g s1 in
      step_sum g.laws t a b c d (cancelling x g s0 s1 (deal s0 s1 (not t) t (minus g a b))) ∙ gone_signed g.laws t (minus g a b) c d

  abbrev seed_after : Row M → Bool → Seed → Bool → Seed
  seed_after r right s t = next_seed t (side_of (x.branch s) right).seed r.word

  abbrev control_after : Row M → Bool → Seed → Bool → Bool
  control_after r right s t = next_control t (side_of (x.branch s) right).bit (row_bit r right)

  abbrev draw_at : Bool → Seed → M
  draw_at right s = draw x g (side_of (x.branch s) right).value

  abbrev sum_after : Row M → Bool → Seed → Bool → M → M
  sum_after r right s t a = add_row t a (draw_at right s) r.element

  steps : (rs : List (Row M)) (last : M) (r : Row M) (right : Bool) (s0 s1 : Seed) (t0 t1 : Bool) (a b : M)
      → joined rs last (stepped x g (λ v. v) r right (at s0 t0 a)) (stepped x g (λ v. v) r right (at s1 t1 b))
      ≡ joined rs last (at (seed_after r right s0 t0) (control_after r right s0 t0) (sum_after r right s0 t0 a)) (at (seed_after r right s1 t1)
      (control_after r right s1 t1) (sum_after r right s1 t1 b))
  steps rs last r right s0 s1 t0 t1 a b =
      ap (λ w. joined rs last w (stepped x g (λ v. v) r right (at s1 t1 b))) (step_is r right s0 t0 a)
      ∙ ap (λ w. joined rs last (at (seed_after r right s0 t0) (control_after r right s0 t0) (sum_after r right s0 t0 a)) w) (step_is r right s1 t1 b)

  met : (rs : List (Row M)) (last : M) (s0 s1 : Seed) (t0 t1 : Bool) (a b : M) → s0 ≡ s1 → t0 ≡ t1 → joined rs last (at s0 t0 a) (at s1 t1 b) ≡ minus g a b
  met rs last s0 s1 t0 t1 a b p q =
      ap (λ s. joined rs last (at s t0 a) (at s1 t1 b)) p ∙ ap (λ t. joined rs last (at s1 t a) (at s1 t1 b)) q ∙ off rs last s1 t1 a b

  controls_fixed : (t p q : Bool) → next_control (not t) p (differ (differ p q) false) ≡ next_control t q (differ (differ p q) false)
  controls_fixed t p q = ap (next_control (not t) p) (differ_false (differ p q)) ∙ controls_meet t p q ∙ sym (ap (next_control t q) (differ_false (differ p q)))

  on_bits : AllWide x → (k : ℕ) → On k → (s0 s1 : Seed) (t : Bool) (a b : M) (bit right : Bool)
      → (let d : Descent M = deal s0 s1 (not t) t (minus g a b) in
      joined (dealt_rows x g β α k (next_at x g β bit d)) (dealt_last x g β α k (next_at x g β bit d))
      (stepped x g (λ v. v) (row_at x g β bit d) right (at s0 (not t) a)) (stepped x g (λ v. v) (row_at x g β bit d) right (at s1 t b)))
      ≡ cond (pick bit right (below k m α)) β g.zero
  on_bits wide k on s0 s1 t a b true true =
      let d : Descent M = deal s0 s1 (not t) t (minus g a b) in
      let r : Row M = row_at x g β true d in
      let d' : Descent M = next_at x g β true d in
      steps (dealt_rows x g β α k d') (dealt_last x g β α k d') r true s0 s1 (not t) t a b
      ∙ from k d'.seed0 d'.seed1 d'.control0 d'.control1 d'.apart (sum_after r true s0 (not t) a) (sum_after r true s1 t b) on
      (controls_apart t (x.branch s0).right.bit (x.branch s1).right.bit) (step_sum g.laws t a b (draw_at true s0) (draw_at true s1) r.element)
  on_bits wide k on s0 s1 t a b false false =
      let d : Descent M = deal s0 s1 (not t) t (minus g a b) in
      let r : Row M = row_at x g β false d in
      let d' : Descent M = next_at x g β false d in
      steps (dealt_rows x g β α k d') (dealt_last x g β α k d') r false s0 s1 (not t) t a b
      ∙ from k d'.seed0 d'.seed1 d'.control0 d'.control1 d'.apart (sum_after r false s0 (not t) a) (sum_after r false s1 t b) on
      (controls_apart t (x.branch s0).left.bit (x.branch s1).left.bit) (step_sum g.laws t a b (draw_at false s0) (draw_at false s1) r.element)
  on_bits wide k on s0 s1 t a b true false =
      let d : Descent M = deal s0 s1 (not t) t (minus g a b) in
      let r : Row M = row_at x g β true d in
      let d' : Descent M = next_at x g β true d in
      let rs : List (Row M) = dealt_rows x g β α k d' in
      let last : M = dealt_last x g β α k d' in
      steps rs last r false s0 s1 (not t) t a b
      ∙ met rs last (seed_after r false s0 (not t)) (seed_after r false s1 t) (control_after r false s0 (not t)) (control_after r false s1 t)
      (sum_after r false s0 (not t) a) (sum_after r false s1 t b)
      (seeds_meet t (x.branch s0).left.seed (x.branch s1).left.seed ((wide s0).left ∙ sym (wide s1).left))
      (controls_fixed t (x.branch s0).left.bit (x.branch s1).left.bit)
      ∙ step_sum g.laws t a b (draw_at false s0) (draw_at false s1) r.element
      ∙ left_over g.laws t (minus g a b) (draw_at false s0) (draw_at false s1) β
  on_bits wide k on s0 s1 t a b false true =
      let d : Descent M = deal s0 s1 (not t) t (minus g a b) in
      let r : Row M = row_at x g β false d in
      let d' : Descent M = next_at x g β false d in
      let rs : List (Row M) = dealt_rows x g β α k d' in
      let last : M = dealt_last x g β α k d' in
      steps rs last r true s0 s1 (not t) t a b
      ∙ met rs last (seed_after r true s0 (not t)) (seed_after r true s1 t) (control_after r true s0 (not t)) (control_after r true s1 t)
      (sum_after r true s0 (not t) a) (sum_after r true s1 t b)
      (seeds_meet t (x.branch s0).right.seed (x.branch s1).right.seed ((wide s0).right ∙ sym (wide s1).right))
      (controls_fixed t (x.branch s0).right.bit (x.branch s1).right.bit)
      ∙ step_sum g.laws t a b (draw_at true s0) (draw_at true s1) r.element
      ∙ gone_signed g.laws t (minus g a b) (draw_at true s0) (draw_at true s1)

  on_more : AllWide x → (k : ℕ) → On k → On (suc k)
  on_more wide k on s0 s1 t a b =
      let d : Descent M = deal s0 s1 (not t) t (minus g a b) in
      let bit : Bool = bit_at α k in
      let r : Row M = row_at x g β bit d in
      let d' : Descent M = next_at x g β bit d in
      let rs : List (Row M) = dealt_rows x g β α k d' in
      let last : M = dealt_last x g β α k d' in
      ap (λ n. joined rs last (stepped x g (λ v. v) r (bit_at m n) (at s0 (not t) a)) (stepped x g (λ v. v) r (bit_at m n) (at s1 t b))) (dealt_length k d')
      ∙ on_bits wide k on s0 s1 t a b bit (bit_at m k)

  on_all : AllWide x → (k : ℕ) → On k
  on_all wide zero = on_none
  on_all wide (suc k) = on_more wide k (on_all wide k)

  -- from the roots
  pub joins : AllWide x → (n : ℕ) (root0 root1 : Seed) → m < 2 ^ n → α < 2 ^ n
      → g.sum (dealt_answer g x x n α β root0 root1 false root0 m) (dealt_answer g x x n α β root0 root1 true root1 m) ≡ compared g α β m
  joins wide n root0 root1 h k =
      from n root0 root1 false true g.zero g.zero g.zero (on_all wide n) refl (cancel_r g.laws g.zero)
      ∙ ap (λ c. cond c β g.zero) (below_is n m α h k)
