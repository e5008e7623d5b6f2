-- Equations modulo N of sums, products, remainders and differences modulo N, from given congruences.
-- A term's value with its downs is its ups, modulo N; both are polynomials, and polynomials are compared by normal form.
use Rattle.std.proofs.Common.{◌≡◌, ℕ, ◌+◌, ◌-◌, ◌*◌, ◌%◌, ◌≤◌, List, [], ◌∷◌, add-zero, arith}
use Rattle.algebra.proofs.Modulo.{Cong, same, equal, then, plus, product, times, reduced, multiple, since}
use Rattle.algebra.proofs.Modulo as modulo
use Rattle.algebra.proofs.Ring as ring
use Rattle.algebra.proofs.Ring.{look, norm}

pub data Expr : Type 0 where
  var : ℕ → Expr
  lit : ℕ → Expr
  ◌⊕◌ : Expr → Expr → Expr
  ◌⊗◌ : Expr → Expr → Expr
  -- the remainder modulo N
  red : Expr → Expr
  -- N less b
  neg : Expr → Expr

infixl 6 ◌⊕◌
infixl 7 ◌⊗◌
-- the difference as wrapping_sub has it
abbrev pub ◌⊖◌ : Expr → Expr → Expr
a ⊖ b = red (a ⊕ neg b)

infixl 6 ◌⊖◌
abbrev mutual
  pub ups : Expr → ring.Term
  ups (var n) = ring.var n
  ups (lit k) = ring.lit k
  ups (a ⊕ b) = ring.◌⊕◌ (ups a) (ups b)
  ups (a ⊗ b) = ring.◌⊕◌ (ring.◌⊗◌ (ups a) (ups b)) (ring.◌⊗◌ (downs a) (downs b))
  ups (red a) = ups a
  ups (neg a) = downs a

  pub downs : Expr → ring.Term
  downs (var n) = ring.lit 0
  downs (lit k) = ring.lit 0
  downs (a ⊕ b) = ring.◌⊕◌ (downs a) (downs b)
  downs (a ⊗ b) = ring.◌⊕◌ (ring.◌⊗◌ (ups a) (downs b)) (ring.◌⊗◌ (downs a) (ups b))
  downs (red a) = downs a
  downs (neg a) = ups a

-- x − y and l − r, with what is negative on the other side
abbrev pub left_side : Expr → Expr → Expr → Expr → ring.Term
left_side l r x y = ring.◌⊕◌ (ring.◌⊕◌ (ups x) (downs y)) (ring.◌⊕◌ (ups r) (downs l))

abbrev pub right_side : Expr → Expr → Expr → Expr → ring.Term
right_side l r x y = left_side r l y x

-- x − y is l − r as a polynomial
abbrev pub Alike : Expr → Expr → Expr → Expr → Type 0
Alike l r x y = norm (left_side l r x y) ≡ norm (right_side l r x y)

abbrev pub joined : List ℕ → List ℕ → List ℕ
joined [] ys = ys
joined (x ∷ xs) ys = x ∷ joined xs ys

abbrev pub Each : ℕ → List ℕ → Type 0
Each N [] = Unit
Each N (x ∷ xs) = (x ≤ N) × Each N xs

each_both : (N : ℕ) (xs ys : List ℕ) → Each N xs → Each N ys → Each N (joined xs ys)
each_both N [] ys f g = g
each_both N (x ∷ xs) ys f g = (f.0, each_both N xs ys f.1 g)

each_left : (N : ℕ) (xs ys : List ℕ) → Each N (joined xs ys) → Each N xs
each_left N [] ys f = tt
each_left N (x ∷ xs) ys f = (f.0, each_left N xs ys f.1)

each_right : (N : ℕ) (xs ys : List ℕ) → Each N (joined xs ys) → Each N ys
each_right N [] ys f = f
each_right N (x ∷ xs) ys f = each_right N xs ys f.1

module _ (N : ℕ) (env : List ℕ) where
  abbrev pub value : Expr → ℕ
  value (var n) = look env n
  value (lit k) = k
  value (a ⊕ b) = value a + value b
  value (a ⊗ b) = value a * value b
  value (red a) = value a % N
  value (neg a) = N - value a

  -- what is taken from N
  abbrev pub lows : Expr → List ℕ
  lows (var n) = []
  lows (lit k) = []
  lows (a ⊕ b) = joined (lows a) (lows b)
  lows (a ⊗ b) = joined (lows a) (lows b)
  lows (red a) = lows a
  lows (neg a) = value a ∷ lows a

  -- nothing below zero
  abbrev pub Fine : Expr → Type 0
  Fine t = Each N (lows t)

  sound : (t : Expr) → Fine t → Cong N (value t + ring.value env (downs t)) (ring.value env (ups t))
  sound (var n) f = equal (add-zero (look env n))
  sound (lit k) f = equal (add-zero k)
  sound (a ⊕ b) f =
      let va : ℕ = value a in let da : ℕ = ring.value env (downs a) in
      let vb : ℕ = value b in let db : ℕ = ring.value env (downs b) in
      then (equal (omega arith)) (plus (sound a (each_left N (lows a) (lows b) f)) (sound b (each_right N (lows a) (lows b) f)))
  sound (a ⊗ b) f =
      let va : ℕ = value a in let da : ℕ = ring.value env (downs a) in let ua : ℕ = ring.value env (ups a) in
      let vb : ℕ = value b in let db : ℕ = ring.value env (downs b) in let ub : ℕ = ring.value env (ups b) in
      let ha : Cong N (va + da) ua = sound a (each_left N (lows a) (lows b) f) in
      let hb : Cong N (vb + db) ub = sound b (each_right N (lows a) (lows b) f) in
      since (plus (product ha hb) (plus (times db (modulo.back ha)) (times da (modulo.back hb))))
      (va * vb + (ua * db + da * ub)) (ua * ub + da * db) (omega arith)
  sound (red a) f = then (plus (reduced (value a)) same) (sound a f)
  sound (neg a) f =
      let va : ℕ = value a in let da : ℕ = ring.value env (downs a) in let ua : ℕ = ring.value env (ups a) in
      let h : va ≤ N = f.0 in
      since (plus (modulo.back (sound a f.1)) (multiple 1)) (N - va + ua) da (omega arith)

  -- Given congruences, as the terms that they are between.
  pub data Given (l r : Expr) : Type 0 where
    given : Fine l → Fine r → Cong N (value l) (value r) → Given l r

  pub know : (l r : Expr) → Fine l → Fine r → Cong N (value l) (value r) → Given l r
  know l r f g h = given f g h

  pub nothing : Given (lit 0) (lit 0)
  nothing = given tt tt same

  pub back : {l r : Expr} → Given l r → Given r l
  back (given f g h) = given g f (modulo.back h)

  pub also : {l r k s : Expr} → Given l r → Given k s → Given (l ⊕ k) (r ⊕ s)
  also {l} {r} {k} {s} (given f g h) (given e d j) = given (each_both N (lows l) (lows k) f e) (each_both N (lows r) (lows s) g d) (plus h j)

  pub by : {l r : Expr} → (c : Expr) → Fine c → Given l r → Given (c ⊗ l) (c ⊗ r)
  by {l} {r} c e (given f g h) = given (each_both N (lows c) (lows l) e f) (each_both N (lows c) (lows r) e g) (times (value c) h)

  -- x is y, since x − y is l − r
  pub follows : {l r : Expr} → Given l r → (x y : Expr) → Fine x → Fine y → Alike l r x y → Cong N (value x) (value y)
  follows {l} {r} (given f g h) x y fx fy e =
      let ux : ℕ = ring.value env (ups x) in let dx : ℕ = ring.value env (downs x) in
      let uy : ℕ = ring.value env (ups y) in let dy : ℕ = ring.value env (downs y) in
      let ul : ℕ = ring.value env (ups l) in let dl : ℕ = ring.value env (downs l) in
      let ur : ℕ = ring.value env (ups r) in let dr : ℕ = ring.value env (downs r) in
      let vx : ℕ = value x in let vy : ℕ = value y in let vl : ℕ = value l in let vr : ℕ = value r in
      let p : ux + dy + (ur + dl) ≡ uy + dx + (ul + dr)
      = ring.ring env (left_side l r x y) (right_side l r x y) e in
      since (plus (sound x fx) (plus (modulo.back (sound y fy)) (plus (modulo.back (sound l f)) (plus (sound r g) h)))) vx vy (omega arith)

  -- with nothing given
  pub solved : (x y : Expr) → Fine x → Fine y → Alike (lit 0) (lit 0) x y → Cong N (value x) (value y)
  solved x y fx fy e = follows nothing x y fx fy e
