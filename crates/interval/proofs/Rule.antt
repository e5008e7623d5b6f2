-- Two boxes' answers by the interval rule join to the payload inside the interval, and to zero outside.
use Rattle.std.proofs.Common.{◌≡◌, ℕ, ◌+◌, ◌-◌, ◌<◌, Bool, true, false, cond, eqb, ltb, [], ◌∷◌, refl, ◌∙◌, mod-lt, arith}
use Rattle.group.specs.Groups.{OutputGroup, GroupLaws}
use Rattle.algebra.proofs.Multiples.{times, times_bit}
use Rattle.algebra.proofs.Linear.{Term, var, plus, minus, many, linear}
use Rattle.interval.specs.Interval.{bit, point, threshold, masked, plain, after, inside, taken, IntervalJoins, ExtraTaken}
use Rattle.interval.proofs.Ends.{counts, extra_count}

module _ {M : Type 0} {z : M} {f : M → M → M} {i : M → M} (l : GroupLaws z f i) where
  -- both boxes' sums, part by part
  regroup : (a0 a1 b0 b1 k0 k1 j0 j1 e0 e1 : M)
      → f (f (f (f (f a0 (i b0)) (i k0)) j0) e0) (f (f (f (f a1 (i b1)) (i k1)) j1) e1)
      ≡ f (f (f (f (f a0 a1) (i (f b0 b1))) (i (f k0 k1))) (f j0 j1)) (f e0 e1)
  regroup a0 a1 b0 b1 k0 k1 j0 j1 e0 e1 =
      let side : Term → Term → Term → Term → Term → Term = λ a b k j e. plus (plus (plus (plus a (minus b)) (minus k)) j) e in
      linear l (a0 ∷ a1 ∷ b0 ∷ b1 ∷ k0 ∷ k1 ∷ j0 ∷ j1 ∷ e0 ∷ e1 ∷ [])
      (plus (side (var 0) (var 2) (var 4) (var 6) (var 8)) (side (var 1) (var 3) (var 5) (var 7) (var 9)))
      (side (plus (var 0) (var 1)) (plus (var 2) (var 3)) (plus (var 4) (var 5)) (plus (var 6) (var 7)) (plus (var 8) (var 9)))
      (omega arith)

  both_taken : (b : Bool) (x y : M) → f (cond b x z) (cond b y z) ≡ cond b (f x y) z
  both_taken true x y = refl
  both_taken false x y = l.neutral z

  -- one element, taken as often on both sides
  counted : (a b c d e k g h w : Bool) (β : M) → bit a + bit d + bit e + bit g + bit h ≡ bit w + bit b + bit c + bit k
      → f (f (f (f (cond a β z) (i (cond b β z))) (i (cond c β z))) (cond d β z))
      (f (f (f (cond e β z) (i (cond k β z))) (cond g β z)) (cond h β z))
      ≡ cond w β z
  counted a b c d e k g h w β n =
      let t : (b : Bool) → times z f (bit b) β ≡ cond b β z = λ b. times_bit l b β in
      let one : Bool → Term = λ b. many (bit b) (var 0) in
      let s = linear l (β ∷ [])
      (plus (plus (plus (plus (one a) (minus (one b))) (minus (one c))) (one d)) (plus (plus (plus (one e) (minus (one k))) (one g)) (one h)))
      (one w) (omega arith) in
      cc (s, t a, t b, t c, t d, t e, t k, t g, t h, t w)

  counted_extra : (a b c d w : Bool) (β : M) → bit a + bit c + bit d ≡ bit w + bit b
      → f (f (f (cond a β z) (i (cond b β z))) (cond c β z)) (cond d β z) ≡ cond w β z
  counted_extra a b c d w β n =
      let t : (b : Bool) → times z f (bit b) β ≡ cond b β z = λ b. times_bit l b β in
      let one : Bool → Term = λ b. many (bit b) (var 0) in
      let s = linear l (β ∷ []) (plus (plus (plus (one a) (minus (one b))) (one c)) (one d)) (one w) (omega arith) in
      cc (s, t a, t b, t c, t d, t w)

module _ {M : Type 0} (g : OutputGroup M) where
  pub extra_taken : ExtraTaken g
  extra_taken N r p q hr hp hq β =
      counted_extra g.laws
      (ltb (masked N r q) (masked N r p)) (ltb p (masked N r p)) (ltb (after N q) (masked N r (after N q))) (eqb (masked N r q) (N - 1))
      (eqb q (N - 1)) β (extra_count N r p q hr hp hq)

  pub interval_joins : IntervalJoins g
  interval_joins N m r p q hm hr hp hq β share0 share1 more0 more1 key0 key1 es ee ek =
      let up : Bool = ltb p m in
      let down : Bool = ltb (after N q) m in
      let x : ℕ = point N m p in
      let y : ℕ = point N m (after N q) in
      let positive : 0 < N = omega arith in
      let el = ek x (mod-lt (m + (N - 1 - p)) positive) in
      let eh = ek y (mod-lt (m + (N - 1 - after N q)) positive) in
      regroup g.laws (taken g up share0) (taken g up share1) (taken g down share0) (taken g down share1)
      (key0 x) (key1 x) (key0 y) (key1 y) more0 more1
      ∙ cc (both_taken g.laws up share0 share1, both_taken g.laws down share0 share1, es, ee, el, eh)
      ∙ counted g.laws up down (ltb x (threshold N r)) (ltb y (threshold N r))
      (ltb (masked N r q) (masked N r p)) (ltb p (masked N r p)) (ltb (after N q) (masked N r (after N q))) (eqb (masked N r q) (N - 1))
      (inside p q (plain N r m)) β (counts N m r p q hm hr hp hq)
