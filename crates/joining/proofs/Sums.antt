-- Sums and differences in an output group, each solved by counting.
use Rattle.std.proofs.Common.{◌≡◌, Bool, true, false, cond, not, [], ◌∷◌, arith}
use Rattle.group.specs.Groups.{GroupLaws}
use Rattle.algebra.proofs.Linear.{Term, var, none, plus, minus, linear}

module _ {M : Type 0} {z : M} {f : M → M → M} {i : M → M} (l : GroupLaws z f i) where
  pub cancel_r : (x : M) → f x (i x) ≡ z
  cancel_r x = linear l (x ∷ []) (plus (var 0) (minus (var 0))) none (omega arith)

  pub both_add : (a b c : M) → f (f a c) (i (f b c)) ≡ f a (i b)
  both_add a b c =
      linear l (a ∷ b ∷ c ∷ []) (plus (plus (var 0) (var 2)) (minus (plus (var 1) (var 2)))) (plus (var 0) (minus (var 1))) (omega arith)

  -- one row's part of both boxes, of which exactly one adds v
  pub step_sum : (t : Bool) (a b c d v : M)
      → f (cond (not t) (f (f a c) v) (f a c)) (i (cond t (f (f b d) v) (f b d))) ≡ f (f (f a (i b)) (f c (i d))) (cond t (i v) v)
  step_sum true a b c d v =
      linear l (a ∷ b ∷ c ∷ d ∷ v ∷ [])
      (plus (plus (var 0) (var 2)) (minus (plus (plus (var 1) (var 3)) (var 4))))
      (plus (plus (plus (var 0) (minus (var 1))) (plus (var 2) (minus (var 3)))) (minus (var 4))) (omega arith)
  step_sum false a b c d v =
      linear l (a ∷ b ∷ c ∷ d ∷ v ∷ [])
      (plus (plus (plus (var 0) (var 2)) (var 4)) (minus (plus (var 1) (var 3))))
      (plus (plus (plus (var 0) (minus (var 1))) (plus (var 2) (minus (var 3)))) (var 4)) (omega arith)

  -- what is apart and the difference of the draws, with what cancels them
  abbrev gap : Term
  gap = plus (plus (var 2) (minus (var 1))) (minus (var 0))

  abbrev drawn : Term
  drawn = plus (var 0) (plus (var 1) (minus (var 2)))

  pub gone_signed : (t : Bool) (s c d : M)
      → (let k : M = f (f d (i c)) (i s) in let sk : M = cond t (i k) k in f (f s (f c (i d))) (cond t (i sk) sk)) ≡ z
  gone_signed true s c d = linear l (s ∷ c ∷ d ∷ []) (plus drawn (minus (minus gap))) none (omega arith)
  gone_signed false s c d = linear l (s ∷ c ∷ d ∷ []) (plus drawn gap) none (omega arith)

  -- the same with a payload on top
  pub left_over : (t : Bool) (s c d β : M)
      → (let k : M = f (f d (i c)) (i s) in let v : M = f (cond t (i k) k) (cond t (i β) β) in f (f s (f c (i d))) (cond t (i v) v)) ≡ β
  left_over true s c d β = linear l (s ∷ c ∷ d ∷ β ∷ []) (plus drawn (minus (plus (minus gap) (minus (var 3))))) (var 3) (omega arith)
  left_over false s c d β = linear l (s ∷ c ∷ d ∷ β ∷ []) (plus drawn (plus gap (var 3))) (var 3) (omega arith)
