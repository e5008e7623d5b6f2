-- An element taken k times, in a commutative group.
use Rattle.std.proofs.Common.{◌≡◌, ℕ, zero, suc, ◌+◌, ◌*◌, Bool, true, false, cond, sym, refl, ap, ◌∙◌, suc-mul, add_comm, suc-add, zero-add, zero-mul}
use Rattle.group.specs.Groups.{GroupLaws}

module _ {M : Type 0} {z : M} {f : M → M → M} {i : M → M} (l : GroupLaws z f i) where
  pub neutral_r : (x : M) → f x z ≡ x
  neutral_r x = l.comm x z ∙ l.neutral x

  pub inter : (a b c d : M) → f (f a b) (f c d) ≡ f (f a c) (f b d)
  inter a b c d = l.assoc a b (f c d) ∙ ap (f a) (sym (l.assoc b c d) ∙ ap (λ t. f t d) (l.comm b c) ∙ l.assoc c b d) ∙ sym (l.assoc a c (f b d))

  pub cancel_left : (x y : M) → f (i x) (f x y) ≡ y
  cancel_left x y = sym (l.assoc (i x) x y) ∙ ap (λ t. f t y) (l.cancel x) ∙ l.neutral y

  pub drop_left : (x y w : M) → f x y ≡ f x w → y ≡ w
  drop_left x y w e = sym (cancel_left x y) ∙ ap (f (i x)) e ∙ cancel_left x w

abbrev pub times : {M : Type 0} → M → (M → M → M) → ℕ → M → M
times z f zero x = z
times z f (suc k) x = f x (times z f k x)

module _ {M : Type 0} {z : M} {f : M → M → M} {i : M → M} (l : GroupLaws z f i) where
  pub times_none : (k : ℕ) → times z f k z ≡ z
  times_none zero = refl
  times_none (suc k) = l.neutral (times z f k z) ∙ times_none k

  pub times_add : (a b : ℕ) (x : M) → times z f (a + b) x ≡ f (times z f a x) (times z f b x)
  times_add zero b x = ap (λ n. times z f n x) (zero-add b) ∙ sym (l.neutral (times z f b x))
  times_add (suc a) b x = ap (λ n. times z f n x) (suc-add a b) ∙ ap (f x) (times_add a b x) ∙ sym (l.assoc x (times z f a x) (times z f b x))

  pub times_sum : (k : ℕ) (x y : M) → times z f k (f x y) ≡ f (times z f k x) (times z f k y)
  times_sum zero x y = sym (l.neutral z)
  times_sum (suc k) x y = ap (f (f x y)) (times_sum k x y) ∙ inter l x y (times z f k x) (times z f k y)

  pub times_times : (a b : ℕ) (x : M) → times z f (a * b) x ≡ times z f a (times z f b x)
  times_times zero b x = ap (λ n. times z f n x) (zero-mul b)
  times_times (suc a) b x = ap (λ n. times z f n x) (suc-mul a b ∙ add_comm (a * b) b) ∙ times_add b (a * b) x ∙ ap (f (times z f b x)) (times_times a b x)

  pub times_bit : (b : Bool) (x : M) → times z f (cond b 1 0) x ≡ cond b x z
  times_bit true x = neutral_r l x
  times_bit false x = refl
