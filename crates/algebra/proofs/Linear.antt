-- Equations of sums, inverses and multiples in any commutative group, by counting each variable.
use Rattle.std.proofs.Common.{◌≡◌, ℕ, zero, suc, ◌+◌, ◌*◌, List, [], ◌∷◌, sym, refl, ap, ◌∙◌}
use Rattle.group.specs.Groups.{GroupLaws}
use Rattle.algebra.proofs.Multiples.{neutral_r, inter, cancel_left, drop_left, times, times_none, times_add, times_sum, times_times}

pub data Term : Type 0 where
  var : ℕ → Term
  none : Term
  plus : Term → Term → Term
  minus : Term → Term
  many : ℕ → Term → Term

-- counts by variable
abbrev pub unit : ℕ → List ℕ
unit zero = 1 ∷ []
unit (suc n) = 0 ∷ unit n

abbrev pub both : List ℕ → List ℕ → List ℕ
both [] ys = ys
both (x ∷ xs) [] = x ∷ xs
both (x ∷ xs) (y ∷ ys) = (x + y) ∷ both xs ys

abbrev pub scaled : ℕ → List ℕ → List ℕ
scaled k [] = []
scaled k (x ∷ xs) = (k * x) ∷ scaled k xs

abbrev mutual
  pub ups : Term → List ℕ
  ups (var n) = unit n
  ups none = []
  ups (plus a b) = both (ups a) (ups b)
  ups (minus a) = downs a
  ups (many k a) = scaled k (ups a)

  pub downs : Term → List ℕ
  downs (var n) = []
  downs none = []
  downs (plus a b) = both (downs a) (downs b)
  downs (minus a) = ups a
  downs (many k a) = scaled k (downs a)

abbrev pub Same : List ℕ → List ℕ → Type 0
Same [] [] = Unit
Same [] (y ∷ ys) = (y ≡ 0) × Same [] ys
Same (x ∷ xs) [] = (x ≡ 0) × Same xs []
Same (x ∷ xs) (y ∷ ys) = (x ≡ y) × Same xs ys

abbrev pub Holds : Term → Term → Type 0
Holds a b = Same (both (ups a) (downs b)) (both (ups b) (downs a))

module _ {M : Type 0} (z : M) (f : M → M → M) (i : M → M) where
  abbrev pub look : List M → ℕ → M
  look [] n = z
  look (x ∷ xs) zero = x
  look (x ∷ xs) (suc n) = look xs n

  abbrev pub value : List M → Term → M
  value env (var n) = look env n
  value env none = z
  value env (plus a b) = f (value env a) (value env b)
  value env (minus a) = i (value env a)
  value env (many k a) = times z f k (value env a)

  abbrev total : List ℕ → List M → M
  total [] env = z
  total (c ∷ cs) [] = z
  total (c ∷ cs) (x ∷ xs) = f (times z f c x) (total cs xs)

module _ {M : Type 0} {z : M} {f : M → M → M} {i : M → M} (l : GroupLaws z f i) where
  total_unit : (n : ℕ) (env : List M) → look z f i env n ≡ total z f i (unit n) env
  total_unit zero [] = refl
  total_unit (suc n) [] = refl
  total_unit zero (x ∷ xs) = sym (neutral_r l (f x z) ∙ neutral_r l x)
  total_unit (suc n) (x ∷ xs) = total_unit n xs ∙ sym (l.neutral (total z f i (unit n) xs))

  total_both : (cs ds : List ℕ) (env : List M) → total z f i (both cs ds) env ≡ f (total z f i cs env) (total z f i ds env)
  total_both [] ds env = sym (l.neutral (total z f i ds env))
  total_both (a ∷ cs) [] env = sym (neutral_r l (total z f i (a ∷ cs) env))
  total_both (a ∷ cs) (b ∷ ds) [] = sym (l.neutral z)
  total_both (a ∷ cs) (b ∷ ds) (x ∷ xs) =
      ap (λ t. f t (total z f i (both cs ds) xs)) (times_add l a b x)
      ∙ ap (f (f (times z f a x) (times z f b x))) (total_both cs ds xs)
      ∙ inter l (times z f a x) (times z f b x) (total z f i cs xs) (total z f i ds xs)

  total_scaled : (k : ℕ) (cs : List ℕ) (env : List M) → total z f i (scaled k cs) env ≡ times z f k (total z f i cs env)
  total_scaled k [] env = sym (times_none l k)
  total_scaled k (a ∷ cs) [] = sym (times_none l k)
  total_scaled k (a ∷ cs) (x ∷ xs) =
      ap (λ t. f t (total z f i (scaled k cs) xs)) (times_times l k a x)
      ∙ ap (f (times z f k (times z f a x))) (total_scaled k cs xs)
      ∙ sym (times_sum l k (times z f a x) (total z f i cs xs))

  counted_as : (a b : ℕ) (x t : M) → a ≡ b → f (times z f a x) t ≡ f (times z f b x) t
  counted_as a b x t e = ap (λ n. f (times z f n x) t) e

  counted_none : (a : ℕ) (x t : M) → a ≡ 0 → f (times z f a x) t ≡ t
  counted_none a x t e = counted_as a 0 x t e ∙ l.neutral t

  total_same : (cs ds : List ℕ) (env : List M) → Same cs ds → total z f i cs env ≡ total z f i ds env
  total_same [] [] env s = refl
  total_same [] (b ∷ ds) [] s = refl
  total_same [] (b ∷ ds) (x ∷ xs) s = total_same [] ds xs s.1 ∙ sym (counted_none b x (total z f i ds xs) s.0)
  total_same (a ∷ cs) [] [] s = refl
  total_same (a ∷ cs) [] (x ∷ xs) s = counted_none a x (total z f i cs xs) s.0 ∙ total_same cs [] xs s.1
  total_same (a ∷ cs) (b ∷ ds) [] s = refl
  total_same (a ∷ cs) (b ∷ ds) (x ∷ xs) s =
      counted_as a b x (total z f i cs xs) s.0 ∙ ap (f (times z f b x)) (total_same cs ds xs s.1)

  sound : (env : List M) (t : Term) → f (value z f i env t) (total z f i (downs t) env) ≡ total z f i (ups t) env
  sound env (var n) = neutral_r l (look z f i env n) ∙ total_unit n env
  sound env none = l.neutral z
  sound env (plus a b) =
      ap (f (f (value z f i env a) (value z f i env b))) (total_both (downs a) (downs b) env)
      ∙ inter l (value z f i env a) (value z f i env b) (total z f i (downs a) env) (total z f i (downs b) env)
      ∙ ap (λ t. f t (f (value z f i env b) (total z f i (downs b) env))) (sound env a)
      ∙ ap (f (total z f i (ups a) env)) (sound env b)
      ∙ sym (total_both (ups a) (ups b) env)
  sound env (minus a) = ap (f (i (value z f i env a))) (sym (sound env a)) ∙ cancel_left l (value z f i env a) (total z f i (downs a) env)
  sound env (many k a) =
      ap (f (times z f k (value z f i env a))) (total_scaled k (downs a) env)
      ∙ sym (times_sum l k (value z f i env a) (total z f i (downs a) env))
      ∙ ap (times z f k) (sound env a)
      ∙ sym (total_scaled k (ups a) env)

  -- two terms with the same counts are equal in every commutative group
  pub linear : (env : List M) (a b : Term) → Holds a b → value z f i env a ≡ value z f i env b
  linear env a b s =
      let va : M = value z f i env a in
      let vb : M = value z f i env b in
      let na : M = total z f i (downs a) env in
      let nb : M = total z f i (downs b) env in
      drop_left l (f na nb) va vb
      (l.comm (f na nb) va ∙ sym (l.assoc va na nb) ∙ ap (λ t. f t nb) (sound env a)
      ∙ sym (total_both (ups a) (downs b) env)
      ∙ total_same (both (ups a) (downs b)) (both (ups b) (downs a)) env s
      ∙ total_both (ups b) (downs a) env
      ∙ ap (λ t. f t na) (sym (sound env b)) ∙ l.assoc vb nb na ∙ ap (f vb) (l.comm nb na) ∙ l.comm vb (f na nb))
