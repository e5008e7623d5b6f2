-- Polynomial identities over ℕ, by a normal form: a sum of monomials, each a sorted list of variables.
use Rattle.std.proofs.Common.{◌≡◌, ℕ, zero, suc, ◌+◌, ◌*◌, Bool, true, false, cond, ◌&&◌, eqb, ltb, leb, List, [], ◌∷◌, sym, refl, ap, ◌∙◌, inl, inr, ⊎_elim, mul_assoc, one-mul, mul-zero, zero-mul, arith}
use Rattle.std.proofs.lemmas.Bool.{eqb-true, and_parts, cases_Bool, cond-true, cond-false}

pub data Term : Type 0 where
  var : ℕ → Term
  lit : ℕ → Term
  ◌⊕◌ : Term → Term → Term
  ◌⊗◌ : Term → Term → Term

infixl 6 ◌⊕◌
infixl 7 ◌⊗◌
abbrev pub look : List ℕ → ℕ → ℕ
look [] n = 0
look (x ∷ xs) zero = x
look (x ∷ xs) (suc n) = look xs n

abbrev pub value : List ℕ → Term → ℕ
value env (var n) = look env n
value env (lit k) = k
value env (a ⊕ b) = value env a + value env b
value env (a ⊗ b) = value env a * value env b

pub data Poly : Type 0 where
  none : Poly
  more : ℕ → List ℕ → Poly → Poly

abbrev ins : ℕ → List ℕ → List ℕ
ins i [] = i ∷ []
ins i (j ∷ js) = cond (leb i j) (i ∷ (j ∷ js)) (j ∷ ins i js)

abbrev mono : List ℕ → List ℕ → List ℕ
mono [] js = js
mono (i ∷ is) js = ins i (mono is js)

abbrev alike : List ℕ → List ℕ → Bool
alike [] [] = true
alike [] (j ∷ js) = false
alike (i ∷ is) [] = false
alike (i ∷ is) (j ∷ js) = eqb i j && alike is js

abbrev first : List ℕ → List ℕ → Bool
first [] js = true
first (i ∷ is) [] = false
first (i ∷ is) (j ∷ js) = cond (eqb i j) (first is js) (ltb i j)

abbrev put : ℕ → List ℕ → Poly → Poly
put c is none = more c is none
put c is (more d js p) = cond (alike is js) (more (c + d) js p) (cond (first is js) (more c is (more d js p)) (more d js (put c is p)))

abbrev sums : Poly → Poly → Poly
sums none q = q
sums (more c is p) q = put c is (sums p q)

abbrev scale : ℕ → List ℕ → Poly → Poly
scale c is none = none
scale c is (more d js p) = put (c * d) (mono is js) (scale c is p)

abbrev products : Poly → Poly → Poly
products none q = none
products (more c is p) q = sums (scale c is q) (products p q)

abbrev pub norm : Term → Poly
norm (var n) = more 1 (n ∷ []) none
norm (lit k) = cond (eqb k 0) none (more k [] none)
norm (a ⊕ b) = sums (norm a) (norm b)
norm (a ⊗ b) = products (norm a) (norm b)

module _ (env : List ℕ) where
  abbrev mval : List ℕ → ℕ
  mval [] = 1
  mval (i ∷ is) = look env i * mval is

  abbrev pval : Poly → ℕ
  pval none = 0
  pval (more c is p) = c * mval is + pval p

  ins_is : (i : ℕ) (js : List ℕ) → mval (ins i js) ≡ look env i * mval js
  ins_is i [] = refl
  ins_is i (j ∷ js) = elim (leb i j) as (λ b. mval (cond b (i ∷ (j ∷ js)) (j ∷ ins i js)) ≡ look env i * (look env j * mval js)) [
    | true ↦ refl
    | false ↦ ap (λ n. look env j * n) (ins_is i js) ∙ omega arith
  ]

  mono_is : (is js : List ℕ) → mval (mono is js) ≡ mval is * mval js
  mono_is [] js = sym (one-mul (mval js))
  mono_is (i ∷ is) js = ins_is i (mono is js) ∙ ap (λ n. look env i * n) (mono_is is js) ∙ sym (mul_assoc (look env i) (mval is) (mval js))

  alike_is : (is js : List ℕ) → alike is js ≡ true → mval is ≡ mval js
  alike_is [] [] e = refl
  alike_is [] (j ∷ js) e = absurd (let w : ◌≡◌ {A = ℕ} 0 1 = cc in omega arith)
  alike_is (i ∷ is) [] e = absurd (let w : ◌≡◌ {A = ℕ} 0 1 = cc in omega arith)
  alike_is (i ∷ is) (j ∷ js) e =
      let h = and_parts (eqb i j) (alike is js) e in
      ap (λ n. look env n * mval is) (eqb-true i j h.0) ∙ ap (λ n. look env j * n) (alike_is is js h.1)

  put_is : (c : ℕ) (is : List ℕ) (p : Poly) → pval (put c is p) ≡ c * mval is + pval p
  put_is c is none = refl
  put_is c is (more d js p) = ⊎_elim
      (λ e. ap pval (cond-true (alike is js) _ _ e) ∙ (let s : c * mval is ≡ c * mval js = ap (λ n. c * n) (alike_is is js e) in omega arith))
      (λ e. ap pval (cond-false (alike is js) _ _ e)
      ∙ elim (first is js) as (λ b. pval (cond b (more c is (more d js p)) (more d js (put c is p))) ≡ c * mval is + (d * mval js + pval p)) [
        | true ↦ refl
        | false ↦ (let s : pval (put c is p) ≡ c * mval is + pval p = put_is c is p in omega arith)
      ])
      (cases_Bool (alike is js))

  sums_is : (p q : Poly) → pval (sums p q) ≡ pval p + pval q
  sums_is none q = omega arith
  sums_is (more c is p) q = put_is c is (sums p q) ∙ (let s : pval (sums p q) ≡ pval p + pval q = sums_is p q in omega arith)

  scale_is : (c : ℕ) (is : List ℕ) (q : Poly) → pval (scale c is q) ≡ c * mval is * pval q
  scale_is c is none = sym (mul-zero (c * mval is))
  scale_is c is (more d js q) =
      put_is (c * d) (mono is js) (scale c is q)
      ∙ ap (λ n. c * d * n + pval (scale c is q)) (mono_is is js)
      ∙ ap (λ n. c * d * (mval is * mval js) + n) (scale_is c is q)
      ∙ omega arith

  products_is : (p q : Poly) → pval (products p q) ≡ pval p * pval q
  products_is none q = sym (zero-mul (pval q))
  products_is (more c is p) q =
      sums_is (scale c is q) (products p q)
      ∙ ap (λ n. n + pval (products p q)) (scale_is c is q)
      ∙ ap (λ n. c * mval is * pval q + n) (products_is p q)
      ∙ omega arith

  norm_is : (t : Term) → value env t ≡ pval (norm t)
  norm_is (var n) = omega arith
  norm_is (lit k) = elim (cases_Bool (eqb k 0)) [
    | inl e ↦ eqb-true k 0 e ∙ sym (ap pval (cond-true (eqb k 0) none (more k [] none) e))
    | inr e ↦ sym (ap pval (cond-false (eqb k 0) none (more k [] none) e) ∙ omega arith)
  ]
  norm_is (a ⊕ b) = ap (λ n. n + value env b) (norm_is a) ∙ ap (λ n. pval (norm a) + n) (norm_is b) ∙ sym (sums_is (norm a) (norm b))
  norm_is (a ⊗ b) = ap (λ n. n * value env b) (norm_is a) ∙ ap (λ n. pval (norm a) * n) (norm_is b) ∙ sym (products_is (norm a) (norm b))

  -- two terms with one normal form have one value
  pub ring : (a b : Term) → norm a ≡ norm b → value env a ≡ value env b
  ring a b e = norm_is a ∙ ap pval e ∙ sym (norm_is b)
