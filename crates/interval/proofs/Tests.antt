-- Remainders below twice the divisor, and tests as counts, each as the cases that omega takes.
use Rattle.std.proofs.Common.{◌≡◌, ℕ, ◌+◌, ◌-◌, ◌%◌, ◌<◌, ◌≤◌, eqb, ltb, leb, ◌⊎◌, ap, ◌∙◌, inl, inr, mod-eq_of_lt, arith}
use native.Mathlib.Nat.{add-mod_right}
use Rattle.std.proofs.lemmas.Bool.{lt-ltb, le-ltb, cases_lt, le-leb, lt-leb, eq-eqb, ne_eqb, cases_eq, and_left, and_right, and_from}
use Rattle.interval.specs.Interval.{bit, inside}

-- a remainder of what is below twice the divisor
pub wrap : (a N : ℕ) → a < N + N → ((a < N) × (a % N ≡ a)) ⊎ ((N ≤ a) × (a % N + N ≡ a))
wrap a N h = elim (cases_lt a N) [
  | inl k ↦ inl (k, mod-eq_of_lt k)
  | inr k ↦ inr (
    k,
    (let b : ℕ = a - N in
        let e : a ≡ b + N = omega arith in
        let s : b < N = omega arith in
        let f : a % N ≡ b = ap (λ n. n % N) e ∙ add-mod_right b N ∙ mod-eq_of_lt s in omega arith),
  )
]

pub tell_lt : (a b : ℕ) → ((a < b) × (bit (ltb a b) ≡ 1)) ⊎ ((b ≤ a) × (bit (ltb a b) ≡ 0))
tell_lt a b = elim (cases_lt a b) [ inl h ↦ inl (h, ap bit (lt-ltb a b h)) | inr h ↦ inr (h, ap bit (le-ltb a b h)) ]

pub tell_eq : (a b : ℕ) → ((a ≡ b) × (bit (eqb a b) ≡ 1)) ⊎ (((a < b) ⊎ (b < a)) × (bit (eqb a b) ≡ 0))
tell_eq a b = elim (cases_eq a b) [
  | inl h ↦ inl (h, ap bit (eq-eqb a b h))
  | inr h ↦ inr (elim (cases_lt a b) [ inl k ↦ inl k | inr k ↦ inr (omega arith) ], ap bit (ne_eqb a b h))
]

pub tell_le : (a b : ℕ) → ((a ≤ b) × (bit (leb a b) ≡ 1)) ⊎ ((b < a) × (bit (leb a b) ≡ 0))
tell_le a b = elim (cases_lt b a) [ inl h ↦ inr (h, ap bit (lt-leb a b h)) | inr h ↦ inl (h, ap bit (le-leb a b h)) ]

pub tell_inside : (p q v : ℕ)
    → ((p ≤ v) × (v ≤ q) × (bit (inside p q v) ≡ 1)) ⊎ (((v < p) × (bit (inside p q v) ≡ 0)) ⊎ ((q < v) × (bit (inside p q v) ≡ 0)))
tell_inside p q v = elim (cases_lt v p) [
  | inl h ↦ inr (inl (h, ap bit (and_left (leb p v) (leb v q) (lt-leb p v h))))
  | inr h ↦ elim (cases_lt q v) [
    | inl k ↦ inr (inr (k, ap bit (and_right (leb p v) (leb v q) (lt-leb v q k))))
    | inr k ↦ inl (h, k, ap bit (and_from (leb p v) (leb v q) (le-leb p v h) (le-leb v q k)))
  ]
]
