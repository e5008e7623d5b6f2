-- The interval rule on masked numbers: N is how many numbers there are, r the mask, m the held value, p and q the ends.
use Rattle.std.specs.Prelude.{◌≡◌, ℕ, ◌+◌, ◌-◌, ◌%◌, ◌<◌, ◌≤◌, Bool, cond, ◌&&◌, ◌==◌, nat_le, nat_lt}
use Rattle.group.specs.Groups.{OutputGroup, minus}

-- 1 if the test holds, otherwise 0
abbrev pub bit : Bool → ℕ
bit b = cond b 1 0

-- the comparison key's threshold
abbrev pub threshold : ℕ → ℕ → ℕ
threshold N r = (r + (N - 1)) % N

-- where the key is asked about an end x
abbrev pub point : ℕ → ℕ → ℕ → ℕ
point N m x = (m + (N - 1 - x)) % N

-- the number after q; after the last one it is 0
abbrev pub after : ℕ → ℕ → ℕ
after N q = (q + 1) % N

-- a number with the mask on it: the held value of the plain value x
abbrev pub masked : ℕ → ℕ → ℕ → ℕ
masked N r x = (x + r) % N

-- the plain value of the held value m
abbrev pub plain : ℕ → ℕ → ℕ → ℕ
plain N r m = (m + (N - r)) % N

-- p ≤ v ≤ q
abbrev pub inside : ℕ → ℕ → ℕ → Bool
inside p q v = nat_le p v && nat_le v q

module _ {M : Type 0} (g : OutputGroup M) where
  -- x once if b holds, otherwise zero
  abbrev pub taken : Bool → M → M
  taken b x = cond b x g.zero

  -- x once if a holds, less once if b holds
  abbrev pub net : Bool → Bool → M → M
  net a b x = minus g (taken a x) (taken b x)

  -- E: the payload β once for each of P > Q, Q' > q' and Q = N − 1, and less once for P > p
  -- and P, Q and Q' are p, q and q' with the mask on them
  abbrev pub extra : ℕ → ℕ → ℕ → ℕ → M → M
  extra N r p q β =
      g.sum
      (g.sum (net (nat_lt (masked N r q) (masked N r p)) (nat_lt p (masked N r p)) β) (taken (nat_lt (after N q) (masked N r (after N q))) β))
      (taken (masked N r q == N - 1) β)

  -- a box's answer, from its shares of the payload and of E and its key's answer at a point
  abbrev pub answer : ℕ → ℕ → ℕ → ℕ → M → M → (ℕ → M) → M
  answer N m p q share more key =
      g.sum (g.sum (minus g (net (nat_lt p m) (nat_lt (after N q) m) share) (key (point N m p))) (key (point N m (after N q)))) more

  -- two boxes' key answers join to the payload below the threshold and to zero elsewhere
  abbrev pub KeysJoin : ℕ → ℕ → M → (ℕ → M) → (ℕ → M) → Type 0
  KeysJoin N α β key0 key1 = (x : ℕ) → x < N → g.sum (key0 x) (key1 x) ≡ taken (nat_lt x α) β

  -- the boxes' answers join to the payload if the plain value is in the interval, and otherwise to zero
  abbrev pub IntervalJoins : Type 0
  IntervalJoins =
      (N m r p q : ℕ) → m < N → r < N → p ≤ q → q < N
      → (β share0 share1 more0 more1 : M) (key0 key1 : ℕ → M)
      → g.sum share0 share1 ≡ β
      → g.sum more0 more1 ≡ extra N r p q β
      → KeysJoin N (threshold N r) β key0 key1
      → g.sum (answer N m p q share0 more0 key0) (answer N m p q share1 more1 key1) ≡ taken (inside p q (plain N r m)) β

  -- whatever the mask and the lower end, E is the payload if q = N − 1, and otherwise zero
  abbrev pub ExtraTaken : Type 0
  ExtraTaken = (N r p q : ℕ) → r < N → p ≤ q → q < N → (β : M) → extra N r p q β ≡ taken (q == N - 1) β

-- the count of E is 1 if q = N − 1, and otherwise 0
abbrev pub ExtraCount : Type 0
ExtraCount =
    (N r p q : ℕ) → r < N → p ≤ q → q < N
    → bit (nat_lt (masked N r q) (masked N r p)) + bit (nat_lt (after N q) (masked N r (after N q))) + bit (masked N r q == N - 1)
    ≡ bit (q == N - 1) + bit (nat_lt p (masked N r p))
