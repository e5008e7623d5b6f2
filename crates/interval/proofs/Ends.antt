-- The two ends of an interval on masked numbers.
use Rattle.std.proofs.Common.{◌≡◌, ℕ, ◌+◌, ◌-◌, ◌<◌, ◌≤◌, eqb, ltb, leb, arith}
use Rattle.interval.specs.Interval.{bit, point, threshold, masked, plain, after, inside, ExtraCount}
use Rattle.interval.proofs.Tests.{wrap, tell_lt, tell_eq, tell_le, tell_inside}

-- one end: the key tells whether the plain value is below it, up to two counts that boxes and dealer know
end_lt : (N m r x : ℕ) → m < N → r < N → x < N
    → bit (ltb x m) + bit (ltb m r) + bit (ltb (plain N r m) x) ≡ bit (ltb (point N m x) (threshold N r)) + bit (ltb 0 r)
end_lt N m r x hm hr hx =
    omega (
      arith,
      wrap (m + (N - r)) N (omega arith),
      wrap (m + (N - 1 - x)) N (omega arith),
      wrap (r + (N - 1)) N (omega arith),
      tell_lt x m,
      tell_lt m r,
      tell_lt (plain N r m) x,
      tell_lt (point N m x) (threshold N r),
      tell_lt 0 r,
    )

-- a masked end is above the end or has wrapped, unless the mask is zero
above : (N r x : ℕ) → r < N → x < N → bit (ltb x (masked N r x)) + bit (leb N (x + r)) ≡ bit (ltb 0 r)
above N r x hr hx = omega (arith, wrap (x + r) N (omega arith), tell_lt x (masked N r x), tell_le N (x + r), tell_lt 0 r)

-- the masked ends change places exactly where one of them wraps alone
wraps : (N r p q : ℕ) → r < N → p ≤ q → q < N
    → bit (ltb (masked N r q) (masked N r p)) + bit (leb N (p + r)) + bit (eqb (masked N r q) (N - 1))
    ≡ bit (leb N (after N q + r)) + bit (eqb q (N - 1))
wraps N r p q hr hp hq =
    omega (
      arith,
      wrap (q + 1) N (omega arith),
      wrap (p + r) N (omega arith),
      wrap (q + r) N (omega arith),
      tell_lt (masked N r q) (masked N r p),
      tell_le N (p + r),
      tell_eq (masked N r q) (N - 1),
      tell_le N (after N q + r),
      tell_eq q (N - 1),
    )

after_lt : (N q : ℕ) → q < N → after N q < N
after_lt N q h = omega (arith, wrap (q + 1) N (omega arith))

pub extra_count : ExtraCount
extra_count N r p q hr hp hq =
    let a = above N r p hr (omega arith) in
    let b = above N r (after N q) hr (after_lt N q hq) in
    let c = wraps N r p q hr hp hq in
    omega arith

-- from p to q: not below p, and below the number after q or q is the last
within : (N p q v : ℕ) → p ≤ q → q < N → v < N
    → bit (inside p q v) + bit (ltb v p) ≡ bit (ltb v (after N q)) + bit (eqb q (N - 1))
within N p q v hp hq hv =
    omega (arith, wrap (q + 1) N (omega arith), tell_inside p q v, tell_lt v p, tell_lt v (after N q), tell_eq q (N - 1))

-- the whole interval rule, over counts
pub counts : (N m r p q : ℕ) → m < N → r < N → p ≤ q → q < N
    → bit (ltb p m) + bit (ltb (point N m (after N q)) (threshold N r)) + bit (ltb (masked N r q) (masked N r p))
    + bit (ltb (after N q) (masked N r (after N q))) + bit (eqb (masked N r q) (N - 1))
    ≡ bit (inside p q (plain N r m)) + bit (ltb (after N q) m) + bit (ltb (point N m p) (threshold N r)) + bit (ltb p (masked N r p))
counts N m r p q hm hr hp hq =
    let hv : plain N r m < N = omega (arith, wrap (m + (N - r)) N (omega arith)) in
    let a = end_lt N m r p hm hr (omega arith) in
    let b = end_lt N m r (after N q) hm hr (after_lt N q hq) in
    let c = extra_count N r p q hr hp hq in
    let d = within N p q (plain N r m) hp hq hv in
    omega arith
