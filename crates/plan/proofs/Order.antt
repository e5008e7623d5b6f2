-- Which of two values counts as smaller.
use Rattle.std.proofs.Common.{◌≡◌, ℕ, ◌+◌, ◌-◌, ◌*◌, ◌/◌, ◌%◌, ◌^◌, ◌<◌, ◌≤◌, Bool, true, false, cond, ◌&&◌, leb, sym, refl, ap, ◌∙◌, mod-lt, add-mul, one-mul, arith, pow_pos}
use Rattle.std.proofs.lemmas.Bool.Decides.{nat_tests}
use Rattle.algebra.proofs.Modulo.{Cong, is, plus, same, then, back, reduced, multiple, since}
use Rattle.interval.specs.Interval.{inside}
use Rattle.plan.specs.Order.{SmallerIsTold}

-- (N − 1) × b is N − b modulo N
negated : (N b : ℕ) → 1 ≤ N → b < N → Cong N ((N - 1) * b + 0) (N - b)
negated N b h l =
    let e : (N - 1 + 1) * b ≡ (N - 1) * b + 1 * b = add-mul (N - 1) 1 b in
    let o : 1 * b ≡ b = one-mul b in
    let m : N - 1 + 1 ≡ N = omega arith in
    let t : N * b ≡ (N - 1) * b + b = ap (λ k. k * b) (sym m) ∙ e ∙ ap (λ k. (N - 1) * b + k) o in
    since {N = N} (then (multiple b) (back (multiple 1))) ((N - 1) * b + 0) (N - b) (omega arith)

apart : (N a b : ℕ) → 1 ≤ N → b < N → (a + ((N - 1) * b + 0) % N) % N ≡ (a + (N - b)) % N
apart N a b h l = is {N = N} (plus same (then (reduced ((N - 1) * b + 0)) (negated N b h l)))

-- up to N − 1 is no bound for a remainder
up_to_last : (N v : ℕ) → v < N → inside (N / 2) (N - 1) v ≡ leb (N / 2) v
up_to_last N v h =
    let t : leb v (N - 1) ≡ true = grind (arith, nat_tests) in
    ap (λ b. leb (N / 2) v && b) t ∙ and_true (leb (N / 2) v)
  where
    and_true : (b : Bool) → (b && true) ≡ b
    and_true true = refl
    and_true false = refl

pub smaller_is_told : SmallerIsTold
smaller_is_told n t a b la lb =
    let N = 2 ^ n in
    let pos : 1 ≤ N = pow_pos n in
    let v = (a + ((N - 1) * b + 0) % N) % N in
    ap (λ c. cond c t 0) (up_to_last N v (mod-lt (a + ((N - 1) * b + 0) % N) pos) ∙ ap (leb (N / 2)) (apart N a b pos lb))
