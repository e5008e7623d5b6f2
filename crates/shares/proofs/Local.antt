-- The local gates' held values, under their masks, are the plain meanings of the inputs.
use Rattle.std.proofs.Common.{◌≡◌, ℕ, ◌+◌, ◌-◌, ◌*◌, ◌%◌, ◌<◌, sym, ◌∙◌, mod-lt, arith}
use native.Mathlib.Nat.{mod-mod}
use Rattle.algebra.proofs.Modulo.{Cong, is, back, plus, times, since, reduced}
use Rattle.interval.specs.Interval.{plain}
use Rattle.shares.specs.Local.{sum_of, scale_of, scale_mask}
use Rattle.shares.specs.Laws.{SumIsPlain, ScaleIsPlain}
use Rattle.shares.proofs.Splits.{plain_is}

-- a plain value is its own remainder
plain_remainder : (N r m a : ℕ) → Cong N (plain N r m) a → plain N r m ≡ a % N
plain_remainder N r m a e = sym (mod-mod (m + (N - r)) N) ∙ is e

pub sum_is_plain : SumIsPlain
sum_is_plain N m k r s hr hs =
    let R : ℕ = sum_of N r s in let M : ℕ = sum_of N m k in
    let small : R < N = mod-lt (r + s) (omega arith) in
    plain_remainder N R M (plain N r m + plain N s k)
    (since (plus (plain_is N R M (omega arith)) (plus (back (reduced (r + s))) (plus (reduced (m + k))
    (plus (back (plain_is N r m (omega arith))) (back (plain_is N s k (omega arith))))))) _ _ (omega arith))

pub scale_is_plain : ScaleIsPlain
scale_is_plain N c d m r hr =
    let R : ℕ = scale_mask N c r in let M : ℕ = scale_of N c d m in
    let small : R < N = mod-lt (c * r) (omega arith) in
    plain_remainder N R M (c * plain N r m + d)
    (since (plus (plain_is N R M (omega arith)) (plus (back (reduced (c * r))) (plus (reduced (c * m + d))
    (times c (back (plain_is N r m (omega arith))))))) _ _ (omega arith))
