-- Both boxes' shares of a product join to the product of the plain values under the output mask.
use Rattle.std.proofs.Common.{ℕ, ◌+◌, ◌-◌, ◌*◌, ◌%◌, ◌<◌, true, false, mod-lt, arith}
use Rattle.algebra.proofs.Modulo.{Cong, is, same, back, then, plus, times, since, reduced, multiple}
use Rattle.interval.specs.Interval.{plain}
use Rattle.shares.specs.Product.{part_a, part_b, part_c, product_share}
use Rattle.shares.specs.Laws.{ProductJoins}
use Rattle.shares.proofs.Splits.{plain_is, parts_join}

-- c + w − p − q, with remainders taken on the way
difference_is : (N p q c w : ℕ) → 0 < N → Cong N ((c + w % N + (N - p % N) + (N - q % N)) % N + (p + q)) (c + w)
difference_is N p q c w positive =
    let hp : p % N < N = mod-lt p positive in let hq : q % N < N = mod-lt q positive in
    since (plus (reduced (c + w % N + (N - p % N) + (N - q % N)))
    (plus (reduced w) (plus (back (reduced p)) (plus (back (reduced q)) (multiple 2))))) _ _ (omega arith)

-- x = c0 − m·b0 − k·a0 and y = c1 − m·b1 − k·a1 + m·k make the product of the plain values v and w, plus out
shares_make : (N m k r s v w out a0 a1 b0 b1 c0 c1 x y : ℕ)
    → Cong N (v + r) m → Cong N (w + s) k
    → Cong N (a0 + a1) r → Cong N (b0 + b1) s → Cong N (c0 + c1) (r * s + out)
    → Cong N (x + (m * b0 + k * a0)) (c0 + 0) → Cong N (y + (m * b1 + k * a1)) (c1 + m * k)
    → Cong N (x + y) (v * w + out)
shares_make N m k r s v w out a0 a1 b0 b1 c0 c1 x y hm hk ha hb hc hx hy =
    since (plus hx (plus hy (plus hc (plus (times m (back hb)) (plus (times k (back ha))
    (plus (times w (back hm)) (plus (times m (back hk)) (times r hk))))))))
    (x + y) (v * w + out) (omega arith)

pub product_joins : ProductJoins
product_joins N m k r s out ra rb rc hr hs =
    let positive : 0 < N = omega arith in
    let v : ℕ = plain N r m in let w : ℕ = plain N s k in
    let a0 : ℕ = part_a false N r ra in let a1 : ℕ = part_a true N r ra in
    let b0 : ℕ = part_b false N s rb in let b1 : ℕ = part_b true N s rb in
    let c0 : ℕ = part_c false N r s out rc in let c1 : ℕ = part_c true N r s out rc in
    is (then
    (shares_make N m k r s v w out a0 a1 b0 b1 c0 c1 (product_share false N m k a0 b0 c0) (product_share true N m k a1 b1 c1)
    (plain_is N r m (omega arith)) (plain_is N s k (omega arith))
    (parts_join N r ra positive) (parts_join N s rb positive) (parts_join N (r * s + out) rc positive)
    (difference_is N (m * b0) (k * a0) c0 0 positive) (difference_is N (m * b1) (k * a1) c1 (m * k) positive))
    (plus (back (reduced (v * w))) same))
