-- The parts of a split value make it up, and a held value its plain value.
use Rattle.std.proofs.Common.{◌≡◌, ℕ, ◌+◌, ◌-◌, ◌%◌, ◌<◌, ◌≤◌, Bool, true, false, [], ◌∷◌, sym, ◌∙◌, mod-lt, mod-eq_of_lt, arith}
use Rattle.group.specs.Groups.{OutputGroup}
use Rattle.algebra.proofs.Modulo.{Cong, is, plus, reduced, since, multiple}
use Rattle.algebra.proofs.Linear as linear
use Rattle.interval.specs.Interval.{plain, masked}
use Rattle.shares.specs.Splits.{part_of_number}
use Rattle.shares.specs.Laws.{NumbersSplit, ElementsSplit, HeldIsPlain}

-- the plain value with its mask is the held one
pub plain_is : (N r m : ℕ) → r ≤ N → Cong N (plain N r m + r) m
plain_is N r m h = since (plus (reduced (m + (N - r))) (multiple 1)) _ _ (omega arith)

pub parts_join : (N all random : ℕ) → 0 < N → Cong N (part_of_number false N all random + part_of_number true N all random) all
parts_join N all random h =
    let k : random % N < N = mod-lt random h in
    since (plus (reduced (all % N + (N - random % N))) (plus (reduced all) (multiple 1))) _ _ (omega arith)

pub numbers_split : NumbersSplit
numbers_split N all random h = is (parts_join N all random h)

pub part_lt : (one : Bool) (N all random : ℕ) → 0 < N → part_of_number one N all random < N
part_lt true N all random h = mod-lt random h
part_lt false N all random h = mod-lt (all % N + (N - random % N)) h

pub elements_split : {M : Type 0} (g : OutputGroup M) → ElementsSplit g
elements_split g all random =
    linear.linear g.laws (all ∷ random ∷ [])
    (linear.plus (linear.plus (linear.var 0) (linear.minus (linear.var 1))) (linear.var 1)) (linear.var 0) (omega arith)

-- numbers below N that are equal modulo N are equal
pub below_same : (N a b : ℕ) → a < N → b < N → Cong N a b → a ≡ b
below_same N a b ha hb e = sym (mod-eq_of_lt ha) ∙ is e ∙ mod-eq_of_lt hb

pub held_is_plain : HeldIsPlain
held_is_plain N r h =
    let back : (v : ℕ) → v < N → plain N r (masked N r v) ≡ v
    = λ v hv. below_same N (plain N r (masked N r v)) v (mod-lt (masked N r v + (N - r)) (omega arith)) hv
    (since (plus (plain_is N r (masked N r v) (omega arith)) (reduced (v + r))) _ _ (omega arith)) in
    (back, λ m hm. is (plain_is N r m (omega arith)) ∙ mod-eq_of_lt hm)
