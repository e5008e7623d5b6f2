-- Numbers under XOR are a commutative group, so XORs are rearranged as sums are.
use Rattle.std.proofs.Common.{◌%◌, ◌^◌, [], ◌∷◌, ap, ◌∙◌, arith}
use lib.Bits.{bit_xor, xor_zero_l, xor_assoc, xor_comm, xor_self}
use Rattle.group.specs.Groups.{GroupLaws}
use Rattle.algebra.proofs.Linear.{var, plus, minus, linear}
use Rattle.shares.specs.Laws.{FlagsSplit, XorIsPlain, FlagJoins}

xor_laws : GroupLaws 0 bit_xor (λ x. x)
xor_laws = record { neutral = xor_zero_l; assoc = xor_assoc; comm = xor_comm; cancel = xor_self }

pub flags_split : FlagsSplit
flags_split all random =
    linear xor_laws (all ∷ (random % 2 ^ 32) ∷ []) (plus (plus (var 0) (minus (var 1))) (var 1)) (var 0) (omega arith)

pub xor_is_plain : XorIsPlain
xor_is_plain m k r s =
    linear xor_laws (m ∷ k ∷ r ∷ s ∷ [])
    (plus (plus (var 0) (var 1)) (plus (var 2) (var 3))) (plus (plus (var 0) (var 2)) (plus (var 1) (var 3))) (omega arith)

pub flag_joins : FlagJoins
flag_joins p q pattern v out random a b e =
    linear xor_laws (a ∷ b ∷ out ∷ (random % 2 ^ 32) ∷ [])
    (plus (plus (var 0) (plus (var 2) (minus (var 3)))) (plus (var 1) (var 3))) (plus (plus (var 0) (var 1)) (var 2)) (omega arith)
    ∙ ap (λ n. bit_xor n out) e
