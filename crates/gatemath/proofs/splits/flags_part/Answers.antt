use Rattle.std.proofs.Common.{◌≡◌, ℕ, ◌%◌, ◌^◌, ◌<◌, Bool, true, false, cond, bit_xor, ap, ◌∙◌, arith, rules}
use Rattle.group.specs.Residues.{reduce}
use Rattle.group.specs.Flags.{flags, xor_fits}
use Rattle.key.specs.Rows.{is_one}
use Rattle.shares.specs.Splits.{part_of_element}
use Rattle.gatemath.proofs.splits.flags_part.Goals as goal

same : (n : ℕ) → n < 2 ^ 32 → n % 2 ^ 32 ≡ n
same n h = omega arith

part_is : (one : Bool) (all drawn part : ℕ) → all < 2 ^ 32 → drawn < 2 ^ 32 → part < 2 ^ 32
    → reduce (2 ^ 32) part ≡ part_of_element flags one (reduce (2 ^ 32) all) (reduce (2 ^ 32) drawn)
    → part ≡ cond one drawn (bit_xor all drawn)
part_is true all drawn part a d p e =
    let f : part % 2 ^ 32 ≡ drawn % 2 ^ 32 = ap (λ r. r.0) e in
    let x = same part p in
    let y = same drawn d in
    cc
part_is false all drawn part a d p e =
    let f : part % 2 ^ 32 ≡ bit_xor (all % 2 ^ 32) (drawn % 2 ^ 32) % 2 ^ 32 = ap (λ r. r.0) e in
    let x = same part p in
    let y = same drawn d in
    let z = same all a in
    let u = xor_fits (reduce (2 ^ 32) all) (reduce (2 ^ 32) drawn) in
    cc

pub returns : goal.returns
returns c =
    let one = is_one c.args.number in
    let all = c.args.all in
    let small : c.part_of.result.0 < 2 ^ 32 = search rules in
    part_is one all c.low_half.result c.part_of.result.0 c.ranges.all.fits c.low_half.type_inv small c.part_of.ensures
    ∙ ap (λ d. cond one d (bit_xor all d)) c.low_half.ensures
