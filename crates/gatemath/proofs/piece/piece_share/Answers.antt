use Rattle.std.proofs.Common.{◌≡◌, ℕ, ◌+◌, ◌%◌, ◌^◌, ◌≤◌, sym, ap, ◌∙◌, arith}
use Rattle.masking.specs.Masking.{size}
use Rattle.shares.proofs.Words.{power_divides}
use Rattle.shares.proofs.Piece.{share_by_horner, share_of_quad}
use Rattle.gatemath.proofs.piece.piece_share.Goals as goal

pub returns : goal.returns
returns c =
    let w = c.args.width in
    let N : ℕ = size w in
    let q = c.args.answer in
    let few : w.bits ≤ 64 = omega (arith, w.most) in
    let d : 2 ^ 64 % N ≡ 0 = power_divides w.bits few in
    c.sum.ensures
    ∙ ap (λ n. (n + c.args.out) % N) (c.reduce.ensures ∙ ap (λ t. t % N) c.horner.ensures)
    ∙ share_by_horner N c.args.m q.left.left.0 q.left.right.0 q.right.left.0 q.right.right.0 c.args.out d
    ∙ sym (share_of_quad N c.args.m q.left.left.0 q.left.right.0 q.right.left.0 q.right.right.0 c.args.out d)
