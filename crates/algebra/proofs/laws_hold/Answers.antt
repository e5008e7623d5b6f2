use Rattle.std.proofs.Common.{[], ◌∷◌, refl, arith}
use Rattle.algebra.proofs.Linear as linear
use Rattle.algebra.proofs.Modulo.{is}
use Rattle.algebra.proofs.Residues.{Expr, var, lit, ◌⊕◌, ◌⊗◌, ◌⊖◌, solved}
use Rattle.algebra.proofs.laws_hold.Goals as goal

pub returns : goal.returns
returns g c = record {
  square = λ N a b h.
      let D : Expr = var 0 ⊖ var 1 in
      is (solved N (a ∷ b ∷ []) (D ⊗ D ⊕ lit 2 ⊗ var 0 ⊗ var 1) (var 0 ⊗ var 0 ⊕ var 1 ⊗ var 1) (omega arith) (omega arith) refl);
  differences = λ a b c d.
      let minus : linear.Term → linear.Term → linear.Term = λ x y. linear.plus x (linear.minus y) in
      linear.linear g.G.Group.group.laws (a ∷ b ∷ c ∷ d ∷ [])
      (linear.plus (minus (linear.var 0) (linear.var 1)) (minus (linear.var 2) (linear.var 3)))
      (minus (linear.plus (linear.var 0) (linear.var 2)) (linear.plus (linear.var 1) (linear.var 3)))
      (omega arith);
}
