-- What an expander means: its kind number and two functions of a seed.
use Rattle.std.specs.Prelude.{◌≡◌, ℕ, List, length}
use Rattle.expander.specs.declared.Seed.{Seed}
use Rattle.expander.specs.declared.Branches.{Branches}

pub record Expansion : Type 0 where
  pub kind : ℕ
  pub branch : Seed → Branches
  pub draw : Seed → List ℕ

-- both next seeds have 16 bytes
pub record Wide (b : Branches) : Type 0 where
  pub left : length b.left.seed.bytes ≡ 16
  pub right : length b.right.seed.bytes ≡ 16
