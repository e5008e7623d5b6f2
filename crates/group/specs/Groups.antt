-- What an output group is.
use Rattle.std.specs.Prelude.{◌≡◌, List, ℕ}

-- the laws of a commutative group
pub record GroupLaws {M : Type 0} (zero : M) (sum : M → M → M) (inverse : M → M) : Type 0 where
  pub neutral : (x : M) → sum zero x ≡ x
  pub assoc : (x y z : M) → sum (sum x y) z ≡ sum x (sum y z)
  pub comm : (x y : M) → sum x y ≡ sum y x
  pub cancel : (x : M) → sum (inverse x) x ≡ zero

-- a commutative group whose elements are also drawn from a list of eight words, from a word number on
pub record OutputGroup (M : Type 0) : Type 0 where
  pub zero : M
  pub sum : M → M → M
  pub inverse : M → M
  pub count : ℕ
  pub drawn : List ℕ → ℕ → M
  pub laws : GroupLaws zero sum inverse

-- a − b
abbrev pub minus : {M : Type 0} → OutputGroup M → M → M → M
minus g a b = g.sum a (g.inverse b)
