-- Numbers modulo m, as the numbers that are their own remainder, and the group that they form under addition.
use Rattle.std.specs.Prelude.{◌≡◌, ℕ, ◌+◌, ◌-◌, ◌%◌, ◌<◌, get_or}
use Rattle.std.proofs.Common.{sym, ap, ◌∙◌, add_assoc, add_comm, mod-lt, arith}
use mathlib.Core.HLevel.{Σ_prop_path}
use Rattle.std.proofs.Math.Nat.{ℕ_set, mod-mod, mod-add-mod, add-mod, add-mod-mod, mod_self, zero-mod}
use Rattle.group.specs.Groups.{GroupLaws, OutputGroup}

abbrev pub Residue : ℕ → Type 0
Residue m = (v : ℕ) × (v % m ≡ v)

abbrev pub reduce : (m : ℕ) → ℕ → Residue m
reduce m n = (n % m, mod-mod n m)

abbrev pub residue_sum : (m : ℕ) → Residue m → Residue m → Residue m
residue_sum m a b = reduce m (a.0 + b.0)

abbrev pub residue_inverse : (m : ℕ) → Residue m → Residue m
residue_inverse m a = reduce m (m - a.0)

-- residues with one number are one residue
pub residue_path : (m : ℕ) (a b : Residue m) → a.0 ≡ b.0 → a ≡ b
residue_path m a b e = Σ_prop_path (λ v. ℕ_set (v % m) v) e

pub residue_laws : (m : ℕ) → 0 < m → GroupLaws (reduce m 0) (residue_sum m) (residue_inverse m)
residue_laws m pos = record {
  neutral = λ x. residue_path m _ x (mod-add-mod 0 m x.0 ∙ ap (λ n. n % m) (omega arith) ∙ x.1);
  assoc = λ x y z. residue_path m _ _
      (mod-add-mod (x.0 + y.0) m z.0 ∙ ap (λ n. n % m) (add_assoc x.0 y.0 z.0) ∙ sym (add-mod-mod x.0 (y.0 + z.0) m));
  comm = λ x y. residue_path m _ _ (ap (λ n. n % m) (add_comm x.0 y.0));
  cancel = λ x. residue_path m _ _
      (mod-add-mod (m - x.0) m x.0 ∙ ap (λ n. n % m) (let h : x.0 < m = omega (arith, mod-lt x.0 pos, x.1) in omega arith) ∙ mod_self m ∙ sym
      (zero-mod m));
}

pub reduce_sum : (m a b : ℕ) → reduce m ((a + b) % m) ≡ residue_sum m (reduce m a) (reduce m b)
reduce_sum m a b = residue_path m (reduce m ((a + b) % m)) (residue_sum m (reduce m a) (reduce m b)) (mod-mod (a + b) m ∙ add-mod a b m)

-- addition modulo m, an element drawn as one word modulo m
abbrev pub residues : (m : ℕ) → 0 < m → OutputGroup (Residue m)
residues m pos = record {
  zero = reduce m 0;
  sum = residue_sum m;
  inverse = residue_inverse m;
  count = 1;
  drawn = λ words start. reduce m (get_or words (start % 8) 0);
  laws = residue_laws m pos;
}
