-- 32 flags under XOR, drawn as a word's low half.
use Rattle.std.specs.Prelude.{◌≡◌, ℕ, ◌%◌, ◌^◌, get_or}
use Rattle.std.proofs.Common.{sym, ap, ◌∙◌}
use Rattle.std.proofs.Math.Nat.{mod-mod}
use Rattle.std.specs.Int.Bits.{bit_xor, xor_zero_l, xor_assoc, xor_self}
use Rattle.std.proofs.lemmas.Nat.{xor_comm, xor_mod}
use Rattle.group.specs.Groups.{GroupLaws, OutputGroup}
use Rattle.group.specs.Residues.{Residue, reduce, residue_path}

abbrev pub flag_sum : Residue (2 ^ 32) → Residue (2 ^ 32) → Residue (2 ^ 32)
flag_sum a b = reduce (2 ^ 32) (bit_xor a.0 b.0)

-- XOR below 2^32 stays below
pub xor_fits : (a b : Residue (2 ^ 32)) → bit_xor a.0 b.0 % 2 ^ 32 ≡ bit_xor a.0 b.0
xor_fits a b = xor_mod a.0 b.0 32 ∙ ap (λ n. bit_xor n (b.0 % 2 ^ 32)) a.1 ∙ ap (bit_xor a.0) b.1

pub flag_laws : GroupLaws (reduce (2 ^ 32) 0) flag_sum (λ x. x)
flag_laws = record {
  neutral = λ x. residue_path (2 ^ 32) _ x (xor_fits (reduce (2 ^ 32) 0) x ∙ xor_zero_l x.0);
  assoc = λ x y z. residue_path (2 ^ 32) _ _
      (ap (λ n. bit_xor n z.0 % 2 ^ 32) (xor_fits x y) ∙ ap (λ n. n % 2 ^ 32) (xor_assoc x.0 y.0 z.0) ∙ sym (ap (λ n. bit_xor x.0 n % 2 ^ 32)
      (xor_fits y z)));
  comm = λ x y. residue_path (2 ^ 32) _ _ (ap (λ n. n % 2 ^ 32) (xor_comm x.0 y.0));
  cancel = λ x. residue_path (2 ^ 32) _ _ (ap (λ n. n % 2 ^ 32) (xor_self x.0));
}

pub reduce_xor : (a b : ℕ) → reduce (2 ^ 32) (bit_xor a b) ≡ flag_sum (reduce (2 ^ 32) a) (reduce (2 ^ 32) b)
reduce_xor a b = residue_path (2 ^ 32) (reduce (2 ^ 32) (bit_xor a b)) (flag_sum (reduce (2 ^ 32) a) (reduce (2 ^ 32) b))
    (sym (mod-mod (bit_xor a b) (2 ^ 32)) ∙ ap (λ n. n % 2 ^ 32) (xor_mod a b 32))

abbrev pub flags : OutputGroup (Residue (2 ^ 32))
flags = record {
  zero = reduce (2 ^ 32) 0;
  sum = flag_sum;
  inverse = λ x. x;
  count = 1;
  drawn = λ words start. reduce (2 ^ 32) (get_or words (start % 8) 0);
  laws = flag_laws;
}
