-- The pair of two groups, part by part.
use Rattle.std.specs.Prelude.{◌+◌, ◌%◌, min}
use Rattle.group.specs.Groups.{GroupLaws, OutputGroup}

module _ {M N : Type 0} where
  abbrev pub both_sum : (M → M → M) → (N → N → N) → M × N → M × N → M × N
  both_sum f g p q = (f p.0 q.0, g p.1 q.1)

  abbrev pub both_inverse : (M → M) → (N → N) → M × N → M × N
  both_inverse f g p = (f p.0, g p.1)

  pub both_laws : {z : M} {f : M → M → M} {i : M → M} {y : N} {g : N → N → N} {j : N → N}
      → GroupLaws z f i → GroupLaws y g j → GroupLaws (z, y) (both_sum f g) (both_inverse i j)
  both_laws a b = record {
    neutral = λ p. λ k. (a.neutral p.0 k, b.neutral p.1 k);
    assoc = λ p q r. λ k. (a.assoc p.0 q.0 r.0 k, b.assoc p.1 q.1 r.1 k);
    comm = λ p q. λ k. (a.comm p.0 q.0 k, b.comm p.1 q.1 k);
    cancel = λ p. λ k. (a.cancel p.0 k, b.cancel p.1 k);
  }

-- the right part draws after the left; the count of words is capped at 9
abbrev pub both : {M N : Type 0} → OutputGroup M → OutputGroup N → OutputGroup (M × N)
both a b = record {
  zero = (a.zero, b.zero);
  sum = both_sum a.sum b.sum;
  inverse = both_inverse a.inverse b.inverse;
  count = min 9 (a.count + b.count);
  drawn = λ words start. (a.drawn words start, b.drawn words ((start + a.count) % 8));
  laws = both_laws a.laws b.laws;
}
