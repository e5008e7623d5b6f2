-- What dealing a comparison key means, on what the group's elements mean.
use Rattle.std.specs.Prelude.{ℕ, zero, suc, Bool, true, false, cond, not, List, [], ◌∷◌}
use Rattle.group.specs.Groups.{OutputGroup, minus}
use Rattle.expander.specs.Meaning.{Expansion}
use Rattle.expander.specs.Seeds.{xor_seeds}
use Rattle.expander.specs.declared.Seed.{Seed}
use Rattle.expander.specs.declared.Branches.{Branches}
use Rattle.key.specs.declared.Row.{Row}
use Rattle.key.specs.Rows.{row_bit}
use Rattle.evaluation.specs.Evaluation.{differ, side_of, bit_at, drawn_from}
use Rattle.dealing.specs.declared.Descent.{Descent}

-- a descent by what its difference means
abbrev pub descent_mean : {G M : Type 0} → (G → M) → Descent G → Descent M
descent_mean mean d = record { seed0 = d.seed0; seed1 = d.seed1; control0 = d.control0; control1 = d.control1; apart = mean d.apart }

-- a seed after a row: XORed with the row's word where the control bit was set
abbrev pub next_seed : Bool → Seed → Seed → Seed
next_seed control s word = cond control (xor_seeds s word) s

-- a control bit after a row: XORed with the row's bit where it was set before
abbrev pub next_control : Bool → Bool → Bool → Bool
next_control control b fix = cond control (differ b fix) b

-- minus where box 1's control bit is set
abbrev pub signed : {M : Type 0} → OutputGroup M → Bool → M → M
signed g control1 v = cond control1 (g.inverse v) v

-- at the roots: control bits 0 and 1, and nothing apart
abbrev pub start : {M : Type 0} → OutputGroup M → Seed → Seed → Descent M
start g root0 root1 = record { seed0 = root0; seed1 = root1; control0 = false; control1 = true; apart = g.zero }

module _ {M : Type 0} (x : Expansion) (g : OutputGroup M) where
  abbrev pub draw : Seed → M
  draw s = drawn_from x g (λ (v : M). v) s

  -- sign (C1 − C0 − A): what cancels the two draws and what is apart
  abbrev pub cancelling : Seed → Seed → Descent M → M
  cancelling s0 s1 d = signed g d.control1 (minus g (minus g (draw s1) (draw s0)) d.apart)

  -- the row for one bit of the threshold; the side to lose is the other one, and the payload is added where it is left
  abbrev pub row_from : M → Bool → Descent M → Branches → Branches → Row M
  row_from β bit d b0 b1 =
      let lose0 = side_of b0 (not bit) in
      let lose1 = side_of b1 (not bit) in
      record {
        word = xor_seeds lose0.seed lose1.seed;
        left = differ (differ b0.left.bit b1.left.bit) (not bit);
        right = differ (differ b0.right.bit b1.right.bit) bit;
        element = cond bit (g.sum (cancelling lose0.value lose1.value d) (signed g d.control1 β)) (cancelling lose0.value lose1.value d);
      }

  -- past the row, on the side to keep
  abbrev pub next_from : Bool → Descent M → Branches → Branches → Row M → Descent M
  next_from bit d b0 b1 r =
      let keep0 = side_of b0 bit in
      let keep1 = side_of b1 bit in
      record {
        seed0 = next_seed d.control0 keep0.seed r.word;
        seed1 = next_seed d.control1 keep1.seed r.word;
        control0 = next_control d.control0 keep0.bit (row_bit r bit);
        control1 = next_control d.control1 keep1.bit (row_bit r bit);
        apart = g.sum (g.sum d.apart (minus g (draw keep0.value) (draw keep1.value))) (signed g d.control1 r.element);
      }

  -- the final element, from the last seeds
  abbrev pub final_from : Descent M → M
  final_from d = cancelling d.seed0 d.seed1 d

  abbrev pub row_at : M → Bool → Descent M → Row M
  row_at β bit d = row_from β bit d (x.branch d.seed0) (x.branch d.seed1)

  abbrev pub next_at : M → Bool → Descent M → Descent M
  next_at β bit d = next_from bit d (x.branch d.seed0) (x.branch d.seed1) (row_at β bit d)

  -- the rows for the k lowest bits of the threshold α, the highest of them first
  abbrev pub dealt_rows : M → ℕ → ℕ → Descent M → List (Row M)
  dealt_rows β α zero d = []
  dealt_rows β α (suc k) d = row_at β (bit_at α k) d ∷ dealt_rows β α k (next_at β (bit_at α k) d)

  -- the final element after the k lowest bits
  abbrev pub dealt_last : M → ℕ → ℕ → Descent M → M
  dealt_last β α zero d = final_from d
  dealt_last β α (suc k) d = dealt_last β α k (next_at β (bit_at α k) d)
