-- Masks and shares of a deal are in range, and keys have a row for each bit.
use Rattle.std.proofs.Common.{◌≡◌, ℕ, zero, suc, ◌+◌, ◌-◌, ◌*◌, ◌%◌, ◌^◌, ◌<◌, ◌≤◌, Bool, true, false, cond, List, [], ◌∷◌, length, get_or, set, replicate, refl, arith, pow_pos, pow_mono}
use lib.Bits.{xor_lt}
use Rattle.std.proofs.lemmas.Nat.{mod_below}
use Rattle.expander.specs.Meaning.{Expansion}
use Rattle.group.specs.Flags.{flags}
use Rattle.interval.specs.Interval.{threshold}
use Rattle.shares.specs.Words.{word, words, quads, flag_word}
use Rattle.shares.specs.Shifts.{low_threshold, low_payload, high_threshold, high_payload}
use Rattle.gates.specs.Piece.{piece_draws, payload_of}
use Rattle.gates.specs.Flag.{flag_draws}
use Rattle.gates.specs.Shift.{low_root0, low_root1, high_root0, high_root1}
use Rattle.shares.specs.Splits.{part_of_number, part_of_flags}
use Rattle.dealing.specs.Dealing.{start, dealt_rows}
use Rattle.plan.specs.Gates.{GateBody}
use Rattle.plan.specs.declared.gates.Gate.TheVariants.{Sum, Scale, Product, Piece, Flag, Shift, SignedShift, Xor}
use Rattle.plan.specs.Plans.{Planned, wires, is_input, row_at, gives_flag, is_flag, words_before}
use Rattle.bodies.specs.Allowed.{key_allowed}
use Rattle.masks.specs.Masks.{gate_mask, mask_at, masks_below, mask_of}
use Rattle.gatebytes.specs.Dealt.{dealt_gate}
use Rattle.dealer.proofs.Longs.{rows_count}

mod_lt : (n x : ℕ) → x % 2 ^ n < 2 ^ n
mod_lt n x = mod_below x (2 ^ n) (pow_pos n)

pub part_small : (n : ℕ) (one : Bool) (all random : ℕ) → part_of_number one (2 ^ n) all random < 2 ^ n
part_small n true all random = mod_lt n random
part_small n false all random = mod_lt n (all % 2 ^ n + (2 ^ n - random % 2 ^ n))

pub flags_small : (one : Bool) (all random : ℕ) → all < 2 ^ 32 → part_of_flags one all random < 2 ^ 32
flags_small true all random h = mod_lt 32 random
flags_small false all random h = xor_lt 32 all (random % 2 ^ 32) h (mod_lt 32 random)

-- a shift's low key has s rows, its high key n
module _ (x : Expansion) (n s r : ℕ) (w : List ℕ) where
  low_rows : length (dealt_rows x words (word low_payload) (low_threshold (2 ^ s) r) s (start words (low_root0 w) (low_root1 w))) ≡ s
  low_rows = rows_count x words (word low_payload) (low_threshold (2 ^ s) r) s (start words (low_root0 w) (low_root1 w))

  high_rows : length (dealt_rows x words (word (high_payload (2 ^ n) (2 ^ s))) (high_threshold r) n (start words (high_root0 w) (high_root1 w))) ≡ n
  high_rows = rows_count x words (word (high_payload (2 ^ n) (2 ^ s))) (high_threshold r) n (start words (high_root0 w) (high_root1 w))

-- a gate's key as it is dealt
pub key_dealt : (x : Expansion) (n : ℕ) (one : Bool) (ms w : List ℕ) (b : GateBody) → key_allowed n (dealt_gate x n one ms w b)
key_dealt x n one ms w (Sum a b) = tt
key_dealt x n one ms w (Scale a c d) = tt
key_dealt x n one ms w (Product a b) = (part_small n one _ _, part_small n one _ _, part_small n one _ _)
key_dealt x n one ms w (Piece a p q c) =
    let r = get_or ms a 0 in
    (rows_count x quads (payload_of r c) (threshold (2 ^ n) r) n (start quads (piece_draws w).roots.zero (piece_draws w).roots.one), part_small n one _ _)
key_dealt x n one ms w (Flag a p q t) =
    let r = get_or ms a 0 in (
      rows_count x flags (flag_word t) (threshold (2 ^ n) r) n (start flags (flag_draws w).roots.zero (flag_draws w).roots.one),
      flags_small one _ _ (mod_lt 32 (get_or w 0 0)),
    )
key_dealt x n one ms w (Shift a s) = (low_rows x n s (get_or ms a 0) w, high_rows x n s (get_or ms a 0) w, part_small n one _ _)
key_dealt x n one ms w (SignedShift a s) = (low_rows x n s (get_or ms a 0) w, high_rows x n s (get_or ms a 0) w, part_small n one _ _)
key_dealt x n one ms w (Xor a b) = tt

-- a table whose every place is in its range stays so
set_each : (P : ℕ → ℕ → Type 0) (ms : List ℕ) (k v : ℕ) → P k v → ((i : ℕ) → P i (get_or ms i 0)) → (j : ℕ) → P j (get_or (set ms k v) j 0)
set_each P [] k v h f j = f j
set_each P (x ∷ ms) zero v h f zero = h
set_each P (x ∷ ms) zero v h f (suc j) = f (suc j)
set_each P (x ∷ ms) (suc k) v h f zero = f zero
set_each P (x ∷ ms) (suc k) v h f (suc j) = set_each (λ i y. P (suc i) y) ms k v h (λ i. f (suc i)) j

zeros : (m j : ℕ) → ◌≡◌ {A = ℕ} (get_or (replicate m 0) j 0) 0
zeros zero j = refl
zeros (suc m) zero = refl
zeros (suc m) (suc j) = zeros m j

-- the range of a mask: of 32 flags, or of a number of n bits
wide : (n : ℕ) (flag : Bool) (m : ℕ) → n ≤ 32 → m < 2 ^ cond flag 32 n → m < 2 ^ 32
wide n true m h l = l
wide n false m h l = omega (arith, pow_mono h)

gate_mask_small : (n : ℕ) (ms : List ℕ) (w : ℕ) (b : GateBody) → ((i : ℕ) → get_or ms i 0 < 2 ^ 32) → gate_mask n ms w b < 2 ^ cond (gives_flag b) 32 n
gate_mask_small n ms w (Sum a b) h = mod_lt n (get_or ms a 0 + get_or ms b 0)
gate_mask_small n ms w (Scale a c d) h = mod_lt n (c * get_or ms a 0)
gate_mask_small n ms w (Product a b) h = mod_lt n w
gate_mask_small n ms w (Piece a p q c) h = mod_lt n w
gate_mask_small n ms w (Flag a p q t) h = mod_lt 32 w
gate_mask_small n ms w (Shift a s) h = mod_lt n w
gate_mask_small n ms w (SignedShift a s) h = mod_lt n w
gate_mask_small n ms w (Xor a b) h = xor_lt 32 (get_or ms a 0) (get_or ms b 0) (h a) (h b)

module _ (p : Planned) (random : List ℕ) (few : p.width ≤ 32) where
  abbrev InRange : ℕ → ℕ → Type 0
  InRange k m = m < 2 ^ cond (is_flag p k) 32 p.width

  mask_at_small : (ms : List ℕ) (w k : ℕ) → ((i : ℕ) → get_or ms i 0 < 2 ^ 32) → InRange k (mask_at p ms w k)
  mask_at_small ms w k h = pick (is_input p k)
    where
      pick : (b : Bool) → cond b (w % 2 ^ p.width) (gate_mask p.width ms w (row_at p k).body) < 2 ^ cond (cond b false (gives_flag (row_at p k).body)) 32 p.width
      pick true = mod_lt p.width w
      pick false = gate_mask_small p.width ms w (row_at p k).body h

  masks_below_small : (m j : ℕ) → InRange j (get_or (masks_below p random m) j 0)
  masks_below_small zero j = let z = zeros 48 j in omega (arith, pow_pos (cond (is_flag p j) 32 p.width))
  masks_below_small (suc m) j =
      let ms = masks_below p random m in
      set_each InRange ms m (mask_at p ms (get_or random (words_before p m) 0) m)
      (mask_at_small ms (get_or random (words_before p m) 0) m (λ i. wide p.width (is_flag p i) (get_or ms i 0) few (masks_below_small m i)))
      (masks_below_small m) j

  -- the mask of each wire is in its range
  pub mask_small : (k : ℕ) → mask_of p random k < 2 ^ cond (is_flag p k) 32 p.width
  mask_small k = masks_below_small (wires p) k
