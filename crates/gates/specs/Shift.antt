-- A shift's key, its answers, and what both boxes come to.
use Rattle.std.specs.Prelude.{ℕ, ◌+◌, ◌%◌, Bool, true, false, cond, List, slice_index}
use Rattle.expander.specs.Meaning.{Expansion}
use Rattle.expander.specs.declared.Seed.{Seed}
use Rattle.key.specs.declared.Row.{Row}
use Rattle.key.specs.declared.BoxNumber.{BoxNumber}
use Rattle.key.specs.declared.Roots.{Roots}
use Rattle.key.specs.Rows.{is_one}
use Rattle.evaluation.specs.Evaluation.{evaluated}
use Rattle.dealing.specs.Dealing.{start, dealt_rows}
use Rattle.joining.specs.Joining.{dealt_answer}
use Rattle.masking.specs.Masking.{size}
use Rattle.interval.specs.Interval.{plain}
use Rattle.shares.specs.Keyed.{dealt_shift, dealt_signed_shift}
use Rattle.shares.specs.Local.{sum_of}
use Rattle.shares.specs.Splits.{part_of_number}
use Rattle.shares.specs.Words as group
use Rattle.shares.specs.Shifts.{low_threshold, low_payload, high_threshold, high_payload, low_point, shift_rest, shift_share, signed_held, signed_share}
use Rattle.shares.specs.Plain.{plain_shift, plain_signed_shift}
use Rattle.gatemath.specs.Elements.{step_of}
use Rattle.gatekeys.specs.Random.{root_of}
use Rattle.gatekeys.specs.declared.ranges.Shift.{Shift}
use Rattle.gatekeys.specs.declared.keyed.Sign.{Sign}
use Rattle.gatekeys.specs.declared.keyed.Sign.TheVariants.{Unsigned, Signed}
use Rattle.gates.specs.declared.states.Fresh.{Fresh}
use Rattle.gates.specs.declared.shift.ShiftKey.{ShiftKey}
use Rattle.gates.specs.Interval.{roots_at, ends_mean, dealt_ends}

abbrev pub shift_key_mean : {G M : Type 0} → (G → M) → ShiftKey G → ShiftKey M
shift_key_mean mean k = record {
  number = k.number;
  shift = k.shift;
  parts = record {
    low = ends_mean mean k.parts.low;
    high = ends_mean mean k.parts.high;
    rest = k.parts.rest;
  };
}

abbrev pub fresh_shift_mean : {G M : Type 0} → (G → M) → Fresh (ShiftKey G) → ShiftKey M
fresh_shift_mean mean f = shift_key_mean mean f.key

-- words 1 to 4 are the low key's roots, words 5 to 8 the high key's: box 0's first
abbrev pub low_root0 : List ℕ → Seed
low_root0 w = root_of (slice_index w 1) (slice_index w 2)

abbrev pub low_root1 : List ℕ → Seed
low_root1 w = root_of (slice_index w 3) (slice_index w 4)

abbrev pub high_root0 : List ℕ → Seed
high_root0 w = root_of (slice_index w 5) (slice_index w 6)

abbrev pub high_root1 : List ℕ → Seed
high_root1 w = root_of (slice_index w 7) (slice_index w 8)

abbrev pub low_roots : List ℕ → Roots
low_roots w = roots_at w 1

abbrev pub high_roots : List ℕ → Roots
high_roots w = roots_at w 5

-- the rows of the low key, n of them, for the mask r; and those of the high key
abbrev pub low_rows_of : Expansion → Shift → ℕ → List ℕ → ℕ → List (Row group.Word)
low_rows_of x s r w n =
    dealt_rows x group.words (group.word low_payload) (low_threshold (step_of s) r) n (start group.words (low_root0 w) (low_root1 w))

abbrev pub high_rows_of : Expansion → Shift → ℕ → List ℕ → ℕ → List (Row group.Word)
high_rows_of x s r w n =
    dealt_rows x group.words (group.word (high_payload (size s.width) (step_of s))) (high_threshold r) n
    (start group.words (high_root0 w) (high_root1 w))

-- a box's key, where the tables have l and h rows; word 0 is the output mask, and word 9 box 1's part of the rest
abbrev pub dealt_shift_key : Expansion → BoxNumber → Shift → ℕ → List ℕ → ℕ → ℕ → ShiftKey group.Word
dealt_shift_key x b s r w l h =
    let N : ℕ = size s.width in
    let S : ℕ = step_of s in
    record {
      number = b;
      shift = s;
      parts = record {
        low = dealt_ends x group.words b (low_threshold S r) (group.word low_payload) (low_roots w) l;
        high = dealt_ends x group.words b (high_threshold r) (group.word (high_payload N S)) (high_roots w) h;
        rest = part_of_number (is_one b) N (shift_rest N S r (slice_index w 0 % N)) (slice_index w 9);
      };
    }

module _ {G : Type 0} (x : Expansion) where
  -- the low key's answer at a point, and the high key's
  abbrev pub low_at : (G → group.Word) → ShiftKey G → List (Row G) → ℕ → group.Word
  low_at mean k rows m = evaluated x group.words mean (is_one k.number) k.parts.low.root rows k.parts.low.last m

  abbrev pub high_at : (G → group.Word) → ShiftKey G → List (Row G) → ℕ → group.Word
  high_at mean k rows m = evaluated x group.words mean (is_one k.number) k.parts.high.root rows k.parts.high.last m

  -- a box's share of a shift at the held value m, and of a signed shift
  abbrev pub shift_share_at : (G → group.Word) → ShiftKey G → List (Row G) → List (Row G) → ℕ → ℕ
  shift_share_at mean k low high m =
      let N : ℕ = size k.shift.width in
      let S : ℕ = step_of k.shift in
      shift_share (is_one k.number) N S m (low_at mean k low (low_point S m)).0 (high_at mean k high m).0 k.parts.rest

  abbrev pub signed_share_at : (G → group.Word) → ShiftKey G → List (Row G) → List (Row G) → ℕ → ℕ
  signed_share_at mean k low high m =
      let N : ℕ = size k.shift.width in
      let S : ℕ = step_of k.shift in
      let h : ℕ = signed_held N m in
      signed_share (is_one k.number) N S m (low_at mean k low (low_point S h)).0 (high_at mean k high h).0 k.parts.rest

  -- whether values are unsigned or signed
  abbrev pub share_at_by : Sign → (G → group.Word) → ShiftKey G → List (Row G) → List (Row G) → ℕ → ℕ
  share_at_by Unsigned mean k low high m = shift_share_at mean k low high m
  share_at_by Signed mean k low high m = signed_share_at mean k low high m

module _ (d x : Expansion) (one : Bool) (s : Shift) (r : ℕ) (w : List ℕ) where
  -- a box's low key as the dealer d deals it, and its high key; the box's own expansion is x
  abbrev pub low_key_dealt : ℕ → group.Word
  low_key_dealt =
      dealt_answer group.words d x s.by (low_threshold (step_of s) r) (group.word low_payload) (low_root0 w) (low_root1 w) one
      (cond one (low_root1 w) (low_root0 w))

  abbrev pub high_key_dealt : ℕ → group.Word
  high_key_dealt =
      dealt_answer group.words d x s.width.bits (high_threshold r) (group.word (high_payload (size s.width) (step_of s))) (high_root0 w)
      (high_root1 w) one
      (cond one (high_root1 w) (high_root0 w))

  -- a box's share at the held value m, and that of a signed shift
  abbrev pub shift_share_dealt : ℕ → ℕ
  shift_share_dealt m = let N : ℕ = size s.width in dealt_shift one N (step_of s) m r (slice_index w 0 % N) (slice_index w 9) low_key_dealt high_key_dealt

  abbrev pub signed_share_dealt : ℕ → ℕ
  signed_share_dealt m =
      let N : ℕ = size s.width in dealt_signed_shift one N (step_of s) m r (slice_index w 0 % N) (slice_index w 9) low_key_dealt high_key_dealt

module _ (d x y : Expansion) (s : Shift) (r : ℕ) (w : List ℕ) (m : ℕ) where
  -- both boxes' shares, and their sum
  abbrev pub shift_numbers : ℕ × ℕ × ℕ
  shift_numbers =
      let s0 : ℕ = shift_share_dealt d x false s r w m in
      let s1 : ℕ = shift_share_dealt d y true s r w m in
      (s0, s1, sum_of (size s.width) s0 s1)

  abbrev pub signed_shift_numbers : ℕ × ℕ × ℕ
  signed_shift_numbers =
      let s0 : ℕ = signed_share_dealt d x false s r w m in
      let s1 : ℕ = signed_share_dealt d y true s r w m in
      (s0, s1, sum_of (size s.width) s0 s1)

  abbrev pub numbers_by : Sign → ℕ × ℕ × ℕ
  numbers_by Unsigned = shift_numbers
  numbers_by Signed = signed_shift_numbers

-- the plain meaning at the held value m, plus the output mask
abbrev pub shift_held : Shift → ℕ → List ℕ → ℕ → ℕ
shift_held s r w m = let N : ℕ = size s.width in (plain_shift (step_of s) (plain N r m) + slice_index w 0 % N) % N

abbrev pub signed_shift_held : Shift → ℕ → List ℕ → ℕ → ℕ
signed_shift_held s r w m = let N : ℕ = size s.width in (plain_signed_shift N (step_of s) (plain N r m) + slice_index w 0 % N) % N

abbrev pub held_by : Sign → Shift → ℕ → List ℕ → ℕ → ℕ
held_by Unsigned s r w m = shift_held s r w m
held_by Signed s r w m = signed_shift_held s r w m
