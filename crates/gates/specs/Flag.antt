-- A flag gate's key, and what both boxes come to.
use Rattle.std.specs.Prelude.{ℕ, ◌%◌, ◌^◌, Bool, true, false, cond, List, bit_xor, slice_index}
use Rattle.expander.specs.Meaning.{Expansion}
use Rattle.group.specs.Residues.{Residue}
use Rattle.group.specs.Flags.{flags}
use Rattle.group.specs.declared.Flags.{Flags}
use Rattle.key.specs.declared.Row.{Row}
use Rattle.key.specs.declared.BoxNumber.{BoxNumber}
use Rattle.key.specs.Rows.{is_one}
use Rattle.masking.specs.Masking.{size}
use Rattle.expander.specs.declared.Seed.{Seed}
use Rattle.joining.specs.Joining.{dealt_answer}
use Rattle.interval.specs.Interval.{plain, threshold}
use Rattle.shares.specs.Keyed.{dealt_flag}
use Rattle.shares.specs.Local.{xor_of}
use Rattle.shares.specs.Splits.{part_of_flags}
use Rattle.shares.specs.Words.{flag_word}
use Rattle.shares.specs.Plain.{plain_flag}
use Rattle.gatekeys.specs.Random.{root_of}
use Rattle.gatekeys.specs.declared.ranges.Interval.{Interval}
use Rattle.gatekeys.specs.declared.keyed.FlagGate.{FlagGate}
use Rattle.gates.specs.declared.interval_key.IntervalKey.{IntervalKey}
use Rattle.gates.specs.declared.interval_key.IntervalDraws.{IntervalDraws}
use Rattle.gates.specs.declared.interval_key.IntervalDeal.{IntervalDeal}
use Rattle.gates.specs.Interval.{dealt_interval, interval_rows}

-- words 1 to 4 are the roots, 5 box 1's part of the payload, 6 its part of E: low halves
abbrev pub flag_draws : List ℕ → IntervalDraws (Residue (2 ^ 32))
flag_draws w = record {
  roots = record {
    zero = root_of (slice_index w 1) (slice_index w 2);
    one = root_of (slice_index w 3) (slice_index w 4);
  };
  payload1 = flag_word (slice_index w 5 % 2 ^ 32);
  extra1 = flag_word (slice_index w 6 % 2 ^ 32);
}

-- what its keys are dealt from, in memory
abbrev pub flag_deal : FlagGate → IntervalDeal Flags
flag_deal t = record {
  interval = t.interval;
  mask = t.mask;
  payload = record { 0 = t.pattern };
  draws = record {
    roots = (flag_draws t.words).roots;
    payload1 = record { 0 = slice_index t.words 5 % 2 ^ 32 };
    extra1 = record { 0 = slice_index t.words 6 % 2 ^ 32 };
  };
}

-- a box's part of the output mask, which is word 0; word 7 is box 1's
abbrev pub flag_out : FlagGate → Bool → ℕ
flag_out t one = part_of_flags one (slice_index t.words 0 % 2 ^ 32) (slice_index t.words 7)

-- a box's key; word 0 is the output mask, and word 7 box 1's part of it
abbrev pub dealt_flag_key : Expansion → BoxNumber → Interval → ℕ → ℕ → List ℕ → ℕ → IntervalKey (Residue (2 ^ 32))
dealt_flag_key x b i r pattern w n =
    dealt_interval x flags b i r (flag_word pattern) (flag_draws w) (part_of_flags (is_one b) (slice_index w 0 % 2 ^ 32) (slice_index w 7)) n

abbrev pub flag_rows : Expansion → Interval → ℕ → ℕ → List ℕ → ℕ → List (Row (Residue (2 ^ 32)))
flag_rows x i r pattern w n = interval_rows x flags i r (flag_word pattern) (flag_draws w) n

-- a box's share at the held value m, from the key that the dealer d deals; the box's own expansion is x
abbrev pub flag_share_dealt : Expansion → Expansion → Bool → Interval → ℕ → ℕ → List ℕ → ℕ → ℕ
flag_share_dealt d x one i r pattern w m =
    let N : ℕ = size i.width in
    let a : Seed = (flag_draws w).roots.zero in
    let b : Seed = (flag_draws w).roots.one in
    dealt_flag one N m r i.low i.high pattern (slice_index w 0 % 2 ^ 32) (flag_draws w).payload1 (flag_draws w).extra1 (slice_index w 7)
    (dealt_answer flags d x i.width.bits (threshold N r) (flag_word pattern) a b one (cond one b a))

-- both boxes' shares, and their XOR
abbrev pub flag_numbers : Expansion → Expansion → Expansion → Interval → ℕ → ℕ → List ℕ → ℕ → ℕ × ℕ × ℕ
flag_numbers d x y i r pattern w m =
    let s0 : ℕ = flag_share_dealt d x false i r pattern w m in
    let s1 : ℕ = flag_share_dealt d y true i r pattern w m in
    (s0, s1, xor_of s0 s1)

-- the plain meaning at the held value m, XOR the output mask
abbrev pub flag_held : Interval → ℕ → ℕ → List ℕ → ℕ → ℕ
flag_held i r pattern w m = bit_xor (plain_flag i.low i.high pattern (plain (size i.width) r m)) (slice_index w 0 % 2 ^ 32)
