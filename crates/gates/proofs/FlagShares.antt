-- Two boxes' shares of a flag gate, from their dealt keys.
use Rattle.std.proofs.Common.{◌≡◌, ℕ, ◌+◌, ◌-◌, ◌%◌, ◌^◌, ◌<◌, Bool, true, false, cond, List, map, get_or, ap, ◌∙◌, mod-lt, pow_pos}
use Rattle.expander.specs.Meaning.{Expansion}
use Rattle.group.specs.Residues.{Residue}
use Rattle.group.specs.Flags.{flags}
use Rattle.group.specs.declared.Flags.{Flags}
use Rattle.key.specs.declared.Row.{Row}
use Rattle.key.specs.declared.BoxNumber.{BoxNumber}
use Rattle.key.specs.Rows.{row_mean, is_one}
use Rattle.joining.specs.Joining.{AllWide, dealt_answer}
use Rattle.interval.specs.Interval.{threshold}
use Rattle.shares.specs.Keyed as keyed
use Rattle.shares.specs.Words.{flag_word}
use Rattle.shares.specs.Local.{xor_of}
use Rattle.shares.specs.Flag.{flag_share}
use Rattle.shares.proofs.Keyed.{flag_is_plain}
use Rattle.gatekeys.specs.declared.ranges.Interval.{Interval}
use Rattle.gates.specs.declared.interval_key.IntervalKey.{IntervalKey}
use Rattle.gates.specs.Interval.{interval_key_mean, interval_answer}
use Rattle.gatemath.specs.Elements.{flag_mean}
use Rattle.gates.specs.Flag.{flag_draws, dealt_flag_key, flag_rows, flag_share_dealt, flag_held}
use Rattle.gates.proofs.Meeting.{dealt_keys_join, answer_dealt}

abbrev Bits : Type 0
Bits = Residue (2 ^ 32)

-- a box's share from a key by its meaning, and an answer
abbrev share_at : IntervalKey Bits → Bits → ℕ
share_at k q = flag_share q.0 k.parts.out

-- a box's share from its dealt key is the defined one
pub flag_share_is : (d x : Expansion) (i : Interval) (r m pattern : ℕ) (ws : List ℕ) (b : BoxNumber)
    → (k : IntervalKey Flags) (rows : List (Row Flags)) (s : ℕ)
    → interval_key_mean flag_mean k ≡ dealt_flag_key d b i r pattern ws i.width.bits
    → map (row_mean flag_mean) rows ≡ flag_rows d i r pattern ws i.width.bits
    → s ≡ flag_share (interval_answer x flags flag_mean k rows m).0 k.parts.out
    → s ≡ flag_share_dealt d x (is_one b) i r pattern ws m
flag_share_is d x i r m pattern ws b k rows s hk hr hs =
    let n : ℕ = i.width.bits in
    let N : ℕ = 2 ^ n in
    let β : Bits = flag_word pattern in
    let dr = flag_draws ws in
    let one : Bool = is_one b in
    let f : ℕ → Bits = dealt_answer flags d x n (threshold N r) β dr.roots.zero dr.roots.one one (cond one dr.roots.one dr.roots.zero) in
    let q : Bits = keyed.interval_answer flags one N m r i.low i.high β dr.payload1 dr.extra1 f in
    hs
    ∙ ap (share_at (interval_key_mean flag_mean k)) (answer_dealt flags flag_mean d i r β dr x b k rows (dealt_flag_key d b i r pattern ws n).parts.out m hk hr)
    ∙ ap (λ j. share_at j q) hk

-- the defined shares join to the plain meaning XOR the output mask
pub flags_join : (d x y : Expansion) → AllWide d → d ≡ x → d ≡ y → (i : Interval) (r m pattern : ℕ) (ws : List ℕ)
    → r < 2 ^ i.width.bits → m < 2 ^ i.width.bits → pattern < 2 ^ 32
    → xor_of (flag_share_dealt d x false i r pattern ws m) (flag_share_dealt d y true i r pattern ws m) ≡ flag_held i r pattern ws m
flags_join d x y wide ex ey i r m pattern ws hr hm hp =
    let n : ℕ = i.width.bits in
    let N : ℕ = 2 ^ n in
    let β : Bits = flag_word pattern in
    let dr = flag_draws ws in
    let α : ℕ = threshold N r in
    flag_is_plain N m r i.low i.high pattern (get_or ws 0 0 % 2 ^ 32) (get_or ws 7 0) hm hr i.ordered i.fits hp
    dr.payload1 dr.extra1
    (dealt_answer flags d x n α β dr.roots.zero dr.roots.one false dr.roots.zero) (dealt_answer flags d y n α β dr.roots.zero dr.roots.one true dr.roots.one)
    (dealt_keys_join flags d x y n α β dr.roots.zero dr.roots.one wide ex ey (mod-lt (r + (N - 1)) (pow_pos n)))
