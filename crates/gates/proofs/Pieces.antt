-- Two boxes' shares of a piece, from their dealt keys.
use Rattle.std.proofs.Common.{◌≡◌, ℕ, ◌+◌, ◌-◌, ◌%◌, ◌^◌, ◌<◌, Bool, true, false, cond, List, map, get_or, ap, ◌∙◌, mod-lt, pow_pos}
use Rattle.expander.specs.Meaning.{Expansion}
use Rattle.group.specs.declared.Word.{Word}
use Rattle.group.specs.declared.Pair.{Pair}
use Rattle.key.specs.declared.Row.{Row}
use Rattle.key.specs.declared.BoxNumber.{BoxNumber}
use Rattle.key.specs.Rows.{row_mean, is_one}
use Rattle.joining.specs.Joining.{AllWide, dealt_answer}
use Rattle.masking.specs.Masking.{size}
use Rattle.interval.specs.Interval.{threshold}
use Rattle.shares.specs.Keyed as keyed
use Rattle.shares.specs.Words.{Quad, quads}
use Rattle.shares.specs.Local.{sum_of}
use Rattle.shares.specs.Piece.{piece_share_of}
use Rattle.shares.proofs.Keyed.{piece_is_plain}
use Rattle.gatekeys.specs.declared.ranges.Interval.{Interval}
use Rattle.gates.specs.declared.interval_key.IntervalKey.{IntervalKey}
use Rattle.gates.specs.Interval.{interval_key_mean, interval_answer}
use Rattle.gatemath.specs.Elements.{quad_mean}
use Rattle.gates.specs.Piece.{payload_of, piece_draws, dealt_piece_key, piece_rows, piece_share_dealt, piece_held}
use Rattle.gates.proofs.Meeting.{dealt_keys_join, answer_dealt}

abbrev FourWords : Type 0
FourWords = Pair (Pair Word Word) (Pair Word Word)

-- a box's share from a key by its meaning, and an answer
abbrev share_at : ℕ → IntervalKey Quad → Quad → ℕ
share_at m k q = piece_share_of (size k.interval.width) m q k.parts.out

-- a box's share from its dealt key is the defined one
pub piece_share_is : (d x : Expansion) (i : Interval) (r m : ℕ) (cs ws : List ℕ) (b : BoxNumber)
    → (k : IntervalKey FourWords) (rows : List (Row FourWords)) (s : ℕ)
    → interval_key_mean quad_mean k ≡ dealt_piece_key d b i r cs ws i.width.bits
    → map (row_mean quad_mean) rows ≡ piece_rows d i r cs ws i.width.bits
    → s ≡ piece_share_of (size k.interval.width) m (interval_answer x quads quad_mean k rows m) k.parts.out
    → s ≡ piece_share_dealt d x (is_one b) i r cs ws m
piece_share_is d x i r m cs ws b k rows s hk hr hs =
    let n : ℕ = i.width.bits in
    let N : ℕ = 2 ^ n in
    let β : Quad = payload_of r cs in
    let dr = piece_draws ws in
    let one : Bool = is_one b in
    let f : ℕ → Quad = dealt_answer quads d x n (threshold N r) β dr.roots.zero dr.roots.one one (cond one dr.roots.one dr.roots.zero) in
    let q : Quad = keyed.interval_answer quads one N m r i.low i.high β dr.payload1 dr.extra1 f in
    hs
    ∙ ap (share_at m (interval_key_mean quad_mean k)) (answer_dealt quads quad_mean d i r β dr x b k rows (dealt_piece_key d b i r cs ws n).parts.out m hk hr)
    ∙ ap (λ j. share_at m j q) hk

-- the defined shares join to the plain meaning plus the output mask
pub pieces_join : (d x y : Expansion) → AllWide d → d ≡ x → d ≡ y → (i : Interval) (r m : ℕ) (cs ws : List ℕ)
    → r < 2 ^ i.width.bits → m < 2 ^ i.width.bits
    → sum_of (size i.width) (piece_share_dealt d x false i r cs ws m) (piece_share_dealt d y true i r cs ws m) ≡ piece_held i r cs ws m
pieces_join d x y wide ex ey i r m cs ws hr hm =
    let n : ℕ = i.width.bits in
    let N : ℕ = 2 ^ n in
    let β : Quad = payload_of r cs in
    let dr = piece_draws ws in
    let α : ℕ = threshold N r in
    piece_is_plain n m r i.low i.high (get_or cs 0 0) (get_or cs 1 0) (get_or cs 2 0) (get_or cs 3 0) (get_or ws 0 0 % N) (get_or ws 13 0)
    i.width.most hm hr i.ordered i.fits dr.payload1 dr.extra1
    (dealt_answer quads d x n α β dr.roots.zero dr.roots.one false dr.roots.zero) (dealt_answer quads d y n α β dr.roots.zero dr.roots.one true dr.roots.one)
    (dealt_keys_join quads d x y n α β dr.roots.zero dr.roots.one wide ex ey (mod-lt (r + (N - 1)) (pow_pos n)))
