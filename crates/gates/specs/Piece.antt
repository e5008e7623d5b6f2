-- A piece's key and share.
use Rattle.std.specs.Prelude.{ℕ, ◌+◌, ◌%◌, Bool, true, false, cond, List, [], ◌∷◌, slice_index}
use Rattle.expander.specs.Meaning.{Expansion}
use Rattle.group.specs.declared.Word as code
use Rattle.group.specs.declared.Pair.{Pair}
use Rattle.group.specs.Quads.{quad_from}
use Rattle.gatemath.specs.Piece.{moved_quad}
use Rattle.key.specs.declared.Row.{Row}
use Rattle.key.specs.declared.BoxNumber.{BoxNumber}
use Rattle.key.specs.Rows.{is_one}
use Rattle.masking.specs.Masking.{size}
use Rattle.shares.specs.Splits.{part_of_number}
use Rattle.shares.specs.Words.{Quad, quad, quads}
use Rattle.expander.specs.declared.Seed.{Seed}
use Rattle.joining.specs.Joining.{dealt_answer}
use Rattle.interval.specs.Interval.{plain, threshold}
use Rattle.shares.specs.Keyed.{dealt_piece}
use Rattle.shares.specs.Local.{sum_of}
use Rattle.shares.specs.Piece.{piece_payload}
use Rattle.shares.specs.Plain.{plain_piece}
use Rattle.gatekeys.specs.Random.{root_of}
use Rattle.gatekeys.specs.declared.ranges.Interval.{Interval}
use Rattle.gatekeys.specs.declared.keyed.PieceGate.{PieceGate}
use Rattle.gates.specs.declared.interval_key.IntervalKey.{IntervalKey}
use Rattle.gates.specs.declared.interval_key.IntervalDraws.{IntervalDraws}
use Rattle.gates.specs.declared.interval_key.IntervalDeal.{IntervalDeal}
use Rattle.gates.specs.Interval.{dealt_interval, interval_rows}

-- words 1 to 4 are the roots, 5 to 8 box 1's part of the payload, 9 to 12 its part of E
abbrev pub piece_draws : List ℕ → IntervalDraws Quad
piece_draws w = record {
  roots = record {
    zero = root_of (slice_index w 1) (slice_index w 2);
    one = root_of (slice_index w 3) (slice_index w 4);
  };
  payload1 = quad (slice_index w 5) (slice_index w 6) (slice_index w 7) (slice_index w 8);
  extra1 = quad (slice_index w 9) (slice_index w 10) (slice_index w 11) (slice_index w 12);
}

-- the payload for the coefficients c and the mask r
abbrev pub payload_of : ℕ → List ℕ → Quad
payload_of r c = piece_payload r (slice_index c 0) (slice_index c 1) (slice_index c 2) (slice_index c 3)

-- what its keys are dealt from, in memory
abbrev pub piece_deal : PieceGate → IntervalDeal (Pair (Pair code.Word code.Word) (Pair code.Word code.Word))
piece_deal t = record {
  interval = t.interval;
  mask = t.mask;
  payload = moved_quad t.mask t.coefficients;
  draws = record {
    roots = (piece_draws t.words).roots;
    payload1 = quad_from (slice_index t.words 5 ∷ slice_index t.words 6 ∷ slice_index t.words 7 ∷ slice_index t.words 8 ∷ []);
    extra1 = quad_from (slice_index t.words 9 ∷ slice_index t.words 10 ∷ slice_index t.words 11 ∷ slice_index t.words 12 ∷ []);
  };
}

-- a box's part of the output mask, which is word 0; word 13 is box 1's
abbrev pub piece_out : PieceGate → Bool → ℕ
piece_out t one = let N : ℕ = size t.interval.width in part_of_number one N (slice_index t.words 0 % N) (slice_index t.words 13)

-- a box's key; word 0 is the output mask, and word 13 box 1's part of it
abbrev pub dealt_piece_key : Expansion → BoxNumber → Interval → ℕ → List ℕ → List ℕ → ℕ → IntervalKey Quad
dealt_piece_key x b i r c w n =
    let N : ℕ = size i.width in
    dealt_interval x quads b i r (payload_of r c) (piece_draws w) (part_of_number (is_one b) N (slice_index w 0 % N) (slice_index w 13)) n

abbrev pub piece_rows : Expansion → Interval → ℕ → List ℕ → List ℕ → ℕ → List (Row Quad)
piece_rows x i r c w n = interval_rows x quads i r (payload_of r c) (piece_draws w) n

-- a box's share at the held value m, from the key that the dealer d deals; the box's own expansion is x
abbrev pub piece_share_dealt : Expansion → Expansion → Bool → Interval → ℕ → List ℕ → List ℕ → ℕ → ℕ
piece_share_dealt d x one i r c w m =
    let N : ℕ = size i.width in
    let a : Seed = (piece_draws w).roots.zero in
    let b : Seed = (piece_draws w).roots.one in
    dealt_piece one N m r i.low i.high (slice_index c 0) (slice_index c 1) (slice_index c 2) (slice_index c 3) (slice_index w 0 % N)
    (piece_draws w).payload1 (piece_draws w).extra1 (slice_index w 13)
    (dealt_answer quads d x i.width.bits (threshold N r) (payload_of r c) a b one (cond one b a))

-- both boxes' shares, and their sum
abbrev pub piece_numbers : Expansion → Expansion → Expansion → Interval → ℕ → List ℕ → List ℕ → ℕ → ℕ × ℕ × ℕ
piece_numbers d x y i r c w m =
    let s0 : ℕ = piece_share_dealt d x false i r c w m in
    let s1 : ℕ = piece_share_dealt d y true i r c w m in
    (s0, s1, sum_of (size i.width) s0 s1)

-- the plain meaning at the held value m, plus the output mask
abbrev pub piece_held : Interval → ℕ → List ℕ → List ℕ → ℕ → ℕ
piece_held i r c w m =
    let N : ℕ = size i.width in
    (plain_piece N i.low i.high (slice_index c 0) (slice_index c 1) (slice_index c 2) (slice_index c 3) (plain N r m) + slice_index w 0 % N) % N
