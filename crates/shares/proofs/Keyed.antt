-- The keyed gates' shares, from keys that join, make the plain meanings under the output masks.
use Rattle.std.proofs.Common.{◌≡◌, ℕ, ◌+◌, ◌/◌, ◌%◌, ◌^◌, ◌<◌, ◌≤◌, Bool, true, false, cond, ltb, ap, ◌∙◌, mod-lt, mod-eq_of_lt, div-le_self, arith, pow_pos, pow_mono}
use native.Mathlib.Nat.{mod-mod}
use Rattle.group.specs.Groups.{OutputGroup}
use Rattle.group.specs.Residues.{Residue}
use Rattle.group.specs.Flags.{flags}
use Rattle.interval.specs.Interval.{plain, inside, extra}
use Rattle.interval.proofs.Rule.{interval_joins}
use Rattle.shares.specs.Words.{Quad, quads, flag_word}
use Rattle.shares.specs.Splits.{part_of_element}
use Rattle.shares.specs.Piece.{moved0, moved1, moved2, piece_payload}
use Rattle.shares.specs.Shifts.{low_threshold, low_payload, high_payload, low_point, signed_held}
use Rattle.shares.specs.Keyed.{interval_answer, AnswersJoin, PieceIsPlain, FlagIsPlain, ShiftIsPlain, SignedShiftIsPlain}
use Rattle.shares.proofs.Splits.{elements_split}
use Rattle.shares.proofs.Words.{word_join, quad_join, flag_join}
use Rattle.shares.proofs.Xors.{flag_joins}
use Rattle.shares.proofs.Piece.{piece_joins}
use Rattle.shares.proofs.Shifts.{shift_joins, signed_shift_joins}

pub answers_join : {M : Type 0} (g : OutputGroup M) → AnswersJoin g
answers_join {M} g N m r p q hm hr hp hq β rb re key0 key1 keys =
    let E : M = extra g N r p q β in
    interval_joins g N m r p q hm hr hp hq β (part_of_element g false β rb) (part_of_element g true β rb)
    (part_of_element g false E re) (part_of_element g true E re) key0 key1 (elements_split g β rb) (elements_split g E re) keys

taken_once : (b : Bool) (e : ℕ) → cond b (e % 2 ^ 64 % 2 ^ 64) 0 ≡ cond b (e % 2 ^ 64) 0
taken_once b e = ap (λ n. cond b n 0) (mod-mod e (2 ^ 64))

pub piece_is_plain : PieceIsPlain
piece_is_plain n m r p q c0 c1 c2 c3 out random hn hm hr hp hq rb re key0 key1 keys =
    let N : ℕ = 2 ^ n in
    let β : Quad = piece_payload r c0 c1 c2 c3 in
    let b : Bool = inside p q (plain N r m) in
    let x : Quad = interval_answer quads false N m r p q β rb re key0 in
    let y : Quad = interval_answer quads true N m r p q β rb re key1 in
    let h = quad_join b x y (moved0 r c0 c1 c2 c3) (moved1 r c1 c2 c3) (moved2 r c2 c3) c3 (answers_join quads N m r p q hm hr hp hq β rb re key0 key1 keys) in
    piece_joins n m r p q c0 c1 c2 c3 out random x.0.0.0 x.0.1.0 x.1.0.0 x.1.1.0 y.0.0.0 y.0.1.0 y.1.0.0 y.1.1.0
    hn hr (h.0 ∙ taken_once b _) (h.1 ∙ taken_once b _) (h.2 ∙ taken_once b _) h.3

pub flag_is_plain : FlagIsPlain
flag_is_plain N m r p q pattern out random hm hr hp hq small rb re key0 key1 keys =
    let β : Residue (2 ^ 32) = flag_word pattern in
    let v : ℕ = plain N r m in
    let x : Residue (2 ^ 32) = interval_answer flags false N m r p q β rb re key0 in
    let y : Residue (2 ^ 32) = interval_answer flags true N m r p q β rb re key1 in
    flag_joins p q pattern v out random x.0 y.0
    (flag_join (inside p q v) x y pattern small (answers_join flags N m r p q hm hr hp hq β rb re key0 key1 keys))

-- the high payload is a word
high_payload_fits : (n s : ℕ) → n ≤ 32 → high_payload (2 ^ n) (2 ^ s) % 2 ^ 64 ≡ high_payload (2 ^ n) (2 ^ s)
high_payload_fits n s h =
    let a : 2 ^ n ≤ 2 ^ 32 = pow_mono h in
    mod-eq_of_lt (let k : 2 ^ n / 2 ^ s < 2 ^ 64 = omega (arith, div-le_self (2 ^ n) (2 ^ s)) in k)

pub shift_is_plain : ShiftIsPlain
shift_is_plain n s m r out random hs hn hm hr low0 low1 high0 high1 keys =
    let N : ℕ = 2 ^ n in let S : ℕ = 2 ^ s in
    let x : ℕ = low_point S m in
    shift_joins n s m r out random (low0 x).0 (low1 x).0 (high0 m).0 (high1 m).0 hs hn hm hr
    (word_join (ltb x (low_threshold S r)) (low0 x) (low1 x) low_payload (keys.0 x (mod-lt m (pow_pos s))))
    (word_join (ltb m r) (high0 m) (high1 m) (high_payload N S) (keys.1 m hm) ∙ ap (λ e. cond (ltb m r) e 0) (high_payload_fits n s hn))

pub signed_shift_is_plain : SignedShiftIsPlain
signed_shift_is_plain n s m r out random hs hn hm hr low0 low1 high0 high1 keys =
    let N : ℕ = 2 ^ n in let S : ℕ = 2 ^ s in
    let k : ℕ = signed_held N m in
    let x : ℕ = low_point S k in
    signed_shift_joins n s m r out random (low0 x).0 (low1 x).0 (high0 k).0 (high1 k).0 hs hn hm hr
    (word_join (ltb x (low_threshold S r)) (low0 x) (low1 x) low_payload (keys.0 x (mod-lt k (pow_pos s))))
    (word_join (ltb k r) (high0 k) (high1 k) (high_payload N S) (keys.1 k (mod-lt (m + N / 2) (pow_pos n)))
    ∙ ap (λ e. cond (ltb k r) e 0) (high_payload_fits n s hn))
