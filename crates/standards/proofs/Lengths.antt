-- The lengths of blocks, and with them that both kinds branch into whole seeds.
use mathlib.Core.List.{List, [], ◌∷◌}
use mathlib.Core.Path.{◌≡◌, refl, ◌∙◌}
use Prim.Native.Nat.{ℕ, zero, suc, ◌+◌, ◌*◌}
use native.Mathlib.Omega.{arith}
use lib.LanesLaws.{length-zip2}
use lib.ListN.{length, take, drop, length-set, length-take, length-drop}
use Rattle.expander.specs.declared.Seed.{Seed}
use Rattle.expander.specs.Meaning.{Wide}
use Rattle.standards.specs.Fips197.{cipher, last_round, add_round_key, shift_rows, round_key, next_round_key, schedule_core}
use Rattle.standards.specs.Rfc8439.{plus, quarter_round_at, double_round, double_rounds, start, block_words, serialized, block}
use Rattle.standards.specs.Kinds.{branch1, branch2, block2}

pub cipher_length : (key b : List ℕ) → length (cipher key b) ≡ 16
unfolding last_round add_round_key shift_rows round_key next_round_key schedule_core
cipher_length key b = refl

pub wide1 : (seed : Seed) → Wide (branch1 seed)
wide1 seed = record { left = cipher_length _ _; right = cipher_length _ _ }

quarter_round_length : (x y z w : ℕ) (s : List ℕ) → length (quarter_round_at x y z w s) ≡ length s
unfolding quarter_round_at
quarter_round_length x y z w s = simp length-set

double_round_length : (s : List ℕ) → length (double_round s) ≡ length s
unfolding double_round
double_round_length s = simp quarter_round_length

double_rounds_length : (n : ℕ) (s : List ℕ) → length (double_rounds n s) ≡ length s
double_rounds_length zero s = refl
double_rounds_length (suc n) s = double_round_length (double_rounds n s) ∙ double_rounds_length n s

pub block_words_length : (key : List ℕ) (counter : ℕ) (nonce : List ℕ) → length (block_words key counter nonce) ≡ 16
unfolding block_words
block_words_length key counter nonce =
    let s = start key counter nonce in
    let e = double_rounds_length 10 s in
    length-zip2 plus (double_rounds 10 s) s e ∙ e

pub serialized_length : (ws : List ℕ) → length (serialized ws) ≡ 4 * length ws
serialized_length [] = refl
serialized_length (w ∷ ws) = let e = serialized_length ws in omega arith

pub block_length : (key : List ℕ) (counter : ℕ) (nonce : List ℕ) → length (block key counter nonce) ≡ 64
unfolding block
block_length key counter nonce =
    let ws = block_words key counter nonce in
    let e = serialized_length ws in
    let f = block_words_length key counter nonce in
    omega arith

part_length : (i : ℕ) (b : List ℕ) → length b ≡ 64 → Prim.Native.Nat.◌≤◌ (i + 16) 64 → length (take 16 (drop i b)) ≡ 16
part_length i b h k = simp (length-take, length-drop) (omega arith)

pub wide2 : (seed : Seed) → Wide (branch2 seed)
wide2 seed =
    let h : length (block2 seed 0) ≡ 64 = block_length _ _ _ in
    record { left = part_length 0 (block2 seed 0) h (omega arith); right = part_length 32 (block2 seed 0) h (omega arith) }
