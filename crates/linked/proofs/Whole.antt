-- Dealt keys have whole seeds.
use Rattle.std.proofs.Common.{◌≡◌, ℕ, zero, suc, ◌^◌, Bool, true, false, not, List, [], ◌∷◌, length, get_or, sym, refl, ap, ◌∙◌, arith}
use lib.Bits.{bit_xor}
use lib.Lanes.{zip2}
use Rattle.expander.specs.Meaning.{Expansion, Wide}
use Rattle.expander.specs.declared.Seed.{Seed}
use Rattle.expander.specs.declared.Branches.{Branches}
use Rattle.group.specs.Groups.{OutputGroup}
use Rattle.evaluation.specs.Evaluation.{side_of, bit_at}
use Rattle.dealing.specs.declared.Descent.{Descent}
use Rattle.dealing.specs.Dealing.{dealt_rows, next_at, start}
use Rattle.joining.specs.Joining.{AllWide}
use Rattle.plan.specs.Gates.{GateBody}
use Rattle.plan.specs.declared.gates.Gate.TheVariants.{Sum, Scale, Product, Piece, Flag, Shift, SignedShift, Xor}
use Rattle.group.specs.Flags.{flags}
use Rattle.interval.specs.Interval.{threshold}
use Rattle.shares.specs.Words.{words, word, quads, flag_word}
use Rattle.shares.specs.Shifts.{low_threshold, low_payload, high_threshold, high_payload}
use Rattle.gates.specs.Piece.{piece_draws, payload_of}
use Rattle.gates.specs.Flag.{flag_draws}
use Rattle.gates.specs.Shift.{low_root0, low_root1, high_root0, high_root1}
use Rattle.gatebytes.specs.Dealt.{compared, low_key, high_key, dealt_gate}
use Rattle.boxview.specs.Reading.{WholeSeed, WholeRows, WholeKey, WholeGate}

zip_long : (a b : List ℕ) → length a ≡ length b → length (zip2 bit_xor a b) ≡ length a
zip_long [] b h = refl
zip_long (x ∷ xs) [] h = absurd (omega arith)
zip_long (x ∷ xs) (y ∷ ys) h = ap suc (zip_long xs ys (omega arith))

side_whole : (b : Branches) → Wide b → (right : Bool) → length (side_of b right).seed.bytes ≡ 16
side_whole b w true = w.right
side_whole b w false = w.left

module _ {M : Type 0} (x : Expansion) (wide : AllWide x) (g : OutputGroup M) where
  rows_whole : (β : M) (α n : ℕ) (d : Descent M) → WholeRows (dealt_rows x g β α n d)
  rows_whole β α zero d = tt
  rows_whole β α (suc n) d =
      let lose : Bool = not (bit_at α n) in
      let l0 = side_whole (x.branch d.seed0) (wide d.seed0) lose in
      let l1 = side_whole (x.branch d.seed1) (wide d.seed1) lose in (
        zip_long (side_of (x.branch d.seed0) lose).seed.bytes (side_of (x.branch d.seed1) lose).seed.bytes (l0 ∙ sym l1) ∙ l0,
        rows_whole β α n (next_at x g β (bit_at α n) d),
      )

  key_whole : (n : ℕ) (one : Bool) (count α : ℕ) (β : M) (root0 root1 : Seed) → WholeSeed root0 → WholeSeed root1 → WholeKey (compared x n one g count α β root0 root1)
  key_whole n true count α β root0 root1 h0 h1 = (h1, rows_whole β α count (start g root0 root1))
  key_whole n false count α β root0 root1 h0 h1 = (h0, rows_whole β α count (start g root0 root1))

shift_whole : (x : Expansion) → AllWide x → (n : ℕ) (one : Bool) (s r : ℕ) (w : List ℕ) → WholeKey (low_key x n one s r w) × WholeKey (high_key x n one s r w)
shift_whole x wide n one s r w = (
  key_whole x wide words n one s (low_threshold (2 ^ s) r) (word low_payload) (low_root0 w) (low_root1 w) refl refl,
  key_whole x wide words n one n (high_threshold r) (word (high_payload (2 ^ n) (2 ^ s))) (high_root0 w) (high_root1 w) refl refl,
)

pub gate_whole : (x : Expansion) → AllWide x → (n : ℕ) (one : Bool) (ms w : List ℕ) (b : GateBody) → WholeGate (dealt_gate x n one ms w b)
gate_whole x wide n one ms w (Sum a b) = tt
gate_whole x wide n one ms w (Scale a c d) = tt
gate_whole x wide n one ms w (Product a b) = tt
gate_whole x wide n one ms w (Piece a p q c) =
    let r : ℕ = get_or ms a 0 in
    key_whole x wide quads n one n (threshold (2 ^ n) r) (payload_of r c) (piece_draws w).roots.zero (piece_draws w).roots.one refl refl
gate_whole x wide n one ms w (Flag a p q t) =
    key_whole x wide flags n one n (threshold (2 ^ n) (get_or ms a 0)) (flag_word t) (flag_draws w).roots.zero (flag_draws w).roots.one refl refl
gate_whole x wide n one ms w (Shift a s) = shift_whole x wide n one s (get_or ms a 0) w
gate_whole x wide n one ms w (SignedShift a s) = shift_whole x wide n one s (get_or ms a 0) w
gate_whole x wide n one ms w (Xor a b) = tt
