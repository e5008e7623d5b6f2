-- A gate's head and the bytes of its key tell the gate.
use Rattle.std.proofs.Common.{◌≡◌, ℕ, ◌+◌, ◌*◌, ◌^◌, ◌<◌, ◌≤◌, List, [], ◌∷◌, ◌++◌, map, length, get_or, sym, refl, ap, ◌∙◌, mod-eq_of_lt, arith, pow_mono}
use Rattle.group.specs.Residues.{Residue, residue_path}
use Rattle.key.specs.declared.Row.{Row}
use Rattle.key.specs.Rows.{row_mean}
use Rattle.stored.specs.Forms.{four_bytes}
use Rattle.stored.specs.Bytes.{four_told, eight_told}
use Rattle.shares.specs.Words.{Word, Quad}
use Rattle.layout.specs.Keys.{Compared, compared_bytes, word_bytes, flag_bytes, quad_bytes}
use Rattle.layout.specs.Wires as wire
use Rattle.layout.specs.Wires.{Gate, gate_key_bytes, interval_bytes, shift_bytes}
use Rattle.keyform.proofs.Lengths.{key_long}
use Rattle.keyform.proofs.Told.{same_front, same_back, seed_told, key_told, alike_mean}
use Rattle.plan.specs.Gates.{GateHead, number_of, kind_of, reads}
use Rattle.plan.specs.declared.gates.Gate.TheVariants.{Scale, Piece, Flag, Shift, SignedShift}
use Rattle.bodies.specs.Allowed.{head, key_allowed}
use Rattle.boxview.specs.Reading.{WholeKey, WholeGate}

word_told : (a b : Word) → word_bytes a ≡ word_bytes b → a ≡ b
word_told a b e = residue_path (2 ^ 64) a b (sym a.1 ∙ eight_told a.0 b.0 e ∙ b.1)

flag_told : (a b : Residue (2 ^ 32)) → flag_bytes a ≡ flag_bytes b → a ≡ b
flag_told a b e = residue_path (2 ^ 32) a b (sym a.1 ∙ four_told a.0 b.0 e ∙ b.1)

quad_told : (a b : Quad) → quad_bytes a ≡ quad_bytes b → a ≡ b
quad_told a b e =
    let w : Quad → Word = λ q. q.0.0 in
    let l = same_front (word_bytes a.0.0 ++ word_bytes a.0.1) (word_bytes a.1.0 ++ word_bytes a.1.1) (word_bytes b.0.0 ++ word_bytes b.0.1)
    (word_bytes b.1.0 ++ word_bytes b.1.1) refl e in
    let r = same_back (word_bytes a.0.0 ++ word_bytes a.0.1) (word_bytes a.1.0 ++ word_bytes a.1.1) (word_bytes b.0.0 ++ word_bytes b.0.1)
    (word_bytes b.1.0 ++ word_bytes b.1.1) refl e in
    let w0 = word_told a.0.0 b.0.0 (same_front _ _ _ _ refl l) in
    let w1 = word_told a.0.1 b.0.1 (same_back (word_bytes a.0.0) _ (word_bytes b.0.0) _ refl l) in
    let w2 = word_told a.1.0 b.1.0 (same_front _ _ _ _ refl r) in
    let w3 = word_told a.1.1 b.1.1 (same_back (word_bytes a.1.0) _ (word_bytes b.1.0) _ refl r) in
    λ i. ((w0 i, w1 i), (w2 i, w3 i))

-- a number below 2^32 by its four bytes
number_told : (a b : ℕ) → a < 2 ^ 32 → b < 2 ^ 32 → four_bytes a ≡ four_bytes b → a ≡ b
number_told a b h g e = sym (mod-eq_of_lt h) ∙ four_told a b e ∙ mod-eq_of_lt g

below_32 : (n x : ℕ) → n ≤ 32 → x < 2 ^ n → x < 2 ^ 32
below_32 n x h l = let m : 2 ^ n ≤ 2 ^ 32 = pow_mono h in omega arith

module _ {M : Type 0} (form : M → List ℕ) (z : ℕ) (sized : (a : M) → length (form a) ≡ z) (told : (a b : M) → form a ≡ form b → a ≡ b) where
  same_mean : (rows : List (Row M)) → map (row_mean (λ (v : M). v)) rows ≡ rows
  same_mean [] = refl
  same_mean (r ∷ rs) = ap (λ t. r ∷ t) (same_mean rs)

  compared_told : (k j : Compared M) → length k.rows ≡ length j.rows → WholeKey k → WholeKey j → compared_bytes form k ≡ compared_bytes form j → k ≡ j
  compared_told k j h wk wj e =
      let t = key_told form z sized k.root j.root k.rows j.rows k.last j.last h e in
      let root : k.root ≡ j.root = seed_told k.root j.root wk.0 wj.0 t.0 in
      let rows : k.rows ≡ j.rows
      = sym (same_mean k.rows) ∙ alike_mean form (λ (v : M). v) told k.rows j.rows wk.1 wj.1 t.1 ∙ same_mean j.rows in
      let last : k.last ≡ j.last = told k.last j.last t.2 in
      λ i. record { root = root i; rows = rows i; last = last i }

  compared_long : (k j : Compared M) → length k.rows ≡ length j.rows → length (compared_bytes form k) ≡ length (compared_bytes form j)
  compared_long k j h =
      key_long form z sized k.root k.rows k.last ∙ ap (λ n. 16 + n * (17 + z) + z) h ∙ sym (key_long form z sized j.root j.rows j.last)

  -- an interval gate's key by its bytes
  interval_told : (k j : Compared M) (β γ e f : M) (o u : ℕ) → length k.rows ≡ length j.rows → WholeKey k → WholeKey j → o < 2 ^ 32 → u < 2 ^ 32
      → interval_bytes form k β e o ≡ interval_bytes form j γ f u → (k ≡ j) × (β ≡ γ) × (e ≡ f) × (o ≡ u)
  interval_told k j β γ e f o u h wk wj ho hu t =
      let long = compared_long k j h in
      let r1 = same_back (compared_bytes form k) (form β ++ (form e ++ four_bytes o)) (compared_bytes form j) (form γ ++ (form f ++ four_bytes u)) long t in
      let lβ : length (form β) ≡ length (form γ) = sized β ∙ sym (sized γ) in
      let r2 = same_back (form β) (form e ++ four_bytes o) (form γ) (form f ++ four_bytes u) lβ r1 in
      let le : length (form e) ≡ length (form f) = sized e ∙ sym (sized f) in (
        compared_told k j h wk wj (same_front (compared_bytes form k) (form β ++ (form e ++ four_bytes o)) (compared_bytes form j) (form γ ++ (form f ++ four_bytes u)) long t),
        told β γ (same_front (form β) (form e ++ four_bytes o) (form γ) (form f ++ four_bytes u) lβ r1),
        told e f (same_front (form e) (four_bytes o) (form f) (four_bytes u) le r2),
        number_told o u ho hu (same_back (form e) (four_bytes o) (form f) (four_bytes u) le r2),
      )

word_sized : (a : Word) → length (word_bytes a) ≡ 8
word_sized a = refl

flag_sized : (a : Residue (2 ^ 32)) → length (flag_bytes a) ≡ 4
flag_sized a = refl

quad_sized : (a : Quad) → length (quad_bytes a) ≡ 32
quad_sized a = refl

-- a shift's key by its bytes
shift_told : (l h m k : Compared Word) (r s : ℕ) → length l.rows ≡ length m.rows → length h.rows ≡ length k.rows
    → WholeKey l × WholeKey h → WholeKey m × WholeKey k → r < 2 ^ 32 → s < 2 ^ 32 → shift_bytes l h r ≡ shift_bytes m k s → (l ≡ m) × (h ≡ k) × (r ≡ s)
shift_told l h m k r s el eh w v hr hs t =
    let L = compared_bytes word_bytes in
    let low = compared_long word_bytes 8 word_sized word_told l m el in
    let high = compared_long word_bytes 8 word_sized word_told h k eh in
    let rest = same_back (L l) (L h ++ four_bytes r) (L m) (L k ++ four_bytes s) low t in (
      compared_told word_bytes 8 word_sized word_told l m el w.0 v.0 (same_front (L l) (L h ++ four_bytes r) (L m) (L k ++ four_bytes s) low t),
      compared_told word_bytes 8 word_sized word_told h k eh w.1 v.1 (same_front (L h) (four_bytes r) (L k) (four_bytes s) high rest),
      number_told r s hr hs (same_back (L h) (four_bytes r) (L k) (four_bytes s) high rest),
    )

-- the numbers of a head
one : GateHead → ℕ
one g = get_or (reads g) 0 0

two : GateHead → ℕ
two (Scale a c d) = c
two (Piece a p q c) = p
two (Flag a p q t) = p
two (Shift a s) = s
two (SignedShift a s) = s
two g = get_or (reads g) 1 0

three : GateHead → ℕ
three (Scale a c d) = d
three (Piece a p q c) = q
three (Flag a p q t) = q
three g = 0

-- gates of one head, with as many rows and the same bytes of their keys, are one gate
pub gate_told : (n : ℕ) → n ≤ 32 → (g G : Gate) → head g ≡ head G → gate_key_bytes g ≡ gate_key_bytes G → key_allowed n g → key_allowed n G
    → WholeGate g → WholeGate G → g ≡ G
unfolding one two three
gate_told n le (wire.sum a b) (wire.sum a' b') t m A B W V = λ i. wire.sum (ap one t i) (ap two t i)
gate_told n le (wire.scale a c d) (wire.scale a' c' d') t m A B W V = λ i. wire.scale (ap one t i) (ap two t i) (ap three t i)
gate_told n le (wire.product a b x y z) (wire.product a' b' x' y' z') t m A B W V =
    let f = four_bytes in
    let r = same_back (f x) (f y ++ f z) (f x') (f y' ++ f z') refl m in
    let ex = number_told x x' (below_32 n x le A.0) (below_32 n x' le B.0) (same_front (f x) (f y ++ f z) (f x') (f y' ++ f z') refl m) in
    let ey = number_told y y' (below_32 n y le A.1) (below_32 n y' le B.1) (same_front (f y) (f z) (f y') (f z') refl r) in
    let ez = number_told z z' (below_32 n z le A.2) (below_32 n z' le B.2) (same_back (f y) (f z) (f y') (f z') refl r) in
    λ i. wire.product (ap one t i) (ap two t i) (ex i) (ey i) (ez i)
gate_told n le (wire.piece a p q k β e o) (wire.piece a' p' q' k' β' e' o') t m A B W V =
    let u = interval_told quad_bytes 32 quad_sized quad_told k k' β β' e e' o o' (A.0 ∙ sym B.0) W V (below_32 n o le A.1) (below_32 n o' le B.1) m in
    λ i. wire.piece (ap one t i) (ap two t i) (ap three t i) (u.0 i) (u.1 i) (u.2 i) (u.3 i)
gate_told n le (wire.flag a p q k β e o) (wire.flag a' p' q' k' β' e' o') t m A B W V =
    let u = interval_told flag_bytes 4 flag_sized flag_told k k' β β' e e' o o' (A.0 ∙ sym B.0) W V A.1 B.1 m in
    λ i. wire.flag (ap one t i) (ap two t i) (ap three t i) (u.0 i) (u.1 i) (u.2 i) (u.3 i)
gate_told n le (wire.shift a s l h r) (wire.shift a' s' l' h' r') t m A B W V =
    let es : s ≡ s' = ap two t in
    let u = shift_told l h l' h' r r' (A.0 ∙ es ∙ sym B.0) (A.1 ∙ sym B.1) W V (below_32 n r le A.2) (below_32 n r' le B.2) m in
    λ i. wire.shift (ap one t i) (es i) (u.0 i) (u.1 i) (u.2 i)
gate_told n le (wire.signed_shift a s l h r) (wire.signed_shift a' s' l' h' r') t m A B W V =
    let es : s ≡ s' = ap two t in
    let u = shift_told l h l' h' r r' (A.0 ∙ es ∙ sym B.0) (A.1 ∙ sym B.1) W V (below_32 n r le A.2) (below_32 n r' le B.2) m in
    λ i. wire.signed_shift (ap one t i) (es i) (u.0 i) (u.1 i) (u.2 i)
gate_told n le (wire.xor a b) (wire.xor a' b') t m A B W V = λ i. wire.xor (ap one t i) (ap two t i)
gate_told n le g G t m A B W V = absurd (let z = ap (λ h. number_of (kind_of h)) t in omega arith)
