-- A body of its layout has at most 1,700 bytes, an input's at most 5.
use Rattle.std.proofs.Common.{◌≡◌, ℕ, ◌+◌, ◌*◌, ◌<◌, ◌≤◌, Bool, true, false, cond, ◌&&◌, eqb, ltb, leb, List, length, get_or, drop, Some, None, Option, arith, length-drop}
use Rattle.std.proofs.lemmas.Bool.{and_parts, false≢true, eqb-true, leb-true, ltb-true}
use Rattle.plan.specs.Questions.{below, shift_fits}
use Rattle.layout.specs.Bytes.{number_at}
use Rattle.plan.specs.Gates.{GateHead}
use Rattle.plan.specs.declared.gates.Gate.TheVariants.{Sum, Scale, Product, Piece, Flag, Shift, SignedShift, Xor}
use Rattle.bodies.specs.Heads.{gives_flag, numbers_fit, parameters_long, key_long}
use Rattle.bodies.specs.Bodies.{shown_in, rest_in, head_in, key_fits, mask_fits, rest_fits, gate_fits, input_fits}

shift_short : (n s : ℕ) → shift_fits n s ≡ true → s < n
shift_short n s h = let t = (and_parts (leb 1 s) (ltb s n) h).1 in ltb-true s n t

longest : (n : ℕ) (g : GateHead) → n ≤ 32 → numbers_fit n g ≡ true → parameters_long g + key_long n g ≤ 1692
longest n (Sum a b) w h = omega arith
longest n (Scale a c d) w h = omega arith
longest n (Product a b) w h = omega arith
longest n (Piece a p q _) w h = omega arith
longest n (Flag a p q _) w h = omega arith
longest n (Shift a s) w h = let t = shift_short n s h in omega arith
longest n (SignedShift a s) w h = let t = shift_short n s h in omega arith
longest n (Xor a b) w h = omega arith

rest_short : (n : ℕ) (mask : Option ℕ) (g : Option GateHead) (rest : List ℕ) → n ≤ 32 → rest_fits n mask g rest ≡ true → length rest ≤ 1692
rest_short n mask None rest w h = absurd (false≢true h)
rest_short n mask (Some g) rest w h =
    let long = eqb (length rest) (parameters_long g + key_long n g) in
    let key = key_fits n g (drop (parameters_long g) rest) in
    let a = and_parts (mask_fits n (gives_flag g) mask) (numbers_fit n g && (long && key)) h in
    let b = and_parts (numbers_fit n g) (long && key) a.1 in
    let c = and_parts long key b.1 in
    omega (arith, longest n g w b.0, eqb-true (length rest) (parameters_long g + key_long n g) c.0)

pub gate_short : (n : ℕ) (body : List ℕ) → n ≤ 32 → gate_fits n body ≡ true → length body ≤ 1700
gate_short n body w h =
    let whole = leb (4 + 4 * get_or body 3 0) (length body) in
    let rest = rest_fits n (shown_in body) (head_in body) (rest_in body) in
    let a = and_parts (ltb (get_or body 3 0) 2) (whole && rest) h in
    let b = and_parts whole rest a.1 in
    let p = ltb-true (get_or body 3 0) 2 a.0 in
    let q = leb-true (4 + 4 * get_or body 3 0) (length body) b.0 in
    let r = rest_short n (shown_in body) (head_in body) (rest_in body) w b.1 in
    omega (arith, length-drop (4 + 4 * get_or body 3 0) body)

pub input_short : (b n : ℕ) (body : List ℕ) → input_fits b n body ≡ true → length body ≤ 5
input_short b n body h =
    let mine : Bool = eqb (length body) 5 && below n (number_at body 1) in
    let other : Bool = eqb (length body) 1 in
    let t = (and_parts (ltb (get_or body 0 0) 2) (cond (eqb (get_or body 0 0) b) mine other) h).1 in
    pick (eqb (get_or body 0 0) b) t
  where
    pick : (c : Bool) → cond c (eqb (length body) 5 && below n (number_at body 1)) (eqb (length body) 1) ≡ true → length body ≤ 5
    pick true t = omega (arith, eqb-true (length body) 5 (and_parts (eqb (length body) 5) (below n (number_at body 1)) t).0)
    pick false t = omega (arith, eqb-true (length body) 1 t)
