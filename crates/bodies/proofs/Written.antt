-- A wire whose fields are allowed has a body that is of its layout, and that reads back.
use Rattle.std.proofs.Common.{◌≡◌, ℕ, ◌+◌, ◌^◌, ◌<◌, ◌≤◌, Bool, true, false, cond, ◌&&◌, eqb, ltb, leb, List, [], ◌∷◌, ◌++◌, length, drop, Some, None, Option, sym, refl, ap, ◌∙◌, append_assoc, arith, length-append}
use Rattle.std.proofs.lemmas.Bool.Decides.{nat_tests}
use Rattle.std.proofs.lemmas.Bool.{and_parts, eq-eqb, ne_eqb, le-leb}
use Rattle.group.specs.Residues.{Residue}
use Rattle.shares.specs.Words.{Word, Quad}
use Rattle.stored.specs.Forms.{four_bytes}
use Rattle.plan.specs.Questions.{below, interval_fits}
use Rattle.layout.specs.Bytes.{number_at}
use Rattle.layout.specs.Keys.{Compared, compared_bytes, word_bytes, flag_bytes, quad_bytes}
use Rattle.layout.specs.Wires as wire
use Rattle.layout.specs.Wires.{Gate, kind, first, second, parameter_bytes, interval_bytes, shift_bytes, gate_key_bytes, wire_bytes, gate, input}
use Rattle.plan.specs.declared.gates.Gate.TheVariants.{Scale, Piece, Flag}
use Rattle.bodies.specs.declared.WireBody.TheVariants.{Input}
use Rattle.bodies.specs.Heads.{head_of, gives_flag, numbers_fit, parameters_long, compared_long, key_long}
use Rattle.bodies.specs.Bodies.{when, input_in, shown_in, head_in, rows_fit, shift_key_fits, key_fits, mask_fits, rest_fits, gate_fits, input_fits}
use Rattle.bodies.specs.Allowed.{head, key_allowed, mask_allowed, GateAllowed, input_allowed}
use Rattle.bodies.proofs.Numbers.{number_four, number_back, below_from, below_tells, small}
use Rattle.bodies.proofs.Keys.{compared_is_long, key_rows_fit}

-- the interval of a gate is below 2^32
ends_small : (n p q : ℕ) → n ≤ 32 → interval_fits n p q ≡ true → (p < 2 ^ 32) × (q < 2 ^ 32)
ends_small n p q w h =
    let t = and_parts (leb p q) (below n q) h in
    let s = small n q w (below_tells n q t.1) in
    let l : p ≤ q = (let t0 = t.0 in grind (arith, nat_tests)) in
    (omega arith, s)

-- a gate's kind, wires and parameters read back
head_back : (n : ℕ) (g : Gate) → n ≤ 32 → numbers_fit n (head g) ≡ true
    → head_of (kind g) (first g) (second g) (parameter_bytes g ++ gate_key_bytes g) ≡ Some (head g)
head_back n (wire.sum a b) w h = refl
head_back n (wire.scale a c d) w h =
    let t = and_parts (below n c) (below n d) h in
    let pc = number_four c (small n c w (below_tells n c t.0)) in
    let pd = number_four d (small n d w (below_tells n d t.1)) in
    λ i. Some (Scale a (pc i) (pd i))
head_back n (wire.product a b x y z) w h = refl
head_back n (wire.piece a p q k β e o) w h =
    let t = ends_small n p q w h in
    let pp = number_four p t.0 in
    let pq = number_four q t.1 in
    λ i. Some (Piece a (pp i) (pq i) tt)
head_back n (wire.flag a p q k β e o) w h =
    let t = ends_small n p q w h in
    let pp = number_four p t.0 in
    let pq = number_four q t.1 in
    λ i. Some (Flag a (pp i) (pq i) tt)
head_back n (wire.shift a s l h' r) w h = refl
head_back n (wire.signed_shift a s l h' r) w h = refl
head_back n (wire.xor a b) w h = refl

word_sized : (x : Word) → length (word_bytes x) ≡ 8
word_sized x = refl

flag_sized : (x : Residue (2 ^ 32)) → length (flag_bytes x) ≡ 4
flag_sized x = refl

quad_sized : (x : Quad) → length (quad_bytes x) ≡ 32
quad_sized x = refl

-- an interval gate's key: its length, its rows and its share
module _ {M : Type 0} (form : M → List ℕ) (size : ℕ) (sized : (m : M) → length (form m) ≡ size) (n : ℕ) (k : Compared M) (β e : M) (o : ℕ) (rows : length k.rows ≡ n) where
  long_at : length (compared_bytes form k) ≡ compared_long size n
  long_at = compared_is_long form size sized k ∙ ap (compared_long size) rows

  pub interval_long : length (interval_bytes form k β e o) ≡ compared_long size n + (size + size + 4)
  interval_long =
      let a = length-append (compared_bytes form k) (form β ++ (form e ++ four_bytes o)) in
      let b = length-append (form β) (form e ++ four_bytes o) in
      let c = length-append (form e) (four_bytes o) in
      let p = sized β in
      let q = sized e in
      let l = long_at in
      omega arith

  pub interval_rows : rows_fit size (interval_bytes form k β e o) n 16 ≡ true
  interval_rows = key_rows_fit form size sized k (interval_bytes form k β e o) [] (form β ++ (form e ++ four_bytes o)) n 16 refl rows refl

  pub interval_share : o < 2 ^ 32 → number_at (interval_bytes form k β e o) (compared_long size n + (size + size)) ≡ o
  interval_share h =
      let key = compared_bytes form k in
      let pre = (key ++ form β) ++ form e in
      let is : interval_bytes form k β e o ≡ pre ++ (four_bytes o ++ []) =
      sym (append_assoc key (form β) (form e ++ four_bytes o)) ∙ sym (append_assoc (key ++ form β) (form e) (four_bytes o)) in
      let a = length-append (key ++ form β) (form e) in
      let b = length-append key (form β) in
      let p = sized β in
      let q = sized e in
      let l = long_at in
      number_back (interval_bytes form k β e o) pre [] o (compared_long size n + (size + size)) is (omega arith) h

-- a shift's key
module _ (n s : ℕ) (l h : Compared Word) (r : ℕ) (low : length l.rows ≡ s) (high : length h.rows ≡ n) where
  low_at : length (compared_bytes word_bytes l) ≡ compared_long 8 s
  low_at = compared_is_long word_bytes 8 word_sized l ∙ ap (compared_long 8) low

  high_at : length (compared_bytes word_bytes h) ≡ compared_long 8 n
  high_at = compared_is_long word_bytes 8 word_sized h ∙ ap (compared_long 8) high

  pub shift_long : length (shift_bytes l h r) ≡ compared_long 8 s + compared_long 8 n + 4
  shift_long =
      let a = length-append (compared_bytes word_bytes l) (compared_bytes word_bytes h ++ four_bytes r) in
      let b = length-append (compared_bytes word_bytes h) (four_bytes r) in
      let p = low_at in
      let q = high_at in
      omega arith

  pub shift_fits_written : n ≤ 32 → r < 2 ^ n → shift_key_fits n s (shift_bytes l h r) ≡ true
  shift_fits_written w b =
      let lb = compared_bytes word_bytes l in
      let hb = compared_bytes word_bytes h in
      let key = shift_bytes l h r in
      let p = low_at in
      let q = high_at in
      let one = key_rows_fit word_bytes 8 word_sized l key [] (hb ++ four_bytes r) s 16 refl low refl in
      let two = key_rows_fit word_bytes 8 word_sized h key lb (four_bytes r) n (compared_long 8 s + 16) refl high (omega arith) in
      let is : key ≡ (lb ++ hb) ++ (four_bytes r ++ []) = sym (append_assoc lb hb (four_bytes r)) in
      let share : number_at key (compared_long 8 s + compared_long 8 n) ≡ r
      = number_back key (lb ++ hb) [] r (compared_long 8 s + compared_long 8 n) is (omega (arith, length-append lb hb)) (small n r w b) in
      let three : below n (number_at key (compared_long 8 s + compared_long 8 n)) ≡ true = ap (below n) share ∙ below_from n r b in
      λ i. one i && (two i && three i)

-- what follows the mask has its length
rest_long : (n : ℕ) (g : Gate) → key_allowed n g → length (parameter_bytes g ++ gate_key_bytes g) ≡ parameters_long (head g) + key_long n (head g)
rest_long n (wire.sum a b) k = refl
rest_long n (wire.scale a c d) k = refl
rest_long n (wire.product a b x y z) k = refl
rest_long n (wire.piece a p q key β e o) k = let l = interval_long quad_bytes 32 quad_sized n key β e o k.0 in omega arith
rest_long n (wire.flag a p q key β e o) k = let l = interval_long flag_bytes 4 flag_sized n key β e o k.0 in omega arith
rest_long n (wire.shift a s l h r) k = let t = shift_long n s l h r k.0 k.1 in omega arith
rest_long n (wire.signed_shift a s l h r) k = let t = shift_long n s l h r k.0 k.1 in omega arith
rest_long n (wire.xor a b) k = refl

-- a number within the first twelve bytes
share_back : (n x : ℕ) → n ≤ 32 → x < 2 ^ n → below n (number_at (four_bytes x) 0) ≡ true
share_back n x w h = ap (below n) (number_four x (small n x w h)) ∙ below_from n x h

key_written : (n : ℕ) (g : Gate) → n ≤ 32 → key_allowed n g → key_fits n (head g) (gate_key_bytes g) ≡ true
key_written n (wire.sum a b) w k = refl
key_written n (wire.scale a c d) w k = refl
key_written n (wire.product a b x y z) w k =
    let p = share_back n x w k.0 in
    let q = share_back n y w k.1 in
    let r = share_back n z w k.2 in
    λ i. p i && (q i && r i)
key_written n (wire.piece a p q key β e o) w k =
    let r = interval_rows quad_bytes 32 quad_sized n key β e o k.0 in
    let s = interval_share quad_bytes 32 quad_sized n key β e o k.0 (small n o w k.1) in
    let t : below n (number_at (interval_bytes quad_bytes key β e o) (compared_long 32 n + 64)) ≡ true = ap (below n) s ∙ below_from n o k.1 in
    λ i. r i && t i
key_written n (wire.flag a p q key β e o) w k = interval_rows flag_bytes 4 flag_sized n key β e o k.0
key_written n (wire.shift a s l h r) w k = shift_fits_written n s l h r k.0 k.1 w k.2
key_written n (wire.signed_shift a s l h r) w k = shift_fits_written n s l h r k.0 k.1 w k.2
key_written n (wire.xor a b) w k = refl

-- what follows the mask begins with the parameters, and the key follows
key_after : (g : Gate) → drop (parameters_long (head g)) (parameter_bytes g ++ gate_key_bytes g) ≡ gate_key_bytes g
key_after (wire.sum a b) = refl
key_after (wire.scale a c d) = refl
key_after (wire.product a b x y z) = refl
key_after (wire.piece a p q k β e o) = refl
key_after (wire.flag a p q k β e o) = refl
key_after (wire.shift a s l h r) = refl
key_after (wire.signed_shift a s l h r) = refl
key_after (wire.xor a b) = refl

mask_written : (n : ℕ) (flag : Bool) (mask : Option ℕ) → mask_allowed n flag mask → mask_fits n flag mask ≡ true
mask_written n true mask h = refl
mask_written n false None h = refl
mask_written n false (Some m) h = below_from n m h

-- a mask that is allowed is below 2^32
mask_small : (n m : ℕ) (flag : Bool) → n ≤ 32 → m < 2 ^ cond flag 32 n → m < 2 ^ 32
mask_small n m true w h = h
mask_small n m false w h = small n m w h

-- the shown mask reads back
pub shown_back : (n : ℕ) (shown : Option ℕ) (g : Gate) → n ≤ 32 → GateAllowed n shown g → shown_in (wire_bytes (gate shown g)) ≡ shown
shown_back n None g w a = refl
shown_back n (Some m) g w a = ap Some (number_four m (mask_small n m (gives_flag (head g)) w a.mask))

pub head_in_back : (n : ℕ) (shown : Option ℕ) (g : Gate) → n ≤ 32 → GateAllowed n shown g → head_in (wire_bytes (gate shown g)) ≡ Some (head g)
head_in_back n None g w a = head_back n g w a.fields
head_in_back n (Some m) g w a = head_back n g w a.fields

rest_written : (n : ℕ) (shown : Option ℕ) (g : Gate) → n ≤ 32 → GateAllowed n shown g
    → rest_fits n shown (Some (head g)) (parameter_bytes g ++ gate_key_bytes g) ≡ true
rest_written n shown g w a =
    let m = mask_written n (gives_flag (head g)) shown a.mask in
    let f = a.fields in
    let l = eq-eqb (length (parameter_bytes g ++ gate_key_bytes g)) (parameters_long (head g) + key_long n (head g)) (rest_long n g a.key) in
    let k : key_fits n (head g) (drop (parameters_long (head g)) (parameter_bytes g ++ gate_key_bytes g)) ≡ true
    = ap (key_fits n (head g)) (key_after g) ∙ key_written n g w a.key in
    λ i. m i && (f i && (l i && k i))

-- a gate that is allowed has a body of its layout
pub gate_written : (n : ℕ) (shown : Option ℕ) (g : Gate) → n ≤ 32 → GateAllowed n shown g → gate_fits n (wire_bytes (gate shown g)) ≡ true
gate_written n None g w a =
    let l : leb 4 (length (wire_bytes (gate None g))) ≡ true = le-leb 4 (length (wire_bytes (gate None g))) (omega arith) in
    let r = ap (λ h. rest_fits n None h (parameter_bytes g ++ gate_key_bytes g)) (head_back n g w a.fields) ∙ rest_written n None g w a in
    λ i. l i && r i
gate_written n (Some m) g w a =
    let l : leb 8 (length (wire_bytes (gate (Some m) g))) ≡ true = le-leb 8 (length (wire_bytes (gate (Some m) g))) (omega arith) in
    let p = shown_back n (Some m) g w a in
    let q = head_back n g w a.fields in
    let r : rest_fits n (shown_in (wire_bytes (gate (Some m) g))) (head_in (wire_bytes (gate (Some m) g))) (parameter_bytes g ++ gate_key_bytes g) ≡ true
    = (λ i. rest_fits n (p i) (q i) (parameter_bytes g ++ gate_key_bytes g)) ∙ rest_written n (Some m) g w a in
    λ i. l i && r i

-- and so an input
pub input_written : (b n owner : ℕ) (mask : Option ℕ) → n ≤ 32 → input_allowed b n owner mask → input_fits b n (wire_bytes (input owner mask)) ≡ true
input_written b n owner None w a = let p = a.0 in let q = a.1 in grind (arith, nat_tests)
input_written b n owner (Some m) w a =
    let o : ltb owner 2 ≡ true = (let p = a.0 in grind (arith, nat_tests)) in
    let s : eqb owner b ≡ true = eq-eqb owner b a.1 in
    let t : below n (number_at (owner ∷ four_bytes m) 1) ≡ true = ap (below n) (number_four m (small n m w a.2)) ∙ below_from n m a.2 in
    λ i. o i && cond (s i) (t i) false

-- the owner and the mask of an input read back
pub input_back : (b n owner : ℕ) (mask : Option ℕ) → n ≤ 32 → input_allowed b n owner mask → input_in b (wire_bytes (input owner mask)) ≡ Input owner mask
input_back b n owner None w a = ap (λ c. Input owner (when c (number_at (owner ∷ []) 1))) (ne_eqb owner b a.1)
input_back b n owner (Some m) w a =
    let s : eqb owner b ≡ true = eq-eqb owner b a.1 in
    let e = number_four m (small n m w a.2) in
    λ i. Input owner (when (s i) (e i))
