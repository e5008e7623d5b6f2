-- The wire that a body of its layout tells.
use Rattle.std.proofs.Common.{◌≡◌, ℕ, zero, suc, ◌+◌, ◌*◌, ◌^◌, ◌<◌, ◌≤◌, Bool, true, false, cond, ◌&&◌, eqb, ltb, leb, ◌⊎◌, List, [], ◌∷◌, ◌++◌, length, get_or, drop, Some, None, Option, sym, refl, ap, ◌∙◌, subst, inl, inr, arith, length-drop}
use Rattle.std.proofs.lemmas.List.{drop_more, drop-drop, nil_from_length}
use Rattle.std.proofs.lemmas.Bool.{and_parts, false≢true, eqb-true, eqb-false, leb-true, ltb-true}
use Rattle.plan.specs.Questions.{below}
use Rattle.stored.specs.Forms.{four_bytes}
use Rattle.layout.specs.Bytes.{number_at}
use Rattle.layout.specs.Keys.{flag_bytes, quad_bytes}
use Rattle.layout.specs.Wires as wire
use Rattle.layout.specs.Wires.{Gate, Wire, kind, first, second, parameter_bytes, gate_key_bytes, wire_bytes, gate, input}
use Rattle.plan.specs.Gates as gate_of
use Rattle.plan.specs.Gates.{GateHead, number_of}
use Rattle.plan.specs.declared.gates.Gate.TheVariants.{Sum, Scale, Product, Piece, Flag, Shift, SignedShift, Xor}
use Rattle.bodies.specs.Parts.{Bytes}
use Rattle.bodies.specs.Heads.{lone, head_of, gives_flag, numbers_fit, parameters_long, compared_long, key_long}
use Rattle.bodies.specs.Bodies.{shown_in, rest_in, head_in, rows_fit, shift_key_fits, key_fits, mask_fits, rest_fits, gate_fits, input_fits}
use Rattle.bodies.specs.Allowed.{head, key_allowed, mask_allowed, GateAllowed, input_allowed}
use Rattle.bodies.proofs.Numbers.{below_tells}
use Rattle.bodies.proofs.Spread.{drop_bytes, number_split, number_drop, number_small, flag_from, flag_back, quad_from, quad_back}
use Rattle.bodies.proofs.FoundKeys.{ShiftAt, interval_found, shift_found}

-- the kind byte and the wires of a head
abbrev kind_of : GateHead → ℕ
kind_of h = number_of (gate_of.kind_of h)

abbrev first_of : GateHead → ℕ
first_of (Sum a b) = a
first_of (Scale a c d) = a
first_of (Product a b) = a
first_of (Piece a p q _) = a
first_of (Flag a p q _) = a
first_of (Shift a s) = a
first_of (SignedShift a s) = a
first_of (Xor a b) = a

abbrev second_of : GateHead → ℕ
second_of (Sum a b) = b
second_of (Scale a c d) = 0
second_of (Product a b) = b
second_of (Piece a p q _) = 0
second_of (Flag a p q _) = 0
second_of (Shift a s) = 0
second_of (SignedShift a s) = 0
second_of (Xor a b) = b

-- its parameters are those at the front of a list
abbrev Parameters : List ℕ → GateHead → Type 0
Parameters rest (Sum a b) = Unit {0}
Parameters rest (Scale a c d) = (number_at rest 0 ≡ c) × (number_at rest 4 ≡ d)
Parameters rest (Product a b) = Unit {0}
Parameters rest (Piece a p q _) = (number_at rest 0 ≡ p) × (number_at rest 4 ≡ q)
Parameters rest (Flag a p q _) = (number_at rest 0 ≡ p) × (number_at rest 4 ≡ q)
Parameters rest (Shift a s) = get_or rest 0 0 ≡ s
Parameters rest (SignedShift a s) = get_or rest 0 0 ≡ s
Parameters rest (Xor a b) = Unit {0}

record Spelt (v a b : ℕ) (rest : List ℕ) (h : GateHead) : Type 0 where
  kind : kind_of h ≡ v
  first : first_of h ≡ a
  second : second_of h ≡ b
  parameters : Parameters rest h

some_same : (g h : GateHead) → Some g ≡ Some h → g ≡ h
some_same g h e = cc

never_some : (h : GateHead) → None ≡ Some h → ⊥
never_some h e = let z : ◌≡◌ {A = ℕ} 0 1 = cc in omega arith

-- a head by its kind byte
module _ (v a b : ℕ) (rest : List ℕ) (h : GateHead) where
  -- a test for a kind, and what it gives
  or_else : (k : ℕ) (x y : Option GateHead) → cond (eqb v k) x y ≡ Some h → ((k ≡ v) × (x ≡ Some h)) ⊎ (y ≡ Some h)
  or_else k x y e = pick (eqb v k) refl e
    where
      pick : (c : Bool) → eqb v k ≡ c → cond c x y ≡ Some h → ((k ≡ v) × (x ≡ Some h)) ⊎ (y ≡ Some h)
      pick true t e = inl (sym (eqb-true v k t), e)
      pick false t e = inr e

  two : (g : GateHead) → kind_of g ≡ v → first_of g ≡ a → second_of g ≡ b → Parameters rest g → Some g ≡ Some h → Spelt v a b rest h
  two g k f s p e = subst (Spelt v a b rest) (some_same g h e) (record { kind = k; first = f; second = s; parameters = p })

  one : (g : GateHead) → kind_of g ≡ v → first_of g ≡ a → second_of g ≡ 0 → Parameters rest g → lone b g ≡ Some h → Spelt v a b rest h
  one g k f s p e = pick (eqb b 0) refl e
    where
      pick : (c : Bool) → eqb b 0 ≡ c → cond c (Some g) None ≡ Some h → Spelt v a b rest h
      pick true t e = two g k f (s ∙ sym (eqb-true b 0 t)) p e
      pick false t e = absurd (never_some h e)

  spelt : head_of v a b rest ≡ Some h → Spelt v a b rest h
  spelt e =
      elim (or_else 1 (Some (Sum a b)) _ e) [
        | inl p ↦ two (Sum a b) p.0 refl refl tt p.1
        | inr e2 ↦
            elim (or_else 2 (lone b (Scale a (number_at rest 0) (number_at rest 4))) _ e2) [
              | inl p ↦ one (Scale a (number_at rest 0) (number_at rest 4)) p.0 refl refl (refl, refl) p.1
              | inr e3 ↦
                  elim (or_else 3 (Some (Product a b)) _ e3) [
                    | inl p ↦ two (Product a b) p.0 refl refl tt p.1
                    | inr e4 ↦
                        elim (or_else 4 (lone b (Piece a (number_at rest 0) (number_at rest 4) tt)) _ e4) [
                          | inl p ↦ one (Piece a (number_at rest 0) (number_at rest 4) tt) p.0 refl refl (refl, refl) p.1
                          | inr e5 ↦
                              elim (or_else 5 (lone b (Flag a (number_at rest 0) (number_at rest 4) tt)) _ e5) [
                                | inl p ↦ one (Flag a (number_at rest 0) (number_at rest 4) tt) p.0 refl refl (refl, refl) p.1
                                | inr e6 ↦
                                    elim (or_else 6 (lone b (Shift a (get_or rest 0 0))) _ e6) [
                                      | inl p ↦ one (Shift a (get_or rest 0 0)) p.0 refl refl refl p.1
                                      | inr e7 ↦
                                          elim (or_else 7 (lone b (SignedShift a (get_or rest 0 0))) _ e7) [
                                            | inl p ↦ one (SignedShift a (get_or rest 0 0)) p.0 refl refl refl p.1
                                            | inr e8 ↦
                                                elim (or_else 8 (Some (Xor a b)) None e8) [ inl p ↦ two (Xor a b) p.0 refl refl tt p.1 | inr e9 ↦ absurd (never_some h e9) ]
                                          ]
                                    ]
                              ]
                        ]
                  ]
            ]
      ]

-- the gate of what follows a mask
pub record Found (n : ℕ) (rest : List ℕ) (h : GateHead) : Type 0 where
  pub found : Gate
  pub is_kind : kind found ≡ kind_of h
  pub is_first : first found ≡ first_of h
  pub is_second : second found ≡ second_of h
  pub is_head : head found ≡ h
  pub is_rest : parameter_bytes found ++ gate_key_bytes found ≡ rest
  pub key : key_allowed n found

-- two numbers at the front of a list
pub numbers_split : (xs : List ℕ) (p q : ℕ) → 8 ≤ length xs → Bytes xs → number_at xs 0 ≡ p → number_at xs 4 ≡ q → xs ≡ four_bytes p ++ (four_bytes q ++ drop 8 xs)
numbers_split xs p q l f ep eq =
    let a = number_split xs (omega arith) f in
    let b = number_split (drop 4 xs) (omega (arith, length-drop 4 xs)) (drop_bytes 4 xs f) in
    let at : number_at (drop 4 xs) 0 ≡ q = number_drop 4 xs 0 ∙ eq in
    a ∙ (λ i. four_bytes (ep i) ++ drop 4 xs) ∙ ap (λ t. four_bytes p ++ t) (b ∙ (λ i. four_bytes (at i) ++ drop-drop 4 4 xs i))

module _ (n : ℕ) (rest : List ℕ) (f : Bytes rest) where
  -- the key of a shift, which follows its byte s
  shift_in : (s : ℕ) → length rest ≡ 1 + (compared_long 8 s + compared_long 8 n + 4) → shift_key_fits n s (drop 1 rest) ≡ true
      → ShiftAt n s (drop 1 rest) × (number_at (drop 1 rest) (compared_long 8 s + compared_long 8 n) < 2 ^ n)
  shift_in s l k =
      let key = drop 1 rest in
      let low = rows_fit 8 key s 16 in
      let high = rows_fit 8 key n (compared_long 8 s + 16) in
      let share = number_at key (compared_long 8 s + compared_long 8 n) in
      let a = and_parts low (high && below n share) k in
      let b = and_parts high (below n share) a.1 in
      (shift_found n s key (omega (arith, length-drop 1 rest)) (drop_bytes 1 rest f) a.0 b.0, below_tells n share b.1)

  found_in : (h : GateHead) → Parameters rest h → length rest ≡ parameters_long h + key_long n h → key_fits n h (drop (parameters_long h) rest) ≡ true
      → Found n rest h
  found_in (Sum a b) p l k =
      record { found = wire.sum a b; is_kind = refl; is_first = refl; is_second = refl; is_head = refl; is_rest = sym (nil_from_length rest l); key = tt }
  found_in (Scale a c d) p l k =
      let r = numbers_split rest c d (omega arith) f p.0 p.1 in
      let none : drop 8 rest ≡ [] = nil_from_length (drop 8 rest) (omega (arith, length-drop 8 rest)) in
      record {
        found = wire.scale a c d;
        is_kind = refl;
        is_first = refl;
        is_second = refl;
        is_head = refl;
        is_rest = sym (r ∙ ap (λ t. four_bytes c ++ (four_bytes d ++ t)) none);
        key = tt;
      }
  found_in (Product a b) p l k =
      let x = number_at rest 0 in
      let y = number_at rest 4 in
      let z = number_at rest 8 in
      let t = and_parts (below n x) (below n y && below n z) k in
      let u = and_parts (below n y) (below n z) t.1 in
      let r = numbers_split rest x y (omega arith) f refl refl in
      let q = number_split (drop 8 rest) (omega (arith, length-drop 8 rest)) (drop_bytes 8 rest f) in
      let none : drop 4 (drop 8 rest) ≡ [] = nil_from_length (drop 4 (drop 8 rest)) (omega (arith, length-drop 8 rest, length-drop 4 (drop 8 rest))) in
      let e : drop 8 rest ≡ four_bytes z = q ∙ (λ i. four_bytes (number_drop 8 rest 0 i) ++ none i) in
      record {
        found = wire.product a b x y z;
        is_kind = refl;
        is_first = refl;
        is_second = refl;
        is_head = refl;
        is_rest = sym (r ∙ ap (λ t. four_bytes x ++ (four_bytes y ++ t)) e);
        key = (below_tells n x t.0, below_tells n y u.0, below_tells n z u.1);
      }
  found_in (Piece a p' q _) p l k =
      let r = numbers_split rest p' q (omega arith) f p.0 p.1 in
      let xs = drop 8 rest in
      let o = number_at xs (compared_long 32 n + 64) in
      let t = and_parts (rows_fit 32 xs n 16) (below n o) k in
      let i = interval_found quad_bytes 32 quad_from quad_back n xs (omega (arith, length-drop 8 rest)) (drop_bytes 8 rest f) t.0 in
      record {
        found = wire.piece a p' q i.key i.payload i.extra o;
        is_kind = refl;
        is_first = refl;
        is_second = refl;
        is_head = refl;
        is_rest = sym (r ∙ ap (λ t. four_bytes p' ++ (four_bytes q ++ t)) (sym i.is));
        key = (i.count, below_tells n o t.1);
      }
  found_in (Flag a p' q _) p l k =
      let r = numbers_split rest p' q (omega arith) f p.0 p.1 in
      let xs = drop 8 rest in
      let o = number_at xs (compared_long 4 n + 8) in
      let i = interval_found flag_bytes 4 flag_from flag_back n xs (omega (arith, length-drop 8 rest)) (drop_bytes 8 rest f) k in
      record {
        found = wire.flag a p' q i.key i.payload i.extra o;
        is_kind = refl;
        is_first = refl;
        is_second = refl;
        is_head = refl;
        is_rest = sym (r ∙ ap (λ t. four_bytes p' ++ (four_bytes q ++ t)) (sym i.is));
        key = (i.count, number_small xs (compared_long 4 n + 8) (drop_bytes 8 rest f));
      }
  found_in (Shift a s) p l k =
      let r = drop_more rest 0 0 (omega arith) in
      let i = shift_in s (omega arith) k in
      record {
        found = wire.shift a s i.0.low i.0.high (number_at (drop 1 rest) (compared_long 8 s + compared_long 8 n));
        is_kind = refl;
        is_first = refl;
        is_second = refl;
        is_head = refl;
        is_rest = sym (r ∙ (λ j. p j ∷ sym i.0.is j));
        key = (i.0.low_count, i.0.high_count, i.1);
      }
  found_in (SignedShift a s) p l k =
      let r = drop_more rest 0 0 (omega arith) in
      let i = shift_in s (omega arith) k in
      record {
        found = wire.signed_shift a s i.0.low i.0.high (number_at (drop 1 rest) (compared_long 8 s + compared_long 8 n));
        is_kind = refl;
        is_first = refl;
        is_second = refl;
        is_head = refl;
        is_rest = sym (r ∙ (λ j. p j ∷ sym i.0.is j));
        key = (i.0.low_count, i.0.high_count, i.1);
      }
  found_in (Xor a b) p l k =
      record { found = wire.xor a b; is_kind = refl; is_first = refl; is_second = refl; is_head = refl; is_rest = sym (nil_from_length rest l); key = tt }

-- a mask that fits is allowed
mask_told : (n m : ℕ) (flag : Bool) → m < 2 ^ 32 → mask_fits n flag (Some m) ≡ true → m < 2 ^ cond flag 32 n
mask_told n m true h t = h
mask_told n m false h t = below_tells n m t

-- the gate that a body tells
pub record GateFound (n : ℕ) (body : List ℕ) : Type 0 where
  pub shown : Option ℕ
  pub found : Gate
  pub allowed : GateAllowed n shown found
  pub told : head_in body ≡ Some (head found)
  pub is : wire_bytes (gate shown found) ≡ body

module _ (n v a b s : ℕ) (tail : List ℕ) (f : Bytes (v ∷ a ∷ b ∷ s ∷ tail)) where
  abbrev body : List ℕ
  body = v ∷ a ∷ b ∷ s ∷ tail

  -- from the head, the mask and what follows it
  from_head : (shown : Option ℕ) (h : Option GateHead) (rest : List ℕ) → Bytes rest → ((m : ℕ) → shown ≡ Some m → m < 2 ^ 32)
      → body ≡ (v ∷ a ∷ b ∷ wire.given shown ∷ []) ++ (wire.mask_bytes shown ++ rest)
      → head_of v a b rest ≡ h → head_in body ≡ h → rest_fits n shown h rest ≡ true → GateFound n body
  from_head shown None rest g small e eh ei t = absurd (false≢true t)
  from_head shown (Some h) rest g small e eh ei t =
      let long = eqb (length rest) (parameters_long h + key_long n h) in
      let kf = key_fits n h (drop (parameters_long h) rest) in
      let t1 = and_parts (mask_fits n (gives_flag h) shown) (numbers_fit n h && (long && kf)) t in
      let t2 = and_parts (numbers_fit n h) (long && kf) t1.1 in
      let t3 = and_parts long kf t2.1 in
      let sp = spelt v a b rest h eh in
      let r = found_in n rest g h sp.parameters (eqb-true (length rest) (parameters_long h + key_long n h) t3.0) t3.1 in
      let ek = r.is_kind ∙ sp.kind in
      let ef = r.is_first ∙ sp.first in
      let es = r.is_second ∙ sp.second in
      record {
        shown = shown;
        found = r.found;
        allowed = record {
          mask = subst (λ x. mask_allowed n (gives_flag x) shown) (sym r.is_head) (masked (gives_flag h) shown small t1.0);
          fields = ap (numbers_fit n) r.is_head ∙ t2.0;
          key = r.key;
        };
        told = ei ∙ ap Some (sym r.is_head);
        is = (λ i. (ek i ∷ ef i ∷ es i ∷ wire.given shown ∷ []) ++ (wire.mask_bytes shown ++ r.is_rest i)) ∙ sym e;
      }
    where
      masked : (flag : Bool) (m : Option ℕ) → ((k : ℕ) → m ≡ Some k → k < 2 ^ 32) → mask_fits n flag m ≡ true → mask_allowed n flag m
      masked flag None small t = tt
      masked flag (Some m) small t = mask_told n m flag (small m refl) t

some_number : (k m : ℕ) → Some k ≡ Some m → k ≡ m
some_number k m e = cc

never_number : (m : ℕ) → None ≡ Some m → ⊥
never_number m e = let z : ◌≡◌ {A = ℕ} 0 1 = cc in omega arith

pub gate_found : (n : ℕ) (body : List ℕ) → Bytes body → gate_fits n body ≡ true → GateFound n body
gate_found n [] f t = absurd (false≢true t)
gate_found n (v ∷ []) f t = absurd (false≢true t)
gate_found n (v ∷ a ∷ []) f t = absurd (false≢true t)
gate_found n (v ∷ a ∷ b ∷ []) f t = absurd (false≢true t)
gate_found n (v ∷ a ∷ b ∷ zero ∷ tail) f t =
    let u = and_parts (leb 4 (length (v ∷ a ∷ b ∷ zero ∷ tail))) (rest_fits n None (head_of v a b tail) tail) t in
    from_head n v a b 0 tail f None (head_of v a b tail) tail (λ i. f (suc (suc (suc (suc i))))) (λ m e. absurd (never_number m e)) refl refl refl u.1
gate_found n (v ∷ a ∷ b ∷ suc zero ∷ tail) f t =
    let m = number_at tail 0 in
    let rest = drop 4 tail in
    let g : Bytes tail = λ i. f (suc (suc (suc (suc i)))) in
    let u = and_parts (leb 8 (length (v ∷ a ∷ b ∷ suc zero ∷ tail))) (rest_fits n (Some m) (head_of v a b rest) rest) t in
    let l = leb-true 8 (length (v ∷ a ∷ b ∷ suc zero ∷ tail)) u.0 in
    let e = number_split tail (omega arith) g in
    from_head n v a b 1 tail f (Some m) (head_of v a b rest) rest (drop_bytes 4 tail g) (λ k q. rw (← some_number m k q) (number_small tail 0 g))
    (ap (λ t. v ∷ a ∷ b ∷ 1 ∷ t) e) refl refl u.1
gate_found n (v ∷ a ∷ b ∷ suc (suc s) ∷ tail) f t =
    let body = v ∷ a ∷ b ∷ suc (suc s) ∷ tail in
    let u = (and_parts (ltb (suc (suc s)) 2) (leb (4 + 4 * suc (suc s)) (length body) && rest_fits n (shown_in body) (head_in body) (rest_in body)) t).0 in
    absurd (omega (arith, ltb-true (suc (suc s)) 2 u))

-- the input that a body tells
pub record InputFound (b n : ℕ) (body : List ℕ) : Type 0 where
  pub owner : ℕ
  pub mask : Option ℕ
  pub allowed : input_allowed b n owner mask
  pub is : wire_bytes (input owner mask) ≡ body

pub input_found : (b n : ℕ) (body : List ℕ) → Bytes body → input_fits b n body ≡ true → InputFound b n body
input_found b n [] f t = absurd (short (eqb 0 b) (and_parts true (cond (eqb 0 b) (eqb (length {A = ℕ} []) 5 && below n (number_at [] 1)) (eqb (length {A = ℕ} []) 1)) t).1)
  where
    short : (c : Bool) → cond c false false ≡ true → ⊥
    short true t = false≢true t
    short false t = false≢true t
input_found b n (o ∷ tail) f t =
    let mine : Bool = eqb (length (o ∷ tail)) 5 && below n (number_at (o ∷ tail) 1) in
    let other : Bool = eqb (length (o ∷ tail)) 1 in
    let u = and_parts (ltb o 2) (cond (eqb o b) mine other) t in
    pick (ltb-true o 2 u.0) (eqb o b) refl u.1
  where
    pick : o < 2 → (c : Bool) → eqb o b ≡ c → cond c (eqb (length (o ∷ tail)) 5 && below n (number_at (o ∷ tail) 1)) (eqb (length (o ∷ tail)) 1) ≡ true → InputFound b n (o ∷ tail)
    pick h true e t =
        let u = and_parts (eqb (length (o ∷ tail)) 5) (below n (number_at (o ∷ tail) 1)) t in
        let l = eqb-true (length (o ∷ tail)) 5 u.0 in
        let m = number_at tail 0 in
        let s = number_split tail (omega arith) (λ i. f (suc i)) in
        let none : drop 4 tail ≡ [] = nil_from_length (drop 4 tail) (omega (arith, length-drop 4 tail)) in
        record { owner = o; mask = Some m; allowed = (h, eqb-true o b e, below_tells n m u.1); is = ap (λ t. o ∷ t) (sym (s ∙ ap (λ t. four_bytes m ++ t) none)) }
    pick h false e t =
        let l = eqb-true (length (o ∷ tail)) 1 t in
        record { owner = o; mask = None; allowed = (h, eqb-false o b e); is = ap (λ t. o ∷ t) (sym (nil_from_length tail (omega arith))) }
