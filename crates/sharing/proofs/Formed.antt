-- A plan that passes the questions is well formed.
use Rattle.std.proofs.Common.{◌≡◌, ℕ, ◌-◌, ◌^◌, ◌<◌, ◌≤◌, Bool, true, false, cond, ltb, leb, List, [], ◌∷◌, length, get_or, ℤ, pos, negsuc, sym, refl, subst, inl, inr, mod-lt, div-le_self, arith, pow_pos}
use lib.Bits.{xor_lt}
use lib.Signed.{shr_z}
use Rattle.std.proofs.lemmas.List.{get_or_past}
use Rattle.std.proofs.lemmas.Bool.{and_parts, ltb-true, ltb-false, leb-true, lt-ltb, cases_lt, false≢true}
use Rattle.interval.specs.Interval.{inside}
use Rattle.shares.specs.Plain.{remainder, signed}
use Rattle.runs.specs.Plans.{Wiring, Formed, AllBelow, AllWithin, is_gate}
use Rattle.plan.specs.Gates.{GateBody}
use Rattle.plan.specs.declared.gates.Gate.TheVariants.{Sum, Scale, Product, Piece, Flag, Shift, SignedShift, Xor}
use Rattle.plan.specs.Plans.{Planned, wires, is_input, is_flag, row_at, no_row, gives_flag, reads}
use Rattle.plan.specs.Questions.{lower_number, lower_flag, reads_fit, fields_fit, interval_fits, below}
use Rattle.plan.specs.Meaning.{plain_gate}
use Rattle.plan.proofs.Accepted.{Accepted, accepted, gate_reads, gate_fields}
use Rattle.sharing.specs.Laws.{PlansAreFormed}
use Rattle.boxview.specs.Values.{values}
use Rattle.sharing.specs.Wirings.{wiring_of}
use Rattle.sharing.proofs.Masks.{number_read, flag_read}
use Rattle.sharing.proofs.Groups.{values_lawful}

-- a value of a number wire, and of a flag wire
pub number_below : (n : ℕ) (t : Bool) (x : ℕ) → t ≡ false → (values n t).within x ≡ true → x < 2 ^ n
number_below n true x e h = absurd (false≢true (sym e))
number_below n false x e h = ltb-true x (2 ^ n) h

pub flag_below : (n : ℕ) (t : Bool) (x : ℕ) → t ≡ true → (values n t).within x ≡ true → x < 2 ^ 32
flag_below n true x e h = ltb-true x (2 ^ 32) h
flag_below n false x e h = absurd (false≢true e)

-- a remainder of an integer is below N
remainder_below : (z : ℤ) (N : ℕ) → 0 < N → remainder z N < N
remainder_below (pos a) N h = mod-lt a h
remainder_below (negsuc a) N h = omega arith

taken_below : (b : Bool) (x y : ℕ) → x < y → cond b x 0 < y
taken_below true x y h = h
taken_below false x y h = omega arith

module _ (p : Planned) where
  w : Wiring
  w = wiring_of p

  -- each gate reads lower wires
  lower_body : (k : ℕ) (g : GateBody) → reads_fit p k g ≡ true → AllBelow k (reads g)
  lower_body k (Sum i j) r =
      let c = and_parts (lower_number p k i) (lower_number p k j) r in ((number_read p k i c.0).0, ((number_read p k j c.1).0, tt))
  lower_body k (Scale i c d) r = ((number_read p k i r).0, tt)
  lower_body k (Product i j) r =
      let c = and_parts (lower_number p k i) (lower_number p k j) r in ((number_read p k i c.0).0, ((number_read p k j c.1).0, tt))
  lower_body k (Piece i l h c) r = ((number_read p k i r).0, tt)
  lower_body k (Flag i l h t) r = ((number_read p k i r).0, tt)
  lower_body k (Shift i s) r = ((number_read p k i r).0, tt)
  lower_body k (SignedShift i s) r = ((number_read p k i r).0, tt)
  lower_body k (Xor i j) r =
      let c = and_parts (lower_flag p k i) (lower_flag p k j) r in ((flag_read p k i c.0).0, ((flag_read p k j c.1).0, tt))

  -- each gate means a value of its wire's kind
  means_body : (k : ℕ) (g : GateBody) (vs : List ℕ) → reads_fit p k g ≡ true → fields_fit p.width g ≡ true
      → AllWithin (wiring_of p) (reads g) vs → (values p.width (gives_flag g)).within (plain_gate p.width g vs) ≡ true
  means_body k (Sum i j) vs r f a = lt-ltb _ _ (mod-lt _ (pow_pos p.width))
  means_body k (Scale i c d) vs r f a = lt-ltb _ _ (mod-lt _ (pow_pos p.width))
  means_body k (Product i j) vs r f a = lt-ltb _ _ (mod-lt _ (pow_pos p.width))
  means_body k (Piece i l h c) vs r f a = lt-ltb _ _ (taken_below (inside l h (get_or vs 0 0)) _ (2 ^ p.width) (mod-lt _ (pow_pos p.width)))
  means_body k (Flag i l h t) vs r f a =
      lt-ltb _ _ (taken_below (inside l h (get_or vs 0 0)) t (2 ^ 32) (ltb-true t (2 ^ 32) (and_parts (interval_fits p.width l h) (below 32 t) f).1))
  means_body k (Shift i s) [] r f a = absurd a
  means_body k (Shift i s) (v ∷ vs) r f a =
      let h = number_below p.width (is_flag p i) v (number_read p k i r).1 a.0 in
      lt-ltb _ _ (let d = div-le_self v (2 ^ s) in omega arith)
  means_body k (SignedShift i s) vs r f a = lt-ltb _ _ (remainder_below (shr_z (signed (2 ^ p.width) (get_or vs 0 0)) (2 ^ s)) (2 ^ p.width) (pow_pos p.width))
  means_body k (Xor i j) [] r f a = absurd a
  means_body k (Xor i j) (x ∷ []) r f a = absurd a.1
  means_body k (Xor i j) (x ∷ y ∷ vs) r f a =
      let c = and_parts (lower_flag p k i) (lower_flag p k j) r in
      lt-ltb _ _ (xor_lt 32 x y (flag_below p.width (is_flag p i) x (flag_read p k i c.0).1 a.0)
      (flag_below p.width (is_flag p j) y (flag_read p k j c.1).1 a.1.0))

  module _ (b count : ℕ) (a : Accepted p b count) where
    -- wires that are no gate's
    lower_all : (k : ℕ) (input : Bool) → is_input p k ≡ input → AllBelow k (cond input [] (reads (row_at p k).body))
    lower_all k true e = tt
    lower_all k false e = elim (cases_lt k (wires p)) [
      | inl h ↦ lower_body k (row_at p k).body (gate_reads p b count a k (ltb-false k (length p.owners) e) h)
      | inr h ↦ (let n : row_at p k ≡ no_row = get_or_past p.rows (k - length p.owners) no_row (omega arith) in
          let z : 0 < k = (let i = a.some_inputs in omega arith) in
          subst (λ r. AllBelow k (reads r.body)) (sym n) (z, (z, tt)))
    ]

    means_all : (k : ℕ) (vs : List ℕ) → k < wires p → length p.owners ≤ k → (input : Bool) → is_input p k ≡ input
        → AllWithin (wiring_of p) (cond input [] (reads (row_at p k).body)) vs
        → (values p.width (cond input false (gives_flag (row_at p k).body))).within (plain_gate p.width (row_at p k).body vs) ≡ true
    means_all k vs h l true e c = absurd (let t = ltb-true k (length p.owners) e in omega arith)
    means_all k vs h l false e c = means_body k (row_at p k).body vs (gate_reads p b count a k l h) (gate_fields p b count a k) c

    -- a gate's wire
    pub gate_place : (k : ℕ) → is_gate (wiring_of p) k ≡ true → (length p.owners ≤ k) × (k < wires p)
    gate_place k g = let c = and_parts (leb (length p.owners) k) (ltb k (wires p)) g in (leb-true _ _ c.0, ltb-true _ _ c.1)

    pub formed : Formed (wiring_of p)
    formed = record {
      lawful = λ k. values_lawful p.width a.few_bits (is_flag p k);
      lower = λ k. lower_all k (is_input p k) refl;
      means = λ k vs g c. let q = gate_place k g in means_all k vs q.1 q.0 (is_input p k) refl c;
    }

pub plans_are_formed : PlansAreFormed
plans_are_formed p b count h = formed p b count (accepted p b count h)
