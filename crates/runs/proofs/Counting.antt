-- The counts of used and unused keys, wire by wire and over calls.
use Rattle.std.proofs.Common.{◌≡◌, ℕ, zero, suc, ◌+◌, ◌<◌, ◌≤◌, Bool, true, false, cond, not, ◌&&◌, ◌≢◌, ◌⊎◌, List, length, get_or, set, sym, refl, ap, subst, inl, inr, ⊎_elim, arith, get_or-set_other, get_or-set_same}
use Rattle.std.proofs.lemmas.Bool.{cases_eq}
use Rattle.runs.specs.Boxes.{Slot, Empty, is_empty, used_from, unused_from, keyed_from, used_at, unused_at}

bits_sum : (x y : Bool) → cond {A = ℕ} (x && not y) 1 0 + cond {A = ℕ} (x && y) 1 0 ≡ cond {A = ℕ} x 1 0
bits_sum true true = refl
bits_sum true false = refl
bits_sum false y = refl

-- a wire with a key has it used or unused
pub tally_sum : (keyed : ℕ → Bool) (slots : List Slot) (k : ℕ) → used_at keyed slots k + unused_at keyed slots k ≡ cond {A = ℕ} (keyed k) 1 0
tally_sum keyed slots k = bits_sum (keyed k) (is_empty (get_or slots k Empty))

bit_le : (b : Bool) → cond {A = ℕ} b 1 0 ≤ 1
bit_le true = omega arith
bit_le false = omega arith

pub tally_le : (keyed : ℕ → Bool) (slots : List Slot) (k : ℕ) → used_at keyed slots k + unused_at keyed slots k ≤ 1
tally_le keyed slots k = subst (λ (n : ℕ). n ≤ 1) (sym (tally_sum keyed slots k)) (bit_le (keyed k))

-- used and unused keys together are the keyed wires
pub counts_sum : (keyed : ℕ → Bool) (slots : List Slot) (n k : ℕ) → used_from keyed slots n k + unused_from keyed slots n k ≡ keyed_from keyed n k
counts_sum keyed slots zero k = refl
counts_sum keyed slots (suc n) k =
    let a = tally_sum keyed slots k in
    let b = counts_sum keyed slots n (k + 1) in
    omega arith

at_other : (keyed : ℕ → Bool) (xs : List Slot) (j k : ℕ) (x : Slot) → k ≢ j → used_at keyed (set xs j x) k ≡ used_at keyed xs k
at_other keyed xs j k x h = ap (λ (y : Slot). cond {A = ℕ} (keyed k && not (is_empty y)) 1 0) (get_or-set_other xs j k x Empty h)

-- a write before or past the wires that are counted
pub used_out : (keyed : ℕ → Bool) (xs : List Slot) (j : ℕ) (x : Slot) (n k : ℕ) → (j < k) ⊎ (k + n ≤ j) → used_from keyed (set xs j x) n k ≡ used_from keyed xs n k
used_out keyed xs j x zero k h = refl
used_out keyed xs j x (suc n) k h =
    let ne : k ≢ j = λ e. ⊎_elim (λ a. omega arith) (λ a. omega arith) h in
    let more : (j < k + 1) ⊎ (k + 1 + n ≤ j) = ⊎_elim (λ a. inl (omega arith)) (λ a. inr (omega arith)) h in
    let a = at_other keyed xs j k x ne in
    let b = used_out keyed xs j x n (k + 1) more in
    omega arith

-- a write that leaves what is counted at its wire
pub used_same : (keyed : ℕ → Bool) (xs : List Slot) (j : ℕ) (x : Slot) (n k : ℕ) → used_at keyed (set xs j x) j ≡ used_at keyed xs j
    → used_from keyed (set xs j x) n k ≡ used_from keyed xs n k
used_same keyed xs j x zero k h = refl
used_same keyed xs j x (suc n) k h =
    let a : used_at keyed (set xs j x) k ≡ used_at keyed xs k
    = ⊎_elim (λ e. subst (λ (i : ℕ). used_at keyed (set xs j x) i ≡ used_at keyed xs i) (sym e) h) (λ e. at_other keyed xs j k x e) (cases_eq k j) in
    let b = used_same keyed xs j x n (k + 1) h in
    omega arith

-- a write that uses the key of a wire that is counted
pub used_more : (keyed : ℕ → Bool) (xs : List Slot) (j : ℕ) (x : Slot) (n k : ℕ) → k ≤ j → j < k + n → used_at keyed (set xs j x) j ≡ used_at keyed xs j + 1
    → used_from keyed (set xs j x) n k ≡ used_from keyed xs n k + 1
used_more keyed xs j x zero k low high h = absurd (omega arith)
used_more keyed xs j x (suc n) k low high h =
    ⊎_elim
    (λ e.
    let a : used_at keyed (set xs j x) k ≡ used_at keyed xs k + 1 = subst (λ (i : ℕ). used_at keyed (set xs j x) i ≡ used_at keyed xs i + 1) (sym e) h in
    let out : (j < k + 1) ⊎ (k + 1 + n ≤ j) = inl (omega arith) in
    let b = used_out keyed xs j x n (k + 1) out in
    omega arith)
    (λ e.
    let a = at_other keyed xs j k x e in
    let b = used_more keyed xs j x n (k + 1) (omega arith) (omega arith) h in
    omega arith)
    (cases_eq k j)

bit_of : (x y : Bool) → x ≡ y → cond {A = ℕ} x 1 0 ≡ cond {A = ℕ} y 1 0
bit_of x y e = ap (λ (b : Bool). cond {A = ℕ} b 1 0) e

-- what is counted at the wire that was written
pub at_same : (keyed : ℕ → Bool) (xs : List Slot) (j : ℕ) (x : Slot) → j < length xs → used_at keyed (set xs j x) j ≡ cond {A = ℕ} (keyed j && not (is_empty x)) 1 0
at_same keyed xs j x h = ap (λ (y : Slot). cond {A = ℕ} (keyed j && not (is_empty y)) 1 0) (get_or-set_same xs j x Empty h)
