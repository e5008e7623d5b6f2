-- Parts that a loop writes one after another.
use Rattle.std.proofs.Common.{◌≡◌, ℕ, zero, suc, ◌+◌, ◌<◌, ◌≤◌, List, ◌++◌, length, sym, ap, inl, inr, add-one, arith, length-append}
use Rattle.buffers.specs.declared.Writer.{Writer}
use Rattle.buffers.specs.Forms.{Put, Room}
use Rattle.buffers.proofs.Puts.{then, put_as, put_long}
use Rattle.std.proofs.lemmas.Bool.{cases_eq}
use Rattle.layout.specs.Bytes.{joined}

pub joined_more : (f : ℕ → List ℕ) (k : ℕ) → joined f (k + 1) ≡ joined f k ++ f k
joined_more f k = ap (joined f) (add-one k)

pub joined_step : {o o1 o2 : Writer} (f : ℕ → List ℕ) (k : ℕ) → Put o (joined f k) o1 → Put o1 (f k) o2 → Put o (joined f (k + 1)) o2
joined_step f k p q = put_as (sym (joined_more f k)) (then p q)

pub length_joined : (f : ℕ → List ℕ) (k n : ℕ) → k < n → length (joined f k) + length (f k) ≤ length (joined f n)
length_joined f k zero h = absurd (omega arith)
length_joined f k (suc n) h =
    let s = length-append (joined f n) (f n) in
    elim (cases_eq k n) [
      | inl e ↦ (let e1 : length (joined f k) ≡ length (joined f n) = ap (λ i. length (joined f i)) e in let e2 : length (f k) ≡ length (f n) = ap (λ i. length (f i)) e in omega arith)
      | inr ne ↦ (let r = length_joined f k n (omega arith) in omega arith)
    ]

pub joined_room : {o o1 : Writer} (f : ℕ → List ℕ) (k n : ℕ) → k < n → Room o (joined f n) → Put o (joined f k) o1 → Room o1 (f k)
joined_room f k n h r p =
    let l = put_long p in
    let i = p.next in
    let g = length_joined f k n h in
    let t = r.fits in
    record { fits = omega arith }
