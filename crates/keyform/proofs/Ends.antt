-- The element at the end of bytes, and the two ends of a key.
use Rattle.std.proofs.Common.{◌≡◌, ℕ, ◌-◌, ◌≤◌, min, List, ◌++◌, length, drop, sym, refl, ap, ◌∙◌, arith, length-append, drop_at}
use Rattle.key.specs.declared.KeyEnds.{KeyEnds}
use Rattle.layout.specs.Keys.{seed_bytes, rows_bytes}
use Rattle.keyform.specs.Reads.{LastIn, LastRead, EndsIn, EndsRead, RowsIn, KeyIn}
use Rattle.keyform.proofs.Told.{same_front, same_back}

module _ {M : Type 0} (form : M → List ℕ) (z : ℕ) (sized : (a : M) → length (form a) ≡ z) where
  pub last_long : (bytes : List ℕ) → LastIn form bytes → z ≤ length bytes
  last_long bytes i = omega (arith, sized i.last, length-append i.front (form i.last), ap length i.same)

  -- `size` may stop at a bound of the length
  pub last_there : (size max : ℕ) (bytes : List ℕ) → size ≡ min z max → length bytes ≤ max → (i : LastIn form bytes)
      → form i.last ≡ drop (length bytes - size) bytes
  last_there size max bytes is few i =
      let s = sized i.last in
      let l = length-append i.front (form i.last) in
      let e = ap length i.same in
      let at : length i.front ≡ length bytes - size = omega arith in
      sym (drop_at i.front (form i.last) (length bytes - size) at) ∙ ap (drop (length bytes - size)) i.same

  -- what stands before the last element
  pub before_last : (bytes front other : List ℕ) (last e : M) → LastRead form bytes front last → other ++ form e ≡ bytes
      → other ≡ front
  before_last bytes front other last e r h =
      let s = sized last in
      let t = sized e in
      let both : other ++ form e ≡ front ++ form last = h ∙ sym r.same in
      let k = ap length both in
      let long : length other ≡ length front = omega
      (arith, length-append other (form e), length-append front (form last)) in
      same_front other (form e) front (form last) long both

  -- the rows that stand between the ends
  pub rows_between : (n : ℕ) (bytes between : List ℕ) (ends : KeyEnds M) → EndsRead form bytes between ends
      → KeyIn form n bytes → RowsIn form n between
  rows_between n bytes between ends r k =
      let rest = same_back (seed_bytes k.root) (rows_bytes form k.rows ++ form k.last)
      (seed_bytes ends.root) (between ++ form ends.last) refl (k.same ∙ sym r.same) in
      record {
        rows = k.rows;
        count = k.count;
        same = before_last (rows_bytes form k.rows ++ form k.last) between (rows_bytes form k.rows) ends.last k.last
            (record { same = sym rest }) refl;
      }

module _ {M : Type 0} (form : M → List ℕ) where
  pub ends_in : (n : ℕ) (bytes : List ℕ) → KeyIn form n bytes → EndsIn form bytes
  ends_in n bytes k = record { root = k.root; between = rows_bytes form k.rows; last = k.last; same = k.same }

  -- a key from its ends and its rows
  pub key_in : (n : ℕ) (bytes between : List ℕ) (ends : KeyEnds M) → EndsRead form bytes between ends
      → RowsIn form n between → KeyIn form n bytes
  key_in n bytes between ends r t = record {
    root = ends.root;
    rows = t.rows;
    last = ends.last;
    count = t.count;
    same = ap (λ x. seed_bytes ends.root ++ (x ++ form ends.last)) t.same ∙ r.same;
  }
