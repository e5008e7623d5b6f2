-- The key of a shift taken apart: two comparison keys, then four bytes.
use Rattle.std.proofs.Common.{◌≡◌, ℕ, ◌+◌, ◌*◌, ◌≤◌, min, List, ◌++◌, length, take, drop, sym, ap, ◌∙◌, append_assoc, arith, length-append, take_at, drop_at}
use Rattle.group.specs.declared.Flags.{Flags}
use Rattle.key.specs.declared.Row.{Row}
use Rattle.stored.specs.Forms.{four_bytes}
use Rattle.layout.specs.Keys.{compared_bytes, key_bytes}
use Rattle.keyform.specs.Forms.{flag_form}
use Rattle.key.specs.declared.KeyEnds.{KeyEnds}
use Rattle.keyform.specs.Reads.{LastIn, LastRead, KeyIn, KeyRead}
use Rattle.keyform.specs.GateKeys.{TwoIn, TwoRead, ShiftIn, ShiftRead}
use Rattle.keyform.proofs.Lengths.{key_long}
use Rattle.keyform.proofs.Forms.{flag_sized}
use Rattle.keyform.proofs.Ends.{before_last}

module _ {M : Type 0} (form : M → List ℕ) where
  rest_last : (n m : ℕ) (bytes : List ℕ) (i : ShiftIn form n m bytes)
      → (compared_bytes form i.low ++ compared_bytes form i.high) ++ four_bytes i.rest ≡ bytes
  rest_last n m bytes i = append_assoc (compared_bytes form i.low) (compared_bytes form i.high)
      (four_bytes i.rest) ∙ i.same

  pub rest_in : (n m : ℕ) (bytes : List ℕ) → ShiftIn form n m bytes → LastIn flag_form bytes
  rest_in n m bytes i = record {
    front = compared_bytes form i.low ++ compared_bytes form i.high;
    last = record { 0 = i.rest };
    same = rest_last n m bytes i;
  }

  pub without_rest : (n m : ℕ) (bytes keys : List ℕ) (rest : Flags) → LastRead flag_form bytes keys rest
      → ShiftIn form n m bytes → TwoIn form n m keys
  without_rest n m bytes keys rest r i = record {
    low = i.low;
    high = i.high;
    low_count = i.low_count;
    high_count = i.high_count;
    same = before_last flag_form 4 flag_sized bytes keys (compared_bytes form i.low ++ compared_bytes form i.high) rest
        (record { 0 = i.rest }) r (rest_last n m bytes i);
  }

  -- two keys, then the rest
  pub shift_from : (n m : ℕ) (bytes keys : List ℕ) (rest : Flags) → LastRead flag_form bytes keys rest
      → TwoIn form n m keys → ShiftIn form n m bytes
  shift_from n m bytes keys rest r t = record {
    low = t.low;
    high = t.high;
    rest = rest.0;
    low_count = t.low_count;
    high_count = t.high_count;
    same = sym (append_assoc (compared_bytes form t.low) (compared_bytes form t.high) (flag_form rest))
        ∙ ap (λ k. k ++ flag_form rest) t.same ∙ r.same;
  }

  pub two_from : (n m : ℕ) (bytes low high : List ℕ) → TwoRead form n m bytes low high → TwoIn form n m bytes
  two_from n m bytes low high t =
      let l = t.low_in in
      let h = t.high_in in
      record {
        low = record { root = l.root; rows = l.rows; last = l.last };
        high = record { root = h.root; rows = h.rows; last = h.last };
        low_count = l.count;
        high_count = h.count;
        same = ap (λ k. k ++ key_bytes form h.root h.rows h.last) l.same ∙ ap (λ k. low ++ k) h.same ∙ t.same;
      }

  pub shift_read : (n m : ℕ) (bytes keys first second : List ℕ) (low high : List (Row M)) (low_ends high_ends : KeyEnds M)
      (rest : Flags) → LastRead flag_form bytes keys rest → first ++ second ≡ keys
      → KeyRead form n first low_ends.root low low_ends.last → KeyRead form m second high_ends.root high high_ends.last
      → ShiftRead form n m bytes low high (record { low = low_ends; high = high_ends; rest = rest.0 })
  shift_read n m bytes keys first second low high low_ends high_ends rest r e l k =
      let a = key_bytes form low_ends.root low low_ends.last in
      let b = key_bytes form high_ends.root high high_ends.last in
      record {
        low_count = l.count;
        high_count = k.count;
        same = sym (append_assoc a b (flag_form rest)) ∙ ap (λ t. (t ++ b) ++ flag_form rest) l.same
            ∙ ap (λ t. (first ++ t) ++ flag_form rest) k.same
            ∙ ap (λ t. t ++ flag_form rest) e ∙ r.same;
        low_whole = l.whole;
        low_words = l.words;
        high_whole = k.whole;
        high_words = k.words;
      }

module _ {M : Type 0} (form : M → List ℕ) (z : ℕ) (sized : (a : M) → length (form a) ≡ z) where
  low_long : (n m : ℕ) (bytes : List ℕ) (i : TwoIn form n m bytes)
      → length (compared_bytes form i.low) ≡ 16 + n * (17 + z) + z
  low_long n m bytes i =
      key_long form z sized i.low.root i.low.rows i.low.last ∙ ap (λ k. 16 + k * (17 + z) + z) i.low_count

  two_long : (n m : ℕ) (bytes : List ℕ) → TwoIn form n m bytes → 16 + n * (17 + z) + z ≤ length bytes
  two_long n m bytes i =
      omega (
        arith,
        low_long n m bytes i,
        length-append (compared_bytes form i.low) (compared_bytes form i.high),
        ap length i.same,
      )

  two_low : (n m size : ℕ) (bytes : List ℕ) → size ≡ 16 + n * (17 + z) + z → TwoIn form n m bytes
      → KeyIn form n (take size bytes)
  two_low n m size bytes is i = record {
    root = i.low.root;
    rows = i.low.rows;
    last = i.low.last;
    count = i.low_count;
    same = sym (take_at (compared_bytes form i.low) (compared_bytes form i.high) size
        (low_long n m bytes i ∙ sym is)) ∙ ap (take size) i.same;
  }

  two_high : (n m size : ℕ) (bytes : List ℕ) → size ≡ 16 + n * (17 + z) + z → TwoIn form n m bytes
      → KeyIn form m (drop size bytes)
  two_high n m size bytes is i = record {
    root = i.high.root;
    rows = i.high.rows;
    last = i.high.last;
    count = i.high_count;
    same = sym (drop_at (compared_bytes form i.low) (compared_bytes form i.high) size
        (low_long n m bytes i ∙ sym is)) ∙ ap (drop size) i.same;
  }

  -- both keys where they stand; the low one's `size` may stop at a bound of the length
  pub two_there : (n m size max : ℕ) (bytes : List ℕ) → size ≡ min (16 + n * (17 + z) + z) max → length bytes ≤ max
      → TwoIn form n m bytes
      → (size ≤ length bytes) × KeyIn form n (take size bytes) × KeyIn form m (drop size bytes)
  two_there n m size max bytes is few i =
      let long = two_long n m bytes i in
      let e : size ≡ 16 + n * (17 + z) + z = omega arith in
      (omega arith, two_low n m size bytes e i, two_high n m size bytes e i)
