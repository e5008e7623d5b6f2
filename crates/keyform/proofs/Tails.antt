-- The key of an interval gate taken apart from its end.
use Rattle.std.proofs.Common.{◌≡◌, ℕ, ◌+◌, List, ◌++◌, length, sym, ap, ◌∙◌, append_assoc, arith, length-append}
use Rattle.group.specs.declared.Flags.{Flags}
use Rattle.key.specs.declared.Row.{Row}
use Rattle.stored.specs.Forms.{four_bytes}
use Rattle.layout.specs.Keys.{compared_bytes}
use Rattle.keyform.specs.Forms.{flag_form}
use Rattle.key.specs.declared.KeyEnds.{KeyEnds}
use Rattle.keyform.specs.Reads.{LastIn, LastRead, KeyIn, KeyRead}
use Rattle.keyform.specs.GateKeys.{TailIn, TailRead, tail_bytes, IntervalIn, IntervalRead}
use Rattle.keyform.proofs.Forms.{flag_sized}
use Rattle.keyform.proofs.Ends.{before_last}
use Rattle.keyform.proofs.Told.{same_front}

-- a tail without its mask part
pub record ExtraIn {M : Type 0} (form : M → List ℕ) (bytes : List ℕ) : Type 0 where
  pub front : List ℕ
  pub payload : M
  pub extra : M
  pub same : front ++ (form payload ++ form extra) ≡ bytes

module _ {M : Type 0} (form : M → List ℕ) where
  out_last : (bytes : List ℕ) (i : TailIn form bytes)
      → (i.front ++ (form i.payload ++ form i.extra)) ++ four_bytes i.out ≡ bytes
  out_last bytes i =
      append_assoc i.front (form i.payload ++ form i.extra) (four_bytes i.out)
      ∙ ap (λ t. i.front ++ t) (append_assoc (form i.payload) (form i.extra) (four_bytes i.out))
      ∙ i.same

  pub out_in : (bytes : List ℕ) → TailIn form bytes → LastIn flag_form bytes
  out_in bytes i = record {
    front = i.front ++ (form i.payload ++ form i.extra);
    last = record { 0 = i.out };
    same = out_last bytes i;
  }

  extra_last : (bytes : List ℕ) (i : ExtraIn form bytes) → (i.front ++ form i.payload) ++ form i.extra ≡ bytes
  extra_last bytes i = append_assoc i.front (form i.payload) (form i.extra) ∙ i.same

  pub extra_in : (bytes : List ℕ) → ExtraIn form bytes → LastIn form bytes
  extra_in bytes i = record { front = i.front ++ form i.payload; last = i.extra; same = extra_last bytes i }

  pub without_out : (bytes elements : List ℕ) (out : Flags) → LastRead flag_form bytes elements out → TailIn form bytes
      → ExtraIn form elements
  without_out bytes elements out r i = record {
    front = i.front;
    payload = i.payload;
    extra = i.extra;
    same = before_last flag_form 4 flag_sized bytes elements (i.front ++ (form i.payload ++ form i.extra)) out
        (record { 0 = i.out }) r (out_last bytes i);
  }

  -- the tail from its parts
  pub tail_read : (bytes elements keyed key : List ℕ) (payload extra : M) (out : Flags)
      → LastRead flag_form bytes elements out → LastRead form elements keyed extra → LastRead form keyed key payload
      → TailRead form bytes key payload extra out.0
  tail_read bytes elements keyed key payload extra out o x p = record {
    same = sym (append_assoc key (form payload) (form extra ++ flag_form out))
        ∙ sym (append_assoc (key ++ form payload) (form extra) (flag_form out))
        ∙ ap (λ t. (t ++ form extra) ++ flag_form out) p.same ∙ ap (λ t. t ++ flag_form out) x.same ∙ o.same;
  }

  pub tail_in : (n : ℕ) (bytes : List ℕ) → IntervalIn form n bytes → TailIn form bytes
  tail_in n bytes i = record {
    front = compared_bytes form i.key;
    payload = i.payload;
    extra = i.extra;
    out = i.out;
    same = i.same;
  }

  -- a key, then a tail
  pub interval_in : (n : ℕ) (bytes key : List ℕ) (payload extra : M) (out : ℕ)
      → TailRead form bytes key payload extra out → KeyIn form n key → IntervalIn form n bytes
  interval_in n bytes key payload extra out r k = record {
    key = record { root = k.root; rows = k.rows; last = k.last };
    payload = payload;
    extra = extra;
    out = out;
    count = k.count;
    same = ap (λ x. x ++ tail_bytes form payload extra out) k.same ∙ r.same;
  }

  pub interval_read : (n : ℕ) (bytes key : List ℕ) (payload extra : M) (out : ℕ) (rows : List (Row M))
      (ends : KeyEnds M)
      → TailRead form bytes key payload extra out → KeyRead form n key ends.root rows ends.last
      → IntervalRead form n bytes rows (record { ends = ends; payload = payload; extra = extra; out = out })
  interval_read n bytes key payload extra out rows ends r k = record {
    count = k.count;
    same = ap (λ x. x ++ tail_bytes form payload extra out) k.same ∙ r.same;
    whole = k.whole;
    words = k.words;
  }

module _ {M : Type 0} (form : M → List ℕ) (z : ℕ) (sized : (a : M) → length (form a) ≡ z) where
  pub without_extra : (bytes keyed : List ℕ) (extra : M) → LastRead form bytes keyed extra → ExtraIn form bytes
      → LastIn form keyed
  without_extra bytes keyed extra r i = record {
    front = i.front;
    last = i.payload;
    same = before_last form z sized bytes keyed (i.front ++ form i.payload) extra i.extra r (extra_last form bytes i);
  }

  tail_long : (payload extra : M) (out : ℕ) → length (tail_bytes form payload extra out) ≡ z + (z + 4)
  tail_long payload extra out =
      omega (
        arith,
        sized payload,
        sized extra,
        length-append (form payload) (form extra ++ four_bytes out),
        length-append (form extra) (four_bytes out),
      )

  -- the key that stands before the tail
  pub before_tail : (n : ℕ) (bytes key : List ℕ) (payload extra : M) (out : ℕ)
      → TailRead form bytes key payload extra out → IntervalIn form n bytes → KeyIn form n key
  before_tail n bytes key payload extra out r i =
      let a = compared_bytes form i.key in
      let b = tail_bytes form i.payload i.extra i.out in
      let d = tail_bytes form payload extra out in
      let both : a ++ b ≡ key ++ d = i.same ∙ sym r.same in
      let long : length a ≡ length key = omega (
        arith,
        ap length both,
        length-append a b,
        length-append key d,
        tail_long i.payload i.extra i.out,
        tail_long payload extra out,
      ) in
      record {
        root = i.key.root;
        rows = i.key.rows;
        last = i.key.last;
        count = i.count;
        same = same_front a b key d long both;
      }
