use Rattle.std.proofs.Common.{length, refl}
use Rattle.keyform.specs.Forms.{word_form}
use Rattle.keyform.specs.GateKeys.{TwoIn}
use Rattle.keyform.proofs.TwoKeys.{rest_in, without_rest, shift_read}
use Rattle.keyform.proofs.gate_keys.read_shift.Goals as goal

pub returns-in_err-keys-clause-read : goal.returns-in_err-keys-clause-read
returns-in_err-keys-clause-read c =
    let n = length c.args.low.now.rows.now in
    let m = length c.args.high.now.rows.now in
    rw c.from_residual.ensures (λ i. c.in_err-keys.ensures (rest_in word_form n m c.args.bytes.now i), refl, refl)

pub returns-in_err-first-clause-read : goal.returns-in_err-first-clause-read
returns-in_err-first-clause-read c =
    let n = length c.args.low.now.rows.now in
    let m = length c.args.high.now.rows.now in
    let keys = c.in_ok-keys.keys.now in
    rw c.from_residual-in_err-first.ensures (
      λ i.
          let t = without_rest word_form n m c.args.bytes.now keys c.in_ok-keys.rest c.in_ok-keys.ensures i in
          let here : TwoIn word_form c.count.result c.count-2.result keys = rw (c.count.ensures, c.count-2.ensures) t in
          c.in_err-first.ensures here,
      refl,
      refl,
    )

pub returns-clause-read : goal.returns-clause-read
returns-clause-read c =
    shift_read word_form (length c.args.low.now.rows.now) (length c.args.high.now.rows.now) c.args.bytes.now
    c.in_ok-keys.keys.now c.in_ok-first.first.now c.in_ok-first.second.now c.read_key.new.rows.rows.now
    c.read_key-2.new.rows.rows.now c.in_ok-low.low c.in_ok-high.high c.in_ok-keys.rest c.in_ok-keys.ensures
    c.in_ok-first.ensures.same c.in_ok-low.ensures.read c.in_ok-high.ensures.read
