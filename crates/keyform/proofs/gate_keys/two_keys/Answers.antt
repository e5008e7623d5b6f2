use Rattle.std.proofs.lemmas.Bool.{both_ways}
use Rattle.std.proofs.Common.{◌≤◌, ◌++◌, length, take, Decides, ap, ◌∙◌, arith, take-append-drop}
use Rattle.keyform.specs.Forms.{word_form}
use Rattle.keyform.specs.Reads.{KeyIn}
use Rattle.keyform.specs.GateKeys.{TwoRead}
use Rattle.keyform.proofs.Decided.{then_decided, most}
use Rattle.keyform.proofs.Forms.{word_sized}
use Rattle.keyform.proofs.TwoKeys.{two_there}
use Rattle.keyform.proofs.gate_keys.two_keys.Goals as goal
use Rattle.keyform.proofs.gate_keys.two_keys.Goals.{then-key_fits, else-key_fits}

pub returns-in_err-first : goal.returns-in_err-first
returns-in_err-first c =
    let bytes = c.args.bytes.now in
    let few : length bytes ≤ most = omega arith in
    rw c.from_residual.ensures (λ t.
    let p = two_there word_form 8 word_sized c.args.low c.args.high c.word_key_size.result most bytes
    c.word_key_size.ensures few t in
    omega (arith, p.0, c.in_err-first.ensures.cases))

pub returns : goal.returns
returns c =
    let bytes = c.args.bytes.now in
    let low = c.args.low in
    let high = c.args.high in
    let size = c.word_key_size.result in
    let first = c.in_ok-first.first.now in
    let second = c.in_ok-first.second.now in
    let split = c.in_ok-first.ensures.cases in
    let few : length bytes ≤ most = omega arith in
    let fit : Decides c.if-key_fits.then_some (KeyIn word_form low first × KeyIn word_form high second) = elim c.if-key_fits.branch [
      | then-key_fits w ↦ rw w.then_some-is (
        λ e. (c.key_fits.ensures.0 w.if-key_fits.true, w.key_fits-then-key_fits.ensures.0 e),
        λ k. w.key_fits-then-key_fits.ensures.1 k.1,
      )
      | else-key_fits w ↦ rw w.then_some-is (
        λ e. absurd (both_ways c.key_fits.result w.if-key_fits.false e),
        λ k. absurd (both_ways c.key_fits.result w.if-key_fits.false (c.key_fits.ensures.1 k.0)),
      )
    ] in
    then_decided (λ t. TwoRead word_form low high bytes t.0.now t.1.now) c.if-key_fits.then_some
    (c.in_ok-first.first, c.in_ok-first.second) c.then_some.result c.then_some.ensures fit
    (λ k. record {
      same = ap (λ t. t ++ second) split.1 ∙ ap (λ t. take size bytes ++ t) split.2 ∙ take-append-drop size bytes;
      low_in = k.0;
      high_in = k.1;
    })
    (λ t.
    let p = two_there word_form 8 word_sized low high size most bytes c.word_key_size.ensures few t in
    (rw split.1 p.1, rw split.2 p.2))
