use Rattle.std.proofs.Common.{length, get_or, Ok, sym, ap, ◌∙◌, arith, eq-eqb, ne_eqb}
use Rattle.orders.specs.Text.{seed_from}
use Rattle.orders.proofs.Numbers.{hex_bytes_at}
use Rattle.orders.proofs.text.seed_of.Goals as goal

pub returns-then-word-ne32 : goal.returns-then-word-ne32
unfolding seed_from
returns-then-word-ne32 c =
    record { is = rw (ne_eqb (length c.args.word.now) 32 c.if-word-ne32.true); bytes = tt }

pub returns-then-not-all_hex : goal.returns-then-not-all_hex
unfolding seed_from
returns-then-not-all_hex c =
    record { is = rw (eq-eqb (length c.args.word.now) 32 c.if-word-ne32.false, sym c.if-not-all_hex.ensures); bytes = tt }

pub returns : goal.returns
unfolding seed_from
returns c =
    let w = c.args.word.now in
    record {
      is = rw (eq-eqb (length w) 32 c.if-word-ne32.false, sym c.if-not-all_hex.ensures)
          (ap (λ bs. Ok (record { bytes = bs })) c.hex_bytes.ensures);
      bytes = λ i h. ap (λ bs. get_or bs i 0) c.hex_bytes.ensures ∙ hex_bytes_at w i (omega arith);
    }
