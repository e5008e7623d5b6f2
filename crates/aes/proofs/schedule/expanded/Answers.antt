use Rattle.std.proofs.Common.{◌≡◌, ℕ, ◌+◌, ◌<◌, ◌≢◌, List, length, get_or, sym, refl, ap, ◌∙◌, add-one, arith, length-set, get_or-set_other, get_or-set_same, below_none, below_more}
use Rattle.aes.specs.Blocks.{block_bytes}
use Rattle.standards.specs.Fips197.{rcon_table, round_key, next_round_key}
use Rattle.standards.proofs.Printed.{rcon_entry}
use Rattle.aes.proofs.schedule.expanded.Goals as goal

-- one more round key
next : (i : ℕ) (key last new : List ℕ) → i < 10 → last ≡ round_key i key
    → new ≡ next_round_key (get_or rcon_table i 0) last → new ≡ round_key (i + 1) key
unfolding round_key
next i key last new h l n = let r = rcon_entry i h in let e = add-one i in cc

pub loop-round-init : goal.loop-round-init
unfolding round_key
loop-round-init c = (refl, below_more _ _ (below_none _) refl, refl)

pub loop-round-preserved : goal.loop-round-preserved
loop-round-preserved c =
    let i : ℕ = c.loop-round.round in
    let lt : i + 1 < length c.loop-round.keys = omega arith in
    let new : block_bytes c.next_round_key-last.result ≡ round_key (i + 1) (block_bytes c.args.key) =
    next i _ _ _ c.loop-round-test.true c.loop-round.invariant.0 c.next_round_key-last.ensures in (
      new,
      below_more _ _
          (λ k h. let ne : k ≢ i + 1 = omega arith in rw get_or-set_other (c.loop-round.invariant.1 k h))
          (rw get_or-set_same new),
      simp length-set c.loop-round.invariant.2,
    )

pub returns : goal.returns
unfolding round_key
returns c =
    let first = c.loop-round.invariant.1 0 (omega arith) in
    record { first = first; scheduled = λ i h. c.loop-round.invariant.1 i (omega arith) ∙ ap (round_key i) (sym first) }
