use Rattle.std.proofs.Common.{◌≡◌, ℕ, ◌+◌, ◌<◌, refl, ap, ◌∙◌, arith, rules, take, drop, length, get_or, [], length-take, length-drop}
use Rattle.std.proofs.lemmas.List.{get_or-take}
use Rattle.std.proofs.lemmas.Grind.{get_or_after_one}
use Rattle.aes.specs.declared.block.Block.{Block}
use Rattle.aes.specs.Keys.{key_of}
use Rattle.aes.proofs.MoreRounds.{one_more_round}
use Rattle.aes.specs.Blocks.{block_bytes}
use Rattle.standards.specs.Fips197.{full_rounds, round_key}
use Rattle.aes.proofs.round_keys.RoundKeys.full_rounds.Goals as goal

pub loop-key-init : goal.loop-key-init
unfolding full_rounds
loop-key-init c = refl

pub loop-key-preserved : goal.loop-key-preserved
loop-key-preserved c =
    let self = c.args.self.now in
    let i : ℕ = c.loop-key.key-index in
    let part = take 9 (drop 1 self.keys) in
    let in_part : i < 9 = omega (arith, c.loop-key-test.true, length-take 9 (drop 1 self.keys)) in
    let place : 1 + i ≡ i + 1 = omega arith in
    let zero : Block = record { 0 = [] } in
    let key : block_bytes (get_or part i zero) ≡ round_key (i + 1) (key_of self) =
    ap block_bytes (get_or-take 9 (drop 1 self.keys) i zero in_part ∙ get_or_after_one self.keys i zero ∙ ap (λ (n : ℕ). get_or self.keys n zero) place)
    ∙ self.scheduled (i + 1) (omega arith) in
    one_more_round i _ _ _ _ _ c.full_round-state.ensures key c.loop-key.invariant

pub returns : goal.returns
returns c =
    let self = c.args.self.now in
    let long : length self.keys ≡ 11 = search rules in
    let part = drop 1 self.keys in
    let nine : length (take 9 part) ≡ 9 = omega (arith, long, length-take 9 part, length-drop 1 self.keys) in
    let end : c.loop-key.key-index ≡ 9 = omega (arith, nine, c.loop-key.auto.key-index-end, c.loop-key-test.false) in
    c.loop-key.invariant ∙ ap (λ (n : ℕ). full_rounds n (key_of self) (block_bytes c.args.block)) end
