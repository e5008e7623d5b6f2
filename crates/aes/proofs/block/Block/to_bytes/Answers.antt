use Rattle.std.proofs.Common.{ℕ, List, [], get_or, take, drop, ap, ◌∙◌, w32}
use Rattle.std.proofs.lemmas.List.FromFn.{fill_by_all}
use Rattle.std.specs.Int.{to_be_bytes}
use Rattle.std.specs.List.{flat_map}
use Rattle.aes.specs.Blocks.{block_bytes}
use Rattle.aes.proofs.block.Block.to_bytes.Goals as goal

pub returns : goal.returns
unfolding block_bytes
returns c =
    let words = c.args.self.0 in
    let made = c.map.ensures.items in
    let parts = fill_by_all (λ k. to_be_bytes w32 (get_or words k 0)) c.map.result 4 [] made.long (λ k lt. (made.at k 0 [] lt).2.met) in
    c.bytes_at.ensures ∙ ap (λ (l : List ℕ). take 16 (drop 0 l)) (c.as_flattened.ensures.value ∙ ap (flat_map (λ x. x)) parts)
