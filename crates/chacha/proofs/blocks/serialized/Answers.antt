use Rattle.std.proofs.Common.{ℕ, List, [], get_or, take, drop, sym, ap, ◌∙◌, w32}
use Rattle.std.proofs.lemmas.List.FromFn.{fill_by_all}
use Rattle.std.specs.Int.{to_le_bytes}
use Rattle.std.specs.List.{flat_map}
use Rattle.standards.specs.Rfc8439.{serialized}
use Rattle.standards.proofs.Written.{written_out}
use Rattle.chacha.proofs.blocks.serialized.Goals as goal

pub returns : goal.returns
returns c =
    let words = c.args.words.now in
    let made = c.map.ensures.items in
    let parts = fill_by_all (λ k. to_le_bytes w32 (get_or words k 0)) c.map.result 16 [] made.long (λ k lt. (made.at k 0 [] lt).2.met) in
    c.bytes_at.ensures
    ∙ ap (λ (l : List ℕ). take 64 (drop 0 l)) (c.as_flattened.ensures.value ∙ ap (flat_map (λ x. x)) parts)
    ∙ ap serialized (sym (written_out 16 words c.told-words))
