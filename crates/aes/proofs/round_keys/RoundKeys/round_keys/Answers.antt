use Rattle.std.proofs.Common.{[], ◌∙◌}
use Rattle.std.proofs.lemmas.List.FromFn.{fill_by_all}
use Rattle.aes.specs.Keys.{key_of}
use Rattle.standards.specs.Fips197.{round_key}
use Rattle.aes.proofs.round_keys.RoundKeys.round_keys.Goals as goal

pub returns : goal.returns
returns c =
    let self = c.args.self.now in
    let made = c.map.ensures.items in
    fill_by_all (λ k. round_key k (key_of self)) c.map.result 11 [] made.long
    (λ k lt. (made.at k (record { 0 = [] }) [] lt).2.met ∙ self.scheduled k lt)
