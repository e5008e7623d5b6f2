use Rattle.std.proofs.Common.{ap, ◌∙◌}
use Rattle.standards.specs.Fips197.{round_key}
use Rattle.aes.proofs.round_keys.RoundKeys.new.Goals as goal

pub returns : goal.returns
returns c =
    let first = c.expanded-keys.ensures.first ∙ c.from_bytes.ensures in
    record { key = first; round_keys = λ i h. c.expanded-keys.ensures.scheduled i h ∙ ap (round_key i) first }
