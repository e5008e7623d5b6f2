-- What the expander of zeros computes: nothing but zeros, of every seed.
use Rattle.std.specs.Prelude.{false, [], ◌∷◌}
use Rattle.expander.specs.declared.Seed.{Seed}
use Rattle.expander.specs.declared.Side.{Side}
use Rattle.expander.specs.Meaning.{Expansion}

abbrev pub zero_seed : Seed
zero_seed = record { bytes = 0 ∷ 0 ∷ 0 ∷ 0 ∷ 0 ∷ 0 ∷ 0 ∷ 0 ∷ 0 ∷ 0 ∷ 0 ∷ 0 ∷ 0 ∷ 0 ∷ 0 ∷ 0 ∷ [] }

abbrev pub zero_side : Side
zero_side = record { seed = zero_seed; value = zero_seed; bit = false }

abbrev pub zeros : Expansion
zeros =
    record {
      kind = 3;
      branch = λ _. record { left = zero_side; right = zero_side };
      draw = λ _. 0 ∷ 0 ∷ 0 ∷ 0 ∷ 0 ∷ 0 ∷ 0 ∷ 0 ∷ [];
    }
