-- What random words become.
use Rattle.std.specs.Prelude.{ℕ, ◌++◌}
use Rattle.expander.specs.declared.Seed.{Seed}
use Rattle.stored.specs.Forms.{eight_bytes}

-- a root: two words, each with its lowest byte first
abbrev pub root_of : ℕ → ℕ → Seed
root_of first second = record { bytes = eight_bytes first ++ eight_bytes second }
