-- What round keys stand for.
use Rattle.std.specs.Prelude.{◌≡◌, ℕ, ◌<◌, List}
use Rattle.aes.specs.Blocks.{key_at}
use Rattle.aes.specs.declared.round_keys.RoundKeys.{RoundKeys}
use Rattle.standards.specs.Fips197.{round_key}

-- the key that round keys were made of: the first of them
abbrev pub key_of : RoundKeys → List ℕ
key_of k = key_at k.keys 0

-- each of the eleven round keys is that of the standard
abbrev pub Expanded : RoundKeys → List ℕ → Type 0
Expanded k key = (i : ℕ) → i < 11 → key_at k.keys i ≡ round_key i key
