-- Bytes in hex.
use Rattle.std.specs.Prelude.{ℕ, ◌+◌, ◌/◌, ◌%◌, List, [], ◌∷◌, nat_lt, if◌then◌else◌}
use Rattle.std.specs.List.{flat_map}

-- a digit's letter: 0 to 9, and then a to f
abbrev pub letter : ℕ → ℕ
letter digit = if nat_lt digit 10 then 48 + digit else 87 + digit

-- a byte's two digits, the high one first
abbrev pub hex_pair : ℕ → List ℕ
hex_pair byte = letter (byte / 16) ∷ letter (byte % 16) ∷ []

-- the digits of all bytes
abbrev pub hex_text : List ℕ → List ℕ
hex_text bytes = flat_map hex_pair bytes
