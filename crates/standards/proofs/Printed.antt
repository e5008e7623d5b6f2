-- The tables that FIPS 197 prints are what its rules give, tested at each of their entries.
use mathlib.Core.Bool.{Bool}
use mathlib.Core.Path.{◌≡◌}
use Prim.Native.Nat.{ℕ, ◌<◌}
use lib.Dec.{eqb, eqb→eq}
use lib.ListN.{get_or}
use Rattle.standards.specs.Fips197.{s_box, s_box_table, affine, inverse, times, rcon, rcon_table}
use Rattle.standards.proofs.Tables.{at}

s_box_right : ℕ → ℕ → Bool
s_box_right b entry = eqb entry (s_box b)

pub s_box_entry : (b : ℕ) → b < 256 → get_or s_box_table b 0 ≡ s_box b
unfolding s_box affine inverse times s_box_right
s_box_entry b h = eqb→eq (get_or s_box_table b 0) (s_box b) (at s_box_right s_box_table tt b h)

rcon_right : ℕ → ℕ → Bool
rcon_right i entry = eqb entry (rcon i)

pub rcon_entry : (i : ℕ) → i < 10 → get_or rcon_table i 0 ≡ rcon i
unfolding rcon_right
rcon_entry i h = eqb→eq (get_or rcon_table i 0) (rcon i) (at rcon_right rcon_table tt i h)
