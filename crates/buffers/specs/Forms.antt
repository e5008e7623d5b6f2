-- Bytes written over a part of a list.
use Rattle.std.specs.Prelude.{List, ◌++◌, ◌≡◌, ℕ, ◌+◌, ◌≤◌, length, take, drop}
use Rattle.buffers.specs.declared.Writer.{Writer}

-- `out` with `bytes` written from `at` on
unfoldable pub put_at : List ℕ → ℕ → List ℕ → List ℕ
put_at out at bytes = take at out ++ (bytes ++ drop (at + length bytes) out)

-- what a write of `bytes` leaves: they stand in the same buffer, and the place is after them
pub record Put (w : Writer) (bytes : List ℕ) (w' : Writer) : Type 0 where
  pub after : w'.out.now ≡ put_at w.out.now w.at bytes
  pub next : w'.at ≡ w.at + length bytes
  pub fits : w.at + length bytes ≤ length w.out.now
  pub same : w'.out.ghost_name ≡ w.out.ghost_name

-- that there is room for `bytes`
pub record Room (w : Writer) (bytes : List ℕ) : Type 0 where
  pub fits : w.at + length bytes ≤ length w.out.now
