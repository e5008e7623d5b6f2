-- Lists of sixteen, written out.
use Rattle.std.proofs.Common.{◌≡◌, ℕ, List, length}
use lib.Lanes.{zip2}
use Rattle.standards.specs.Rfc8439.{plus}
use Rattle.standards.proofs.Written.{written, written_out}

pub sums_spread : (s t : List ℕ) → length s ≡ 16 → length t ≡ 16 → zip2 plus (written 16 s) (written 16 t) ≡ zip2 plus s t
sums_spread s t h k = let e = written_out 16 s h in let f = written_out 16 t k in cc
