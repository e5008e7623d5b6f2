-- How many random words the gates take at most.
use Rattle.std.proofs.Common.{◌*◌, ◌≤◌, List, length, get_or, lit≤}
use Rattle.std.proofs.lemmas.List.Sums.{sum_by-le}
use Rattle.plan.specs.declared.gates.GateKind.{GateKind}
use Rattle.plan.specs.declared.gates.GateKind.TheVariants.{Sum, Scale, Product, Piece, Flag, Shift, SignedShift, Xor}
use Rattle.plan.specs.declared.PlanRow.{PlanRow}
use Rattle.plan.specs.Gates.{kind_of, kind_words, words_of}
use Rattle.plan.specs.Plans.{words_of_rows}

few : (k : GateKind) → kind_words k ≤ 14
few Sum = lit≤ tt
few Scale = lit≤ tt
few Product = lit≤ tt
few Piece = lit≤ tt
few Flag = lit≤ tt
few Shift = lit≤ tt
few SignedShift = lit≤ tt
few Xor = lit≤ tt

pub words_few : (rows : List PlanRow) → words_of_rows rows ≤ length rows * 14
words_few rows = sum_by-le (λ r. words_of r.body) 14 rows (λ k d l. few (kind_of (get_or rows k d).body))
