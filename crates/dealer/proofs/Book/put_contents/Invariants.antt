use Rattle.std.proofs.Common.{◌≡◌}
use Rattle.plan.specs.Plans.{stated}
use Rattle.buffers.specs.Forms.{Put}
use Rattle.layout.specs.Bytes.{joined}
use Rattle.dealer.specs.Lengths.{entry, place}
use Rattle.dealer.proofs.Book.put_contents.Given as goal

abbrev pub invariant-loop-k : goal.invariant-loop-k
invariant-loop-k l =
    let p = stated l.self.plan.plan in
    Put l.initial.writer (joined (entry p l.self.number) l.k) l.writer × (l.place ≡ place p l.self.number l.k)
