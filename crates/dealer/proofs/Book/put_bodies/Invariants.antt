use Rattle.std.proofs.Common.{◌≡◌, drop}
use Rattle.plan.specs.Plans.{stated, words_before}
use Rattle.buffers.specs.Forms.{Put}
use Rattle.layout.specs.Bytes.{joined}
use Rattle.dealer.specs.Book.{order, dealt_body}
use Rattle.dealer.proofs.Book.put_bodies.Given as goal

abbrev pub invariant-loop-k : goal.invariant-loop-k
invariant-loop-k g l =
    let p = stated l.self.plan.plan in
    Put l.initial.writer (joined (dealt_body g.X.Expander.meaning (order p l.self.number 0 l.words)) l.k) l.writer
    × (l.rest ≡ drop (words_before p l.k) l.words)
