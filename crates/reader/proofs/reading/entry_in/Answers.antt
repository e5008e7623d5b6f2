use Rattle.std.proofs.Common.{◌≡◌, ◌+◌, ◌*◌, arith}
use Rattle.reader.proofs.Entries.{entry_told}
use Rattle.reader.proofs.reading.entry_in.Goals as goal

pub returns : goal.returns
returns c =
    let at : c.in_ok-at.at ≡ 16 + 8 * c.args.k = omega (arith, c.in_ok-at.ensures.1, c.in_ok-checked_mul.ensures.1) in
    entry_told c.args.book.now c.args.k c.in_ok-at.at c.get.result c.after.result.now at c.after.ensures c.get.ensures.lookup.0
