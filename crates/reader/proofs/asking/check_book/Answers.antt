use Rattle.std.proofs.Common.{sym, ◌∙◌, arith}
use Rattle.bodies.specs.Parts.{Bytes}
use Rattle.reader.proofs.Told.{exactly_told, told_short}
use Rattle.reader.proofs.asking.check_book.Goals as goal

pub returns : goal.returns
returns c =
    let kind = c.args.kind in
    let book = c.args.book.now in
    let e = c.asked_book.ensures in
    let f : Bytes book = λ i. let h = c.type_inv.book i in omega arith in
    let t = exactly_told kind book f in
    record {
      answer = e;
      exact = (λ ok. t.0 (sym e ∙ ok), λ b. e ∙ t.1 b);
      short = λ ok. told_short kind book f (sym e ∙ ok);
    }
