use Rattle.std.proofs.Common.{rules, tests, arith}
use Rattle.std.proofs.lemmas.Iterator.{YieldsList-from_range}
use Rattle.std.proofs.lemmas.Iterator.Search.{all_from_yields_List}
use Rattle.reader.specs.Questions.{wire_fits}
use Rattle.reader.proofs.reading.Book.wires_fit.Goals as goal

pub returns : goal.returns
returns c =
    all_from_yields_List (wire_fits c.args.self.bytes.now) _ _ c.all.result c.all.ensures.ran
    (YieldsList-from_range 0 c.args.wires c.args.wires (cc) (omega arith)) (λ x b q k. search (rules, tests))
