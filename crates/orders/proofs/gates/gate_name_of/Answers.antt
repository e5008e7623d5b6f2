use Rattle.std.proofs.Common.{◌≡◌, codes, rules, refl, arith}
use Rattle.std.proofs.lemmas.Slice.Eq.{text_from_reads}
use Rattle.orders.proofs.gates.gate_name_of.Goals as goal

pub returns-in-signed : goal.returns-in-signed
returns-in-signed c =
    let e : c.args.word.now ≡ codes "signed" = text_from_reads c.args.word.now (codes "signed") (omega arith) (search rules) in
    rw e refl

pub returns-in-product : goal.returns-in-product
returns-in-product c =
    let e : c.args.word.now ≡ codes "product" = text_from_reads c.args.word.now (codes "product") (omega arith) (search rules) in
    rw e refl
