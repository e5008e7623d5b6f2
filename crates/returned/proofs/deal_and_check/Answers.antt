use Rattle.std.proofs.Common.{◌≡◌, ◌-◌, take, Err, ap, ◌∙◌, arith}
use Rattle.std.proofs.lemmas.Result.{err_from_is_err_and}
use Rattle.plan.specs.Plans.{stated}
use Rattle.dealer.specs.Book.{order}
use Rattle.reader.specs.Questions.{book_answer}
use Rattle.returned.proofs.Checked.{read, accepted, refused}
use Rattle.returned.proofs.deal_and_check.Goals as goal

pub returns-in_err-check_book : goal.returns-in_err-check_book
returns-in_err-check_book g c =
    let p = stated c.args.plan in
    let o = order p c.args.number c.args.deal_number c.args.words.now in
    let x = g.D.Expander.meaning in
    let long = c.in_ok-long.long in
    let own = c.KIND.ensures ∙ g.met.X.Expander.kind_of_meaning in
    let z : long - 0 ≡ long = omega arith in
    let e = err_from_is_err_and c.from_residual-in_err-check_book.result c.from_residual-in_err-check_book.ensures.1 in
    let a = ap Err e.2 ∙ c.in_err-check_book.ensures.answer ∙ (λ i. book_answer (own i) (take (z i) c.deal.new.out)) in
    record {
      book = ap (λ r. (r, c.deal.new.out)) e.1
          ∙ refused x o c.args.out.now g.X.Expander.meaning.kind long c.deal.new.out c.in_ok-long.ensures.book (omega arith) e.0 a;
      returned = rw e.1 tt;
    }

pub returns : goal.returns
returns g c =
    let p = stated c.args.plan in
    let o = order p c.args.number c.args.deal_number c.args.words.now in
    let x = g.D.Expander.meaning in
    let kind = g.X.Expander.meaning.kind in
    let long = c.in_ok-long.long in
    let own = c.KIND.ensures ∙ g.met.X.Expander.kind_of_meaning in
    let z : long - 0 ≡ long = omega arith in
    let a = c.in_ok-check_book.ensures.answer ∙ (λ i. book_answer (own i) (take (z i) c.deal.new.out)) in
    record {
      book = accepted x o c.args.out.now kind long c.deal.new.out c.in_ok-long.ensures.book (omega arith) a;
      returned = read x o c.args.out.now kind long c.deal.new.out c.in_ok-long.ensures.book (omega arith);
    }
