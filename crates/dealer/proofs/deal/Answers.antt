use Rattle.std.proofs.Common.{◌<◌, ◌≤◌, length, Err, sym, ap, ◌∙◌, arith, rules}
use Rattle.std.proofs.lemmas.Result.{err_from_is_err_and}
use Rattle.std.proofs.lemmas.Bool.Decides.{nat_tests}
use Rattle.refusal.proofs.Answered.{one_yes}
use Rattle.plan.specs.Plans.{stated, wires}
use Rattle.layout.specs.Books.{header_bytes}
use Rattle.buffers.proofs.Puts.{then, put_as, put_long}
use Rattle.dealer.specs.Book.{order, header_of, dealt}
use Rattle.dealer.proofs.Accepted.{same_plan, plan_passed, plan_refused, asked_no}
use Rattle.dealer.proofs.Longs.{bodies_long, contents_long}
use Rattle.dealer.proofs.Shorts.{book_short, of_passed}
use Rattle.dealer.proofs.Whole.{refused, too_short, made_book, left_as}
use Rattle.dealer.proofs.deal.Goals as goal

pub returns-in_err-plan-clause-book : goal.returns-in_err-plan-clause-book
returns-in_err-plan-clause-book g c =
    let p = stated c.args.plan in
    let e = err_from_is_err_and c.from_residual.result c.from_residual.ensures.1 in
    ap (λ r. (r, c.args.out.now)) e.1
    ∙ refused g.X.Expander.meaning (order p c.args.number c.args.deal c.args.words.now) c.args.out.now e.0
    (plan_refused p c.args.number (length c.args.words.now) _ (ap Err e.2 ∙ c.in_err-plan.ensures))

pub returns-in_err-ask-clause-book : goal.returns-in_err-ask-clause-book
returns-in_err-ask-clause-book g c =
    let q = stated c.in_ok-plan.plan.plan in
    let words = c.args.words.now in
    let same = same_plan (stated c.args.plan) c.args.number (length words) q c.in_ok-plan.ensures in
    let e = err_from_is_err_and c.from_residual-in_err-ask.result c.from_residual-in_err-ask.ensures.1 in
    let n = asked_no _ _ e.0 (ap Err e.2 ∙ c.in_err-ask.ensures) in
    let f = n.0 in
    let short : length c.args.out.now < c.long-long.result = grind (arith, nat_tests) in
    ap (λ r. (r, c.args.out.now)) (e.1 ∙ ap Err n.1)
    ∙ too_short g.X.Expander.meaning (order q c.args.number c.args.deal words) c.args.out.now
    c.long-long.result c.long-long.ensures short
    (plan_passed (stated c.args.plan) c.args.number (length words) q c.in_ok-plan.ensures)
    ∙ ap (λ p. dealt g.X.Expander.meaning (order p c.args.number c.args.deal words) c.args.out.now) (sym same)

pub overflow_cast-long : goal.overflow_cast-long
overflow_cast-long g c =
    let s = book_short (stated c.in_ok-plan.plan.plan) c.args.number (of_passed (stated c.in_ok-plan.plan.plan) c.in_ok-plan.plan.allowed) in
    let few : c.long-long.result ≤ 54880 = omega (arith, c.long-long.ensures) in
    search rules

pub put_header-requires : goal.put_header-requires
put_header-requires g c =
    let q = stated c.in_ok-plan.plan.plan in
    let t = one_yes _ _ _ c.in_ok-ask.ensures in
    let fits : c.long-long.result ≤ length c.args.out.now = grind (arith, nat_tests) in
    let e = c.long-long.ensures in
    let a = c.over-writer.ensures.front in
    let o = ap length c.over-writer.ensures.out in
    record { fits = omega arith }

pub put_contents-requires : goal.put_contents-requires
put_contents-requires g c =
    let q = stated c.in_ok-plan.plan.plan in
    let t = one_yes _ _ _ c.in_ok-ask.ensures in
    let fits : c.long-long.result ≤ length c.args.out.now = grind (arith, nat_tests) in
    let e = c.long-long.ensures in
    let l = contents_long q c.args.number (wires q) in
    let h = put_long c.put_header.ensures in
    let n = c.put_header.ensures.next in
    let a = c.over-writer.ensures.front in
    let o = ap length c.over-writer.ensures.out in
    record { fits = omega arith }

pub put_bodies-requires : goal.put_bodies-requires
put_bodies-requires g c =
    let q = stated c.in_ok-plan.plan.plan in
    let t = one_yes _ _ _ c.in_ok-ask.ensures in
    let fits : c.long-long.result ≤ length c.args.out.now = grind (arith, nat_tests) in
    let e = c.long-long.ensures in
    let l = contents_long q c.args.number (wires q) in
    let b = bodies_long g.X.Expander.meaning (order q c.args.number 0 c.args.words.now) (wires q) in
    let h = put_long c.put_header.ensures in
    let n = c.put_header.ensures.next in
    let i = put_long c.put_contents.ensures in
    let m = c.put_contents.ensures.next in
    let a = c.over-writer.ensures.front in
    let o = ap length c.over-writer.ensures.out in
    record { fits = omega arith }

pub returns-clause-book : goal.returns-clause-book
returns-clause-book g c =
    let q = stated c.in_ok-plan.plan.plan in
    let words = c.args.words.now in
    let o = order q c.args.number c.args.deal words in
    let t = one_yes _ _ _ c.in_ok-ask.ensures in
    let fits : c.long-long.result ≤ length c.args.out.now = grind (arith, nat_tests) in
    let same = same_plan (stated c.args.plan) c.args.number (length words) q c.in_ok-plan.ensures in
    let kind = c.KIND.ensures ∙ g.met.X.Expander.kind_of_meaning in
    let name = c.put_bodies.ensures.same ∙ c.put_contents.ensures.same ∙ c.put_header.ensures.same ∙ c.over-writer.ensures.same in
    left_as (search rules) (made_book g.X.Expander.meaning o c.args.out.now c.over-writer.result c.put_bodies.new.writer c.long-long.result
    c.over-writer.ensures.out c.over-writer.ensures.front c.long-long.ensures fits
    (plan_passed (stated c.args.plan) c.args.number (length words) q c.in_ok-plan.ensures)
    (then (put_as (ap (λ k. header_bytes (header_of k o) c.long-long.result) kind) c.put_header.ensures)
    (then c.put_contents.ensures c.put_bodies.ensures))
    ∙ ap (λ p. dealt g.X.Expander.meaning (order p c.args.number c.args.deal words) c.args.out.now) (sym same))

pub returns-clause-bound : goal.returns-clause-bound
returns-clause-bound g c =
    let s = book_short (stated c.in_ok-plan.plan.plan) c.args.number (of_passed (stated c.in_ok-plan.plan.plan) c.in_ok-plan.plan.allowed) in
    omega (arith, c.long-long.ensures)
