use Rattle.std.proofs.Common.{◌≡◌, ℕ, ◌%◌, get_or, Ok, Err, sym, ap, ◌∙◌}
use Rattle.std.proofs.lemmas.Result.{err_from_is_err_and}
use Rattle.key.specs.declared.BoxNumber.TheVariants.{Zero, One}
use Rattle.key.specs.Rows.{is_one}
use Rattle.masking.specs.Masking.{size}
use Rattle.shares.specs.Local.{sum_of}
use Rattle.shares.specs.Product.{product_share}
use Rattle.shares.proofs.Product.{product_joins}
use Rattle.gates.specs.declared.product.ProductKey.{ProductKey}
use Rattle.comparison.specs.Comparison.{answer_mean}
use Rattle.gates.specs.Questions.{numbers_of, held_of, product_asks}
use Rattle.gates.specs.Product.{dealt_product, product_numbers, product_held}
use Rattle.refusal.proofs.Answered.{refused_alike, answered_alike}
use Rattle.gates.proofs.Shares.{three_alike}
use Rattle.gates.proofs.Asked.{product_allowed}
use Rattle.gates.proofs.product.product_gate.Goals as goal

abbrev share_at : ℕ → ℕ → ProductKey → ℕ
share_at m k key = product_share (is_one key.number) (size key.width) m k key.parts.a key.parts.b key.parts.c

pub returns-in_err-ask_product : goal.returns-in_err-ask_product
returns-in_err-ask_product c =
    let t = c.args.gate.now in
    let p = err_from_is_err_and c.from_residual.result c.from_residual.ensures.1 in
    let asked = sym (ap Err p.2 ∙ c.in_err-ask_product.ensures) in
    let asks = product_asks t.width.bits t.mask_a t.mask_b c.args.m.0 c.args.k.0 in
    record {
      numbers = ap (answer_mean numbers_of) p.1 ∙ sym (refused_alike asks (tt {0}) _ p.0 asked);
      joins = ap (answer_mean held_of) p.1 ∙ sym (refused_alike asks (tt {0}) _ p.0 asked);
    }

pub returns : goal.returns
returns c =
    let t = c.args.gate.now in
    let w = t.width in
    let r : ℕ = t.mask_a in
    let s : ℕ = t.mask_b in
    let m : ℕ = c.args.m.0 in
    let k : ℕ = c.args.k.0 in
    let ws = t.words in
    let N : ℕ = size w in
    let u = c.in_ok-ask_product.field-0 in
    let asks = product_asks w.bits r s m k in
    let asked = sym c.in_ok-ask_product.ensures in
    let fine = product_allowed w.bits r s m k u asked in
    let half0 = c.answer_product-half0 in
    let half1 = c.answer_product-half1 in
    let e0 : half0.result.own.0 ≡ share_at m k (dealt_product Zero w r s ws) = half0.ensures.share ∙ ap (share_at m k) c.deal_product.ensures in
    let e1 : half1.result.own.0 ≡ share_at m k (dealt_product One w r s ws) = half1.ensures.share ∙ ap (share_at m k) c.deal_product-2.ensures in
    let width = half0.ensures.width ∙ ap (λ j. j.width) c.deal_product.ensures in
    let both = c.exchange.ensures.held
    ∙ ap (λ v. sum_of (size v) half0.result.own.0 half1.result.own.0) width
    ∙ ap (λ q. sum_of N q half1.result.own.0) e0
    ∙ ap (sum_of N (share_at m k (dealt_product Zero w r s ws))) e1 in
    record {
      numbers = ap Ok (three_alike (ap (λ q. q.0) c.exchange.ensures.share0 ∙ e0) (ap (λ q. q.0) c.exchange.ensures.share1 ∙ e1) both)
          ∙ sym (answered_alike asks (tt {0}) u (product_numbers w r s ws m k) asked);
      joins = ap Ok (both ∙ product_joins N m k r s (get_or ws 0 0 % N) (get_or ws 1 0) (get_or ws 2 0) (get_or ws 3 0) fine.0 fine.1)
          ∙ sym (answered_alike asks (tt {0}) u (product_held w r s ws m k) asked);
    }
