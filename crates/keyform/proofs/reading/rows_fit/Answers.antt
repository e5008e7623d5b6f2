use Rattle.std.proofs.Common.{◌≡◌, ℕ, ◌+◌, ◌*◌, ◌/◌, ◌<◌, ◌≤◌, IfSome, true, length, take, drop, sym, ap, ◌∙◌, subst, arith, rules}
use Rattle.std.proofs.lemmas.Bool.{both_ways}
use Rattle.std.proofs.Math.Nat.{mul-div_cancel}
use Rattle.keyform.specs.Reads.{RowIn}
use Rattle.keyform.proofs.Decided.{not_no, most, both_told, more_told}
use Rattle.keyform.proofs.Steps.{chunks_long, chunk_row, chunk_told, chunks_rows}
use Rattle.keyform.proofs.reading.rows_fit.Goals as goal

pub returns-then-eq : goal.returns-then-eq
returns-then-eq g c =
    let s = g.G.StoredGroup in
    let w = c.row_size-size.result in
    let bytes = c.args.bytes.now in
    let n = c.args.count in
    let pos : 0 < w = omega (arith, c.row_size-size.ensures) in
    let long : length bytes ≡ n * w = search rules in
    let few : length bytes ≤ most = omega arith in
    let p = c.all.ensures.runs.0 in
    let from = c.all.ensures.runs.1 in
    let z : p.from.size ≡ w = ap (λ f. f.size) from ∙ c.chunks_exact.ensures.size in
    let e : p.from.rest.now ≡ bytes = ap (λ f. f.rest.now) from ∙ c.chunks_exact.ensures.rest in
    let h = c.chunks_exact.ensures.runs p p.seen (omega arith) in
    let chunk : (k : ℕ) → IfSome (p.at k) (λ x. (k * w + w ≤ length bytes) × (x.now ≡ take w (drop (k * w) bytes))) = λ k.
    chunk_told (p.at k) k p.from.size w p.from.rest.now bytes z e (h.2 k) in (
      λ yes.
          let whole : p.whole ≡ true = search rules in
          let count : p.len ≡ n = h.1 whole ∙ (λ j. length (e j) / z j) ∙ ap (λ l. l / w) long ∙ mul-div_cancel n pos in
          let all : (k : ℕ) → IfSome (p.at k) (λ x. RowIn s.form x.now) = λ k. search rules in
          chunks_rows s.form n w bytes long (λ k l.
          let t = both_told _ _ (p.at k) _ (p.reads k c.args.bytes (omega arith)) (chunk k) (all k) in
          subst (RowIn s.form) t.1.1 t.2),
      λ r. let all : (k : ℕ) → IfSome (p.at k) (λ x. RowIn s.form x.now) = λ k.
          more_told _ _ (p.at k) (λ x t. subst (RowIn s.form) (sym t.1) (chunk_row s.form s.size g.met.G.StoredGroup.sized
          n k w most bytes pos t.0 c.row_size-size.ensures few r)) (chunk k) in
          not_no c.all.result (λ no. search rules),
    )

pub returns-else-eq : goal.returns-else-eq
returns-else-eq g c =
    let s = g.G.StoredGroup in
    let few : length c.args.bytes.now ≤ most = omega arith in
    let no : length c.args.bytes.now ≡ c.args.count * c.row_size-size.result → ⊥ = λ e. search rules in (
      λ yes. absurd (both_ways c.eq.result c.if-eq.false yes),
      λ t. absurd (no (chunks_long s.form s.size g.met.G.StoredGroup.sized c.args.count c.row_size-size.result most
          c.args.bytes.now c.row_size-size.ensures few t)),
    )
