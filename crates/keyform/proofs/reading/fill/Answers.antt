use Rattle.std.proofs.Common.{◌≡◌, ℕ, suc, ◌+◌, ◌-◌, ◌<◌, ◌≤◌, Bor, List, Some, length, take, ap, ◌∙◌, arith, length-append, rules}
use Rattle.layout.specs.Keys.{rows_bytes}
use Rattle.keyform.specs.Reads.{RowIn, RowRead}
use Rattle.keyform.proofs.Decided.{most, some_told, neither_told}
use Rattle.keyform.proofs.Steps.{chunk_there, chunk_first, rows_put, whole_put}
use Rattle.keyform.proofs.reading.fill.Goals as goal

pub returns-in_default-clause-read : goal.returns-in_default-clause-read
returns-in_default-clause-read g c =
    let s = g.G.StoredGroup in
    let n = length c.args.rows.now.rows.now in
    let i = c.loop-row.row-index in
    let inv = c.loop-row.invariant in
    let rest = c.loop-row.chunks.rest.now in
    let is : n - i ≡ suc (n - (i + 1)) = omega arith in
    let w : c.loop-row.chunks.size ≡ c.row_size.result = inv.0 ∙ c.chunks_exact-chunks.ensures.size in
    let size = w ∙ c.row_size.ensures in
    let long = ap length inv.2 in
    let few : length rest ≤ most = omega (arith, long, length-append (rows_bytes s.form (take i c.loop-row.row-items)) rest) in
    let there = chunk_there s.form s.size g.met.G.StoredGroup.sized (n - (i + 1)) (n - i) c.loop-row.chunks.size most rest is size inv.1 in
    let no : (x : Bor (List ℕ)) → c.next.result ≡ Some x → RowIn s.form x.now → ⊥ = λ x e r. search rules in
    absurd (neither_told c.next.result c.next.ensures.steps.1 (λ few. omega (arith, few.0, there)) (λ x e p. no x e
    (chunk_first s.form s.size g.met.G.StoredGroup.sized (n - (i + 1)) (n - i) c.loop-row.chunks.size most rest x.now
    c.next.new.self.rest.now is size few p.0 p.1 inv.1).0))

pub loop-row-preserved : goal.loop-row-preserved
loop-row-preserved g c =
    let s = g.G.StoredGroup in
    let xs = c.loop-row.row-items in
    let n = length c.args.rows.now.rows.now in
    let i = c.loop-row.row-index in
    let inv = c.loop-row.invariant in
    let rest = c.loop-row.chunks.rest.now in
    let more = c.next.new.self.rest.now in
    let row = c.in-Some.read in
    let is : n - i ≡ suc (n - (i + 1)) = omega arith in
    let lt : i < length xs = omega arith in
    let w : c.loop-row.chunks.size ≡ c.row_size.result = inv.0 ∙ c.chunks_exact-chunks.ensures.size in
    let size = w ∙ c.row_size.ensures in
    let long = ap length inv.2 in
    let few : length rest ≤ most = omega (arith, long, length-append (rows_bytes s.form (take i xs)) rest) in
    let read : (x : Bor (List ℕ)) × (c.next.result ≡ Some x) × RowRead s.form x.now row = search rules in
    let step = some_told _ _ c.next.result read.0 read.1 c.next.ensures.steps.1 in (
      c.next.ensures.steps.0 ∙ inv.0,
      (chunk_first s.form s.size g.met.G.StoredGroup.sized (n - (i + 1)) (n - i) c.loop-row.chunks.size most rest
          read.0.now more is size few step.0 step.1 inv.1).1,
      rows_put s.form xs i row rest read.0.now more c.args.bytes.now lt inv.2 step.0 read.2,
      whole_put xs i row lt inv.3 read.2.whole,
    )
