use Rattle.std.proofs.Common.{◌≡◌, length, rules, ◌∙◌, refl}
use Rattle.std.specs.List.{fold, zip}
use Rattle.std.specs.Iterator.Adapters.{rev_steps}
use Rattle.std.proofs.iter.Yields.{fronts}
use Rattle.std.proofs.iter.runs.Sources.{nat_range_steps_back}
use Rattle.std.proofs.lemmas.Fn.{fold_over}
use Rattle.std.proofs.lemmas.Iterator.{zips, YieldsList-from_slice, YieldsList-from_zip}
use Rattle.evaluation.specs.Evaluation.{walk_mean}
use Rattle.evaluation.proofs.Walks.{falling, falls_back, turn, turned, over}
use Rattle.evaluation.proofs.Walk.past.Goals as goal

pub returns : goal.returns
returns g c =
    let x = g.X.Expander.meaning in
    let m = g.G.Group in
    let rows = c.args.rows.now in
    let w = walk_mean m.mean c.args.self in
    let road = YieldsList-from_zip {s = c.zip.result} (YieldsList-from_slice rows cc) (falls_back {s = c.zip.result.b} (length rows) cc) in
    fold_over (zips fronts (rev_steps nat_range_steps_back)) (λ p. (p.0.now, p.1)) _ (λ seen a. walk_mean m.mean a ≡ fold (turn x m.group m.mean c.args.point) w seen) _
    (λ seen a p b f is call. (turned x m.group m.mean c.args.point w seen _ _ _ is (search rules), search rules))
    c.zip.result (zip rows (falling 0 (length rows))) c.args.self c.fold.result road.runs refl c.fold.ensures.ran
    ∙ over x m.group m.mean c.args.point rows w
