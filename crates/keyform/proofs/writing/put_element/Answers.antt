use Rattle.std.proofs.Common.{◌≡◌, ◌+◌, ◌-◌, length, refl, ap, ◌∙◌, arith, rules}
use Rattle.buffers.specs.Forms.{put_at}
use Rattle.buffers.proofs.Puts.{mid_is_put_at}
use Rattle.keyform.proofs.writing.put_element.Goals as goal

pub overflow_add-end : goal.overflow_add-end
overflow_add-end g c = let k = g.met.G.StoredGroup.sized c.args.element in search rules

pub write-requires : goal.write-requires
write-requires g c = let k = g.met.G.StoredGroup.sized c.args.element in search rules

pub returns : goal.returns
returns g c =
    let w = c.args.writer.now in
    let s = c.write.ensures in
    let k = g.met.G.StoredGroup.sized c.args.element in
    let z : c.size_of.result ≡ length (g.G.StoredGroup.form c.args.element) = search rules in
    let e : w.at + c.size_of.result - w.at ≡ length c.write.new.out = omega (arith, ap length s) in
    record {
      after = mid_is_put_at w.out.now w.at _ c.write.new.out e ∙ ap (put_at w.out.now w.at) s;
      next = ap (λ n. w.at + n) z;
      fits = c.requires.fits;
      same = refl;
    }
