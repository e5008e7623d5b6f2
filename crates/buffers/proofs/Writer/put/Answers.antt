use Rattle.std.proofs.Common.{◌≡◌, ◌+◌, ◌-◌, length, refl, ap, ◌∙◌, arith}
use Rattle.buffers.specs.Forms.{put_at}
use Rattle.buffers.proofs.Puts.{mid_is_put_at}
use Rattle.buffers.proofs.Writer.put.Goals as goal

pub returns : goal.returns
returns c =
    let w = c.args.self.now in
    let s = c.copy_from_slice.ensures.after in
    let e : w.at + length c.args.bytes.now - w.at ≡ length c.copy_from_slice.new.self = omega (arith, ap length s) in
    record { after = mid_is_put_at w.out.now w.at _ c.copy_from_slice.new.self e ∙ ap (put_at w.out.now w.at) s; next = refl; fits = c.requires.fits; same = refl }
