use Rattle.std.proofs.Common.{[], ◌∷◌, ap, arith}
use Rattle.buffers.proofs.Puts.{then, put_as, room_next}
use Rattle.layout.specs.Keys.{bits}
use Rattle.keyform.proofs.writing.put_row.Goals as goal

pub put_byte-requires : goal.put_byte-requires
put_byte-requires g c =
    let row = c.args.row.now in
    let f = room_next (bits row.left row.right ∷ g.G.StoredGroup.form row.element) c.put_seed.ensures c.requires in
    record { fits = omega (arith, f.fits) }

pub put_element-requires : goal.put_element-requires
put_element-requires g c =
    room_next _ (put_as (ap (λ b. b ∷ []) c.from.ensures) c.put_byte.ensures)
    (room_next _ c.put_seed.ensures c.requires)

pub returns : goal.returns
returns g c =
    then c.put_seed.ensures (then (put_as (ap (λ b. b ∷ []) c.from.ensures) c.put_byte.ensures) c.put_element.ensures)
