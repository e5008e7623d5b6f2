use Rattle.std.proofs.Common.{◌++◌}
use Rattle.stored.specs.Forms.{four_bytes}
use Rattle.buffers.proofs.Puts.{then, room_first, room_next}
use Rattle.keyform.proofs.gate_keys.put_interval.Goals as goal

pub put_element-requires : goal.put_element-requires
put_element-requires g c =
    let form = g.G.StoredGroup.form in
    room_first (form c.args.parts.payload) (form c.args.parts.extra ++ four_bytes c.args.parts.out)
    (room_next _ c.put_key.ensures c.requires)

pub put_element-requires-2 : goal.put_element-requires-2
put_element-requires-2 g c =
    let form = g.G.StoredGroup.form in
    room_first (form c.args.parts.extra) (four_bytes c.args.parts.out)
    (room_next _ c.put_element.ensures (room_next _ c.put_key.ensures c.requires))

pub put_number-requires : goal.put_number-requires
put_number-requires g c =
    room_next _ c.put_element-2.ensures (room_next _ c.put_element.ensures (room_next _ c.put_key.ensures c.requires))

pub returns : goal.returns
returns g c = then c.put_key.ensures (then c.put_element.ensures (then c.put_element-2.ensures c.put_number.ensures))
