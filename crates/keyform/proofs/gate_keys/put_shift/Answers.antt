use Rattle.stored.specs.Forms.{four_bytes}
use Rattle.layout.specs.Keys.{compared_bytes}
use Rattle.buffers.proofs.Puts.{then, room_first, room_next}
use Rattle.keyform.specs.GateKeys.{high_key}
use Rattle.keyform.proofs.gate_keys.put_shift.Goals as goal

pub put_key-requires-2 : goal.put_key-requires-2
put_key-requires-2 g c =
    room_first (compared_bytes g.G.StoredGroup.form (high_key c.args.high.now c.args.parts)) (four_bytes c.args.parts.rest)
    (room_next _ c.put_key.ensures c.requires)

pub put_number-requires : goal.put_number-requires
put_number-requires g c = room_next _ c.put_key-2.ensures (room_next _ c.put_key.ensures c.requires)

pub returns : goal.returns
returns g c = then c.put_key.ensures (then c.put_key-2.ensures c.put_number.ensures)
