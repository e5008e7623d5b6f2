use Rattle.stored.specs.Forms.{four_bytes}
use Rattle.buffers.proofs.Puts.{then, room_first, room_next}
use Rattle.keyform.proofs.gate_keys.put_product.Goals as goal

pub put_number-requires-2 : goal.put_number-requires-2
put_number-requires-2 c =
    room_first (four_bytes c.args.parts.b) (four_bytes c.args.parts.c) (room_next _ c.put_number.ensures c.requires)

pub put_number-requires-3 : goal.put_number-requires-3
put_number-requires-3 c = room_next _ c.put_number-2.ensures (room_next _ c.put_number.ensures c.requires)

pub returns : goal.returns
returns c = then c.put_number.ensures (then c.put_number-2.ensures c.put_number-3.ensures)
