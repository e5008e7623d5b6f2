use Rattle.buffers.proofs.Puts.{then, room_next}
use Rattle.gatebytes.proofs.put_two.Goals as goal

pub put_number-requires-2 : goal.put_number-requires-2
put_number-requires-2 c = room_next _ c.put_number.ensures c.requires

pub returns : goal.returns
returns c = then c.put_number.ensures c.put_number-2.ensures
