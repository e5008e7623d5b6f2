use Rattle.buffers.proofs.Puts.{then, room_next}
use Rattle.dealer.proofs.put_input.Goals as goal

pub put_mask-requires : goal.put_mask-requires
put_mask-requires c = room_next _ c.put_byte.ensures c.requires

pub returns : goal.returns
returns c = then c.put_byte.ensures c.put_mask.ensures
