use Rattle.buffers.proofs.Puts.{then, room_first, room_next}
use Rattle.layout.specs.Keys.{rows_bytes}
use Rattle.keyform.proofs.writing.put_key.Goals as goal

pub put_rows-requires : goal.put_rows-requires
put_rows-requires g c =
    room_first (rows_bytes g.G.StoredGroup.form c.args.rows.now) _ (room_next _ c.put_seed.ensures c.requires)

pub put_element-requires : goal.put_element-requires
put_element-requires g c = room_next _ c.put_rows.ensures (room_next _ c.put_seed.ensures c.requires)

pub returns : goal.returns
returns g c = then c.put_seed.ensures (then c.put_rows.ensures c.put_element.ensures)
