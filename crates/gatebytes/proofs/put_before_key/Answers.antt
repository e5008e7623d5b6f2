use Rattle.std.proofs.Common.{ap}
use Rattle.plan.specs.Gates.{number_of, kind_of}
use Rattle.buffers.specs.Forms.{Put}
use Rattle.buffers.proofs.Puts.{then, put_as, room_next}
use Rattle.gatebytes.specs.Heads.{head_bytes, places}
use Rattle.gatebytes.proofs.put_before_key.Goals as goal
use Rattle.gatebytes.proofs.put_before_key.Goals.{After-put_head}

head : (c : After-put_head) → Put c.args.writer.now
    (head_bytes (number_of (kind_of c.args.body)) (places c.args.body).0 (places c.args.body).1 c.args.shown) c.put_head.new.writer
head c =
    let k = ap number_of c.written_kind.ensures in
    let p = c.places-a.ensures in
    put_as (λ i. head_bytes (k i) (p i).0 (p i).1 c.args.shown) c.put_head.ensures

pub put_parameters-requires : goal.put_parameters-requires
put_parameters-requires c = room_next _ (head (goal.at.put_parameters-requires c).After-put_head) c.requires

pub returns : goal.returns
returns c = then (head (goal.at.returns c).After-put_head) c.put_parameters.ensures
