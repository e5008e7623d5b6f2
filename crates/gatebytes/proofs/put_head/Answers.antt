use Rattle.std.proofs.Common.{[], ◌∷◌}
use Rattle.plan.specs.Gates.{number_of}
use Rattle.layout.specs.Wires.{given}
use Rattle.buffers.specs.Forms.{Put}
use Rattle.buffers.proofs.Puts.{then, put_as, room_next}
use Rattle.gatebytes.proofs.Heads.{given_is}
use Rattle.gatebytes.proofs.put_head.Goals as goal
use Rattle.gatebytes.proofs.put_head.Goals.{After-put}

head : (c : After-put) → Put c.args.writer.now
    (number_of c.args.kind ∷ c.args.a ∷ c.args.b ∷ given c.args.shown ∷ []) c.put.new.self
head c =
    let n = c.number.ensures in
    let s = given_is c.args.shown c.is_some.result c.from.result c.from.ensures c.is_some.ensures in
    put_as (λ i. n i ∷ c.args.a ∷ c.args.b ∷ s i ∷ []) c.put.ensures

pub put_mask-requires : goal.put_mask-requires
put_mask-requires c =
    room_next _ (head (goal.at.put_mask-requires c).After-put)
    c.requires

pub returns : goal.returns
returns c =
    then (head (goal.at.returns c).After-put)
    c.put_mask.ensures
