use Rattle.std.proofs.Common.{sym}
use Rattle.layout.specs.Bytes.{front}
use Rattle.key.specs.Rows.{is_one}
use Rattle.plan.specs.Plans.{words_of}
use Rattle.buffers.proofs.Puts.{then, put_as, room_as, room_first, room_next}
use Rattle.gatebytes.specs.Heads.{before_key}
use Rattle.gatebytes.proofs.Bodies.{body_is}
use Rattle.gatebytes.proofs.Dealer.put_gate.Goals as goal

pub put_before_key-requires : goal.put_before_key-requires
put_before_key-requires g c =
    room_first (before_key c.args.shown c.args.body) _
    (room_as (sym (body_is g.X.Expander.meaning c.args.self.now.width.bits (is_one c.args.self.now.number) c.args.self.now.masks.now
    (front (words_of c.args.body) c.args.words.now) c.args.shown c.args.body)) c.requires.room)

pub put_gate_key-requires-clause-room : goal.put_gate_key-requires-clause-room
put_gate_key-requires-clause-room g c =
    room_next _ c.put_before_key.ensures
    (room_as (sym (body_is g.X.Expander.meaning c.args.self.now.width.bits (is_one c.args.self.now.number) c.args.self.now.masks.now
    (front (words_of c.args.body) c.args.words.now) c.args.shown c.args.body)) c.requires.room)

pub returns : goal.returns
returns g c =
    put_as (body_is g.X.Expander.meaning c.args.self.now.width.bits (is_one c.args.self.now.number) c.args.self.now.masks.now
    (front (words_of c.args.body) c.args.words.now) c.args.shown c.args.body)
    (then c.put_before_key.ensures c.put_gate_key.ensures)
