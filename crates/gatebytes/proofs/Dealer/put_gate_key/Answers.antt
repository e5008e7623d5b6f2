use Rattle.std.proofs.Common.{◌≡◌, [], sym, ap, inl, inr}
use Rattle.layout.specs.Keys.{quad_bytes, flag_bytes}
use Rattle.keyform.proofs.Meanings.{quad_means, flag_means}
use Rattle.buffers.proofs.Puts.{put_as, room_as}
use Rattle.gatebytes.proofs.Heads.{nothing}
use Rattle.gatebytes.proofs.Bodies.{keyed, piece_is, flag_is, shift_is}
use Rattle.gatebytes.proofs.Dealer.put_gate_key.Goals as goal

pub returns-in-Sum : goal.returns-in-Sum
returns-in-Sum g c =
    let d = c.args.self.now in
    let key = keyed g.X.Expander.meaning d.number d.width.bits d.masks.now c.args.words.now in
    let none : [] ≡ key c.args.body =
    elim c.in-Sum.is [
      | inl s ↦ ap key (sym s.2)
      | inr r ↦ elim r [ inl s ↦ ap key (sym s.3) | inr x ↦ ap key (sym x.2) ]
    ] in
    nothing c.args.writer.now (key c.args.body) none c.requires.room

pub put_on_interval-requires-clause-room : goal.put_on_interval-requires-clause-room
put_on_interval-requires-clause-room g c =
    let d = c.args.self.now in
    let i = c.in-Piece in
    record {
      stored = quad_bytes;
      same = quad_means;
      room = room_as (sym (piece_is g.X.Expander.meaning d.number d.width.bits d.masks.now c.args.words.now
          c.interval_of.result c.mask_in-in-Piece.result c.words_from-in-Piece.result i.a i.p i.q i.c c.args.body
          i.is c.interval_of.ensures c.mask_in-in-Piece.ensures c.words_from-in-Piece.ensures)) c.requires.room;
    }

pub returns-in-Piece : goal.returns-in-Piece
returns-in-Piece g c =
    let d = c.args.self.now in
    let i = c.in-Piece in
    put_as (piece_is g.X.Expander.meaning d.number d.width.bits d.masks.now c.args.words.now
    c.interval_of.result c.mask_in-in-Piece.result c.words_from-in-Piece.result i.a i.p i.q i.c c.args.body
    i.is c.interval_of.ensures c.mask_in-in-Piece.ensures c.words_from-in-Piece.ensures)
    (c.put_on_interval.ensures quad_bytes quad_means)

pub put_on_interval-requires-in-Flag-clause-room : goal.put_on_interval-requires-in-Flag-clause-room
put_on_interval-requires-in-Flag-clause-room g c =
    let d = c.args.self.now in
    let i = c.in-Flag in
    record {
      stored = flag_bytes;
      same = flag_means;
      room = room_as (sym (flag_is g.X.Expander.meaning d.number d.width.bits d.masks.now c.args.words.now
          c.interval_of-in-Flag.result c.mask_in-in-Flag.result c.words_from-in-Flag.result i.a i.p i.q i.pattern c.args.body
          i.is c.interval_of-in-Flag.ensures c.mask_in-in-Flag.ensures c.words_from-in-Flag.ensures)) c.requires.room;
    }

pub returns-in-Flag : goal.returns-in-Flag
returns-in-Flag g c =
    let d = c.args.self.now in
    let i = c.in-Flag in
    put_as (flag_is g.X.Expander.meaning d.number d.width.bits d.masks.now c.args.words.now
    c.interval_of-in-Flag.result c.mask_in-in-Flag.result c.words_from-in-Flag.result i.a i.p i.q i.pattern c.args.body
    i.is c.interval_of-in-Flag.ensures c.mask_in-in-Flag.ensures c.words_from-in-Flag.ensures)
    (c.put_on_interval-in-Flag.ensures flag_bytes flag_means)

pub put_shift-requires : goal.put_shift-requires
put_shift-requires g c =
    let d = c.args.self.now in
    let i = c.in-Shift in
    room_as (sym (shift_is g.X.Expander.meaning d.number d.width.bits d.masks.now c.args.words.now
    c.shift_of.result c.mask_in-in-Shift.result c.words_from-in-Shift.result i.a i.s c.args.body
    i.is c.shift_of.ensures c.mask_in-in-Shift.ensures c.words_from-in-Shift.ensures))
    c.requires.room

pub returns-in-Shift : goal.returns-in-Shift
returns-in-Shift g c =
    let d = c.args.self.now in
    let i = c.in-Shift in
    put_as (shift_is g.X.Expander.meaning d.number d.width.bits d.masks.now c.args.words.now
    c.shift_of.result c.mask_in-in-Shift.result c.words_from-in-Shift.result i.a i.s c.args.body
    i.is c.shift_of.ensures c.mask_in-in-Shift.ensures c.words_from-in-Shift.ensures)
    c.put_shift.ensures
