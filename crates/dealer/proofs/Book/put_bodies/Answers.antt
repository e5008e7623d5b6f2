use Rattle.std.proofs.Common.{◌≡◌, drop, refl, sym, ap, ◌∙◌, arith, drop-drop}
use Rattle.plan.specs.Plans.{stated, wires, wire_words, words_at, words_before}
use Rattle.buffers.proofs.Puts.{put_as, room_as, put_none}
use Rattle.masks.specs.Masks.{masks}
use Rattle.masks.proofs.Tables.{words_more}
use Rattle.dealer.specs.Book.{order, dealt_body}
use Rattle.dealer.proofs.Joined.{joined_step, joined_room}
use Rattle.dealer.proofs.Wires.{wire_is, words_is}
use Rattle.dealer.proofs.Book.put_bodies.Goals as goal

pub loop-k-init : goal.loop-k-init
loop-k-init g c = let f = c.requires.fits in (put_none c.args.writer.now (omega arith), refl)

pub put_wire-requires-clause-room : goal.put_wire-requires-clause-room
put_wire-requires-clause-room g c =
    let a = c.args.self in
    let p = stated a.plan.plan in
    let w = c.wires-k-end.ensures.wires in
    room_as (sym (wire_is g.X.Expander.meaning p a.number c.args.words.now c.loop-k.k _ _ _ _ _ _ c.width-width.ensures
    c.box_of.ensures (c.masks_of-masks.ensures ∙ ap (λ q. masks q c.args.words.now) c.plan.ensures) c.mask_in.ensures c.loop-k.invariant.1 c.wire-wire.ensures))
    (joined_room (dealt_body g.X.Expander.meaning (order p a.number 0 c.args.words.now)) c.loop-k.k (wires p)
    (omega (arith, c.loop-k-test.true)) c.requires c.loop-k.invariant.0)

pub loop-k-preserved : goal.loop-k-preserved
loop-k-preserved g c =
    let a = c.args.self in
    let p = stated a.plan.plan in
    let words = c.args.words.now in
    let k = c.loop-k.k in
    let n : c.words.result ≡ words_at p k = c.words.ensures.count ∙ ap wire_words c.wire-wire.ensures ∙ words_is p k in (
      joined_step (dealt_body g.X.Expander.meaning (order p a.number 0 words)) k c.loop-k.invariant.0
          (put_as (wire_is g.X.Expander.meaning p a.number words k _ _ _ _ _ _ c.width-width.ensures
          c.box_of.ensures (c.masks_of-masks.ensures ∙ ap (λ q. masks q c.args.words.now) c.plan.ensures) c.mask_in.ensures c.loop-k.invariant.1 c.wire-wire.ensures) c.put_wire.ensures),
      c.after-rest.ensures ∙ (λ i. drop (n i) (c.loop-k.invariant.1 i)) ∙ drop-drop (words_at p k) (words_before p k) words
          ∙ ap (λ m. drop m words) (sym (words_more p k)),
    )
