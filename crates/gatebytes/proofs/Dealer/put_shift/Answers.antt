use Rattle.std.proofs.Common.{sym, ap, ◌∙◌, arith}
use Rattle.gatemath.specs.Elements.{word_mean}
use Rattle.layout.specs.Keys.{word_bytes}
use Rattle.buffers.proofs.Puts.{put_as, room_as}
use Rattle.keyform.specs.Forms.{word_form}
use Rattle.keyform.proofs.Meanings.{word_means}
use Rattle.gatebytes.proofs.Asked.{cut_long}
use Rattle.gatebytes.proofs.Meanings.{shift_dealt}
use Rattle.gatebytes.proofs.Dealer.put_shift.Goals as goal

pub put_shift-requires : goal.put_shift-requires
put_shift-requires g c =
    let h = c.deal_shift.ensures in
    let s = c.args.gate.now.shift in
    let l = cut_long _ s.by _ _ c.over-low.ensures.rows c.by.ensures (omega arith) in
    let n = cut_long _ s.width.bits _ _ c.over-high.ensures.rows (c.bits.ensures ∙ ap (λ w. w.bits) c.width.ensures) (omega arith) in
    room_as (sym (shift_dealt word_form word_bytes word_mean word_means s _ c.unwrap-key.result _ _ _ _ _ _ _ _ _ _ _ _ c.unwrap-key.ensures l n h.key
    c.parts.ensures h.low c.as_slice.ensures h.high c.as_slice-2.ensures)) c.requires

pub returns : goal.returns
returns g c =
    let h = c.deal_shift.ensures in
    let s = c.args.gate.now.shift in
    let l = cut_long _ s.by _ _ c.over-low.ensures.rows c.by.ensures (omega arith) in
    let n = cut_long _ s.width.bits _ _ c.over-high.ensures.rows (c.bits.ensures ∙ ap (λ w. w.bits) c.width.ensures) (omega arith) in
    put_as (shift_dealt word_form word_bytes word_mean word_means s _ c.unwrap-key.result _ _ _ _ _ _ _ _ _ _ _ _ c.unwrap-key.ensures l n h.key
    c.parts.ensures h.low c.as_slice.ensures h.high c.as_slice-2.ensures) c.put_shift.ensures
