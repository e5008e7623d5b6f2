use Rattle.std.proofs.Common.{◌≡◌, ℕ, List, sym, ap, ◌∙◌, arith}
use Rattle.key.specs.Rows.{is_one}
use Rattle.gates.specs.Interval.{key_of, rows_of}
use Rattle.buffers.proofs.Puts.{put_as, room_as}
use Rattle.gatebytes.specs.Keyed.{interval_key_bytes}
use Rattle.gatebytes.proofs.Asked.{cut_long}
use Rattle.gatebytes.proofs.Meanings.{parts_bytes, interval_dealt}
use Rattle.gatebytes.proofs.Dealer.put_on_interval.Goals as goal
use Rattle.gatebytes.proofs.Dealer.put_on_interval.Given as given
use Rattle.gatebytes.proofs.Dealer.put_on_interval.Goals.{After-as_slice}

-- what is written are the bytes of what the key means
meant : (g : given.Over) (c : After-as_slice g) (stored : g.G.Group.Meaning → List ℕ) → ((e : g.row.G.Denot) → g.G.StoredGroup.form e ≡ stored (g.G.Group.mean e))
    → (let d = g.T.IntervalGate.deal c.args.gate.now in let n = c.args.self.now.width.bits in
    parts_bytes g.G.StoredGroup.form c.parts.result c.as_slice.result.now
    ≡ interval_key_bytes stored
    (key_of g.X.Expander.meaning g.G.Group.group g.G.Group.mean d c.args.self.now.number
    (g.T.IntervalGate.out_part c.args.gate.now (is_one c.args.self.now.number)) n)
    (rows_of g.X.Expander.meaning g.G.Group.group g.G.Group.mean d n))
meant g c stored same =
    let d = g.T.IntervalGate.deal c.args.gate.now in
    let h = c.deal_interval.ensures in
    let long = cut_long _ c.args.self.now.width.bits _ _ c.over-rows.ensures.rows c.bits.ensures (omega arith) ∙ sym c.requires.width in
    interval_dealt g.G.StoredGroup.form stored g.G.Group.mean same _ c.unwrap-key.result _ _ _ _ _ _ _ _ c.unwrap-key.ensures long h.key h.rows
    c.parts.ensures c.as_slice.ensures
    ∙ ap (λ n. interval_key_bytes stored
    (key_of g.X.Expander.meaning g.G.Group.group g.G.Group.mean d c.args.self.now.number
    (g.T.IntervalGate.out_part c.args.gate.now (is_one c.args.self.now.number)) n)
    (rows_of g.X.Expander.meaning g.G.Group.group g.G.Group.mean d n)) c.requires.width

pub put_interval-requires : goal.put_interval-requires
put_interval-requires g c =
    let r = c.requires.room in
    room_as (sym (meant g (goal.at.put_interval-requires g c).After-as_slice r.stored r.same)) r.room

pub returns : goal.returns
returns g c stored same = put_as (meant g (goal.at.returns g c).After-as_slice stored same) c.put_interval.ensures
