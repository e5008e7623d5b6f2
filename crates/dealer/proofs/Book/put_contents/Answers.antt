use Rattle.std.proofs.Common.{◌+◌, ◌≤◌, ◌++◌, sym, arith, rules}
use Rattle.stored.specs.Forms.{four_bytes}
use Rattle.plan.specs.Plans.{stated, wires}
use Rattle.buffers.proofs.Puts.{put_as, room_as, put_none}
use Rattle.dealer.specs.Lengths.{entry}
use Rattle.dealer.proofs.Joined.{joined_step, joined_room}
use Rattle.dealer.proofs.Shorts.{lengths_more, lengths_short, of_passed}
use Rattle.dealer.proofs.Book.put_contents.Goals as goal

pub loop-k-init : goal.loop-k-init
loop-k-init c =
    let f = c.requires.fits in
    let w = c.wires-wires.ensures.wires in
    (put_none c.args.writer.now (omega arith), omega arith)

pub put_two-requires : goal.put_two-requires
put_two-requires c =
    let a = c.args.self in
    let w = c.wires-wires.ensures.wires in
    room_as (λ j. four_bytes (sym c.loop-k.invariant.1 j) ++ four_bytes (sym c.body_len-long.ensures j))
    (joined_room (entry (stated a.plan.plan) a.number) c.loop-k.k (wires (stated a.plan.plan)) (omega (arith, c.loop-k-test.true))
    c.requires c.loop-k.invariant.0)

pub loop-k-preserved : goal.loop-k-preserved
loop-k-preserved c =
    let a = c.args.self in
    let p = stated a.plan.plan in
    let m = lengths_more p a.number c.loop-k.k in
    let i = c.loop-k.invariant.1 in
    let e = c.body_len-long.ensures in (
      joined_step (entry p a.number) c.loop-k.k c.loop-k.invariant.0
          (put_as (λ j. four_bytes (i j) ++ four_bytes (e j)) c.put_two.ensures),
      omega arith,
    )

pub overflow_cast-place : goal.overflow_cast-place
overflow_cast-place c =
    let a = c.args.self in
    let s = lengths_short (stated a.plan.plan) a.number c.loop-k.k (of_passed (stated a.plan.plan) a.plan.allowed) in
    let i = a.plan.allowed.inputs in
    let g = a.plan.allowed.gates in
    let few : c.loop-k.place ≤ 1000000 = omega arith in
    search rules

pub overflow_cast-long : goal.overflow_cast-long
overflow_cast-long c =
    let a = c.args.self in
    let p = stated a.plan.plan in
    let m = lengths_more p a.number c.loop-k.k in
    let s = lengths_short p a.number (c.loop-k.k + 1) (of_passed p a.plan.allowed) in
    let i = a.plan.allowed.inputs in
    let g = a.plan.allowed.gates in
    let few : c.body_len-long.result ≤ 1000000 = omega arith in
    search rules

pub overflow_add-place-in-loop-k : goal.overflow_add-place-in-loop-k
overflow_add-place-in-loop-k c =
    let a = c.args.self in
    let p = stated a.plan.plan in
    let m = lengths_more p a.number c.loop-k.k in
    let s = lengths_short p a.number (c.loop-k.k + 1) (of_passed p a.plan.allowed) in
    let i = a.plan.allowed.inputs in
    let g = a.plan.allowed.gates in
    let few : c.loop-k.place + c.body_len-long.result ≤ 1000000 = omega arith in
    search rules
