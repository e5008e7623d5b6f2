use Rattle.std.proofs.Common.{[], ◌∷◌, length}
use Rattle.stored.specs.Forms.{four_bytes}
use Rattle.buffers.proofs.Puts.{then, put_as, room_first, room_next}
use Rattle.dealer.proofs.Book.put_header.Goals as goal

pub put_number-requires : goal.put_number-requires
put_number-requires c =
    let p = c.plan-plan.ensures in
    let a = c.args.self in
    let q = put_as (λ i. 1 ∷ a.number ∷ c.args.kind ∷ (p i).width ∷ []) c.put.ensures in
    room_first (four_bytes c.args.deal) _ (room_next _ q c.requires)

pub put-requires-2 : goal.put-requires-2
put-requires-2 c =
    let p = c.plan-plan.ensures in
    let a = c.args.self in
    let q = put_as (λ i. 1 ∷ a.number ∷ c.args.kind ∷ (p i).width ∷ []) c.put.ensures in
    let counts = length a.plan.plan.owners.now ∷ length a.plan.plan.rows.now ∷ 0 ∷ 0 ∷ [] in
    let r = room_first counts (four_bytes c.args.long) (room_next _ c.put_number.ensures (room_next _ q c.requires)) in
    record { fits = r.fits }

pub put_number-requires-2 : goal.put_number-requires-2
put_number-requires-2 c =
    let p = c.plan-plan.ensures in
    let a = c.args.self in
    let q = put_as (λ i. 1 ∷ a.number ∷ c.args.kind ∷ (p i).width ∷ []) c.put.ensures in
    let s = put_as (λ i. length (p i).owners ∷ length (p i).rows ∷ 0 ∷ 0 ∷ []) c.put-2.ensures in
    room_next _ s (room_next _ c.put_number.ensures (room_next _ q c.requires))

pub returns : goal.returns
returns c =
    let p = c.plan-plan.ensures in
    let a = c.args.self in
    let q = put_as (λ i. 1 ∷ a.number ∷ c.args.kind ∷ (p i).width ∷ []) c.put.ensures in
    let s = put_as (λ i. length (p i).owners ∷ length (p i).rows ∷ 0 ∷ 0 ∷ []) c.put-2.ensures in
    then q (then c.put_number.ensures (then s c.put_number-2.ensures))
