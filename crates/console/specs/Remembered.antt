-- What a session remembers after a line.
use Rattle.std.specs.Prelude.{◌≡◌, ◌⊎◌, Some, Ok, Err, Option, Result}
use Rattle.orders.specs.declared.types.DealOrder.{DealOrder}
use Rattle.orders.specs.declared.types.Fault.{Fault}
use Rattle.orders.specs.declared.types.GateOrder.{GateOrder}
use Rattle.orders.specs.declared.types.Order.{Order}
use Rattle.orders.specs.declared.types.Order.TheVariants.{Nothing, Deal, At, Gate, Hold}

-- what was remembered, or what is new
abbrev pub KeptOr : {A : Type 0} → A → Option A → Option A → Type 0
KeptOr new before after = (after ≡ before) ⊎ (after ≡ Some new)

-- the key: only a line that deals a key changes it, and then to that key
abbrev pub KeyAfter : Result Order Fault → Option DealOrder → Option DealOrder → Type 0
KeyAfter (Ok Nothing) before after = after ≡ before
KeyAfter (Ok (Deal order)) before after = KeptOr order before after
KeyAfter (Ok (At point)) before after = after ≡ before
KeyAfter (Ok (Gate order)) before after = after ≡ before
KeyAfter (Ok (Hold m k)) before after = after ≡ before
KeyAfter (Err fault) before after = after ≡ before

-- the gate: only a line that deals a gate changes it, and then to that gate
abbrev pub GateAfter : Result Order Fault → Option GateOrder → Option GateOrder → Type 0
GateAfter (Ok Nothing) before after = after ≡ before
GateAfter (Ok (Deal order)) before after = after ≡ before
GateAfter (Ok (At point)) before after = after ≡ before
GateAfter (Ok (Gate order)) before after = KeptOr order before after
GateAfter (Ok (Hold m k)) before after = after ≡ before
GateAfter (Err fault) before after = after ≡ before
