-- What is said of a line that is not carried out, where the text is known.
use Rattle.std.specs.Prelude.{ℕ, List, Option, Some, None}
use Rattle.orders.specs.Messages.{fault_text}
use Rattle.console.specs.declared.stop.Stop.{Stop}
use Rattle.console.specs.declared.stop.Stop.TheVariants.{Fault, Refused, Cannot, Io}

abbrev pub said : Stop → Option (List ℕ)
said (Fault fault) = Some (fault_text fault)
said (Refused refusal) = None
said (Cannot reason) = Some reason.now
said (Io error) = None
