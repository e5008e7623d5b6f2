use Rattle.std.proofs.Common.{◌∙◌, arith}
use Rattle.standards.proofs.Printed.{s_box_entry}
use Rattle.aes.proofs.tables.substituted.Goals as goal

pub returns : goal.returns
returns c = c.table_entry.ensures ∙ s_box_entry c.args.b (omega arith)
