use Rattle.std.proofs.Common.{rules, false}
use Rattle.std.proofs.Output.{has_written_of_eq}
use Rattle.std.proofs.lemmas.Fmt.{hex_byte}
use Rattle.hextext.proofs.write_pair.Goals as goal

pub returns : goal.returns
returns g c p ok = has_written_of_eq _ _ _ _ _ (hex_byte false c.args.byte (search rules)) (search rules)
