use Rattle.gatebytes.proofs.Heads.{unmasked}
use Rattle.gatebytes.proofs.put_mask.Goals as goal

pub returns-in_default : goal.returns-in_default
returns-in_default c = unmasked c.args.writer.now c.args.mask c.in_default.not-Some c.requires
