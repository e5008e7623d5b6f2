use Rattle.std.proofs.Common.{sym, rules}
use Rattle.buffers.proofs.Puts.{put_as}
use Rattle.keyform.proofs.Fronts.{front_all}
use Rattle.keyform.proofs.writing.put_seed.Goals as goal

pub returns : goal.returns
returns c = put_as (sym (front_all 16 c.args.seed.bytes (search rules))) c.put.ensures
