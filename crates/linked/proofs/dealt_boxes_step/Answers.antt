use Rattle.linked.proofs.Dealt.{boxes_are_linked}
use Rattle.linked.proofs.dealt_boxes_step.Goals as goal

pub returns : goal.returns
returns c = boxes_are_linked
