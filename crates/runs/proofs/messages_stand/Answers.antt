use Rattle.runs.proofs.Messages.{messages_stand}
use Rattle.runs.proofs.messages_stand.Goals as goal

pub returns : goal.returns
returns c = messages_stand
