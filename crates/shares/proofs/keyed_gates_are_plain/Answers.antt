use Rattle.shares.proofs.Keyed as keyed
use Rattle.shares.proofs.keyed_gates_are_plain.Goals as goal

pub returns : goal.returns
returns g c = record {
  answers = keyed.answers_join g.G.Group.group;
  piece = keyed.piece_is_plain;
  flag = keyed.flag_is_plain;
  shift = keyed.shift_is_plain;
  signed = keyed.signed_shift_is_plain;
}
