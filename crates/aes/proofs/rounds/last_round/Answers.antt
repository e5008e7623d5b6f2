use Rattle.aes.specs.Blocks.{block_bytes}
use Rattle.standards.specs.Fips197.{last_round, add_round_key, shift_rows, sub_bytes}
use Rattle.aes.proofs.Bytes.{four_words}
use Rattle.aes.proofs.rounds.last_round.Goals as goal

pub returns : goal.returns
unfolding block_bytes last_round add_round_key shift_rows sub_bytes
returns c =
    four_words _ _ _ _ _ _ _ _
    c.last_column.ensures c.last_column-2.ensures c.last_column-3.ensures c.last_column-4.ensures
