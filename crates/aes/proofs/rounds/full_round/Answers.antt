use Rattle.aes.specs.Blocks.{block_bytes}
use Rattle.standards.specs.Fips197.{full_round, add_round_key, mix_columns, shift_rows, sub_bytes, mix_column}
use Rattle.aes.proofs.Bytes.{four_words}
use Rattle.aes.proofs.rounds.full_round.Goals as goal

pub returns : goal.returns
unfolding block_bytes full_round add_round_key mix_columns shift_rows sub_bytes mix_column
returns c =
    four_words _ _ _ _ _ _ _ _
    c.round_column.ensures c.round_column-2.ensures c.round_column-3.ensures c.round_column-4.ensures
