use Rattle.shares.proofs.Piece as piece
use Rattle.shares.proofs.piece_joins.Goals as goal

pub returns : goal.returns
returns c = record { curve = piece.curve_moves; joins = piece.piece_joins }
