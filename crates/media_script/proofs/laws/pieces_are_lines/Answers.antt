use Rattle.std.proofs.Common.{sym}
use Rattle.std.proofs.lemmas.List.Splits.{join_with_byte-slice_split}
use Rattle.media_script.proofs.Pieces.{some_piece, last_piece, first_piece, pieces_lines, pieces_are_plain}
use Rattle.media_script.proofs.laws.pieces_are_lines.Goals as goal

pub returns : goal.returns
returns c = record {
  some = some_piece;
  last = last_piece;
  first = first_piece;
  joined = λ bytes. sym (join_with_byte-slice_split 10 bytes);
  plain = pieces_are_plain;
  of_lines = pieces_lines;
}
