-- Row by row: the lines of the rows before the next one are in the buffer, and there is room for the lines of the rows that are left.
use Rattle.std.proofs.Common.{◌+◌, ◌-◌, ◌*◌, ◌≤◌, length, take}
use Rattle.list_text.specs.RowLines.{words_of_row, bytes_of_line, lines_of}
use Rattle.list_text.proofs.Writing.{Put}
use Rattle.list_text.proofs.rows.put_rows.Given as goal

abbrev pub invariant-loop-k : goal.invariant-loop-k
invariant-loop-k l =
    (l.end + bytes_of_line * (l.rows - l.k) ≤ length l.initial.buffer) × Put (lines_of l.digits (take (l.k * words_of_row) l.words)) l.initial.buffer l.buffer 0 l.end
