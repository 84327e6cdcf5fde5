-- The lines of the edges before edge i are on the sheet.
use Rattle.std.proofs.Common.{◌≡◌, ◌++◌, ◌+◌, ◌*◌, ◌≤◌, length}
use Rattle.picture.specs.Picture.{edge_line, each}
use Rattle.picture.specs.Sheets.{edge_room}
use Rattle.picture.proofs.lines.put_edges.Given as goal

abbrev pub invariant-loop-i : goal.invariant-loop-i
invariant-loop-i l = record {
  made : l.sheet ≡ l.initial.sheet ++ each l.i (edge_line l.w l.placement);
  few : length l.sheet ≤ length l.initial.sheet + edge_room * l.i;
}
