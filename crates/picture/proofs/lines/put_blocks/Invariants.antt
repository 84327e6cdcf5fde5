-- The lines of the blocks before block b are on the sheet.
use Rattle.std.proofs.Common.{◌≡◌, ◌++◌, ◌+◌, ◌*◌, ◌≤◌, length}
use Rattle.picture.specs.Picture.{block_line, each}
use Rattle.picture.specs.Sheets.{block_room}
use Rattle.picture.proofs.lines.put_blocks.Given as goal

abbrev pub invariant-loop-b : goal.invariant-loop-b
invariant-loop-b l = record {
  made : l.sheet ≡ l.initial.sheet ++ each l.b (block_line l.w l.placement);
  few : length l.sheet ≤ length l.initial.sheet + block_room * l.b;
}
