-- Before each draw the cursor is that of the chain, and the lines of the draws before it were handed over.
use Rattle.std.proofs.Common.{◌≡◌, length}
use Rattle.std.specs.Io.KnownBytes.{Appends}
use Rattle.lister.specs.Chain.{cursor_after}
use Rattle.drawoptions.specs.Drawing.{line_bytes, lines_before}
use Rattle.drawoptions.proofs.write_draws.Given as goal

abbrev pub invariant-loop-draw : goal.invariant-loop-draw
invariant-loop-draw g l = record {
  size : length l.text ≡ line_bytes;
  chain : l.cursor ≡ cursor_after l.description l.draw;
  taken : Appends (g.W.Write.contents l.initial.out) (g.W.Write.contents l.out) (lines_before l.description l.draw);
}
