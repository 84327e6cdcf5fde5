-- Block by block: the clouds of the blocks before are in their places.
use Rattle.std.proofs.Common.{◌≡◌, map}
use Rattle.std.proofs.Math.Seq.{paste}
use Rattle.packing.specs.Packing.{digits as clouds}
use Rattle.list_text.specs.Lines.{digit}
use Rattle.list_text.proofs.rows.put_clouds.Given as goal

abbrev pub invariant-loop-block : goal.invariant-loop-block
invariant-loop-block l = l.buffer ≡ paste l.initial.buffer l.at (map digit (clouds l.blocks l.place)) l.block
