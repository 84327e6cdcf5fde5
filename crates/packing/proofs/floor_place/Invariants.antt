-- The floor of all bytes is the floor of those from `b` on, with those before them packed.
use Rattle.std.proofs.Common.{◌-◌, ◌≡◌, ◌<◌, ◌^◌, drop}
use Rattle.packing.proofs.Floors.{floor_from}
use Rattle.packing.proofs.floor_place.Given as goal

abbrev pub invariant-loop-b : goal.invariant-loop-b
invariant-loop-b l = record {
  few : l.packed < 8 ^ l.b;
  rest : floor_from 0 l.blocks l.bytes ≡ floor_from l.packed (l.blocks - l.b) (drop l.b l.bytes);
}
