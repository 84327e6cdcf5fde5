-- Digit by digit. A byte may be no cloud: with sixteen of them the number still fits.
use Rattle.std.proofs.Common.{◌+◌, ◌*◌, ◌^◌, ◌≤◌, ◌≡◌, take}
use Rattle.packing.specs.Packing.{pack}
use Rattle.drawoptions.proofs.packed.Given as goal

abbrev pub invariant-loop-cloud : goal.invariant-loop-cloud
invariant-loop-cloud l = record {
  small : l.place + 37 ≤ 37 * 8 ^ l.cloud-index;
  value : l.place ≡ pack (take l.cloud-index l.clouds);
}
