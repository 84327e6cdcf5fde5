-- Block by block: the bytes so far are masks, and past them there is 0; the product so far times the product from b on is the whole, and
-- the product so far is at most 8 to the power b.
use Rattle.std.proofs.Common.{◌≡◌, ℕ, ◌*◌, ◌^◌, ◌≤◌, Some, length, drop, map}
use Rattle.security.specs.Masks.{mask_of}
use Rattle.security.specs.Soundness.{positions, cloud_covers, choices_of, count}
use Rattle.sequences.specs.Bits.{bits}
use Rattle.sequences.specs.Lists.{product}
use Rattle.sequences.proofs.Filling.{Filled}
use Rattle.soundness.proofs.masks.masks_of.Given as goal

abbrev pub invariant-loop-b : goal.invariant-loop-b
invariant-loop-b l = record {
  filled : Filled 16 (mask_of l.w) l.masks l.b;
  small : l.n ≤ 8 ^ l.b;
  counted : count l.w ≡ l.n * product (map (λ i. length (choices_of l.w i)) (drop l.b positions));
  looked_for : (label clouds : ℕ) → l.looked_for ≡ Some (label, clouds) → clouds ≡ bits (cloud_covers l.w label) 0 8;
}
