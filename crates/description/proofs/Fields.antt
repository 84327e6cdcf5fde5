-- A cloud, block, edge or pair comes back as it was put in, and a pin too.
use mathlib.Core.Path.{◌≡◌, ap, ◌∙◌}
use Rattle.std.specs.Prelude.{Some}
use Prim.Native.Nat.{ℕ, ◌<◌}
use lib.ListN.{length}
use lib.Seq.{get_or-append_seam, get_or-set_same}
use mathlib.Core.List.{[]}
use Rattle.description.specs.declared.workflow.Cloud.{Cloud}
use Rattle.description.specs.declared.workflow.Block.{Block}
use Rattle.description.specs.declared.workflow.Kind.TheVariants.{Datum, Service}
use Rattle.description.specs.declared.workflow.Edge.{Edge}
use Rattle.description.specs.declared.workflow.Pair.{Pair}
use Rattle.description.specs.Declarations.{Description, no_cloud, no_block, no_edge, no_pair, cloud, block, edge, pair, pinned, with_cloud, with_block, with_edge, with_pair, with_pin}

module _ (d : Description) where
  pub cloud-back : (c : Cloud) → cloud (with_cloud d c) (length d.clouds) ≡ c
  cloud-back c = get_or-append_seam d.clouds c [] no_cloud

  pub block-back : (b : Block) → block (with_block d b) (length d.blocks) ≡ b
  block-back b = get_or-append_seam d.blocks b [] no_block

  pub datum-back : (b : Block) {size longevity : ℕ} → b.kind ≡ Datum size longevity
      → (block (with_block d b) (length d.blocks) ≡ b) × ((block (with_block d b) (length d.blocks)).kind ≡ Datum size longevity)
  datum-back b k = (block-back b, ap (λ x. x.kind) (block-back b) ∙ k)

  pub service-back : (b : Block) {clearance units : ℕ} → b.kind ≡ Service clearance units
      → (block (with_block d b) (length d.blocks) ≡ b) × ((block (with_block d b) (length d.blocks)).kind ≡ Service clearance units)
  service-back b k = (block-back b, ap (λ x. x.kind) (block-back b) ∙ k)

  pub edge-back : (e : Edge) → edge (with_edge d e) (length d.edges) ≡ e
  edge-back e = get_or-append_seam d.edges e [] no_edge

  pub pair-back : (a : Pair) → pair (with_pair d a) (length d.pairs) ≡ a
  pair-back a = get_or-append_seam d.pairs a [] no_pair

  pub pin-back : (b k : ℕ) → b < length d.blocks → (block (with_pin d b k) b).pin ≡ Some k
  pin-back b k h = ap (λ x. x.pin) (get_or-set_same d.blocks b (pinned (block d b) k) no_block h)
