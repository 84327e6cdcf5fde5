-- The two ends of an edge: the other end is not after the later one, and both are blocks.
use Prim.Native.Nat.{ℕ, ◌≤◌, ◌<◌}
use native.Mathlib.Omega.{arith}
use mathlib.Core.Path.{◌≡◌, refl}
use mathlib.Core.Bool.{Bool, true, false, cond}
use lib.Dec.{ltb, lit<}
use borrow.Author.Tests.{ltb-true, ltb-false}
use Rattle.description.specs.declared.workflow.Edge.{Edge}
use Rattle.description.specs.Declarations.{Description, no_edge, edge}
use Rattle.description.specs.Invariants.{WellFormed}
use Rattle.description.proofs.Named.{service-block, datum-block}
use Rattle.sequences.proofs.Positions.{everywhere}
use Rattle.sequences.proofs.Tests.{cond_ind}
use Rattle.table_entries.specs.Building.{later, other}

pub other-least : (e : Edge) → other e ≤ later e
other-least e = go (ltb e.service e.datum) refl
  where
    go : (b : Bool) → ltb e.service e.datum ≡ b → cond b e.service e.datum ≤ cond b e.datum e.service
    go true h = let l = ltb-true e.service e.datum h in omega arith
    go false h = ltb-false e.service e.datum h

pub later-low : (n : ℕ) (e : Edge) → e.service < n → e.datum < n → later e < n
later-low n e s d = cond_ind (λ (x : ℕ). x < n) (ltb e.service e.datum) e.datum e.service (λ _. d) (λ _. s)

-- there are at most sixteen blocks
pub edge-low : (d : Description) → WellFormed d → (n : ℕ) → ((edge d n).service < 16) × ((edge d n).datum < 16)
edge-low d wf = everywhere (λ (e : Edge). (e.service < 16) × (e.datum < 16)) no_edge d.edges (lit< tt, lit< tt) (λ i h.
    (omega (arith, service-block d wf i h, wf.limits.blocks), omega (arith, datum-block d wf i h, wf.limits.blocks)))
