-- The conflicts among the first numbers are at the front, and there is room for each.
use Prim.Native.Nat.{ℕ, ◌+◌, ◌*◌, ◌<◌}
use native.Mathlib.Omega.{arith}
use mathlib.Core.Path.{◌≡◌, sym, ap, subst, ◌∙◌}
use mathlib.Core.Bool.{true}
use mathlib.Core.List.{[], ◌∷◌}
use lib.ListN.{length, length-append}
use Rattle.description.specs.Declarations.{Description}
use Rattle.table_entries.specs.Building.{Listed, is_conflict, conflicts_to}
use Rattle.table_entries.proofs.Conflicting.{conflicts-few}
use Rattle.table_entries.proofs.Equations.{conflict-list}
use Rattle.table_entries.proofs.Filling.{list-lent, list-more}
use Rattle.table_entries.proofs.Groups.{kept_next, kept-still}
use Rattle.conflict_tables.proofs.Holders.list_conflicts.Goals as goal
use Rattle.conflict_tables.proofs.Holders.list_conflicts.Goals.{then-is_conflict, else-is_conflict}

-- with one more conflict there are still no more than there is room for
room : (d : Description) (n : ℕ) → n < 256 → is_conflict d n ≡ true → length (conflicts_to d n) < 136
room d n h t = omega (
  arith,
  conflicts-few d (n + 1) (omega arith),
  ap length (kept_next (is_conflict d) n t),
  length-append (conflicts_to d n) (n ∷ []),
)

pub loop-both-init : goal.loop-both-init
loop-both-init c = list-lent c.requires.a_value

pub bounds-a-m : goal.bounds-a-m
bounds-a-m c =
    let hit = sym c.is_conflict.ensures ∙ c.if-is_conflict.true in
    let space = room c.args.self.now.description.now c.loop-both.both (omega (arith, c.block_count-both-end.ensures.upper_bound)) hit in
    omega (arith, space, c.loop-both.invariant.ends, c.loop-both.invariant.size)

pub overflow_add-m : goal.overflow_add-m
overflow_add-m c =
    let hit = sym c.is_conflict.ensures ∙ c.if-is_conflict.true in
    let space = room c.args.self.now.description.now c.loop-both.both (omega (arith, c.block_count-both-end.ensures.upper_bound)) hit in
    omega (arith, space, c.loop-both.invariant.ends)

pub loop-both-preserved : goal.loop-both-preserved
loop-both-preserved c =
    let d = c.args.self.now.description.now in
    let is = sym c.is_conflict.ensures in
    let few : c.loop-both.both < 256 = omega (arith, c.block_count-both-end.ensures.upper_bound) in
    elim c.if-is_conflict.branch [
      | then-is_conflict w ↦
          let hit = is ∙ w.if-is_conflict.true in
          rw (w.a-is, w.m-is, kept_next (is_conflict d) c.loop-both.both hit)
          (list-more c.loop-both.both c.loop-both.invariant (omega (arith, c.loop-both.invariant.ends, room d c.loop-both.both few hit)))
      | else-is_conflict w ↦ rw (w.a-is, w.m-is, kept-still (is_conflict d) c.loop-both.both (is ∙ w.if-is_conflict.false)) c.loop-both.invariant
    ]

pub returns : goal.returns
returns c =
    let d = c.args.self.now.description.now in
    let all : c.loop-both.both ≡ length d.blocks * 16 = omega (arith, c.block_count-both-end.ensures.value) in
    rw (conflict-list d) (subst (λ (n : ℕ). Listed 136 (conflicts_to d n) c.loop-both.a c.loop-both.m) all c.loop-both.invariant)
