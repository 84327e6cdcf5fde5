-- The block's own term comes first; in the loop, one edge's term more each time.
use Rattle.std.proofs.Common.{◌≡◌, ◌+◌, ◌*◌, ◌/◌, ◌%◌, ◌^◌, ◌≤◌, sym, ◌∙◌, arith}
use native.Mathlib.Numerals.{add-one}
use Rattle.packing.specs.Packing.{digits}
use Rattle.packing.proofs.Digits.{place-small}
use Rattle.visit.specs.Lent.{table_in}
use Rattle.visit.specs.Tables.{terms_from, term, edge_term, start}
use Rattle.walk.proofs.Weights.{part-weight, part_small, weight-small, part-next, part_edge, edge-next, ends_at}
use Rattle.walk.proofs.step.Goals as goal

pub overflow_mul-place : goal.overflow_mul-place
overflow_mul-place c =
    let a = c.args in
    omega (arith, place-small a.block.at a.met.place (omega (arith, c.requires.ready.few)) c.requires.c_bound.1)

pub overflow_add-place : goal.overflow_add-place
overflow_add-place c =
    let a = c.args in
    omega (arith, place-small a.block.at a.met.place (omega (arith, c.requires.ready.few)) c.requires.c_bound.1)

pub overflow_add-weight-2 : goal.overflow_add-weight-2
overflow_add-weight-2 c =
    let a = c.args in
    let r = c.requires.ready in
    omega (
      arith,
      weight-small (table_in a.tables.now) a.tables.now.blocks r a.block.at (digits a.block.at a.met.place) (omega arith),
      r.small (a.block.at * 8 + a.c),
      c.requires.carried,
    )

pub loop-e-init : goal.loop-e-init
loop-e-init c =
    let a = c.args in
    rw (c.requires.loaded.lo, c.requires.carried)
    (part-next (table_in a.tables.now) a.tables.now.blocks c.requires.ready a.block.at a.c a.met.place c.requires.loaded.inside c.requires.c_bound.0)

pub overflow_shr-y : goal.overflow_shr-y
overflow_shr-y c =
    let a = c.args in
    let r = c.requires.ready in
    let edges = c.requires.loaded in
    let ends = ends_at (table_in a.tables.now) a.tables.now.blocks r a.block.at c.loop-e.e c.requires.loaded.inside (omega (arith, edges.lo)) (omega (arith, edges.hi)) in
    omega (arith, c.from-shift.ensures, ends.2, r.few)

pub overflow_add-weight-in-loop-e-4 : goal.overflow_add-weight-in-loop-e-4
overflow_add-weight-in-loop-e-4 c =
    let a = c.args in
    let r = c.requires.ready in
    let last : c.loop-e.e ≤ 32 = omega (arith, c.requires.loaded.hi, r.all (a.block.at + 1) (omega arith)) in
    omega (
      arith,
      c.loop-e.invariant,
      part_small (table_in a.tables.now) a.tables.now.blocks r (a.block.at + 1) c.loop-e.e (digits (a.block.at + 1) (a.met.place * 8 + a.c)),
      r.small (terms_from + (c.loop-e.e * 64 + a.c * 8 + (a.met.place * 8 + a.c) / 2 ^ c.from-shift.result % 8)),
      r.few,
    )

pub loop-e-preserved : goal.loop-e-preserved
loop-e-preserved c =
    let a = c.args in
    let l = c.loop-e in
    let edges = c.requires.loaded in
    let t = table_in a.tables.now in
    let place = a.met.place * 8 + a.c in
    let q = digits (a.block.at + 1) place in
    let added : term t (l.e * 64 + a.c * 8 + place / 2 ^ c.from-shift.result % 8) ≡ edge_term t q l.e =
    rw c.from-shift.ensures (edge-next t a.tables.now.blocks c.requires.ready a.block.at l.e a.c a.met.place c.requires.loaded.inside c.requires.c_bound.0
    (omega (arith, edges.lo)) (omega (arith, edges.hi))) in
    rw (add-one l.e) (omega (arith, l.invariant, added, part_edge t (a.block.at + 1) l.e q))

pub returns-clause-carried : goal.returns-clause-carried
returns-clause-carried c =
    let a = c.args in
    let l = c.loop-e in
    let t = table_in a.tables.now in
    let rising = c.requires.ready.rising a.block.at c.requires.loaded.inside in
    let edges = c.requires.loaded in
    let e : l.e ≡ start t (a.block.at + 1) = omega (arith, edges.lo, edges.hi, rising, l.auto.e-end (omega (arith, edges.lo, edges.hi, rising))) in
    rw e at l.invariant ∙ sym (part-weight t (a.block.at + 1) (digits (a.block.at + 1) (a.met.place * 8 + a.c)))
