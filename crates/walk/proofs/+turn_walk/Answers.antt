-- A turn does what is done below it; the loop of a walk keeps which clouds had their turns.
use Rattle.std.proofs.Common.{◌≡◌, ◌+◌, ◌-◌, ◌<◌, [], sym, arith}
use mathlib.Core.Path.{subst}
use Rattle.sequences.specs.Bits.{set_bits}
use Rattle.visit.specs.Lent.{table_in}
use Rattle.visit.specs.Tables.{mask}
use Rattle.walk.specs.Turning.{Carried}
use Rattle.walk.proofs.Turns.{Going, going-begins, going_next, going-ends, leaf_walked, under_next, open-walked}
use Rattle.walk.proofs.+turn_walk.Goals as goal

-- ---- a turn

pub turn-returns-then-left-eq1 : goal.turn-returns-then-left-eq1
turn-returns-then-left-eq1 g t c =
    let a = c.args in
    let S = a.tables.now in
    let u = c.requires.under in
    let (some, low, room) = c.requires.room in
    let next = c.step-next in
    let carried = subst (λ k. Carried S (k + 1) next.result) c.requires.loaded.at next.ensures.carried in
    let below = under_next S a.left a.c a.met next.result some low u next.ensures.place carried in
    open-walked S g.V.Visitor.see g.V.Visitor.tally a.left a.c a.met next.result some low u next.ensures.place a.visitor.now _
    (leaf_walked S g.V.Visitor.see g.V.Visitor.tally (a.left - 1) next.result a.visitor.now _ (omega (arith, c.if-left-eq1.true)) g.met.V.Visitor.counts_few
    below c.meet.ensures)

pub turn-walk-requires : goal.turn-walk-requires
turn-walk-requires g t c κs within =
    let a = c.args in
    let (some, low, room) = c.requires.room in
    let next = c.step-next in
    let more : 0 < a.left - 1 = omega (arith, some, c.if-left-eq1.false) in
    let carried = subst (λ k. Carried a.tables.now (k + 1) next.result) c.requires.loaded.at next.ensures.carried in
    let below = under_next a.tables.now a.left a.c a.met next.result some low c.requires.under next.ensures.place carried in
    (omega (arith, c.decreases, some), (within, (below, (more, room))))

pub turn-returns : goal.turn-returns
turn-returns g t c =
    let a = c.args in
    let (some, low, room) = c.requires.room in
    let next = c.step-next in
    open-walked a.tables.now g.V.Visitor.see g.V.Visitor.tally a.left a.c a.met next.result some low c.requires.under next.ensures.place a.visitor.now _ c.walk.ensures

-- ---- a walk

pub walk-loop-c-init : goal.walk-loop-c-init
walk-loop-c-init g t c =
    let a = c.args in
    let S = a.tables.now in
    let see = g.V.Visitor.see in
    let tally = g.V.Visitor.tally in
    let same : c.into_iter-c-iterator.result.rest ≡ mask (table_in S) (S.blocks - a.left) = cc in
    subst (λ m. Going S see tally a.left a.met.place [] (set_bits m) a.visitor.now a.visitor.now) (sym same)
    (going-begins S see tally a.left a.met.place c.requires.room.0 a.visitor.now)

pub walk-loop-c-preserved : goal.walk-loop-c-preserved
walk-loop-c-preserved g t c =
    let a = c.args in
    let S = a.tables.now in
    let l = c.loop-c in
    let see = g.V.Visitor.see in
    let tally = g.V.Visitor.tally in
    let rest = set_bits c.next.new.self.rest in
    going_next S see tally a.left a.met.place c.requires.room.0 a.visitor.now c.in-Some.c l.yielded rest
    (subst (λ bits. Going S see tally a.left a.met.place l.yielded bits a.visitor.now l.visitor) c.in-Some.ensures.steps l.invariant) _ c.turn.ensures

pub walk-returns : goal.walk-returns
walk-returns g t c =
    let a = c.args in
    let S = a.tables.now in
    let l = c.loop-c in
    let see = g.V.Visitor.see in
    let tally = g.V.Visitor.tally in
    going-ends S see tally a.left a.met.place c.requires.room.0 a.visitor.now l.yielded
    (subst (λ bits. Going S see tally a.left a.met.place l.yielded bits a.visitor.now l.visitor) c.in-None.ensures.steps.0 l.invariant)
