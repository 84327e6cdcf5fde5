-- Two entries for each block; past the last there is 0.
use Rattle.std.proofs.Common.{◌≡◌, ◌+◌, ◌*◌, length, sym, ◌∙◌, arith}
use Rattle.exchange_tables.proofs.Noting.{paired-at}
use Rattle.sequences.proofs.Filling.{fill-lent, fill-next, fill-last}
use Rattle.table_entries.specs.Building.{pair_at}
use Rattle.table_entries.proofs.Equations.{pairs_of_lem}
use Rattle.exchange_tables.proofs.fill_pairs.Goals as goal

pub loop-m-init : goal.loop-m-init
loop-m-init c = fill-lent c.requires.a_value

pub loop-m-preserved : goal.loop-m-preserved
loop-m-preserved c =
    let d = c.args.w.now in
    let m = c.loop-m.m in
    let wf = c.requires.well_formed in
    let few = c.block_count-m-end.ensures in
    let writers = c.noted-writers.ensures.entry m (omega (arith, few)) in
    let readers = c.noted-readers.ensures.entry m (omega (arith, few)) in
    let last = 2 * length d.blocks in
    let first = c.paired-writer.ensures.writer ∙ paired-at d wf m (2 * m) 0 writers readers (omega arith) (omega arith) in
    let second = c.paired-writer.ensures.reader ∙ paired-at d wf m (2 * m + 1) 1 writers readers (omega arith) (omega arith) in
    let one = fill-next last (pair_at d) c.loop-m.invariant (omega (arith, few)) (omega (arith, few)) first in
    let next : 2 * m + 1 + 1 ≡ 2 * (m + 1) = omega arith in
    rw (← next) (fill-next last (pair_at d) one (omega (arith, few)) (omega (arith, few)) second)

pub returns : goal.returns
returns c =
    let d = c.args.w.now in
    fill-last (2 * length d.blocks) (pair_at d) c.loop-m.invariant (omega (arith, c.block_count-m-end.ensures.value)) ∙ sym (pairs_of_lem d)
