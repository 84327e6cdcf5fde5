-- Datum by datum, after the first 266 bytes, which stay as they are.
use Rattle.std.proofs.Common.{◌+◌, ◌*◌, ◌∙◌, arith}
use Rattle.exchange_tables.proofs.Putting.{none_yet, passed_over, one_more, all_put, no-pair, no-cloud, has-entry}
use Rattle.exchange_tables.proofs.fill_exchanges.Goals.{then-has_pair, else-has_pair}
use Rattle.exchange_tables.proofs.fill_exchanges.Goals as goal
use Rattle.table_entries.specs.Building.{exchange_by}

pub loop-m-init : goal.loop-m-init
loop-m-init c = none_yet c.told-bytes c.requires.bytes_value

pub loop-m-preserved : goal.loop-m-preserved
loop-m-preserved c =
    let a = c.args in
    let d = a.w.now in
    let before = a.bytes.now in
    let m = c.loop-m.m in
    let pair = c.from-has_pair.ensures ∙ c.loop-m.invariant.front (97 + 2 * m) (omega (arith, c.requires.blocks_bound)) in
    elim c.if-has_pair.branch [
      | then-has_pair w ↦
          let datum = w.new-datum.ensures in
          let mask = datum.mask ∙ c.loop-m.invariant.front (81 + m) (omega (arith, c.requires.blocks_bound)) in
          let put = rw (datum.description, datum.number, mask) at w.put_exchanges.ensures in
          rw w.bytes-is
          (one_more c.loop-m.invariant put c.requires.blocks_bound.1
          (λ h l. has-entry d before a.blocks a.clouds m h (omega arith) l c.requires.blocks_bound.1 (omega (arith, pair, w.if-has_pair.true)))
          (no-cloud d before a.blocks a.clouds))
      | else-has_pair w ↦ rw w.bytes-is (passed_over c.loop-m.invariant (no-pair d before a.blocks a.clouds m (omega (arith, pair, w.if-has_pair.false))))
    ]

pub returns : goal.returns
returns c =
    let a = c.args in
    all_put (exchange_by a.w.now a.bytes.now a.clouds) c.told-bytes c.loop-m.invariant c.loop-m-test.false
