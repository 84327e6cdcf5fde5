-- Without pairs the table is all zeros; otherwise the list comes after its length.
use native.Mathlib.Omega.{arith}
use borrow.Author.Tests.{eqb-true}
use mathlib.Core.Path.{sym, ◌∙◌}
use Rattle.table_entries.proofs.Conflicting.{no-conflicts, conflicts-laid, list-few}
use Rattle.table_entries.proofs.Laying.{number-laid}
use Rattle.conflict_tables.proofs.fill_conflicts.Goals as goal

pub returns-then-is_empty : goal.returns-then-is_empty
returns-then-is_empty c =
    c.requires.a_value ∙ sym (no-conflicts c.args.w.now (rw c.pairs.ensures.value at (eqb-true _ 0 (sym c.is_empty.ensures ∙ c.if-is_empty.true))))

pub overflow_cast-a : goal.overflow_cast-a
overflow_cast-a c =
    omega (arith, (rw c.new.ensures at c.list_conflicts-n.ensures).ends, list-few c.args.w.now c.requires.well_formed)

pub returns : goal.returns
returns c =
    conflicts-laid c.args.w.now (rw c.new.ensures at c.list_conflicts-n.ensures) (number-laid c.requires.a_value _ c.list_conflicts-n.result)
