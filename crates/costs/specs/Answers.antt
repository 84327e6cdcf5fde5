-- The charges by name.
use Rattle.std.specs.Prelude.{ℕ}
use Rattle.description.specs.declared.workflow.Cloud.{Cloud}
use Rattle.description.specs.declared.workflow.Kind.{Kind}
use Rattle.costs.specs.declared.answers.Charge.{Charge}
use Rattle.costs.specs.declared.answers.Charge.TheVariants.{Storage, Copy, Cpu}
use Rattle.costs.specs.Cost.{storage_of, copy_of, cpu_of}

-- the charges on a block, by name
abbrev pub amount_of : Charge → Cloud → Kind → ℕ
amount_of Storage = storage_of
amount_of Copy = copy_of
amount_of Cpu = cpu_of
