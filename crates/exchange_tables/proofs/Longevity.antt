-- A datum whose storage decides is kept for more than a month.
use Rattle.std.proofs.Common.{◌≡◌, zero, suc, true, arith, lt-ltb}
use Rattle.description.specs.declared.workflow.Kind.{Kind}
use Rattle.description.specs.declared.workflow.Kind.TheVariants.{Datum, Service}
use Rattle.exchange_tables.specs.declared.Deciding.TheVariants.{Storage}
use Rattle.exchange_tables.specs.Exchanges.{deciding_of}
use Rattle.table_entries.specs.Building.{kept_longer}

pub storage_longer : (kind : Kind) → deciding_of kind ≡ Storage → kept_longer kind ≡ true
storage_longer (Datum size zero) e = cc
storage_longer (Datum size (suc zero)) e = cc
storage_longer (Datum size (suc (suc longevity))) e = lt-ltb 1 (suc (suc longevity)) (omega arith)
storage_longer (Service clearance units) e = cc
