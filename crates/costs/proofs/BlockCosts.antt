-- What a block costs depends on its kind: a service stores nothing, and a datum computes nothing.
use native.Mathlib.Nat.{mul-zero}
use mathlib.Core.Path.{◌≡◌}
use mathlib.Core.Bool.{true, false, true≢false, false≢true}
use Rattle.description.specs.declared.workflow.Cloud.{Cloud}
use Rattle.description.specs.declared.workflow.Kind.{Kind}
use Rattle.description.specs.declared.workflow.Kind.TheVariants.{Datum, Service}
use Rattle.description.specs.Declarations.{is_datum}
use Rattle.costs.specs.Cost.{storage_of, cpu_of}

pub service-stores-nothing : (c : Cloud) (k : Kind) → is_datum k ≡ false → storage_of c k ≡ 0
service-stores-nothing c (Datum size longevity) f = absurd (true≢false f)
service-stores-nothing c (Service clearance units) f = mul-zero c.storage

pub datum-computes-nothing : (c : Cloud) (k : Kind) → is_datum k ≡ true → cpu_of c k ≡ 0
datum-computes-nothing c (Datum size longevity) t = mul-zero c.cpu
datum-computes-nothing c (Service clearance units) t = absurd (false≢true t)
