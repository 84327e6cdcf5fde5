-- What a transfer between two clouds is charged, and how much an edge can add to a cost, so that sums fit.
use Rattle.std.specs.Prelude.{ℕ, ◌+◌, ◌*◌, cond}
use Rattle.description.specs.declared.workflow.Cloud.{Cloud}
use Rattle.description.specs.declared.workflow.Kind.{Kind}
use Rattle.description.specs.declared.workflow.Way.{Way}
use Rattle.description.specs.Declarations.{is_write}
use Rattle.costs.specs.Cost.{charged_of, copy_of}

-- for a gigabyte: a write leaves the service's cloud and enters the datum's, a read goes the other way
abbrev pub rate_between : Way → (service datum : Cloud) → ℕ
rate_between way service datum = cond (is_write way) (service.outward + datum.inward) (datum.outward + service.inward)

-- the transfer, and the copy that it leaves with the service
abbrev pub charge_between : Way → (service datum : Cloud) → Kind → ℕ
charge_between way service datum k = rate_between way service datum * charged_of k + copy_of service k

-- the most that a gigabyte pays: two rates of two bytes
abbrev pub most_rate : ℕ
most_rate = 2 * 65535

-- the most that a transfer costs with its copy: three rates, for each of at most 6,554 gigabytes
abbrev pub most_edge : ℕ
most_edge = 3 * 65535 * 6554
