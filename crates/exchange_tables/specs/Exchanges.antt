-- What is noted of a datum's edges, and what decides between two clouds.
use Rattle.std.specs.Prelude.{ℕ, zero, suc, ◌<◌, ◌≡◌, List, [], ◌∷◌, length, get_or}
use Rattle.costs.specs.Cost.{gigabytes}
use Rattle.description.specs.declared.workflow.Edge.{Edge}
use Rattle.description.specs.declared.workflow.Kind.{Kind}
use Rattle.description.specs.declared.workflow.Kind.TheVariants.{Datum, Service}
use Rattle.description.specs.declared.workflow.Way.{Way}
use Rattle.exchange_tables.specs.declared.Deciding.{Deciding}
use Rattle.exchange_tables.specs.declared.Deciding.TheVariants.{Storage, Copied, Nothing}
use Rattle.exchange_tables.specs.declared.Only.{Only}
use Rattle.exchange_tables.specs.declared.Only.TheVariants.{Nobody, One, Several}
use Rattle.sequences.specs.Lists.{keep}
use Rattle.table_entries.specs.Building.{is_of, no_service}

-- the service of the only edge, while edges are still to come
abbrev pub noted : List Edge → Only
noted [] = Nobody
noted (e ∷ []) = One e.service
noted (e ∷ f ∷ es) = Several

-- after one more service
abbrev pub noted_with : Only → ℕ → Only
noted_with Nobody service = One service
noted_with (One other) service = Several
noted_with Several service = Several

-- at each datum, what is noted of those edges that go this way
pub record Noted (way : Way) (es : List Edge) (a : List Only) : Type 0 where
  pub size : length a ≡ 16
  pub entry : (m : ℕ) → m < 16 → get_or a m Nobody ≡ noted (keep (is_of way m) es)

-- the only writer, or the only reader, if there is one of each
abbrev pub paired : (writers readers : Only) → ℕ → ℕ
paired (One a) (One b) zero = a
paired (One a) (One b) (suc i) = b
paired (One a) Nobody i = no_service
paired (One a) Several i = no_service
paired Nobody readers i = no_service
paired Several readers i = no_service

-- what decides between two clouds for a block of this kind
abbrev pub deciding_of : Kind → Deciding
deciding_of (Datum size zero) = Copied (gigabytes size)
deciding_of (Datum size (suc zero)) = Nothing
deciding_of (Datum size (suc (suc longevity))) = Storage
deciding_of (Service clearance units) = Nothing

-- the gigabytes of the copy
abbrev pub copied : Deciding → ℕ
copied Storage = 0
copied (Copied n) = n
copied Nothing = 0
