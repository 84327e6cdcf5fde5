-- The transfers of a placement, and their bytes in a buffer.
use Rattle.std.specs.Prelude.{ℕ, suc, cond, List, [], ◌∷◌, ◌++◌, length, drop, ltb}
use Rattle.description.specs.declared.workflow.Edge.{Edge}
use Rattle.description.specs.Declarations.{Description, is_write}
use Rattle.security.specs.Placements.{service_cloud, datum_cloud, moves}
use Rattle.sequences.specs.Results.{Result, ok, refused}

-- a read moves the datum from its own cloud to the service's, a write from the service's cloud to its own
abbrev pub source : List ℕ → Edge → ℕ
source p e = cond (is_write e.way) (service_cloud p e) (datum_cloud p e)

abbrev pub destination : List ℕ → Edge → ℕ
destination p e = cond (is_write e.way) (datum_cloud p e) (service_cloud p e)

-- The copy that a transfer makes lies on the service's cloud: the destination of a read, the source of a write.
pub record Transfer : Type 0 where
  pub edge : ℕ
  pub datum : ℕ
  pub source : ℕ
  pub destination : ℕ
  pub copy : ℕ

abbrev pub transfer_of : ℕ → List ℕ → Edge → Transfer
transfer_of n p e = record { edge = n; datum = e.datum; source = source p e; destination = destination p e; copy = service_cloud p e }

-- for edges numbered from n on: one for each edge that moves its datum
abbrev pub transfers_from : ℕ → List ℕ → List Edge → List Transfer
transfers_from n p [] = []
transfers_from n p (e ∷ es) = cond (moves p e) (transfer_of n p e ∷ transfers_from (suc n) p es) (transfers_from (suc n) p es)

-- in edge order
unfoldable pub transfers : Description → List ℕ → List Transfer
transfers d p = transfers_from 0 p d.edges

-- edge, datum, source, destination, one byte each
abbrev pub bytes_of : List Transfer → List ℕ
bytes_of [] = []
bytes_of (t ∷ ts) = t.edge ∷ t.datum ∷ t.source ∷ t.destination ∷ bytes_of ts

-- the transfers, if a buffer of n bytes has room for their bytes; 16, with the bytes needed, if it is too short
abbrev pub fitted : ℕ → List Transfer → Result (List Transfer)
fitted n ts = cond (ltb n (length (bytes_of ts))) (refused 16 (length (bytes_of ts))) (ok ts)

-- what a buffer holds after the call: the transfers' bytes and, beyond them, what it held before; after a refusal, what it held before
unfoldable pub buffer_after : Result (List Transfer) → List ℕ → List ℕ
buffer_after (ok ts) buffer = bytes_of ts ++ drop (length (bytes_of ts)) buffer
buffer_after (refused number place) buffer = buffer
