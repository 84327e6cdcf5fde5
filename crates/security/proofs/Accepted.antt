-- What Read accepts was decoded and keeps rules 2 to 4; so it is well formed, and its numbers are in their ranges.
use Prim.Native.Nat.{ℕ, ◌≤◌}
use mathlib.Core.Path.{◌≡◌, ap, subst}
use mathlib.Core.List.{List}
use lib.ListN.{take}
use Rattle.sequences.specs.Results.{ok, and_then}
use Rattle.sequences.proofs.Results.{and_then-ok}
use Rattle.description.specs.Declarations.{Description}
use Rattle.decoding.specs.Format.{decode}
use Rattle.decoding.specs.Bytes.{Bytes, deciding_bytes}
use Rattle.description.specs.Invariants.{WellFormed, InRange, Bounded}
use Rattle.decoding.proofs.Front.{front-decides}
use Rattle.decoding.proofs.Limits.{decoded-well_formed, decoded-in_range}
use Rattle.security.specs.Soundness.{sound, read}
use Rattle.security.specs.Accepted.{Accepted, Admitted}
use Rattle.security.proofs.Sound.{accepted-keeps}

-- what Read accepts was decoded, keeps rules 2 to 4, and does not have too many candidates
pub accepted : (s : List ℕ) (d : Description) → read s ≡ ok d → Accepted s d
unfolding read
accepted s d r =
    let (e, q, t) = (and_then-ok (decode s) sound d).0 r in
    let (r2, r3, r4, few, same) = accepted-keeps e d t in
    subst (Accepted s) same (record { decoded = q; rule2 = r2; rule3 = r3; rule4 = r4; few = few })

-- so it is well formed; and if it was read from bytes, it is in range and bounded
module _ (s : List ℕ) (d : Description) (r : read s ≡ ok d) where
  pub read-well_formed : WellFormed d
  read-well_formed = decoded-well_formed s d (accepted s d r).decoded

  pub read-in_range : Bytes s → InRange d
  read-in_range h = decoded-in_range s d h (accepted s d r).decoded

  pub read-bounded : Bytes s → Bounded d
  read-bounded h = record { limits = read-well_formed.limits; in_range = read-in_range h }

  -- so it can be walked over
  pub read-admitted : Bytes s → Admitted d
  read-admitted h = record { well_formed = read-well_formed; in_range = read-in_range h; few = (accepted s d r).few }

pub admitted-bounded : {d : Description} → Admitted d → Bounded d
admitted-bounded a = record { limits = a.well_formed.limits; in_range = a.in_range }

-- THE FIRST BYTES DECIDE what Read answers
pub read-front : (s : List ℕ) (n : ℕ) → deciding_bytes ≤ n → read (take n s) ≡ read s
unfolding read
read-front s n h = ap (λ r. and_then r sound) (front-decides s n h)
