-- What `decode` is, and what holds of a description that was decoded.
use Prim.Native.Nat.{ℕ}
use mathlib.Core.Path.{◌≡◌, sym}
use Rattle.std.specs.Prelude.{Ok, Err, OnOk}
use Rattle.std.specs.Prelude as std
use Rattle.refusals.specs.declared.Refusal.{Refusal}
use Rattle.description.specs.Meaning.{outcome_of}
use mathlib.Core.List.{List}
use lib.ListN.{length}
use Rattle.sequences.specs.Results.{and_then}
use Rattle.decoding.specs.Format.{decode, read_from, inhabited}
use Rattle.description.specs.Declarations.{nothing}
use Rattle.description.specs.Declarations.{Description}
use Rattle.description.specs.Invariants.{Decoded}
use Rattle.decoding.specs.Bytes.{Bytes}
use Rattle.decoding.proofs.Equations.{decode-of}
use Rattle.decoding.proofs.Limits.{decoded-well_formed, decoded-in_range}

-- the whole description, as the commands and what has to be among them
pub decoded : (s : List ℕ) → decode s ≡ and_then (read_from s 0 0 nothing) (inhabited (length s))
decoded s = decode-of s

-- what is decoded has what decoding ensures
pub is_decoded : (s : List ℕ) (d : Description) (r : std.Result (Unit {0}) Refusal) → Bytes s → outcome_of r d ≡ decode s → OnOk r (Decoded d)
is_decoded s d (Ok u) bytes e =
    record { well_formed = decoded-well_formed s d (sym e); in_range = decoded-in_range s d bytes (sym e) }
is_decoded s d (Err r) bytes e = tt
