-- A command and its fault are determined by the bytes within its width, whatever follows them.
use Prim.Native.Nat.{ℕ, ◌≤◌, ◌<◌}
use native.Mathlib.Omega.{arith}
use mathlib.Core.Path.{◌≡◌, refl, sym, ap, ◌∙◌}
use mathlib.Core.Bool.{Bool, true, false, cond}
use mathlib.Core.List.{List}
use mathlib.Core.Option.{some}
use lib.ListN.{length}
use lib.Dec.{eqb}
use borrow.Author.Tests.{le-ltb}
use Rattle.description.specs.declared.workflow.Way.{Way}
use Rattle.description.specs.declared.workflow.Way.TheVariants.{Reads, Writes}
use Rattle.description.specs.Declarations.{Description}
use Rattle.decoding.specs.Format.{u8_at, Command, cloud_at, datum_at, service_at, edge_at, pin_at, pair_at, command_at, first_fault, fault_of}
use Rattle.decoding.proofs.Turns.{width_positive}

-- the first w bytes of s are those of t
abbrev pub Agree : List ℕ → List ℕ → ℕ → Type 0
Agree s t w = (i : ℕ) → i < w → u8_at s i ≡ u8_at t i

module _ (s t : List ℕ) where
  choose : (b : Bool) (x y x' y' : Command) → (Agree s t x.width → x ≡ x') → (Agree s t y.width → y ≡ y')
      → Agree s t (cond b x y).width → cond b x y ≡ cond b x' y'
  choose true x y x' y' f g h = f h
  choose false x y x' y' f g h = g h

  module _ (d : Description) where
    same-cloud : Agree s t 10 → cloud_at s d ≡ cloud_at t d
    same-cloud h =
        rw (h 1 (omega arith), h 2 (omega arith), h 3 (omega arith), h 4 (omega arith), h 5 (omega arith), h 6 (omega arith))
        (rw (h 7 (omega arith), h 8 (omega arith), h 9 (omega arith)) refl)

    same-datum : Agree s t 6 → datum_at s d ≡ datum_at t d
    same-datum h = rw (h 1 (omega arith), h 2 (omega arith), h 3 (omega arith), h 4 (omega arith), h 5 (omega arith)) refl

    same-service : Agree s t 7 → service_at s d ≡ service_at t d
    same-service h =
        rw (h 1 (omega arith), h 2 (omega arith), h 3 (omega arith), h 4 (omega arith), h 5 (omega arith), h 6 (omega arith)) refl

    same-edge : (w : Way) → Agree s t 3 → edge_at w s d ≡ edge_at w t d
    same-edge w h = rw (h 1 (omega arith), h 2 (omega arith)) refl

    same-pin : Agree s t 3 → pin_at s d ≡ pin_at t d
    same-pin h = rw (h 1 (omega arith), h 2 (omega arith)) refl

    same-pair : Agree s t 3 → pair_at s d ≡ pair_at t d
    same-pair h = rw (h 1 (omega arith), h 2 (omega arith)) refl

    -- a command is determined by the bytes within its width
    pub command-by : Agree s t (command_at s d).width → command_at s d ≡ command_at t d
    command-by h =
        rw (← h 0 (width_positive s d))
        (choose (is 1) _ _ _ _ same-cloud
        (choose (is 2) _ _ _ _ same-datum
        (choose (is 3) _ _ _ _ same-service
        (choose (is 4) _ _ _ _ (same-edge Reads)
        (choose (is 5) _ _ _ _ (same-edge Writes)
        (choose (is 6) _ _ _ _ same-pin
        (choose (is 7) _ _ _ _ same-pair (λ _. refl))))))) h)
      where
        is : ℕ → Bool
        is n = eqb (u8_at s 0) n

    -- and so is its fault, if both inputs have all of it
    pub fault-by : Agree s t (command_at s d).width → (command_at s d).width ≤ length s → (command_at s d).width ≤ length t
        → fault_of s (command_at s d) ≡ fault_of t (command_at t d)
    fault-by a h k =
        ap (λ z. cond z (some 1) (first_fault (command_at s d).faults))
        (le-ltb (length s) (command_at s d).width h ∙ sym (le-ltb (length t) (command_at s d).width k)) ∙
        ap (fault_of t) (command-by a)
