-- One turn of reading: what read_from gives at a command at an offset of the input.
use mathlib.Core.Path.{◌≡◌, sym, ap, ◌∙◌}
use Prim.Native.Nat.{ℕ, zero, suc, pred, ◌+◌, ◌-◌, ◌≤◌, ◌<◌}
use native.Mathlib.Nat.{add-zero, add-suc, suc-add, not-suc-le-zero, le_of_suc-le-suc}
use native.Mathlib.Numerals.{add-one}
use native.Mathlib.Omega.{arith}
use mathlib.Core.Bool.{true, false, cond}
use mathlib.Core.List.{List, [], ◌∷◌}
use mathlib.Core.Option.{none, some}
use lib.ListN.{length, get_or, take, drop, length-drop, drop_of_length-le}
use lib.Seq.{drop-cons, drop-drop, take_all}
use lib.Dec.{ltb, eqb, lit≤}
use borrow.Author.Tests.{eq-eqb, ne_eqb, ltb-false}
use Rattle.sequences.specs.Results.{ok, refused}
use Rattle.sequences.proofs.Tests.{cond_ind, cond-none}
use Rattle.description.specs.declared.workflow.Way.TheVariants.{Reads, Writes}
use Rattle.description.specs.Declarations.{Description}
use Rattle.decoding.specs.Format.{u8_at, Command, cloud_at, datum_at, service_at, edge_at, pin_at, pair_at, unknown}
use Rattle.decoding.specs.Format.{read_from, ended, command_at, first_fault, fault_of}

-- the bytes of a command that was read are skipped at once
skipped : (rest : List ℕ) (k at : ℕ) (d : Description) → k ≤ length rest → read_from rest k at d ≡ read_from (drop k rest) 0 (at + k) d
skipped rest zero at d h = ap (λ n. read_from rest 0 n d) (sym (add-zero at))
skipped [] (suc k) at d h = absurd (not-suc-le-zero h)
skipped (b ∷ rest) (suc k) at d h =
    skipped rest k (suc at) d (le_of_suc-le-suc h) ∙ ap (λ n. read_from (drop k rest) 0 n d) (suc-add at k ∙ sym (add-suc at k))

-- a command with no fault is whole, and no command is empty
pub whole : (s : List ℕ) (c : Command) → fault_of s c ≡ none → c.width ≤ length s
whole s c e = ltb-false (length s) c.width (cond-none (ltb (length s) c.width) 1 (first_fault c.faults) e).0

-- what holds of each of the eight commands holds of the one that s begins with
pub each-command : (P : Command → Type 0) (s : List ℕ) (d : Description) → P (cloud_at s d) → P (datum_at s d) → P (service_at s d)
    → P (edge_at Reads s d) → P (edge_at Writes s d) → P (pin_at s d) → P (pair_at s d) → P (unknown d) → P (command_at s d)
each-command P s d cloud datum service read write pin pair other =
    either 1 cloud (either 2 datum (either 3 service (either 4 read (either 5 write (either 6 pin (either 7 pair other))))))
  where
    either : (n : ℕ) {x y : Command} → P x → P y → P (cond (eqb (u8_at s 0) n) x y)
    either n {x} {y} p q = cond_ind P (eqb (u8_at s 0) n) x y (λ _. p) (λ _. q)

-- a command has at least one byte and at most ten
pub width_positive : (s : List ℕ) (d : Description) → 1 ≤ (command_at s d).width
width_positive s d = each-command (λ c. 1 ≤ c.width) s d (lit≤ tt) (lit≤ tt) (lit≤ tt) (lit≤ tt) (lit≤ tt) (lit≤ tt) (lit≤ tt) (lit≤ tt)

pub width_few : (s : List ℕ) (d : Description) → (command_at s d).width ≤ 10
width_few s d = each-command (λ c. c.width ≤ 10) s d (lit≤ tt) (lit≤ tt) (lit≤ tt) (lit≤ tt) (lit≤ tt) (lit≤ tt) (lit≤ tt) (lit≤ tt)

-- at a list with a head: reading ends, refuses, or takes the command and continues
module _ (b : ℕ) (rest : List ℕ) (at : ℕ) (d : Description) where
  pub ends : eqb b 0 ≡ true → read_from (b ∷ rest) 0 at d ≡ ended rest (suc at) d
  ends e = rw (e, read_from)

  pub fails : {n : ℕ} → eqb b 0 ≡ false → fault_of (b ∷ rest) (command_at (b ∷ rest) d) ≡ some n → read_from (b ∷ rest) 0 at d ≡ refused n at
  fails e f = rw (e, f, read_from)

  pub goes : eqb b 0 ≡ false → fault_of (b ∷ rest) (command_at (b ∷ rest) d) ≡ none
      → read_from (b ∷ rest) 0 at d ≡ read_from rest (pred (command_at (b ∷ rest) d).width) (suc at) (command_at (b ∷ rest) d).after
  goes e f = rw (e, f, read_from)

-- at offset `at` of the input s
module _ (s : List ℕ) (at : ℕ) (d : Description) where
  pub nothing_left : length s ≤ at → read_from (drop at s) 0 at d ≡ refused 1 at
  nothing_left h = ap (λ l. read_from l 0 at d) (drop_of_length-le s h)

  module _ (h : at < length s) where
    head : drop at s ≡ get_or s at 0 ∷ drop (suc at) s
    head = drop-cons s at 0 h

    pub ends-input : get_or s at 0 ≡ 0 → at + 1 ≡ length s → read_from (drop at s) 0 at d ≡ ok d
    ends-input z e =
        ap (λ l. read_from l 0 at d) head ∙ ends (get_or s at 0) (drop (suc at) s) at d (eq-eqb _ _ z) ∙
        ap (λ l. ended l (suc at) d) (drop_of_length-le s {i = suc at} (omega arith))

    pub ends-early : get_or s at 0 ≡ 0 → (at + 1 ≡ length s → ⊥) → read_from (drop at s) 0 at d ≡ refused 3 (at + 1)
    ends-early z e =
        ap (λ l. read_from l 0 at d) head ∙ ends (get_or s at 0) (drop (suc at) s) at d (eq-eqb _ _ z) ∙
        ap (λ l. ended l (suc at) d) (drop-cons s (suc at) 0 (omega arith)) ∙ ap (refused 3) (sym (add-one at))

    module _ (z : get_or s at 0 ≡ 0 → ⊥) where
      pub stops_at : {n : ℕ} → fault_of (drop at s) (command_at (drop at s) d) ≡ some n → read_from (drop at s) 0 at d ≡ refused n at
      stops_at f =
          ap (λ l. read_from l 0 at d) head ∙
          fails (get_or s at 0) (drop (suc at) s) at d (ne_eqb _ _ z) (sym (ap (λ l. fault_of l (command_at l d)) head) ∙ f)

      pub goes_on : (w : ℕ) → w ≡ (command_at (drop at s) d).width → fault_of (drop at s) (command_at (drop at s) d) ≡ none
          → read_from (drop at s) 0 at d ≡ read_from (drop (at + w) s) 0 (at + w) (command_at (drop at s) d).after
      goes_on w e f =
          let one : 1 ≤ w = omega (arith, e, width_positive (drop at s) d) in
          let fits : w ≤ length (drop at s) = omega (arith, e, whole (drop at s) (command_at (drop at s) d) f) in
          let l : length (drop at s) ≡ length s - at = length-drop at s in
          let q : suc at + pred w ≡ at + w = omega arith in
          ap (λ l. read_from l 0 at d) head ∙
          goes (get_or s at 0) (drop (suc at) s) at d (ne_eqb _ _ z) (sym (ap (λ l. fault_of l (command_at l d)) head) ∙ f) ∙
          ap (λ l. read_from (drop (suc at) s) (pred (command_at l d).width) (suc at) (command_at l d).after) (sym head) ∙
          ap (λ (k : ℕ). read_from (drop (suc at) s) (pred k) (suc at) (command_at (drop at s) d).after) (sym e) ∙
          skipped (drop (suc at) s) (pred w) (suc at) (command_at (drop at s) d).after (simp length-drop (omega arith)) ∙
          rw (drop-drop, q)

-- the part of the input that starts at a command
pub part-is : (s : List ℕ) (at : ℕ) → take (length s - at) (drop at s) ≡ drop at s
part-is s at = take_all (length s - at) (drop at s) (simp length-drop (omega arith))
