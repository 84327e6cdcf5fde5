-- Decoding refuses with numbers 1 to 8, at an offset of the input; since the first bytes decide, it is at most `deciding_bytes`.
use Prim.Native.Nat.{ℕ, zero, suc, pred, ◌+◌, ◌≤◌, ◌<◌}
use native.Mathlib.Omega.{arith}
use mathlib.Core.Path.{◌≡◌, refl, sym, subst}
use mathlib.Core.Bool.{Bool, true, false, cond, ◌||◌}
use mathlib.Core.List.{List, [], ◌∷◌}
use mathlib.Core.Option.{Option, none, some, some-ne-none}
use lib.ListN.{length, take, length-take}
use lib.Dec.{ltb, eqb}
use Rattle.sequences.specs.Results.{ok, refused, RefusalWithin}
use Rattle.sequences.proofs.Results.{within_more, within-cond, within-and_then}
use Rattle.decoding.specs.Bytes.{deciding_bytes}
use Rattle.description.specs.Declarations.{Description, nothing}
use Rattle.decoding.specs.Format.{Command, command_at, first_fault, fault_of, ended, read_from, inhabited, decode}
use Rattle.decoding.proofs.Front.{front-decides}
use Rattle.decoding.proofs.Turns.{each-command, ends, fails, goes}

-- every number of the list is one of decoding's
abbrev Numbered : List (ℕ × Bool) → Type 0
Numbered [] = Unit {0}
Numbered (f ∷ fs) = (0 < f.0) × (f.0 ≤ 8) × Numbered fs

fault-number : (fs : List (ℕ × Bool)) (n : ℕ) → Numbered fs → first_fault fs ≡ some n → (0 < n) × (n ≤ 8)
fault-number [] n h e = absurd (some-ne-none n (sym e))
fault-number (f ∷ fs) n h e = go f.1 e (fault-number fs n h.2)
  where
    go : (b : Bool) → cond b (some f.0) (first_fault fs) ≡ some n → (first_fault fs ≡ some n → (0 < n) × (n ≤ 8)) → (0 < n) × (n ≤ 8)
    go true q next = let same : f.0 ≡ n = cc in (omega arith, omega arith)
    go false q next = next q

numbered : (s : List ℕ) (d : Description) → Numbered (command_at s d).faults
numbered s d =
    each-command (λ c. Numbered c.faults) s d
    four-five four-five four-five four-six-seven four-six-seven six-seven four-six-seven (omega arith, omega arith, tt)
  where
    four-five : (0 < 4) × (4 ≤ 8) × ((0 < 5) × (5 ≤ 8) × Unit {0})
    four-five = (omega arith, omega arith, (omega arith, omega arith, tt))

    six-seven : (0 < 6) × (6 ≤ 8) × ((0 < 7) × (7 ≤ 8) × Unit {0})
    six-seven = (omega arith, omega arith, (omega arith, omega arith, tt))

    four-six-seven : (0 < 4) × (4 ≤ 8) × ((0 < 6) × (6 ≤ 8) × ((0 < 7) × (7 ≤ 8) × Unit {0}))
    four-six-seven = (omega arith, omega arith, six-seven)

ended-within : (rest : List ℕ) (at : ℕ) (d : Description) → RefusalWithin 8 (at + suc (length rest)) (ended rest (suc at) d)
ended-within [] at d = tt
ended-within (b ∷ rest) at d = (omega arith, omega arith, omega arith)

reading-within : (s : List ℕ) (skip at : ℕ) (d : Description) → RefusalWithin 8 (at + length s) (read_from s skip at d)
reading-within [] skip at d = (omega arith, omega arith, omega arith)
reading-within (b ∷ rest) (suc skip) at d =
    within_more 8 (at + suc (length rest)) (omega arith) (omega arith) (read_from rest skip (suc at) d) (reading-within rest skip (suc at) d)
reading-within (b ∷ rest) zero at d = one (eqb b 0) (fault_of s c) refl refl (reading-within rest (pred c.width) (suc at) c.after)
  where
    s : List ℕ
    s = b ∷ rest

    c : Command
    c = command_at s d

    one : (z : Bool) (f : Option ℕ) → eqb b 0 ≡ z → fault_of s c ≡ f
        → RefusalWithin 8 (suc at + length rest) (read_from rest (pred c.width) (suc at) c.after)
        → RefusalWithin 8 (at + suc (length rest)) (read_from s 0 at d)
    one true f z q next = subst (RefusalWithin 8 (at + suc (length rest))) (sym (ends b rest at d z)) (ended-within rest at d)
    one false (some n) z q next =
        let (low, high) = fault-number ((1, ltb (length s) c.width) ∷ c.faults) n (omega arith, omega arith, numbered s d) q in
        subst (RefusalWithin 8 (at + suc (length rest))) (sym (fails b rest at d z q)) (low, high, omega arith)
    one false none z q next =
        subst (RefusalWithin 8 (at + suc (length rest))) (sym (goes b rest at d z q))
        (within_more 8 (at + suc (length rest)) (omega arith) (omega arith) (read_from rest (pred c.width) (suc at) c.after) next)

within-length : (s : List ℕ) → RefusalWithin 8 (length s) (decode s)
unfolding decode
within-length s =
    within-and_then 8 (length s) (read_from s 0 0 nothing) (inhabited (length s))
    (within_more 8 (length s) (omega arith) (omega arith) (read_from s 0 0 nothing) (reading-within s 0 0 nothing))
    (λ d e. within-cond 8 (length s) (eqb (length d.clouds) 0 || eqb (length d.blocks) 0) (refused 8 (length s)) (ok d)
    (λ _. (omega arith, omega arith, omega arith)) (λ _. tt))

pub decode-within : (s : List ℕ) → RefusalWithin 8 deciding_bytes (decode s)
decode-within s =
    let front = take deciding_bytes s in
    subst (RefusalWithin 8 deciding_bytes) (front-decides s deciding_bytes (omega arith))
    (within_more 8 deciding_bytes (omega arith) (omega (arith, length-take deciding_bytes s)) (decode front) (within-length front))
