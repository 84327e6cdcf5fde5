-- A text broke off if a part of it did, after the parts before it were written.
use Rattle.std.proofs.Common.{◌∙◌, ◌+◌, ◌++◌, ℕ, List, [], Option, arith, ap, subst, sym, length, take, length-append, append-nil}
use Rattle.std.proofs.lemmas.List.{take-append-le}
use Rattle.std.proofs.Math.Seq.{take-append-add}
use Rattle.std.specs.Io.KnownBytes.{Appends}
use Rattle.std.proofs.KnownBytes.{Appends-nil, Appends-trans}
use Rattle.standard_input.specs.Failures.{BreaksOff, Grows}

pub broken_behind : (a b c : Option (List ℕ)) (front part rest : List ℕ) → Appends a b front → BreaksOff b c part → BreaksOff a c (front ++ (part ++ rest))
broken_behind a b c front part rest written (n, short, more) = (
  length front + n,
  omega (arith, length-append front (part ++ rest), length-append part rest),
  subst (Appends a c)
      (sym (take-append-add front (part ++ rest) n ∙ ap (λ l. front ++ l) (take-append-le n part rest (omega arith))))
      (Appends-trans a b c front (take n part) written more),
)

-- a text broke off if its front did
pub broken_within : (a b : Option (List ℕ)) (front rest : List ℕ) → BreaksOff a b front → BreaksOff a b (front ++ rest)
broken_within a b front rest broken = broken_behind a a b [] front rest (Appends-nil a) broken

-- or if its last part did, after the one before it was written
pub broken_last : (a b c : Option (List ℕ)) (front part : List ℕ) → Appends a b front → BreaksOff b c part → BreaksOff a c (front ++ part)
broken_last a b c front part written broken =
    subst (λ l. BreaksOff a c (front ++ l)) (append-nil part) (broken_behind a b c front part [] written broken)

-- what grows twice grows
pub grows_twice : (a b c : Option (List ℕ)) → Grows a b → Grows b c → Grows a c
grows_twice a b c (xs, first) (ys, second) = (xs ++ ys, Appends-trans a b c xs ys first second)
