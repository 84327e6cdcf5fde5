-- Tests in proofs: a test passes or fails; what holds of both branches holds of a choice; what `&&` and `||` that
-- passed or failed say of their parts.
use Prim.Native.Nat.{ℕ, zero, suc, ◌≤◌, ◌<◌}
use native.Mathlib.Nat.{le_of_suc-le-suc, not-suc-le-zero}
use native.Mathlib.Omega.{arith}
use native.Mathlib.Decide.{ℕ_discrete}
use mathlib.Core.Path.{◌≡◌, refl, sym, ◌∙◌}
use mathlib.Core.Logic.{◌↔◌, ◌⊎◌, inl, inr}
use mathlib.Core.Bool.{Bool, true, false, cond, ◌&&◌, ◌||◌, true≢false, and-eq-true_iff}
use mathlib.Core.Option.{Option, none, some}
use mathlib.Core.List.{List, [], ◌∷◌}
use lib.ListN.{length, get_or}
use lib.Dec.{leb, eqb}
use borrow.Author.Tests.{eq-eqb, ne_eqb, leb-true, leb-false}
use Rattle.sequences.specs.Lists.{any}
use Rattle.std.specs.Prelude.{Some, None}

-- what holds of each branch, if the test leads there, holds of the choice
pub cond_ind : {A : Type 0} (P : A → Type 0) (test : Bool) (x y : A) → (test ≡ true → P x) → (test ≡ false → P y) → P (cond test x y)
cond_ind P true x y f g = f refl
cond_ind P false x y f g = g refl

-- a test that does not pass fails, and the other way round
pub not-passed : (test : Bool) → (test ≡ true → ⊥) → test ≡ false
not-passed true f = absurd (f refl)
not-passed false f = refl

pub not-failed : (test : Bool) → (test ≡ false → ⊥) → test ≡ true
not-failed true f = refl
not-failed false f = absurd (f refl)

-- both pass
pub both-pass : (a b : Bool) → ((a && b) ≡ true) ↔ ((a ≡ true) × (b ≡ true))
both-pass = and-eq-true_iff

-- an `and` whose second part fails
pub and-fails : (a b : Bool) → b ≡ false → (a && b) ≡ false
and-fails true b e = e
and-fails false b e = refl

-- a choice of nothing: the test failed, and the other choice is nothing
pub cond-none : {A : Type 0} (t : Bool) (a : A) (o : Option A) → cond t (some a) o ≡ none → (t ≡ false) × (o ≡ none)
cond-none true a o e = let z : ◌≡◌ {A = ℕ} 0 1 = cc in absurd (omega arith)
cond-none false a o e = (refl, e)

-- an `or` that failed: both of its parts did
pub or-fails : (a b : Bool) → a || b ≡ false → (a ≡ false) × (b ≡ false)
or-fails true b e = absurd (true≢false e)
or-fails false b e = (refl, e)

-- an `or` that passed: one of its parts did
pub or-passes : (a b : Bool) → a || b ≡ true → (a ≡ true) ⊎ (b ≡ true)
or-passes true b e = inl refl
or-passes false b e = inr e

-- one of two passes exactly if their `or` does
pub one_passes : (a b : Bool) → (a || b ≡ true) ↔ ((a ≡ true) ⊎ (b ≡ true))
one_passes true b = (or-passes true b, λ _. refl)
one_passes false b = (or-passes false b, λ h. elim h [ inl f ↦ absurd (true≢false (sym f)) | inr t ↦ t ])

-- a test stored as a number, 1 if it passed, is read back
pub told-by-one : (b : Bool) → eqb (cond b 1 0) 1 ≡ b
told-by-one true = refl
told-by-one false = refl

-- no element passes: none at any position does
pub any-fails : {A : Type 0} (t : A → Bool) (d : A) (l : List A) → any t l ≡ false → (i : ℕ) → i < length l → t (get_or l i d) ≡ false
any-fails t d [] e i h = absurd (not-suc-le-zero h)
any-fails t d (x ∷ l) e zero h = (or-fails (t x) (any t l) e).0
any-fails t d (x ∷ l) e (suc i) h = any-fails t d l (or-fails (t x) (any t l) e).1 i (le_of_suc-le-suc h)

-- the order of the two sides of an equality test does not matter
pub eqb-turn : (m n : ℕ) → eqb m n ≡ eqb n m
eqb-turn m n = elim (ℕ_discrete m n) [
  | yes e ↦ eq-eqb m n e ∙ sym (eq-eqb n m (sym e))
  | no f ↦ ne_eqb m n f ∙ sym (ne_eqb n m (λ e. f (sym e)))
]

-- What room of a given size lacks for n: 0 if n fits, otherwise n. So if w is 0, n fits; otherwise it doesn't, and w is n.
module _ (n room w : ℕ) (e : w ≡ cond (leb n room) 0 n) where
  pub none-missing : w ≡ 0 → n ≤ room
  none-missing z = go (leb n room) refl e
    where
      go : (b : Bool) → leb n room ≡ b → w ≡ cond b 0 n → n ≤ room
      go true t f = leb-true n room t
      go false t f = omega arith

  pub some-missing : (w ≡ 0 → ⊥) → (room < n) × (w ≡ n)
  some-missing z = go (leb n room) refl e
    where
      go : (b : Bool) → leb n room ≡ b → w ≡ cond b 0 n → (room < n) × (w ≡ n)
      go true t f = absurd (z f)
      go false t f = (leb-false n room t, f)

-- the same with an option: nothing, or the n that there is no room for
module _ (n room : ℕ) (w : Rattle.std.specs.Prelude.Option ℕ) (e : w ≡ cond (leb n room) None (Some n)) where
  pub nothing-lacking : w ≡ None → n ≤ room
  nothing-lacking z = go (leb n room) refl e
    where
      go : (b : Bool) → leb n room ≡ b → w ≡ cond b None (Some n) → n ≤ room
      go true t f = leb-true n room t
      go false t f = absurd (cc)

  pub room-lacking : (m : ℕ) → w ≡ Some m → (room < n) × (m ≡ n)
  room-lacking m z = go (leb n room) refl e
    where
      go : (b : Bool) → leb n room ≡ b → w ≡ cond b None (Some n) → (room < n) × (m ≡ n)
      go true t f = absurd (cc)
      go false t f = (leb-false n room t, cc)
