-- Lists that ascend: made by `++`, by a map, by a test, by counting; and each element occurs in them once.
use Prim.Native.Nat.{ℕ, zero, suc}
use mathlib.Core.Path.{◌≡◌, refl, sym, ◌∙◌}
use mathlib.Core.Logic.{inl, inr}
use mathlib.Core.Bool.{Bool, true, false, true≢false}
use mathlib.Core.List.{List, [], ◌∷◌, ◌++◌, map}
use mathlib.Core.List.Memᴰ
use mathlib.Core.List.{Memᴰ}
use lib.Dec.{ltb}
use borrow.Author.Tests.{lt-ltb}
use Rattle.sequences.specs.Ascending.{Ascending, Once}
use Rattle.sequences.specs.Lists.{keep, from}
use Rattle.sequences.proofs.Tests.{cond_ind}
use Rattle.sequences.proofs.Members.{keep-members, from-members}

module _ {A : Type 0} (test : A → A → Bool) where
  pub append-ascends : (xs ys : List A) → Ascending test xs → Ascending test ys
      → ((x y : A) → Memᴰ x xs → Memᴰ y ys → test x y ≡ true) → Ascending test (xs ++ ys)
  append-ascends [] ys p q h = q
  append-ascends (x ∷ xs) ys p q h = (
    λ y m. elim (Memᴰ.append_cases xs m) [ inl k ↦ p.0 y k | inr k ↦ h x y (Memᴰ.head refl) k ],
    append-ascends xs ys p.1 q (λ z y k. h z y (Memᴰ.tail k)),
  )

  -- what a test keeps of a list that ascends
  pub keep-ascends : (kept : A → Bool) (xs : List A) → Ascending test xs → Ascending test (keep kept xs)
  keep-ascends kept [] p = tt
  keep-ascends kept (x ∷ xs) p = cond_ind (Ascending test) (kept x) (x ∷ keep kept xs) (keep kept xs)
      (λ _. (λ y m. p.0 y ((keep-members kept xs y).0 m).0, keep-ascends kept xs p.1))
      (λ _. keep-ascends kept xs p.1)

  -- if no element is before itself, each occurs once in a list that ascends
  pub ascending-once : ((x : A) → test x x ≡ false) → (xs : List A) → Ascending test xs → Once xs
  ascending-once irreflexive [] p = tt
  ascending-once irreflexive (x ∷ xs) p =
      (λ m. true≢false (sym (p.0 x m) ∙ irreflexive x), ascending-once irreflexive xs p.1)

-- a map that keeps the order makes a list that ascends of one that does
pub map-ascends : {A B : Type 0} (test : A → A → Bool) (test' : B → B → Bool) (f : A → B)
    → ((x y : A) → test x y ≡ true → test' (f x) (f y) ≡ true) → (xs : List A) → Ascending test xs → Ascending test' (map f xs)
map-ascends test test' f keeps [] p = tt
map-ascends test test' f keeps (x ∷ xs) p = (
  λ y m. let (z, k, e) = Memᴰ.of_map f xs m in rw (← e) (keeps x z (p.0 z k)),
  map-ascends test test' f keeps xs p.1,
)

-- what a test keeps of a list without repetitions
pub keep-once : {A : Type 0} (kept : A → Bool) (xs : List A) → Once xs → Once (keep kept xs)
keep-once kept [] o = tt
keep-once kept (x ∷ xs) o = cond_ind Once (kept x) (x ∷ keep kept xs) (keep kept xs)
    (λ _. (λ m. o.0 ((keep-members kept xs x).0 m).0, keep-once kept xs o.1))
    (λ _. keep-once kept xs o.1)

-- and the image of such a list under an injective map
pub map-once : {A B : Type 0} (f : A → B) → ((x y : A) → f x ≡ f y → x ≡ y) → (xs : List A) → Once xs → Once (map f xs)
map-once f apart [] o = tt
map-once f apart (x ∷ xs) o = (
  λ m. let (z, k, e) = Memᴰ.of_map f xs m in o.0 (Memᴰ.cast (apart x z (sym e)) k),
  map-once f apart xs o.1,
)

-- counting ascends
pub from-ascends : (k n : ℕ) → Ascending ltb (from k n)
from-ascends k zero = tt
from-ascends k (suc n) = (λ y m. lt-ltb k y ((from-members (suc k) n y).0 m).0, from-ascends (suc k) n)
