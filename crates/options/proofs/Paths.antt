-- The path of what stands on cloud o, with one writer on a and one reader on s: a, o and s without repetitions. It is the same on two
-- clouds only if these are a and s. From either end the two edges carry at the same cost, and leave a copy on the other end.
use Prim.Native.Nat.{ℕ, ◌+◌}
use native.Mathlib.Decide.{ℕ_discrete}
use native.Mathlib.Omega.{arith}
use mathlib.Core.Path.{◌≡◌, refl, sym, ap, ◌∙◌}
use mathlib.Core.Logic.{◌⊎◌, inl, inr}
use mathlib.Core.Bool.{cond}
use mathlib.Core.List.{List, [], ◌∷◌, ◌++◌}
use mathlib.Core.Option.{some, some-ne-none}
use lib.Dec.{eqb}
use lib.ListN.{length}
use borrow.Author.Tests.{eq-eqb, ne_eqb}
use Rattle.sequences.specs.Lists.{other_end}
use Rattle.sequences.proofs.Equality.{snoc-same}

-- a cloud, if it isn't o
abbrev pub beside : ℕ → ℕ → List ℕ
beside o a = cond (eqb a o) [] (a ∷ [])

-- the path: the stem followed by its one branch
abbrev pub path : (a s o : ℕ) → List ℕ
path a s o = (beside o a ++ (o ∷ [])) ++ beside o s

-- the other of the two ends
other-end : (a s b k : ℕ) → other_end a s b ≡ some k → (a ≡ s → ⊥) × (((b ≡ a) × (k ≡ s)) ⊎ ((b ≡ s) × (k ≡ a)))
other-end a s b k e = go (ℕ_discrete a s) (ℕ_discrete b a) (ℕ_discrete b s)
  where
    go : Dec (a ≡ s) → Dec (b ≡ a) → Dec (b ≡ s) → (a ≡ s → ⊥) × (((b ≡ a) × (k ≡ s)) ⊎ ((b ≡ s) × (k ≡ a)))
    go (yes same) ba bs = absurd (some-ne-none k (sym e ∙ (rw (eq-eqb a s same) refl)))
    go (no apart) (yes ba) bs = let f : some s ≡ some k = rw (ne_eqb a s apart, eq-eqb b a ba) at e in (apart, inl (ba, (cc)))
    go (no apart) (no ba) (yes bs) = let f : some a ≡ some k = rw (ne_eqb a s apart, ne_eqb b a ba, eq-eqb b s bs) at e in (apart, inr (bs, (cc)))
    go (no apart) (no ba) (no bs) = absurd (some-ne-none k (sym e ∙ (rw (ne_eqb a s apart, ne_eqb b a ba, ne_eqb b s bs) refl)))

-- it is another cloud
pub end-apart : (a s b k : ℕ) → other_end a s b ≡ some k → b ≡ k → ⊥
end-apart a s b k e same = let (apart, ends) = other-end a s b k e in elim ends [
  | inl (ba, ks) ↦ apart (sym ba ∙ same ∙ ks)
  | inr (bs, ka) ↦ apart (sym ka ∙ sym same ∙ bs)
]

-- what is the same on both ends is the same on b and k
ends-agree : {A : Type 0} (f : ℕ → A) (a s b k : ℕ) → ((a ≡ s → ⊥) → f s ≡ f a) → other_end a s b ≡ some k → f k ≡ f b
ends-agree f a s b k same e = let (apart, ends) = other-end a s b k e in elim ends [
  | inl (ba, ks) ↦ rw (ba, ks) (same apart)
  | inr (bs, ka) ↦ rw (bs, ka) (sym (same apart))
]

-- on both ends the path is the same
pub end-paths : (a s b k : ℕ) → other_end a s b ≡ some k → path a s k ≡ path a s b
end-paths a s b k = ends-agree (path a s) a s b k turned
  where
    turned : (a ≡ s → ⊥) → path a s s ≡ path a s a
    turned apart = rw (ne_eqb a s apart, ne_eqb s a (λ z. apart (sym z)), eq-eqb s s refl, eq-eqb a a refl) refl

-- and on no other two clouds
pub path-ends : (a s b k : ℕ) → (b ≡ k → ⊥) → path a s k ≡ path a s b → other_end a s b ≡ some k
path-ends a s b k f e = go (ℕ_discrete s k) (ℕ_discrete s b) (ℕ_discrete a k) (ℕ_discrete a b)
  where
    sizes : length (path a s k) ≡ length (path a s b)
    sizes = ap length e

    go : Dec (s ≡ k) → Dec (s ≡ b) → Dec (a ≡ k) → Dec (a ≡ b) → other_end a s b ≡ some k
    go (yes sk) (yes sb) ak ab = absurd (f (sym sb ∙ sk))
    go (no sk) (no sb) ak ab =
        let longer : (beside k a ++ (k ∷ [])) ++ (s ∷ []) ≡ (beside b a ++ (b ∷ [])) ++ (s ∷ []) = rw (ne_eqb s k sk, ne_eqb s b sb) at e in
        let stems = (snoc-same (beside k a ++ (k ∷ [])) (beside b a ++ (b ∷ [])) s s longer).0 in
        absurd (f (sym (snoc-same (beside k a) (beside b a) k b stems).1))
    go (no sk) (yes sb) (yes ak) ab = rw (ne_eqb a s (λ z. f (sym sb ∙ sym z ∙ ak)), ne_eqb b a (λ z. f (z ∙ ak)), eq-eqb b s (sym sb)) (ap some ak)
    go (no sk) (yes sb) (no ak) (yes ab) = let z = rw (ne_eqb s k sk, eq-eqb s b sb, ne_eqb a k ak, eq-eqb a b ab) at sizes in absurd (omega arith)
    go (no sk) (yes sb) (no ak) (no ab) = let z = rw (ne_eqb s k sk, eq-eqb s b sb, ne_eqb a k ak, ne_eqb a b ab) at sizes in absurd (omega arith)
    go (yes sk) (no sb) ak (yes ab) = rw (ne_eqb a s (λ z. sb (sym z ∙ ab)), eq-eqb b a (sym ab)) (ap some sk)
    go (yes sk) (no sb) (yes ak) (no ab) = let z = rw (eq-eqb s k sk, ne_eqb s b sb, eq-eqb a k ak, ne_eqb a b ab) at sizes in absurd (omega arith)
    go (yes sk) (no sb) (no ak) (no ab) = let z = rw (eq-eqb s k sk, ne_eqb s b sb, ne_eqb a k ak, ne_eqb a b ab) at sizes in absurd (omega arith)

-- on either end there is one transfer from the writer's cloud to the reader's, whatever it costs, and one copy, on the other end
module _ (carry : ℕ → ℕ → ℕ) (copy : ℕ → ℕ) where
  abbrev pub carried : (a s o : ℕ) → ℕ
  carried a s o = cond (eqb a o) 0 (carry a o + copy a) + cond (eqb s o) 0 (carry o s + copy s)

  -- if it stands with the writer; if it stands with the reader
  with-writer : (a s : ℕ) → (a ≡ s → ⊥) → carried a s a ≡ carry a s + copy s
  with-writer a s apart = rw (eq-eqb a a refl, ne_eqb s a (λ z. apart (sym z))) (omega arith)

  with-reader : (a s : ℕ) → (a ≡ s → ⊥) → carried a s s ≡ carry a s + copy a
  with-reader a s apart = rw (ne_eqb a s apart, eq-eqb s s refl) (omega arith)

  pub end-carried : (a s b k : ℕ) → other_end a s b ≡ some k → (carried a s b ≡ carry a s + copy k) × (carried a s k ≡ carry a s + copy b)
  end-carried a s b k e = let (apart, ends) = other-end a s b k e in elim ends [
    | inl (ba, ks) ↦ rw (ba, ks) (with-writer a s apart, with-reader a s apart)
    | inr (bs, ka) ↦ rw (bs, ka) (with-reader a s apart, with-writer a s apart)
  ]
