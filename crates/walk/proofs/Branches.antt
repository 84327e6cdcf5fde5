-- The placements below a prefix, by the cloud of the next block.
use Prim.Native.Nat.{ℕ, suc}
use native.Mathlib.Omega.{arith}
use mathlib.Core.Path.{◌≡◌, refl, sym, ap, ap₂, ◌∙◌}
use mathlib.Core.List.{List, [], ◌∷◌, ◌++◌, map, map-append, append_assoc, append-nil}
use lib.ListN.{length, length-append}
use Rattle.sequences.specs.Bits.{set_bits}
use Rattle.sequences.specs.Lists.{prefixed, sequences}
use Rattle.visit.specs.Tables.{mask}
use Rattle.visit.specs.declared.tables.Tables.{Tables}
use Rattle.visit.specs.Lent.{table_in}
use Rattle.walk.specs.Turning.{choices, completions, branches}

module _ {A : Type 0} where
  prefixed-append : (rest : List (List A)) (xs ys : List A) → prefixed rest (xs ++ ys) ≡ prefixed rest xs ++ prefixed rest ys
  prefixed-append rest [] ys = refl
  prefixed-append rest (x ∷ xs) ys =
      ap (λ l. map (λ p. x ∷ p) rest ++ l) (prefixed-append rest xs ys) ∙ sym (append_assoc (map (λ p. x ∷ p) rest) (prefixed rest xs) (prefixed rest ys))

  -- the lists with c in front, after q
  behind : (q : List A) (c : A) (rest : List (List A)) → map (λ p. q ++ p) (map (λ p. c ∷ p) rest ++ []) ≡ map (λ p. (q ++ (c ∷ [])) ++ p) rest
  behind q c [] = refl
  behind q c (r ∷ rest) = ap₂ ◌∷◌ (sym (append_assoc q (c ∷ []) r)) (behind q c rest)

module _ (S : Tables) (n : ℕ) (q : List ℕ) where
  -- one more cloud
  pub branches-more : (done : List ℕ) (c : ℕ) → branches S n q (done ++ (c ∷ [])) ≡ branches S n q done ++ branches S n q (c ∷ [])
  unfolding branches
  branches-more done c =
      let rest = sequences (choices S (suc (length q)) n) in
      ap (map (λ p. q ++ p)) (prefixed-append rest done (c ∷ [])) ∙ map-append (λ p. q ++ p) (prefixed rest done) (prefixed rest (c ∷ []))

  -- the clouds whose bits are set in the next block's mask are all
  pub branches-all : branches S n q (set_bits (mask (table_in S) (length q))) ≡ completions S (suc n) q
  unfolding branches completions
  branches-all = refl

  pub branch-open : (c : ℕ) → branches S n q (c ∷ []) ≡ completions S n (q ++ (c ∷ []))
  unfolding branches completions
  branch-open c =
      let l : length (q ++ (c ∷ [])) ≡ suc (length q) = length-append q (c ∷ []) ∙ (omega arith) in
      rw l (behind q c (sequences (choices S (suc (length q)) n)))

map_same : (xs : List (List ℕ)) → map (λ p. [] ++ p) xs ≡ xs
map_same [] = refl
map_same (x ∷ xs) = ap (λ l. x ∷ l) (map_same xs)

-- below the empty prefix they are all sequences of choices
pub completions-all : (S : Tables) (n : ℕ) → completions S n [] ≡ sequences (choices S 0 n)
unfolding completions
completions-all S n = map_same (sequences (choices S 0 n))

pub completions-none : (S : Tables) (q : List ℕ) → completions S 0 q ≡ q ∷ []
unfolding completions
completions-none S q = ap (λ p. p ∷ []) (append-nil q)
