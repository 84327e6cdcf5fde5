-- One more row gets its bill: its key is cleared, and its words come after those of the rows before it.
use Prim.Native.Nat.{ℕ, ◌+◌, ◌*◌, ◌≤◌}
use native.Mathlib.Omega.{arith}
use mathlib.Core.Path.{◌≡◌, refl, sym, ap, ◌∙◌}
use mathlib.Core.List.{List, [], ◌∷◌, ◌++◌, map, map-append, append-nil}
use lib.ListN.{length, get_or, take, drop, replicate, length-append, length-drop, length-replicate, replicate-append-replicate}
use lib.Seq.{sets, take-add, get_or-append-add, get_or-drop, length-take-le}
use Rattle.sequences.specs.Lists.{joined}
use Rattle.sequences.proofs.Joined.{joined-append, joined_length, stored-behind}
use Rattle.sequences.proofs.Loops.{rest}
use Rattle.description.specs.Declarations.{Description}
use Rattle.sorting.specs.Rows.{flat, pairs}
use Rattle.sorting.proofs.Rows.{flat-none, flat-more, pairs-append, pairs-flat, flat-pairs, length-flat}
use Rattle.whole_list.specs.Billing.{key_at, billed, billed_front}

-- the keys that are cleared so far
abbrev pub cleared_keys : ℕ → List ℕ → List ℕ
cleared_keys i keys = replicate (i * 2) 0 ++ drop (i * 2) keys

-- before the first row there are none
pub none-billed : (d : Description) (keys : List ℕ) → billed_front d 0 keys ≡ []
none-billed d keys = ap (λ l. joined (map (billed d) l)) (ap pairs (sym flat-none) ∙ pairs-flat [])

-- both slices keep their length
module _ (d : Description) (keys : List ℕ) (i : ℕ) (h : i * 2 ≤ length keys) where
  billed-length : length (billed_front d i keys) ≡ i * 5
  billed-length =
      let front = take (i * 2) keys in
      let size = length-take-le (i * 2) keys h in
      let words = length-flat (pairs front) in
      let all = ap length (flat-pairs front (omega arith)) in
      joined_length (billed d) 5 (λ k. refl) (pairs front) ∙ omega arith

  pub keys_length : length (cleared_keys i keys) ≡ length keys
  keys_length =
      length-append (replicate (i * 2) 0) (drop (i * 2) keys) ∙ omega (arith, length-replicate {A = ℕ} (i * 2) 0, length-drop (i * 2) keys)

  pub rows-length : (rows : List ℕ) → i * 5 ≤ length rows → length (billed_front d i keys ++ drop (i * 5) rows) ≡ length rows
  rows-length rows room = length-append (billed_front d i keys) (drop (i * 5) rows) ∙ omega (arith, billed-length, length-drop (i * 5) rows)

module _ (d : Description) (keys : List ℕ) (i : ℕ) (h : i * 2 + 2 ≤ length keys) where
  -- the next key is still there
  pub key_left : (k : ℕ) → get_or (cleared_keys i keys) (i * 2 + k) 0 ≡ get_or keys (i * 2 + k) 0
  key_left k =
      ap (λ n. get_or (cleared_keys i keys) (n + k) 0) (sym (length-replicate (i * 2) 0)) ∙
      get_or-append-add (replicate (i * 2) 0) (drop (i * 2) keys) k 0 ∙ get_or-drop (i * 2) keys k 0

  pub one-cleared : sets (cleared_keys i keys) (i * 2) (0 ∷ 0 ∷ []) ≡ cleared_keys (i + 1) keys
  one-cleared =
      let e : (i + 1) * 2 ≡ i * 2 + 2 = omega arith in
      stored-behind (replicate (i * 2) 0) (0 ∷ 0 ∷ []) keys (i * 2) (length-replicate (i * 2) 0) h ∙
      ap (λ l. l ++ drop (i * 2 + 2) keys) (replicate-append-replicate (i * 2) 2 0) ∙
      ap (λ n. replicate n 0 ++ drop n keys) (sym e)

  -- the first i + 1 rows are the first i and the next
  one-pair : pairs (take 2 (drop (i * 2) keys)) ≡ key_at keys i ∷ []
  one-pair =
      let words = rest keys 0 (i * 2) (omega arith) ∙ ap (λ l. get_or keys (i * 2) 0 ∷ l) (rest keys 0 (i * 2 + 1) (omega arith)) in
      let key = key_at keys i in
      let alone : flat (key ∷ []) ≡ key.0 ∷ key.1 ∷ [] = flat-more key [] ∙ ap (λ (l : List ℕ). key.0 ∷ key.1 ∷ l) flat-none in
      ap (λ l. pairs (take 2 l)) words ∙ ap pairs (sym alone) ∙ pairs-flat (key ∷ [])

  pub one-billed : billed_front d (i + 1) keys ≡ billed_front d i keys ++ billed d (key_at keys i)
  one-billed =
      let e : (i + 1) * 2 ≡ i * 2 + 2 = omega arith in
      let front = take (i * 2) keys in
      let size = length-take-le (i * 2) keys (omega arith) in
      ap (λ n. joined (map (billed d) (pairs (take n keys)))) e ∙
      ap (λ l. joined (map (billed d) (pairs l))) (take-add (i * 2) 2 keys) ∙
      ap (λ l. joined (map (billed d) l)) (pairs-append front (take 2 (drop (i * 2) keys)) (omega arith) ∙ ap (λ l. pairs front ++ l) one-pair) ∙
      ap joined (map-append (billed d) (pairs front) (key_at keys i ∷ [])) ∙ joined-append (map (billed d) (pairs front)) (billed d (key_at keys i) ∷ []) ∙
      ap (λ l. billed_front d i keys ++ l) (append-nil (billed d (key_at keys i)))

  pub row-behind : (rows : List ℕ) → i * 5 + 5 ≤ length rows
      → sets (billed_front d i keys ++ drop (i * 5) rows) (i * 5) (billed d (key_at keys i)) ≡ billed_front d (i + 1) keys ++ drop ((i + 1) * 5) rows
  row-behind rows room =
      let e : i * 5 + 5 ≡ (i + 1) * 5 = omega arith in
      stored-behind (billed_front d i keys) (billed d (key_at keys i)) rows (i * 5) (billed-length d keys i (omega arith)) room ∙
      ap (λ l. l ++ drop (i * 5 + 5) rows) (sym one-billed) ∙ ap (λ n. billed_front d (i + 1) keys ++ drop n rows) e
