-- The entries of a description's tables, which lie one after the other.
use Prim.Native.Nat.{ℕ, zero, suc, ◌+◌, ◌<◌}
use native.Mathlib.Omega.{arith}
use mathlib.Core.Path.{◌≡◌, sym, ap, ◌∙◌}
use mathlib.Core.List.{List, [], ◌∷◌, ◌++◌}
use lib.ListN.{length, get_or, take, drop, length-append, get_or-append}
use lib.Seq.{get_or-append-add, take_at, drop_at}
use Rattle.description.specs.Declarations.{Description}
use Rattle.security.specs.Masks.{masks_of}
use Rattle.security.proofs.PermittedClouds.{masks-size}
use Rattle.table_entries.specs.Building.{own_of, terms_of, ends_of, starts_of, pairs_of, conflicts_of, words_of, bytes_of}
use Rattle.sequences.proofs.Filling.{length-table}

-- ---- two lists

pub in-front : (xs ys : List ℕ) (n i : ℕ) → length xs ≡ n → i < n → get_or (xs ++ ys) i 0 ≡ get_or xs i 0
in-front xs ys n i e h = get_or-append xs ys 0 i (omega (arith, e))

pub behind : (xs ys : List ℕ) (n i : ℕ) → length xs ≡ n → get_or (xs ++ ys) (n + i) 0 ≡ get_or ys i 0
behind xs ys n i e = ap (λ (m : ℕ). get_or (xs ++ ys) (m + i) 0) (sym e) ∙ get_or-append-add xs ys i 0

-- what holds of each element of both
pub on_both : (P : ℕ → Type 0) (xs ys : List ℕ) → ((i : ℕ) → P (get_or xs i 0)) → ((i : ℕ) → P (get_or ys i 0)) → (i : ℕ) → P (get_or (xs ++ ys) i 0)
on_both P [] ys f g i = g i
on_both P (x ∷ xs) ys f g zero = f 0
on_both P (x ∷ xs) ys f g (suc i) = on_both P xs ys (λ j. f (suc j)) g i

-- ---- the tables of a description

module _ (d : Description) where
  pub own-size : length (own_of d) ≡ 128
  unfolding own_of
  own-size = length-table 128 _

  ends-size : length (ends_of d) ≡ 64
  unfolding ends_of
  ends-size = length-table 64 _

  starts-size : length (starts_of d) ≡ 17
  unfolding starts_of
  starts-size = length-table 17 _

  pairs-size : length (pairs_of d) ≡ 32
  unfolding pairs_of
  pairs-size = length-table 32 _

  conflicts-size : length (conflicts_of d) ≡ 137
  unfolding conflicts_of
  conflicts-size = ap suc (length-table 136 _)

  -- the first two, three, four and five tables of bytes
  pub two_size : length (ends_of d ++ starts_of d) ≡ 81
  two_size = omega (arith, length-append (ends_of d) (starts_of d), ends-size, starts-size)

  pub three-size : length (ends_of d ++ starts_of d ++ masks_of d) ≡ 97
  three-size = omega (arith, length-append (ends_of d ++ starts_of d) (masks_of d), two_size, masks-size d)

  pub four-size : length (ends_of d ++ starts_of d ++ masks_of d ++ pairs_of d) ≡ 129
  four-size = omega (arith, length-append (ends_of d ++ starts_of d ++ masks_of d) (pairs_of d), three-size, pairs-size)

  five-size : length (ends_of d ++ starts_of d ++ masks_of d ++ pairs_of d ++ conflicts_of d) ≡ 266
  five-size = omega (arith, length-append (ends_of d ++ starts_of d ++ masks_of d ++ pairs_of d) (conflicts_of d), four-size, conflicts-size)

  -- in the words
  pub own_in : (i : ℕ) → i < 128 → get_or (words_of d) i 0 ≡ get_or (own_of d) i 0
  own_in i h = in-front (own_of d) (terms_of d) 128 i own-size h

  pub term_in : (i : ℕ) → get_or (words_of d) (128 + i) 0 ≡ get_or (terms_of d) i 0
  term_in i = behind (own_of d) (terms_of d) 128 i own-size

  -- in the bytes, whatever lies after the first five
  module _ (last : List ℕ) where
    in-five : (i : ℕ) → i < 266 → get_or (bytes_of d last) i 0 ≡ get_or (ends_of d ++ starts_of d ++ masks_of d ++ pairs_of d ++ conflicts_of d) i 0
    in-five i h = in-front (ends_of d ++ starts_of d ++ masks_of d ++ pairs_of d ++ conflicts_of d) last 266 i five-size h

    in_four : (i : ℕ) → i < 129 → get_or (bytes_of d last) i 0 ≡ get_or (ends_of d ++ starts_of d ++ masks_of d ++ pairs_of d) i 0
    in_four i h = in-five i (omega arith) ∙ in-front (ends_of d ++ starts_of d ++ masks_of d ++ pairs_of d) (conflicts_of d) 129 i four-size h

    in_three : (i : ℕ) → i < 97 → get_or (bytes_of d last) i 0 ≡ get_or (ends_of d ++ starts_of d ++ masks_of d) i 0
    in_three i h = in_four i (omega arith) ∙ in-front (ends_of d ++ starts_of d ++ masks_of d) (pairs_of d) 97 i three-size h

    in_two : (i : ℕ) → i < 81 → get_or (bytes_of d last) i 0 ≡ get_or (ends_of d ++ starts_of d) i 0
    in_two i h = in_three i (omega arith) ∙ in-front (ends_of d ++ starts_of d) (masks_of d) 81 i two_size h

    pub end-in : (i : ℕ) → i < 64 → get_or (bytes_of d last) i 0 ≡ get_or (ends_of d) i 0
    end-in i h = in_two i (omega arith) ∙ in-front (ends_of d) (starts_of d) 64 i ends-size h

    pub start-in : (k : ℕ) → k < 17 → get_or (bytes_of d last) (64 + k) 0 ≡ get_or (starts_of d) k 0
    start-in k h = in_two (64 + k) (omega arith) ∙ behind (ends_of d) (starts_of d) 64 k ends-size

    pub mask-in : (b : ℕ) → b < 16 → get_or (bytes_of d last) (81 + b) 0 ≡ get_or (masks_of d) b 0
    mask-in b h = in_three (81 + b) (omega arith) ∙ behind (ends_of d ++ starts_of d) (masks_of d) 81 b two_size

    pub pair-in : (i : ℕ) → i < 32 → get_or (bytes_of d last) (97 + i) 0 ≡ get_or (pairs_of d) i 0
    pair-in i h = in_four (97 + i) (omega arith) ∙ behind (ends_of d ++ starts_of d ++ masks_of d) (pairs_of d) 97 i three-size

    pub conflict-in : (i : ℕ) → i < 137 → get_or (bytes_of d last) (129 + i) 0 ≡ get_or (conflicts_of d) i 0
    conflict-in i h = in-five (129 + i) (omega arith) ∙ behind (ends_of d ++ starts_of d ++ masks_of d ++ pairs_of d) (conflicts_of d) 129 i four-size

    pub last-in : (i : ℕ) → get_or (bytes_of d last) (266 + i) 0 ≡ get_or last i 0
    last-in i = behind (ends_of d ++ starts_of d ++ masks_of d ++ pairs_of d ++ conflicts_of d) last 266 i five-size

    pub last-part : drop 266 (bytes_of d last) ≡ last
    last-part = drop_at (ends_of d ++ starts_of d ++ masks_of d ++ pairs_of d ++ conflicts_of d) last 266 five-size

    -- with another table after them
    pub other_last : (new : List ℕ) → take 266 (bytes_of d last) ++ new ≡ bytes_of d new
    other_last new = ap (λ (l : List ℕ). l ++ new) (take_at (ends_of d ++ starts_of d ++ masks_of d ++ pairs_of d ++ conflicts_of d) last 266 five-size)
