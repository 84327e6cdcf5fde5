-- The tables lie one after the other: each is filled in a part of the words or bytes, which is lent full of zeros and returned with the table.
use Prim.Native.Nat.{ℕ, ◌+◌}
use mathlib.Core.Path.{◌≡◌, refl, sym, ap, ap₂, ◌∙◌}
use mathlib.Core.List.{List, [], ◌∷◌, ◌++◌, append-nil, append_assoc}
use lib.ListN.{length, take, drop, set, replicate, length-replicate, replicate-append-replicate}
use lib.Seq.{take_at, drop_at}
use Rattle.description.specs.Declarations.{Description}
use Rattle.security.specs.Masks.{masks_of}
use Rattle.table_entries.specs.Building.{own_of, terms_of, ends_of, starts_of, pairs_of, conflicts_of, words_of, bytes_of}
use Rattle.table_entries.proofs.Places.{own-size, two_size, three-size, four-size}

-- ---- a part of a list that is lent

-- the m elements from n on are now vs
abbrev pub put : (n m : ℕ) (s vs : List ℕ) → List ℕ
put n m s vs = take n s ++ (vs ++ drop m (drop n s))

module _ (xs ys zs : List ℕ) (n m : ℕ) {s : List ℕ} (all : s ≡ xs ++ (ys ++ zs)) (front : length xs ≡ n) (size : length ys ≡ m) where
  rest : drop n s ≡ ys ++ zs
  rest = ap (drop n) all ∙ drop_at xs (ys ++ zs) n front

  part-lent : take m (drop n s) ≡ ys
  part-lent = ap (take m) rest ∙ take_at ys zs m size

  part-back : {vs ws : List ℕ} → vs ≡ ws → put n m s vs ≡ xs ++ (ws ++ zs)
  part-back e = ap₂ ◌++◌ (ap (take n) all ∙ take_at xs (ys ++ zs) n front) (ap₂ ◌++◌ e (ap (drop m) rest ∙ drop_at ys zs m size))

-- zeros, and zeros in two parts
zeros : ℕ → List ℕ
zeros n = replicate n 0

zeros-size : (n : ℕ) → length (zeros n) ≡ n
unfolding zeros
zeros-size n = length-replicate {A = ℕ} n 0

zeros-split : (m n : ℕ) → zeros (m + n) ≡ zeros m ++ zeros n
unfolding zeros
zeros-split m n = sym (replicate-append-replicate {A = ℕ} m n 0)

-- a part that is lent full of zeros, and the whole after it was returned with a table
module _ (xs zs : List ℕ) (n m : ℕ) {s : List ℕ} (all : s ≡ xs ++ (zeros m ++ zs)) (front : length xs ≡ n) where
  zeros-lent : take m (drop n s) ≡ replicate m 0
  unfolding zeros
  zeros-lent = part-lent xs (zeros m) zs n m all front (zeros-size m)

  table-back : {vs ws : List ℕ} → vs ≡ ws → put n m s vs ≡ xs ++ (ws ++ zs)
  table-back e = part-back xs (zeros m) zs n m all front (zeros-size m) e

-- ---- the words: what each block adds, and then the terms

module _ (d : Description) {s : List ℕ} (lent : s ≡ replicate 2176 0) where
  words-first : s ≡ [] ++ (zeros 128 ++ zeros 2048)
  unfolding zeros
  words-first = lent ∙ zeros-split 128 2048

  module _ {own : List ℕ} (o : own ≡ own_of d) where
    words-second : put 0 128 s own ≡ own_of d ++ (zeros 2048 ++ [])
    words-second = table-back [] (zeros 2048) 0 128 words-first refl o ∙ ap (λ (l : List ℕ). own_of d ++ l) (sym (append-nil (zeros 2048)))

    pub terms-lent : take 2048 (drop 128 (put 0 128 s own)) ≡ replicate 2048 0
    terms-lent = zeros-lent (own_of d) [] 128 2048 words-second (own-size d)

    pub words-laid : {terms : List ℕ} → terms ≡ terms_of d → put 128 2048 (put 0 128 s own) terms ≡ words_of d
    words-laid t = table-back (own_of d) [] 128 2048 words-second (own-size d) t ∙ ap (λ (l : List ℕ). own_of d ++ l) (append-nil (terms_of d))

-- ---- the conflicts: their number, and then the list

module _ {s : List ℕ} (lent : s ≡ replicate 137 0) (vs : List ℕ) where
  pub number-laid : (n : ℕ) → set (put 1 136 s vs) 0 n ≡ n ∷ vs
  number-laid n = ap (λ l. set (put 1 136 l vs) 0 n) lent ∙ ap (λ l. n ∷ l) (append-nil vs)

-- ---- the bytes: the starts, the ends in front of them, and then the masks, the pairs and the conflicts

module _ (d : Description) {s : List ℕ} (lent : s ≡ replicate 394 0) where
  bytes-first : s ≡ zeros 64 ++ (zeros 17 ++ zeros 313)
  unfolding zeros
  bytes-first = lent ∙ zeros-split 64 330 ∙ ap (λ (l : List ℕ). zeros 64 ++ l) (zeros-split 17 313)

  module _ {starts : List ℕ} (a : starts ≡ starts_of d) where
    abbrev one : List ℕ
    one = put 64 17 s starts

    bytes-second : one ≡ [] ++ (zeros 64 ++ (starts_of d ++ zeros 313))
    bytes-second = table-back (zeros 64) (zeros 313) 64 17 bytes-first (zeros-size 64) a

    module _ {ends : List ℕ} (b : ends ≡ ends_of d) where
      abbrev two : List ℕ
      two = put 0 64 one ends

      bytes-third : two ≡ ends_of d ++ starts_of d ++ (zeros 16 ++ zeros 297)
      unfolding zeros
      bytes-third =
          table-back [] (starts_of d ++ zeros 313) 0 64 bytes-second refl b ∙ sym (append_assoc (ends_of d) (starts_of d) (zeros 313)) ∙
          ap (λ (l : List ℕ). ends_of d ++ starts_of d ++ l) (zeros-split 16 297)

      module _ {masks : List ℕ} (e : masks ≡ masks_of d) where
        abbrev three : List ℕ
        three = put 81 16 two masks

        bytes-fourth : three ≡ ends_of d ++ starts_of d ++ masks_of d ++ (zeros 32 ++ zeros 265)
        unfolding zeros
        bytes-fourth =
            table-back (ends_of d ++ starts_of d) (zeros 297) 81 16 bytes-third (two_size d) e ∙
            sym (append_assoc (ends_of d ++ starts_of d) (masks_of d) (zeros 297)) ∙
            ap (λ (l : List ℕ). ends_of d ++ starts_of d ++ masks_of d ++ l) (zeros-split 32 265)

        pub pairs-lent : take 32 (drop 97 three) ≡ replicate 32 0
        pairs-lent = zeros-lent (ends_of d ++ starts_of d ++ masks_of d) (zeros 265) 97 32 bytes-fourth (three-size d)

        module _ {pairs : List ℕ} (f : pairs ≡ pairs_of d) where
          abbrev four : List ℕ
          four = put 97 32 three pairs

          bytes-fifth : four ≡ ends_of d ++ starts_of d ++ masks_of d ++ pairs_of d ++ (zeros 137 ++ zeros 128)
          unfolding zeros
          bytes-fifth =
              table-back (ends_of d ++ starts_of d ++ masks_of d) (zeros 265) 97 32 bytes-fourth (three-size d) f ∙
              sym (append_assoc (ends_of d ++ starts_of d ++ masks_of d) (pairs_of d) (zeros 265)) ∙
              ap (λ (l : List ℕ). ends_of d ++ starts_of d ++ masks_of d ++ pairs_of d ++ l) (zeros-split 137 128)

          pub conflicts-lent : take 137 (drop 129 four) ≡ replicate 137 0
          conflicts-lent = zeros-lent (ends_of d ++ starts_of d ++ masks_of d ++ pairs_of d) (zeros 128) 129 137 bytes-fifth (four-size d)

          pub bytes-laid : {conflicts : List ℕ} → conflicts ≡ conflicts_of d → put 129 137 four conflicts ≡ bytes_of d (replicate 128 0)
          unfolding zeros
          bytes-laid g =
              table-back (ends_of d ++ starts_of d ++ masks_of d ++ pairs_of d) (zeros 128) 129 137 bytes-fifth (four-size d) g ∙
              sym (append_assoc (ends_of d ++ starts_of d ++ masks_of d ++ pairs_of d) (conflicts_of d) (zeros 128))
