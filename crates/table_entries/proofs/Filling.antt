-- Arrays that a loop fills: entry by entry, in rows of eight, or from the front with the elements of a list that grows.
use Prim.Native.Nat.{ℕ, ◌+◌, ◌-◌, ◌*◌, ◌≤◌, ◌<◌}
use native.Mathlib.Decide.{dec_lt, ℕ_discrete}
use native.Mathlib.Omega.{arith}
use mathlib.Core.Path.{◌≡◌, refl, sym, ◌∙◌}
use mathlib.Core.List.{List, [], ◌∷◌, ◌++◌}
use lib.ListN.{length, get_or, set, replicate, length-set, length-replicate, length-append, get_or-append, get_or-eq_default}
use lib.Seq.{get_or-append_seam, get_or-set_same, get_or-set_other, ext_get_or}
use Rattle.sequences.specs.Arrays.{table}
use Rattle.sequences.proofs.Filling.{Filled, length-table, get_or-table}
use Rattle.sequences.proofs.Indexing.{zeros-at}
use Rattle.table_entries.specs.Building.{Listed, Stored}

-- entries that are stored one by one

module _ {f : ℕ → ℕ} {at : ℕ} {before : List ℕ} where
  pub stored_none : Stored f at 0 before before
  stored_none = record { size = refl; entry = λ i h. absurd (omega arith); others = λ j out. refl }

  pub stored_more : {a : List ℕ} {n k v : ℕ} → Stored f at n before a → k ≡ at + n → k < length before → v ≡ f n
      → Stored f at (n + 1) before (set a k v)
  stored_more {a} {n} {k} {v} s here low e = record {
    size = length-set a k v ∙ s.size;
    entry = λ i h. elim (ℕ_discrete i n) [
      | yes q ↦ rw (q, here) (get_or-set_same a (at + n) v 0 (omega (arith, s.size)) ∙ e)
      | no q ↦ get_or-set_other a k (at + i) v 0 (λ r. omega arith) ∙ s.entry i (omega arith)
    ];
    others = λ j out. get_or-set_other a k j v 0 (λ r. out (omega arith) (omega arith)) ∙ s.others j (λ r t. out r (omega arith));
  }

-- a row of eight: the first m are stored, and the others are 0
pub fill-row : {n : ℕ} {f g : ℕ → ℕ} {a b : List ℕ} {m : ℕ} (r : ℕ) → Filled n f a (r * 8) → Stored g (r * 8) m a b → r * 8 + 8 ≤ n
    → ((y : ℕ) → y < m → g y ≡ f (r * 8 + y)) → ((j : ℕ) → r * 8 + m ≤ j → j < r * 8 + 8 → f j ≡ 0) → m ≤ 8 → Filled n f b ((r + 1) * 8)
fill-row {f = f} {b = b} {m = m} r k row h same none few = record {
  size = row.size ∙ k.size;
  upto = omega arith;
  done = λ j l. elim (dec_lt j (r * 8)) [
    | yes p ↦ row.others j (λ a b. omega arith) ∙ k.done j p
    | no p ↦ inside j (omega arith) (omega arith)
  ];
  left = λ j l. row.others j (λ a b. omega arith) ∙ k.left j (omega arith);
}
  where
    inside : (j : ℕ) → r * 8 ≤ j → j < r * 8 + 8 → get_or b j 0 ≡ f j
    inside j l u = elim (dec_lt j (r * 8 + m)) [
      | yes p ↦
          let e : j ≡ r * 8 + (j - r * 8) = omega arith in
          rw e (row.entry (j - r * 8) (omega arith) ∙ same (j - r * 8) (omega arith))
      | no p ↦ row.others j (λ a b. p b) ∙ k.left j l ∙ sym (none j (omega arith) u)
    ]

-- an array that begins with a list

module _ {n : ℕ} where
  pub list-lent : {a : List ℕ} → a ≡ replicate n 0 → Listed n [] a 0
  list-lent e = rw e (record { size = length-replicate n 0; ends = refl; same = zeros-at n })

  module _ {l a : List ℕ} {count : ℕ} where
    -- one more element
    pub list-more : (v : ℕ) → Listed n l a count → count < n → Listed n (l ++ (v ∷ [])) (set a count v) (count + 1)
    list-more v k h = record {
      size = length-set a count v ∙ k.size;
      ends = omega (arith, k.ends, length-append l (v ∷ []));
      same = λ j. elim (ℕ_discrete j count) [
        | yes p ↦ rw p (get_or-set_same a count v 0 (omega (arith, k.size)) ∙ sym (rw k.ends (get_or-append_seam l v [] 0)))
        | no p ↦ get_or-set_other a count j v 0 p ∙ k.same j ∙ sym (beside j (λ e. p (e ∙ sym k.ends)))
      ];
    }
      where
        beside : (j : ℕ) → (j ≡ length l → ⊥) → get_or (l ++ (v ∷ [])) j 0 ≡ get_or l j 0
        beside j p = elim (dec_lt j (length l)) [
          | yes h ↦ get_or-append l (v ∷ []) 0 j h
          | no h ↦
              get_or-eq_default (l ++ (v ∷ [])) 0 {n = j} (omega (arith, length-append l (v ∷ []))) ∙
              sym (get_or-eq_default l 0 {n = j} (omega arith))
        ]

    pub list-ends : Listed n l a count → a ≡ table n (λ j. get_or l j 0)
    list-ends k =
        ext_get_or 0 a (table n (λ j. get_or l j 0)) (k.size ∙ sym (length-table n (λ j. get_or l j 0)))
        (λ j h. k.same j ∙ sym (get_or-table n (λ j. get_or l j 0) j (omega (arith, k.size))))
