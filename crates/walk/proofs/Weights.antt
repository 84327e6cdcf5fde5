-- The weight of the blocks so far, when one more block gets its cloud: its own term, then the edges that end at it, one at a time.
use Prim.Native.Nat.{ℕ, suc, ◌+◌, ◌-◌, ◌*◌, ◌/◌, ◌%◌, ◌^◌, ◌≤◌, ◌<◌}
use native.Mathlib.Numerals.{add-one}
use native.Mathlib.Omega.{arith}
use mathlib.Core.Path.{◌≡◌, sym, ap, ap₂, ◌∙◌}
use mathlib.Core.List.{List, [], ◌∷◌, ◌++◌, map}
use lib.ListN.{length, get_or, get_or-append}
use lib.Seq.{get_or_at}
use Rattle.sequences.specs.Lists.{below, sum}
use Rattle.packing.specs.Packing.{digits}
use Rattle.weights.specs.Weights.{term_limit}
use Rattle.visit.specs.Tables.{Tables, terms_from, own, term, end, far_end, own_term, edge_term, start, weight, Ready}
use Rattle.visit.proofs.Defined.{weight-of}
use Rattle.packing.proofs.Digits.{digits-length, digits-snoc, digit-below}
use Rattle.walk.proofs.Sums.{sum-next, sum-below-most, sum_same}

-- the terms of the first k blocks and the first e edges
unfoldable pub part : Tables → (k e : ℕ) → List ℕ → ℕ
part t k e q = sum (map (own_term t q) (below k)) + sum (map (edge_term t q) (below e))

module _ (t : Tables) where
  pub part-weight : (k : ℕ) (q : List ℕ) → weight t k q ≡ part t k (start t k) q
  unfolding part
  part-weight k q = weight-of t k q

  -- an edge's term
  pub part_edge : (k e : ℕ) (q : List ℕ) → part t k (suc e) q ≡ part t k e q + edge_term t q e
  unfolding part
  part_edge k e q = omega (arith, sum-next (edge_term t q) e)

  -- the block's own term
  part-own : (k e c : ℕ) (q : List ℕ) → length q ≡ k → part t (suc k) e (q ++ (c ∷ [])) ≡ part t k e (q ++ (c ∷ [])) + own t (k * 8 + c)
  unfolding part
  part-own k e c q l =
      let added : own t (k * 8 + get_or (q ++ (c ∷ [])) k 0) ≡ own t (k * 8 + c) = ap (λ x. own t (k * 8 + x)) (get_or_at q c [] 0 k l) in
      omega (arith, sum-next (own_term t (q ++ (c ∷ []))) k)

  module _ (n : ℕ) (r : Ready t n) where
    pub part_small : (k e : ℕ) (q : List ℕ) → part t k e q ≤ k * term_limit + e * term_limit
    unfolding part
    part_small k e q = omega (
      arith,
      sum-below-most (own_term t q) term_limit k (λ i. omega (arith, r.small (i * 8 + get_or q i 0))),
      sum-below-most (edge_term t q) term_limit e
          (λ i. omega (arith, r.small (terms_from + (i * 64 + get_or q (end t (2 * i)) 0 * 8 + get_or q (far_end t i) 0)))),
    )

    pub weight-small : (k : ℕ) (q : List ℕ) → k ≤ n → weight t k q ≤ 48 * term_limit
    weight-small k q h = omega (arith, part-weight k q, part_small k (start t k) q, r.all k h, r.few)

    -- one more cloud at the end changes no term of the blocks and the edges before it
    part-kept : (k c : ℕ) (q : List ℕ) → k ≤ n → length q ≡ k → part t k (start t k) (q ++ (c ∷ [])) ≡ part t k (start t k) q
    unfolding part
    part-kept k c q h l =
        let old : (i : ℕ) → i < k → get_or (q ++ (c ∷ [])) i 0 ≡ get_or q i 0 = λ i j. get_or-append q (c ∷ []) 0 i (omega arith) in
        ap₂ ◌+◌
        (sum_same (own_term t (q ++ (c ∷ []))) (own_term t q) k (λ i j. ap (λ x. own t (i * 8 + x)) (old i j)))
        (sum_same (edge_term t (q ++ (c ∷ []))) (edge_term t q) (start t k)
        (λ e j. let b = r.earlier k e h j in
        ap₂ (λ x y. term t (e * 64 + x * 8 + y)) (old (end t (2 * e)) b.0) (old (far_end t e) (omega (arith, b.0)))))

    -- the later end of an edge between start k and start (k + 1), its other end, and the shift from the one to the other
    pub ends_at : (k e : ℕ) → k < n → start t k ≤ e → e < start t (k + 1)
        → (end t (2 * e) ≡ k) × (far_end t e ≤ k) × (end t (2 * e + 1) ≡ 3 * (k - far_end t e))
    ends_at k e h l u =
        let a = r.later k e h l u in
        (a, omega (arith, a), omega (arith, a, (r.earlier (k + 1) e (omega arith) u).1))

    -- block k on cloud c as well, before its edges
    pub part-next : (k c place : ℕ) → k < n → c < 8
        → weight t k (digits k place) + own t (k * 8 + c) ≡ part t (k + 1) (start t k) (digits (k + 1) (place * 8 + c))
    part-next k c place h d =
        let q = digits k place in
        let size = digits-length k place in
        rw (add-one k, digits-snoc k place c d) (omega (arith, part-weight k q, part-kept k c q (omega arith) size, part-own k (start t k) c q size))

    -- the term of an edge, as the walk reads it
    pub edge-next : (k e c place : ℕ) → k < n → c < 8 → start t k ≤ e → e < start t (k + 1)
        → term t (e * 64 + c * 8 + (place * 8 + c) / 2 ^ (end t (2 * e + 1)) % 8)
        ≡ edge_term t (digits (k + 1) (place * 8 + c)) e
    edge-next k e c place h d l u =
        let en = ends_at k e h l u in
        let late : get_or (digits (k + 1) (place * 8 + c)) (end t (2 * e)) 0 ≡ c =
        rw (en.0, add-one k, digits-snoc k place c d) (get_or_at (digits k place) c [] 0 k (digits-length k place)) in
        let soon : get_or (digits (k + 1) (place * 8 + c)) (far_end t e) 0 ≡ (place * 8 + c) / 2 ^ (end t (2 * e + 1)) % 8 =
        rw (add-one k) (digit-below k (far_end t e) (place * 8 + c) (omega (arith, en.1))) ∙ ap (λ x. (place * 8 + c) / 2 ^ x % 8) (sym en.2) in
        ap₂ (λ x y. term t (e * 64 + x * 8 + y)) (sym late) (sym soon)
