-- The sixteen bytes of permitted clouds: they are what the rule says of each block and cloud, no other bytes are, and the choices by them
-- are the candidates.
use Prim.Native.Nat.{ℕ, ◌+◌, ◌-◌, ◌^◌, ◌≤◌, ◌<◌}
use Rattle.std.specs.Prelude.{Some, None}
use Rattle.description.specs.Declarations.{Pin}
use native.Mathlib.Nat.{zero-add}
use native.Mathlib.Decide.{dec_lt, ℕ_discrete}
use native.Mathlib.Omega.{arith}
use mathlib.Core.Path.{◌≡◌, refl, sym, ap, ap₂, ◌∙◌}
use mathlib.Core.Logic.{◌↔◌}
use mathlib.Core.Bool.{Bool, true, false, ◌&&◌, cond, and-true, and-false, false≢true}
use mathlib.Core.List.{List, [], ◌∷◌, ◌++◌, map, map-append, map-map}
use lib.Count.{ones}
use lib.Dec.{ltb, eqb, lit<}
use lib.ListN.{length, get_or, length-map, get_or-eq_default}
use lib.Seq.{ext_get_or}
use borrow.Author.Tests.{lt-ltb, le-ltb, eq-eqb, ne_eqb}
use Rattle.description.specs.Declarations.{Description, block, names_block}
use Rattle.description.specs.Invariants.{Limits}
use Rattle.security.specs.Masks.{left_by, mask_of, masks_of, Permitted, block_masks, padded, Chooses}
use Rattle.security.specs.Soundness.{block_label, pin_allows, cloud_covers, may_stand, choices_of, candidates}
use Rattle.security.specs.Statements.{Stands}
use Rattle.security.proofs.Candidates.{count-is-length, candidates-choices}
use Rattle.security.proofs.Choices.{named-stands, no-cloud, past-stands, last-choice}
use Rattle.security.proofs.Standing.{block-stands}
use Rattle.sequences.specs.Bits.{bit, bits, set_bits, bit_choices}
use Rattle.sequences.specs.Lists.{from, below, product, sequences}
use Rattle.sequences.proofs.Agreeing.{tests_agree}
use Rattle.sequences.proofs.Bits.{bit-bits, bit_past, bits_none, bits_small, bits-single, bits-same, bits-cut, same_bits}
use Rattle.sequences.proofs.Choices.{length-sequences}
use Rattle.sequences.proofs.Counting.{from-split}
use Rattle.sequences.proofs.Filling.{length-table, get_or-table, take-table, table-map}
use Rattle.sequences.proofs.Indexing.{map_below, map-constant, sequences-padded}
use Rattle.sequences.proofs.SetBits.{ones-set, set-of-bits, bit-choices-ascend, bit-choices-once}
use Rattle.sequences.proofs.Tests.{cond_ind}

module _ (d : Description) where
  -- ---- one byte

  mask-named : (b : ℕ) → b < length d.blocks → mask_of d b ≡ bits (may_stand d b) 0 8
  unfolding mask_of
  mask-named b h = simp (lt-ltb b (length d.blocks) h)

  pub mask-beyond : (b : ℕ) → length d.blocks ≤ b → mask_of d b ≡ 0
  unfolding mask_of
  mask-beyond b h = simp (le-ltb b (length d.blocks) h)

  -- by its pin: all clouds that cover its label, or one of them
  mask-by-pin : (b : ℕ) (pin : Pin) → b < length d.blocks → (block d b).pin ≡ pin
      → bits (λ k. cloud_covers d (block_label d b) k && pin_allows pin k) 0 8 ≡ mask_of d b
  mask-by-pin b pin h e =
      bits-same _ _ 0 8 (λ k _ _. ap (λ p. cloud_covers d (block_label d b) k && pin_allows p k) (sym e) ∙ sym (named-stands d b k h)) ∙ sym (mask-named b h)

  module _ (label c : ℕ) where
    abbrev pinned : ℕ → Bool
    pinned k = cloud_covers d label k && eqb c k

    pinned-alone : (k : ℕ) → (c ≡ k → ⊥) → pinned k ≡ false
    pinned-alone k n = ap (λ b. cloud_covers d label k && b) (ne_eqb c k n) ∙ and-false (cloud_covers d label k)

    pinned-none : cloud_covers d label c ≡ false → (k : ℕ) → pinned k ≡ false
    pinned-none none k = elim (ℕ_discrete c k) [
      | yes e ↦ ap (λ i. cloud_covers d label i && eqb c i) (sym e) ∙ ap (λ a. a && eqb c c) none
      | no n ↦ pinned-alone k n
    ]

    pinned-bits : c < 8 → cond (cloud_covers d label c) (2 ^ c) 0 ≡ bits pinned 0 8
    pinned-bits there = go (cloud_covers d label c) refl
      where
        go : (b : Bool) → cloud_covers d label c ≡ b → cond b (2 ^ c) 0 ≡ bits pinned 0 8
        go true covers =
            let here = ap pinned (zero-add c) ∙ ap₂ (λ a b. a && b) covers (eq-eqb c c refl) in
            sym (bits-single pinned 0 8 c there (λ k n. pinned-alone k (λ e. n (omega arith))) ∙ ap (λ (b : Bool). cond b (2 ^ c) 0) here)
        go false none = sym (sym (bits-cut pinned 0 8 (omega arith) (λ k _. pinned-none none k)) ∙ bits_none pinned 0)

    pinned-past : 8 ≤ c → bits pinned 0 8 ≡ 0
    pinned-past high =
        bits-same pinned (λ _. false) 0 8 (λ k _ l. pinned-alone k (λ e. omega arith)) ∙ sym (bits-cut (λ _. false) 0 8 (omega arith) (λ k _. refl)) ∙
        bits_none (λ _. false) 0

  -- from the clouds that cover its label, by the pin
  pub mask-left : (b : ℕ) → b < length d.blocks → left_by (block d b).pin (bits (cloud_covers d (block_label d b)) 0 8) ≡ mask_of d b
  mask-left b h = go (block d b).pin refl
    where
      covers : ℕ → Bool
      covers = cloud_covers d (block_label d b)

      alone : (c : ℕ) → cond (bit (bits covers 0 8) c) (2 ^ c) 0 ≡ bits (pinned (block_label d b) c) 0 8
      alone c = elim (dec_lt c 8) [
        | yes l ↦ ap (λ (t : Bool). cond t (2 ^ c) 0) (bit-bits covers 0 8 c l ∙ ap covers (zero-add c)) ∙ pinned-bits (block_label d b) c l
        | no l ↦
            let high : 8 ≤ c = omega arith in
            ap (λ (t : Bool). cond t (2 ^ c) 0) (bit_past 8 (bits covers 0 8) c (bits_small covers 0 8) high) ∙ sym (pinned-past (block_label d b) c high)
      ]

      go : (pin : Pin) → (block d b).pin ≡ pin → left_by pin (bits covers 0 8) ≡ mask_of d b
      go None e = bits-same covers (λ k. covers k && true) 0 8 (λ k _ _. sym (and-true (covers k))) ∙ mask-by-pin b None h e
      go (Some c) e = alone c ∙ mask-by-pin b (Some c) h e

  pub mask_low : (b : ℕ) → mask_of d b < 256
  unfolding mask_of
  mask_low b = cond_ind (λ (m : ℕ). m < 256) (names_block d b) (bits (may_stand d b) 0 8) 0 (λ _. bits_small (may_stand d b) 0 8) (λ _. lit< tt)

  -- its bits say where the block may stand
  pub mask-stands : (b k : ℕ) → b < length d.blocks → k < 8 → bit (mask_of d b) k ≡ may_stand d b k
  mask-stands b k h l =
      let same : 0 + k ≡ k = omega arith in
      ap (λ m. bit m k) (mask-named b h) ∙ bit-bits (may_stand d b) 0 8 k l ∙ ap (may_stand d b) same

  -- for any cloud: from 8 on none is declared
  mask-tells : (b k : ℕ) → b < length d.blocks → length d.clouds ≤ 8 → (ltb k 8 && bit (mask_of d b) k) ≡ may_stand d b k
  mask-tells b k h few = elim (dec_lt k 8) [
    | yes low ↦ simp (lt-ltb _ _ low) (mask-stands b k h low)
    | no n ↦ let high : 8 ≤ k = omega arith in simp (le-ltb _ _ high) (sym (no-cloud d b k h (omega arith)))
  ]

  pub mask-choices : (b : ℕ) → b < length d.blocks → set_bits (mask_of d b) ≡ choices_of d b
  unfolding choices_of
  mask-choices b h = ap set_bits (mask-named b h) ∙ set-of-bits (may_stand d b)

  pub mask-number : (b : ℕ) → b < length d.blocks → ones (mask_of d b) ≡ length (choices_of d b)
  mask-number b h = ones-set (mask_of d b) (mask_low b) ∙ ap length (mask-choices b h)

  -- ---- all sixteen

  pub masks-size : length (masks_of d) ≡ 16
  unfolding masks_of
  masks-size = length-table 16 (mask_of d)

  pub mask_at : (b : ℕ) → b < 16 → get_or (masks_of d) b 0 ≡ mask_of d b
  unfolding masks_of
  mask_at b h = get_or-table 16 (mask_of d) b h

  -- a position by its byte: past the last block only 0 is good
  pub byte-tells : (b k : ℕ) → b < 16 → length d.clouds ≤ 8
      → cond (names_block d b) (ltb k 8 && bit (get_or (masks_of d) b 0) k) (eqb k 0) ≡ may_stand d b k
  byte-tells b k h few = elim (dec_lt b (length d.blocks)) [
    | yes named ↦ simp (lt-ltb _ _ named, mask_at b h) (mask-tells b k named few)
    | no n ↦ let past : length d.blocks ≤ b = omega arith in simp (le-ltb _ _ past) (sym (past-stands d b k past))
  ]

  -- what holds of each byte and of 0 holds everywhere
  byte_low : (b : ℕ) → get_or (masks_of d) b 0 < 256
  byte_low b = elim (dec_lt b 16) [
    | yes h ↦ rw (mask_at b h) (mask_low b)
    | no n ↦ rw (get_or-eq_default (masks_of d) 0 {n = b} (omega (arith, masks-size))) (lit< tt)
  ]

  module _ (few : Limits d) where
    pub byte-named : (b : ℕ) → b < length d.blocks → get_or (masks_of d) b 0 ≡ mask_of d b
    byte-named b h = mask_at b (omega (arith, few.blocks))

    byte-beyond : (b : ℕ) → length d.blocks ≤ b → get_or (masks_of d) b 0 ≡ 0
    byte-beyond b h = elim (dec_lt b 16) [
      | yes l ↦ mask_at b l ∙ mask-beyond b h
      | no n ↦ get_or-eq_default (masks_of d) 0 {n = b} (omega (arith, masks-size))
    ]

    -- no bit of 0 is set
    unset : (k : ℕ) → bit 0 k ≡ false
    unset k = bit_past 0 0 k (lit< tt) (omega arith)

    exact : (b k : ℕ) → (bit (get_or (masks_of d) b 0) k ≡ true) ↔ ((b < length d.blocks) × Stands d b k)
    exact b k = elim (dec_lt b (length d.blocks)) [
      | yes h ↦ elim (dec_lt k 8) [
        | yes l ↦
            let tells = ap (λ m. bit m k) (byte-named b h) ∙ mask-stands b k h l in
            (λ t. (h, (block-stands d b k h).0 (sym tells ∙ t)), λ s. tells ∙ (block-stands d b k h).1 s.1)
        | no n ↦ (
          λ t. absurd (false≢true (sym (bit_past 8 (get_or (masks_of d) b 0) k (byte_low b) (omega arith)) ∙ t)),
          λ s. absurd (omega (arith, s.1.declared, few.clouds)),
        )
      ]
      | no n ↦ (
        λ t. absurd (false≢true (sym (ap (λ m. bit m k) (byte-beyond b (omega arith)) ∙ unset k) ∙ t)),
        λ s. absurd (n s.0),
      )
    ]

    -- THE SIXTEEN BYTES ARE THE RULE: declared, rule 7 and pin, for every block and cloud
    pub masks-permitted : Permitted d (masks_of d)
    masks-permitted = record { sixteen = masks-size; low = byte_low; exact = exact; beyond = byte-beyond }

    -- and no other bytes are
    pub permitted-alone : (ms : List ℕ) → Permitted d ms → ms ≡ masks_of d
    permitted-alone ms p =
        ext_get_or 0 ms (masks_of d) (p.sixteen ∙ sym masks-size) (λ b _.
        same_bits 8 (get_or ms b 0) (get_or (masks_of d) b 0) (p.low b) (byte_low b) (λ k _.
        tests_agree _ _ (λ t. (exact b k).1 ((p.exact b k).0 t), λ t. (p.exact b k).1 ((exact b k).0 t))))

    -- ---- the choices by them

    pub block-masks : block_masks d (masks_of d) ≡ map (mask_of d) (below (length d.blocks))
    unfolding masks_of
    block-masks = take-table 16 (length d.blocks) (mask_of d) few.blocks ∙ table-map (length d.blocks) (mask_of d)

    chosen : map set_bits (block_masks d (masks_of d)) ≡ map (choices_of d) (below (length d.blocks))
    chosen =
        let n = length d.blocks in
        ap (map set_bits) block-masks ∙ map-map set_bits (mask_of d) (below n) ∙
        map_below (λ b. set_bits (mask_of d b)) (choices_of d) n mask-choices

    candidates-chosen : map (padded d) (bit_choices (block_masks d (masks_of d))) ≡ candidates d
    unfolding choices_of
    candidates-chosen =
        let n = length d.blocks in
        let z = 16 - n in
        let split : 16 ≡ n + z = omega (arith, few.blocks) in
        let last : map (choices_of d) (from (0 + n) z) ≡ _ = map-constant (choices_of d) (0 ∷ []) (0 + n) z (λ b l. last-choice d b (omega arith)) in
        ap (λ cs. map (padded d) (sequences cs)) chosen ∙
        sym (candidates-choices d ∙
        ap (λ (k : ℕ). sequences (map (choices_of d) (below k))) split ∙
        ap (λ (l : List ℕ). sequences (map (choices_of d) l)) (from-split 0 n z) ∙
        ap sequences (map-append (choices_of d) (below n) (from (0 + n) z) ∙ ap (λ l. map (choices_of d) (below n) ++ l) last) ∙
        sequences-padded z (map (choices_of d) (below n)))

    -- THE CHOICES BY THE SIXTEEN BYTES ARE THE CANDIDATES, each once and in order; the product of the numbers of set bits is their number
    pub masks-choose : Chooses d (masks_of d)
    masks-choose =
        let ms = block_masks d (masks_of d) in
        record {
          exactly = candidates-chosen;
          once = bit-choices-once ms;
          rising = bit-choices-ascend ms;
          number = ap product (sym (map-map length set_bits ms)) ∙ sym (length-sequences (map set_bits ms)) ∙
              sym (length-map (bit_choices ms) (padded d)) ∙ ap length candidates-chosen ∙ count-is-length d;
        }
