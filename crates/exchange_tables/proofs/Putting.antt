-- The table of exchanges, datum by datum, after the first 266 bytes, which stay as they are.
use Rattle.std.proofs.Common.{ℕ, ◌≡◌, ◌+◌, ◌-◌, ◌*◌, ◌/◌, ◌%◌, ◌≤◌, ◌<◌, List, ◌++◌, length, get_or, take, drop, replicate, refl, sym, ap, ◌∙◌, arith, lt-ltb, le-ltb}
use native.Mathlib.Decide.{dec_lt}
use mathlib.Core.Bool.{Bool, true, false, cond, and-false}
use Rattle.std.proofs.lemmas.List.{length-take-le}
use lib.Dec.{ltb}
use lib.ListN.{length-append, get_or-append}
use lib.Seq.{get_or-take, get_or-drop, ext_get_or}
use Rattle.description.specs.Declarations.{Description}
use Rattle.sequences.specs.Arrays.{up_to, table_to}
use Rattle.sequences.proofs.Filling.{length-table, get_or-table}
use Rattle.sequences.proofs.Indexing.{zeros-at}
use Rattle.table_entries.specs.Building.{bits_by, Stored, exchange_by}
use Rattle.table_entries.proofs.Places.{behind}

-- ---- datum by datum

-- the entries of the data below m are stored, the others are 0
pub record Exchanging (f : ℕ → ℕ) (before bytes : List ℕ) (m : ℕ) : Type 0 where
  pub size : length bytes ≡ 394
  pub front : (j : ℕ) → j < 266 → get_or bytes j 0 ≡ get_or before j 0
  pub done : (j : ℕ) → j < m * 8 → get_or bytes (266 + j) 0 ≡ f j
  pub left : (j : ℕ) → m * 8 ≤ j → get_or bytes (266 + j) 0 ≡ 0

module _ {f : ℕ → ℕ} {before : List ℕ} where
  pub none_yet : length before ≡ 394 → drop 266 before ≡ replicate 128 0 → Exchanging f before before 0
  none_yet h e = record {
    size = h;
    front = λ j l. refl;
    done = λ j l. absurd (omega arith);
    left = λ j l. sym (get_or-drop 266 before j 0) ∙ ap (λ (a : List ℕ). get_or a j 0) e ∙ zeros-at 128 j;
  }

  module _ {a : List ℕ} {m : ℕ} (x : Exchanging f before a m) where
    -- a datum without exchanges
    pub passed_over : ((j : ℕ) → j / 8 ≡ m → f j ≡ 0) → Exchanging f before a (m + 1)
    passed_over none = record {
      size = x.size;
      front = x.front;
      done = λ j l. elim (dec_lt j (m * 8)) [ yes p ↦ x.done j p | no p ↦ x.left j (omega arith) ∙ sym (none j (omega arith)) ];
      left = λ j l. x.left j (omega arith);
    }

    -- a datum with exchanges on n clouds
    pub one_more : {b : List ℕ} {g : ℕ → ℕ} {n : ℕ} → Stored g (266 + m * 8) n a b → n ≤ 8 → ((h : ℕ) → h < n → g h ≡ f (m * 8 + h))
        → ((j : ℕ) → n ≤ j % 8 → f j ≡ 0) → Exchanging f before b (m + 1)
    one_more {b = b} {n = n} p few same none = record {
      size = p.size ∙ x.size;
      front = λ j l. p.others j (λ r s. omega arith) ∙ x.front j l;
      done = λ j l. elim (dec_lt j (m * 8)) [
        | yes q ↦ p.others (266 + j) (λ r s. omega arith) ∙ x.done j q
        | no q ↦ elim (dec_lt j (m * 8 + n)) [
          | yes r ↦
              let at : 266 + m * 8 + (j - m * 8) ≡ 266 + j = omega arith in
              let own : m * 8 + (j - m * 8) ≡ j = omega arith in
              ap (λ (n : ℕ). get_or b n 0) (sym at) ∙ p.entry (j - m * 8) (omega arith) ∙ same (j - m * 8) (omega arith) ∙ ap f own
          | no r ↦ p.others (266 + j) (λ s t. omega arith) ∙ x.left j (omega arith) ∙ sym (none j (omega arith))
        ]
      ];
      left = λ j l. p.others (266 + j) (λ r s. omega arith) ∙ x.left j (omega arith);
    }

-- all of them
pub all_put : (g : ℕ → ℕ) {before a : List ℕ} {m blocks : ℕ} → length before ≡ 394 → Exchanging (up_to (blocks * 8) g) before a m → blocks ≤ m
    → a ≡ take 266 before ++ table_to 128 (blocks * 8) g
all_put g {before} {a} {m} {blocks} h x last = ext_get_or 0 a (take 266 before ++ table_to 128 (blocks * 8) g) (omega (arith, x.size, whole)) each
  where
    first : length (take 266 before) ≡ 266
    first = length-take-le 266 before (omega arith)

    whole : length (take 266 before ++ table_to 128 (blocks * 8) g) ≡ 394
    whole = omega (arith, length-append (take 266 before) (table_to 128 (blocks * 8) g), first, length-table 128 (up_to (blocks * 8) g))

    later : (j : ℕ) → get_or a (266 + j) 0 ≡ up_to (blocks * 8) g j
    later j = elim (dec_lt j (m * 8)) [ yes p ↦ x.done j p | no p ↦ x.left j (omega arith) ∙ sym (simp (le-ltb j (blocks * 8) (omega arith))) ]

    each : (j : ℕ) → j < length a → get_or a j 0 ≡ get_or (take 266 before ++ table_to 128 (blocks * 8) g) j 0
    each j l = elim (dec_lt j 266) [
      | yes p ↦
          x.front j p ∙ sym (get_or-append (take 266 before) (table_to 128 (blocks * 8) g) 0 j (omega (arith, first)) ∙ get_or-take 266 before j 0 p)
      | no p ↦
          let at : 266 + (j - 266) ≡ j = omega arith in
          rw at at (later (j - 266) ∙ sym (behind (take 266 before) (table_to 128 (blocks * 8) g) 266 (j - 266) first ∙ get_or-table 128 (up_to (blocks * 8) g) (j - 266) (omega (arith, x.size))))
    ]

-- ---- the entries

module _ (d : Description) (before : List ℕ) (blocks clouds : ℕ) where
  abbrev entry : ℕ → ℕ
  entry = up_to (blocks * 8) (exchange_by d before clouds)

  none-past : (t : Bool) (n : ℕ) → n ≡ 0 → cond t n 0 ≡ 0
  none-past true n e = e
  none-past false n e = refl

  -- of a datum without a pair, and on a cloud that is not declared
  pub no-pair : (m : ℕ) → 16 ≤ get_or before (97 + 2 * m) 0 → (j : ℕ) → j / 8 ≡ m → entry j ≡ 0
  no-pair m h j e = none-past (ltb j (blocks * 8)) _ (rw e (simp (le-ltb (get_or before (97 + 2 * m) 0) 16 h, and-false (ltb (j % 8) clouds))))

  pub no-cloud : (j : ℕ) → clouds ≤ j % 8 → entry j ≡ 0
  no-cloud j h = none-past (ltb j (blocks * 8)) _ (simp (le-ltb (j % 8) clouds h))

  -- the others
  pub has-entry : (m h : ℕ) → m < blocks → h < clouds → clouds ≤ 8 → get_or before (97 + 2 * m) 0 < 16
      → bits_by d (get_or before (81 + m) 0) clouds m h ≡ entry (m * 8 + h)
  has-entry m h there declared few pair =
      let quo : (m * 8 + h) / 8 ≡ m = omega arith in
      let rem : (m * 8 + h) % 8 ≡ h = omega arith in
      sym (rw (quo, rem) (simp (lt-ltb (m * 8 + h) (blocks * 8) (omega arith), lt-ltb h clouds declared, lt-ltb (get_or before (97 + 2 * m) 0) 16 pair)))
