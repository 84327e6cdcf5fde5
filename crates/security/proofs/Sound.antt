-- What Read gives, case by case: what decoding refuses; otherwise the first of rules 2 to 4 that is broken, with its number and place;
-- otherwise 12 for too many candidates; otherwise the description.
use Prim.Native.Nat.{ℕ, ◌≤◌, ◌<◌}
use mathlib.Core.Path.{◌≡◌, refl}
use mathlib.Core.List.{List}
use mathlib.Core.Option.{none, some}
use lib.Dec.{ltb}
use borrow.Author.Tests.{lt-ltb, le-ltb, ltb-false}
use Rattle.description.specs.Declarations.{Description}
use Rattle.decoding.specs.Format.{decode}
use Rattle.security.specs.Soundness.{breaks2, breaks3, breaks4, count, too_many, sound, read}
use Rattle.sequences.specs.Lists.{first}
use Rattle.sequences.specs.Results.{ok, refused, and_then}
use Rattle.sequences.proofs.Results.{ok-inj, unless-ok}
use Rattle.sequences.proofs.Tests.{cond-none}

-- bytes that decoding refuses are refused in the same way; for others the rules decide
module _ (s : List ℕ) where
  pub read-refused : {number place : ℕ} → decode s ≡ refused number place → read s ≡ refused number place
  unfolding read
  read-refused e = rw e refl

  pub read-decoded : {d : Description} → decode s ≡ ok d → read s ≡ sound d
  unfolding read
  read-decoded e = rw e refl

-- Read decodes, and then tests the rules
pub read_is : (s : List ℕ) → read s ≡ and_then (decode s) sound
unfolding read
read_is s = refl

-- each rule is looked for only if the one before it is kept
module _ (d : Description) where
  pub breaks-rule2 : {b : ℕ} → first breaks2 d.blocks ≡ some b → sound d ≡ refused 9 b
  unfolding sound
  breaks-rule2 broken = rw broken refl

  module _ (rule2 : first breaks2 d.blocks ≡ none) where
    pub breaks-rule3 : {n : ℕ} → first (breaks3 d) d.edges ≡ some n → sound d ≡ refused 10 n
    unfolding sound
    breaks-rule3 broken = rw (rule2, broken) refl

    module _ (rule3 : first (breaks3 d) d.edges ≡ none) where
      pub breaks-rule4 : {n : ℕ} → first (breaks4 d) d.edges ≡ some n → sound d ≡ refused 11 n
      unfolding sound
      breaks-rule4 broken = rw (rule2, rule3, broken) refl

      module _ (rule4 : first (breaks4 d) d.edges ≡ none) where
        pub too_many_lem : 65536 < count d → sound d ≡ refused 12 0
        unfolding sound
        too_many_lem many = rw (rule2, rule3, rule4, lt-ltb 65536 (count d) many) refl

        pub keeps-all : count d ≤ 65536 → sound d ≡ ok d
        unfolding sound
        keeps-all few = rw (rule2, rule3, rule4, le-ltb 65536 (count d) few) refl

-- what is accepted keeps all rules, and is what was decoded
pub accepted-keeps : (d e : Description) → sound d ≡ ok e
    → (first breaks2 d.blocks ≡ none) × (first (breaks3 d) d.edges ≡ none) × (first (breaks4 d) d.edges ≡ none) × (count d ≤ 65536) × (d ≡ e)
unfolding sound
accepted-keeps d e t =
    let (r2, t3) = (unless-ok (first breaks2 d.blocks) 9 _ e).0 t in
    let (r3, t4) = (unless-ok (first (breaks3 d) d.edges) 10 _ e).0 t3 in
    let (r4, t5) = (unless-ok (first (breaks4 d) d.edges) 11 _ e).0 t4 in
    let (f, t6) = (unless-ok (too_many d) 12 (ok d) e).0 t5 in
    let (few, z) = cond-none (ltb 65536 (count d)) 0 none f in
    (r2, r3, r4, ltb-false 65536 (count d) few, ok-inj t6)
