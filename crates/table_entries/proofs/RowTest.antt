-- The walk's row test over the tables of a description is the rules' test by exchanges.
use Prim.Native.Nat.{ℕ, ◌-◌, ◌<◌}
use native.Mathlib.Omega.{arith}
use mathlib.Core.Path.{◌≡◌, refl, sym, ap, ◌∙◌}
use mathlib.Core.Bool.{Bool, true, false, not, cond, or-true}
use mathlib.Core.List.{List, [], ◌∷◌, Memᴰ}
use mathlib.Core.Option.{Option, none, some, some-ne-none}
use lib.Dec.{ltb, eqb}
use lib.ListN.{length, get_or}
use borrow.Author.Tests.{lt-ltb, ne_eqb, ltb-true}
use Rattle.description.specs.declared.workflow.Edge.{Edge}
use Rattle.description.specs.declared.workflow.Way.TheVariants.{Reads, Writes}
use Rattle.description.specs.Declarations.{Description}
use Rattle.description.specs.Invariants.{WellFormed}
use Rattle.options.specs.Options.{writers_of, readers_of}
use Rattle.options.specs.Representatives.{between, moves_to, exchanges, cheaper_on, stands_by_exchanges}
use Rattle.options.proofs.Exchanges.{moves-between, stands-by-exchanges}
use Rattle.options.proofs.Locality.{edge-service}
use Rattle.options.proofs.Mixing.{block-low}
use Rattle.options.proofs.Options.{service-named}
use Rattle.sequences.specs.Lists.{keep, below, other_end}
use Rattle.sequences.proofs.Agreeing.{any-agree}
use Rattle.sequences.proofs.Members.{keep-members, below-members}
use Rattle.visit.specs.Tables.{better_on as better_by, moves_to as moves_by, stands as stands_by}
use Rattle.visit.proofs.Defined.{stands-where}
use Rattle.security.specs.Masks.{padded}
use Rattle.security.specs.Soundness.{may_stand}
use Rattle.table_entries.specs.Building.{only_of, only, of_pair, exchanges_of, tables_of}
use Rattle.table_entries.proofs.Exchanging.{exchange-bit}
use Rattle.sequences.proofs.Indexing.{get_or-padded}
use Rattle.table_entries.proofs.Paired.{first-of-pair, second-of-pair}

-- if there is one writer and one reader, both blocks, their two numbers; otherwise a number that no block has
paired : (writers readers : List Edge) (q p : List ℕ) (b : ℕ) → ((i : ℕ) → get_or p i 0 ≡ get_or q i 0)
    → ((e : Edge) → Memᴰ e writers → e.service < 16) → ((e : Edge) → Memᴰ e readers → e.service < 16)
    → cond (ltb (of_pair (only_of writers) (only_of readers) 0) 16)
    (other_end (get_or q (of_pair (only_of writers) (only_of readers) 0) 0) (get_or q (of_pair (only_of writers) (only_of readers) 1) 0) b) none ≡
    between p b writers readers
paired [] readers q p b same hw hr = refl
paired (w ∷ v ∷ ws) readers q p b same hw hr = refl
paired (w ∷ []) [] q p b same hw hr = rw (or-true (eqb w.service 255)) refl
paired (w ∷ []) (r ∷ s ∷ rs) q p b same hw hr = rw (or-true (eqb w.service 255)) refl
paired (w ∷ []) (r ∷ []) q p b same hw hr =
    let lw : w.service < 16 = hw w (Memᴰ.head refl) in
    let lr : r.service < 16 = hr r (Memᴰ.head refl) in
    let one = ne_eqb w.service 255 (λ e. omega arith) in
    let two = ne_eqb r.service 255 (λ e. omega arith) in
    rw (one, two, lt-ltb w.service 16 lw, same w.service, same r.service) refl

-- the other end is one of the two
end_low : (a c b k : ℕ) → a < 8 → c < 8 → other_end a c b ≡ some k → k < 8
end_low a c b k ha hc = go (eqb a c) (eqb b a) (eqb b c)
  where
    one : (x : ℕ) → x < 8 → some x ≡ some k → k < 8
    one x h e = let same : x ≡ k = cc in rw (← same) h

    go : (x y z : Bool) → cond x none (cond y (some c) (cond z (some a) none)) ≡ some k → k < 8
    go true y z e = absurd (some-ne-none k (sym e))
    go false true z e = one c hc e
    go false false true e = one a ha e
    go false false false e = absurd (some-ne-none k (sym e))

-- what moves between two has a pair, and moves to a cloud
moved : (s : Bool) (a c b k : ℕ) → a < 8 → c < 8 → cond s (other_end a c b) none ≡ some k → (s ≡ true) × (k < 8)
moved true a c b k ha hc e = (refl, end_low a c b k ha hc e)
moved false a c b k ha hc e = absurd (some-ne-none k (sym e))

module _ (d : Description) (w : WellFormed d) (q : List ℕ) (low : (i : ℕ) → get_or q i 0 < length d.clouds)
    (stand : (b : ℕ) → b < length d.blocks → may_stand d b (get_or q b 0) ≡ true) where
  abbrev p : List ℕ
  p = padded d q

  -- zeros after a placement change no cloud of it
  padded-at : (i : ℕ) → get_or p i 0 ≡ get_or q i 0
  padded-at i = get_or-padded q (16 - length d.blocks) i

  service-low : (test : Edge → Bool) (e : Edge) → Memᴰ e (keep test d.edges) → e.service < 16
  service-low test e m = block-low d w e.service (service-named d e.service (edge-service d w e ((keep-members test d.edges e).0 m).0)).0

  -- the writer and the reader of datum m, if it has one of each
  abbrev pair_of : (m r : ℕ) → ℕ
  pair_of m r = of_pair (only d Writes m) (only d Reads m) r

  moves-by : (m : ℕ) → m < length d.blocks
      → moves_by (tables_of d) q m ≡ cond (ltb (pair_of m 0) 16) (other_end (get_or q (pair_of m 0) 0) (get_or q (pair_of m 1) 0) (get_or q m 0)) none
  unfolding tables_of
  moves-by m l = rw (first-of-pair d w (exchanges_of d) m l, second-of-pair d w (exchanges_of d) m l) refl

  moves-same : (m : ℕ) → m < length d.blocks → moves_by (tables_of d) q m ≡ moves_to d p m
  moves-same m l =
      moves-by m l ∙ paired (writers_of d m) (readers_of d m) q p (get_or q m 0) padded-at (service-low _) (service-low _) ∙
      ap (λ b. between p b (writers_of d m) (readers_of d m)) (sym (padded-at m)) ∙ sym (moves-between d p m)

  better-same : (m : ℕ) → m < length d.blocks → (o : Option ℕ) → moves_by (tables_of d) q m ≡ o → better_by (tables_of d) q m o ≡ cheaper_on d p m o
  better-same m l none e = refl
  better-same m l (some k) e =
      let few : (i : ℕ) → get_or q i 0 < 8 = λ i. omega (arith, low i, w.limits.clouds) in
      let (pair, k8) = moved (ltb (pair_of m 0) 16) (get_or q (pair_of m 0) 0) (get_or q (pair_of m 1) 0) (get_or q m 0) k (few _) (few _) (sym (moves-by m l) ∙ e) in
      exchange-bit d w m (get_or q m 0) k l (low m) (stand m l) k8 (ltb-true (pair_of m 0) 16 pair) ∙ ap (λ (h : ℕ). exchanges d m h k) (sym (padded-at m))

  -- the two tests agree
  pub tests_same : stands_by (tables_of d) (length d.blocks) q ≡ stands_by_exchanges d p
  tests_same =
      stands-where (tables_of d) (length d.blocks) q ∙
      ap not (any-agree _ _ (below (length d.blocks)) (λ m i.
      let l = (below-members (length d.blocks) m).0 i in
      better-same m l (moves_by (tables_of d) q m) refl ∙ ap (cheaper_on d p m) (moves-same m l))) ∙
      sym (stands-by-exchanges d p)
