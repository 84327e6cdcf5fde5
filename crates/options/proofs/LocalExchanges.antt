-- The test by exchanges is the test by shares: a datum that does better elsewhere within its option does so on its other end, and there
-- only its storage and the cloud of its copy differ.
use Prim.Native.Nat.{ℕ, ◌<◌}
use mathlib.Core.Path.{◌≡◌, refl, sym, ap, ◌∙◌}
use mathlib.Core.Logic.{◌↔◌, ◌⊎◌}
use mathlib.Core.Bool.{Bool, true, false, not, true≢false, false≢true}
use mathlib.Core.List.{List, [], ◌∷◌, Memᴰ}
use mathlib.Core.Option.{Option, none, some, some-ne-none}
use lib.ListN.{length, get_or, set}
use lib.Seq.{set-get_or}
use borrow.Author.Tests.{not-true, not-false}
use Rattle.description.specs.Declarations.{Description}
use Rattle.description.specs.Invariants.{WellFormed}
use Rattle.security.specs.Soundness.{may_stand}
use Rattle.options.specs.Representatives.{data_of, kept_on, share, better_on, stands_locally, SecureCandidate}
use Rattle.options.specs.Representatives.{moves_to, exchanges, cheaper_on, stands_by_exchanges, MovesDown}
use Rattle.options.proofs.Locality.{data-are}
use Rattle.options.proofs.Mixing.{cloud-low}
use Rattle.options.proofs.Moving.{moved-own, moved-services}
use Rattle.options.proofs.Representatives.{better-if, stands-if}
use Rattle.options.proofs.Ends.{service-still, moves-to, moves-cost}
use Rattle.sequences.specs.Lists.{below, before}
use Rattle.sequences.proofs.Tests.{both-pass, not-passed, not-failed}
use Rattle.sequences.proofs.Members.{any-members, none-members, below-members}
use Rattle.sequences.proofs.Agreeing.{tests_agree}
use Rattle.sequences.proofs.Orders.{before-irreflexive}
use Rattle.sequences.proofs.Lexicographic.{pair-before}

-- what the test of one datum says: it may stand on k, and keeping it there with its copy on h, then k, is lower than the reverse, then h
exchange : (d : Description) (n h k : ℕ)
    → (exchanges d n h k ≡ true) ↔ ((may_stand d n k ≡ true) × (before (kept_on d n k h ∷ k ∷ []) (kept_on d n h k ∷ h ∷ []) ≡ true))
unfolding exchanges
exchange d n h k = both-pass _ _

module _ (d : Description) (w : WellFormed d) (p : List ℕ) (c : SecureCandidate d p) where
  -- if it is better anywhere: not on its own cloud, so on the one it can move to, and it is cheaper there
  cheaper : (n : ℕ) → Memᴰ n (data_of d) → (k : ℕ) → better_on d p n k ≡ true → cheaper_on d p n (moves_to d p n) ≡ true
  cheaper n m k t =
      let (may, part, lower) = (better-if d p n k).0 t in
      let own = moved-own d w p c n m k may in
      let services = moved-services d w p c n m k may in
      let other : get_or p n 0 ≡ k → ⊥ = λ z.
      true≢false (sym (rw (← z, set-get_or) at lower) ∙ before-irreflexive (share d p n ∷ get_or p n 0 ∷ [])) in
      let there = (moves-to d w p (set p n k) services n m).1 (λ z. other (z ∙ own), part) in
      let stored = sym (moves-cost d w p (set p n k) services n m there (k ∷ []) (get_or p n 0 ∷ [])) ∙ lower in
      rw (there, own) ((exchange d n (get_or p n 0) k).1 (may, rw own at stored))

  -- if it is cheaper on the cloud it can move to: it is better there
  better : (n : ℕ) → Memᴰ n (data_of d) → (k : ℕ) → moves_to d p n ≡ some k → cheaper_on d p n (some k) ≡ true → better_on d p n k ≡ true
  better n m k e t =
      let (may, lower) = (exchange d n (get_or p n 0) k).0 t in
      let own = moved-own d w p c n m k may in
      let services = moved-services d w p c n m k may in
      let there = e ∙ ap some (sym own) in
      (better-if d p n k).1 (
        may,
        ((moves-to d w p (set p n k) services n m).0 there).1,
        moves-cost d w p (set p n k) services n m there (k ∷ []) (get_or p n 0 ∷ []) ∙ (rw own lower),
      )

  -- a block that moves is a datum
  moves-datum : (n k : ℕ) → n < length d.blocks → moves_to d p n ≡ some k → Memᴰ n (data_of d)
  moves-datum n k h e = (data-are d n).1 (h, not-failed _ (λ f. some-ne-none k (sym e ∙ service-still d w p n f)))

  local-exchanges : stands_locally d p ≡ true → (n : ℕ) → n < length d.blocks → cheaper_on d p n (moves_to d p n) ≡ false
  local-exchanges s n h = go (moves_to d p n) refl
    where
      go : (to : Option ℕ) → moves_to d p n ≡ to → cheaper_on d p n to ≡ false
      go none e = refl
      go (some k) e = not-passed _ (λ t.
          let m = moves-datum n k h e in
          true≢false (sym (better n m k e t) ∙ (stands-if d p).0 s n m k (cloud-low d w n k h ((exchange d n (get_or p n 0) k).0 t).0)))

  exchanges-if : (stands_by_exchanges d p ≡ true) ↔ ((n : ℕ) → n < length d.blocks → cheaper_on d p n (moves_to d p n) ≡ false)
  unfolding stands_by_exchanges
  exchanges-if =
      let each = none-members (λ n. cheaper_on d p n (moves_to d p n)) (below (length d.blocks)) in
      (λ t n h. each.0 (not-true _ t) n ((below-members _ n).1 h), λ h. ap not (each.1 (λ n m. h n ((below-members _ n).0 m))))

  -- The test by exchanges passes exactly if the test by shares does.
  pub exchanges-are-local : stands_by_exchanges d p ≡ stands_locally d p
  exchanges-are-local = tests_agree (stands_by_exchanges d p) (stands_locally d p) (
    λ s. (stands-if d p).1 (λ n m k _. not-passed _ (λ t. true≢false (sym (cheaper n m k t) ∙ exchanges-if.0 s n ((data-are d n).0 m).0))),
    λ s. exchanges-if.1 (local-exchanges s),
  )

  -- They fail exactly if some datum moves down.
  pub moves-down : (stands_locally d p ≡ false) ↔ ((n : ℕ) × (k : ℕ) × MovesDown d p n k)
  unfolding stands_by_exchanges
  moves-down = (
    λ f.
        let (n, m, t) = (any-members test blocks).0 (not-false _ (exchanges-are-local ∙ f)) in
        go n ((below-members (length d.blocks) n).0 m) (moves_to d p n) refl t,
    λ (n, k, down). sym exchanges-are-local ∙ ap not ((any-members test blocks).1 (
      n,
      (below-members (length d.blocks) n).1 down.declared,
      rw down.moves ((exchange d n (get_or p n 0) k).1 (down.stands, (lexicographic n k).1 down.lower)),
    )),
  )
    where
      blocks : List ℕ
      blocks = below (length d.blocks)

      test : ℕ → Bool
      test n = cheaper_on d p n (moves_to d p n)

      here : (n k : ℕ) → ℕ
      here n k = kept_on d n (get_or p n 0) k

      there : (n k : ℕ) → ℕ
      there n k = kept_on d n k (get_or p n 0)

      lexicographic : (n k : ℕ) → (before (there n k ∷ k ∷ []) (here n k ∷ get_or p n 0 ∷ []) ≡ true)
          ↔ ((there n k < here n k) ⊎ ((there n k ≡ here n k) × (k < get_or p n 0)))
      lexicographic n k = pair-before (there n k) k (here n k) (get_or p n 0)

      go : (n : ℕ) → n < length d.blocks → (to : Option ℕ) → moves_to d p n ≡ to → cheaper_on d p n to ≡ true → (n : ℕ) × (k : ℕ) × MovesDown d p n k
      go n h none e t = absurd (false≢true t)
      go n h (some k) e t =
          let (may, lower) = (exchange d n (get_or p n 0) k).0 t in
          (n, k, record { declared = h; moves = e; stands = may; lower = (lexicographic n k).0 lower })
