-- The cases of `earlier`.
use Prim.Native.Nat.{ℕ, ◌≤◌, ◌<◌}
use mathlib.Core.Path.{◌≡◌, refl}
use mathlib.Core.Bool.{Bool, true, false, ◌&&◌}
use lib.Dec.{ltb, eqb}
use borrow.Author.Tests.{lt-ltb, le-ltb, eqb-true}
use Rattle.visit.specs.Visits.{earlier}

-- the second test counts only if the costs are the same
both : (t u : Bool) → (t ≡ true → u ≡ false) → (t && u) ≡ false
both true u h = h refl
both false u h = refl

module _ (c p d q : ℕ) where
  pub not_earlier : d ≤ c → (c ≡ d → q ≤ p) → earlier c p d q ≡ false
  not_earlier h k = simp (le-ltb c d h) (both (eqb c d) (ltb p q) (λ e. le-ltb p q (k (eqb-true c d e))))

  pub earlier-cost : c < d → earlier c p d q ≡ true
  earlier-cost h = simp (lt-ltb c d h)
