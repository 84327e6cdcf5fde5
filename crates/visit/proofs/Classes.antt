-- The class of a placement, by its weight and the conflict test, and whether it is a row.
use Prim.Native.Nat.{ℕ, ◌≤◌, ◌<◌}
use native.Mathlib.Omega.{arith}
use mathlib.Core.Path.{◌≡◌, refl, sym, ap, ◌∙◌}
use mathlib.Core.Bool.{Bool, true, false, not, ◌&&◌, cond, and_assoc}
use lib.Dec.{eqb}
use borrow.Author.Tests.{lt-ltb, le-ltb, eq-eqb, ne_eqb, eqb-true}
use Rattle.sequences.proofs.Tests.{cond_ind}
use Rattle.weights.specs.Weights.{cost_limit, classes, secure_class, clash_class, is_unexposed, class_of}
use Rattle.weights.proofs.Classes.{class-light, class-unexposed, class_low}
use Rattle.visit.specs.Tables.{Tests}
use Rattle.visit.specs.Visits.{class_at, passes}

module _ (w : ℕ) (t : Tests) where
  -- ---- by what was tested

  pub at-broken : cost_limit ≤ w → class_at w t ≡ class_of w
  at-broken h = rw (le-ltb w cost_limit h)

  pub at-secure : w < cost_limit → t.apart ≡ true → class_at w t ≡ secure_class
  at-secure h k = rw (lt-ltb w cost_limit h, k) (class-light w h)

  pub at_clash : w < cost_limit → t.apart ≡ false → class_at w t ≡ clash_class
  at_clash h k = rw (lt-ltb w cost_limit h, k)

  pub class-at-low : class_at w t < classes
  class-at-low = cond_ind (λ k. k < classes) (is_unexposed w && not t.apart) clash_class (class_of w) (λ _. omega arith) (λ _. omega (arith, class_low w))

  -- ---- what each class says: secure, broken by what no single edge decides, and the others by the weight alone

  pub class-secure : eqb (class_at w t) secure_class ≡ (is_unexposed w && t.apart)
  class-secure = go (is_unexposed w) t.apart (class-unexposed w)
    where
      go : (u a : Bool) → eqb (class_of w) 0 ≡ u → eqb (cond (u && not a) clash_class (class_of w)) secure_class ≡ (u && a)
      go true true e = e
      go true false e = refl
      go false a e = e

  pub class-clash : eqb (class_at w t) clash_class ≡ (is_unexposed w && not t.apart)
  class-clash = go (is_unexposed w && not t.apart)
    where
      go : (b : Bool) → eqb (cond b clash_class (class_of w)) clash_class ≡ b
      go true = refl
      go false = ne_eqb (class_of w) clash_class (λ e. omega (arith, class_low w))

  pub class-exposed : (k : ℕ) → secure_class < k → k < clash_class → eqb (class_at w t) k ≡ eqb (class_of w) k
  class-exposed k h l = go (is_unexposed w) t.apart (class-unexposed w)
    where
      go : (u a : Bool) → eqb (class_of w) 0 ≡ u → eqb (cond (u && not a) clash_class (class_of w)) k ≡ eqb (class_of w) k
      go true true e = refl
      go true false e = ne_eqb clash_class k (λ z. omega arith) ∙ sym (ne_eqb (class_of w) k (λ z. omega (arith, eqb-true (class_of w) 0 e)))
      go false a e = refl

  -- ---- a row

  abbrev pub is_row : Bool
  is_row = is_unexposed w && passes t

  -- it is secure and passes the row test
  pub row-secure : is_row ≡ (eqb (class_at w t) secure_class && t.stands)
  row-secure = sym (and_assoc (is_unexposed w) t.apart t.stands) ∙ ap (λ b. b && t.stands) (sym class-secure)

  pub no-row-broken : (class_at w t ≡ secure_class → ⊥) → is_row ≡ false
  no-row-broken n = row-secure ∙ ap (λ b. b && t.stands) (ne_eqb (class_at w t) secure_class n)

  pub secure-row : class_at w t ≡ secure_class → is_row ≡ t.stands
  secure-row e = row-secure ∙ ap (λ b. b && t.stands) (eq-eqb (class_at w t) secure_class e)
