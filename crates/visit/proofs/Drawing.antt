-- A walk that draws keeps the first row past the floor: the same as a fold that keeps the better row.
use Prim.Native.Nat.{ℕ, ◌≤◌}
use native.Mathlib.Omega.{arith}
use mathlib.Core.Path.{◌≡◌, refl, sym, ap, ap₂, subst, ◌∙◌}
use mathlib.Core.Bool.{Bool, true, false, not, ◌&&◌, cond, and-false, true≢false}
use mathlib.Core.List.{List, [], ◌∷◌, foldl, Memᴰ}
use mathlib.Core.Option.{Option, none, some}
use borrow.Author.Tests.{ltb-true, ltb-false}
use Rattle.sequences.specs.Draws.{better_if, beats}
use Rattle.weights.specs.Weights.{cost_limit, is_unexposed}
use Rattle.visit.specs.declared.Met.{Met}
use Rattle.visit.specs.declared.draws.Draw.{Draw}
use Rattle.visit.specs.Tables.{Tests}
use Rattle.visit.specs.Visits.{earlier, wanted, passes, drawn}
use Rattle.visit.proofs.Orders.{not_earlier, earlier-cost}

abbrev pub met : (weight place : ℕ) → Met
met weight place = record { weight = weight; place = place }

module _ {A R : Type 0} (test : R → R → Bool) (later : R → Bool) (row : A → R) (price : R → ℕ) (weight number : A → ℕ) (tests : A → Tests) (sec : A → Bool)
    (floor floorplace : ℕ) (all : List A) where
  -- How weights and numbers belong to rows: a weight below the limit of costs says that no edge breaks a rule, and is then the row's price;
  -- rows are ordered by price and then by number; and a row is past the cursor if it is not before the floor.
  pub record Fits : Type 0 where
    pub unexposed_is : (a : A) → Memᴰ a all → is_unexposed (weight a) ≡ sec a
    pub price_is : (a : A) → Memᴰ a all → sec a ≡ true → weight a ≡ price (row a)
    pub order_is : (a b : A) → Memᴰ a all → Memᴰ b all → test (row a) (row b) ≡ earlier (price (row a)) (number a) (price (row b)) (number b)
    pub later_is : (a : A) → Memᴰ a all → later (row a) ≡ not (earlier (price (row a)) (number a) floor floorplace)

  -- the best so far is this row, or none
  abbrev pub Best : Met → Option R → Type 0
  Best b none = b ≡ met cost_limit 0
  Best b (some r) = (a : A) × Memᴰ a all × (sec a ≡ true) × (row a ≡ r) × (b ≡ met (price (row a)) (number a))

  pub record Kept (d : Draw) (o : Option R) : Type 0 where
    pub asked : d.floor ≡ met floor floorplace
    pub best : Best d.best o

  module _ (fits : Fits) where
    abbrev pub drawing : Draw → A → Draw
    drawing d a = drawn (weight a) (number a) (tests a) d

    -- what the fold does with a placement
    abbrev takes : Option R → A → Bool
    takes o a = (sec a && passes (tests a)) && later (row a) && beats test (row a) o

    abbrev keeping : Option R → A → Option R
    keeping = better_if test later (λ a. sec a && passes (tests a)) row

    -- if no edge breaks a rule, a placement is wanted exactly if it is past the cursor and beats what is kept
    unexposed-wanted : (d : Draw) (o : Option R) → Kept d o → (a : A) → Memᴰ a all → sec a ≡ true
        → wanted d (weight a) (number a) ≡ (later (row a) && beats test (row a) o)
    unexposed-wanted d o k a m h = ap₂ ◌&&◌ past (first o k.best)
      where
        past : not (earlier (weight a) (number a) d.floor.weight d.floor.place) ≡ later (row a)
        past = rw (k.asked, fits.price_is a m h) (sym (fits.later_is a m))

        first : (o : Option R) → Best d.best o → earlier (weight a) (number a) d.best.weight d.best.place ≡ beats test (row a) o
        first none e = rw e (earlier-cost (weight a) (number a) cost_limit 0 (ltb-true (weight a) cost_limit (fits.unexposed_is a m ∙ h)))
        first (some r) (b, i, safe, same, e) = rw (e, fits.price_is a m h) (sym (fits.order_is a b m i)) ∙ ap (test (row a)) same

    -- a placement that breaks a rule weighs too much
    broken-unwanted : (d : Draw) (o : Option R) → Kept d o → (a : A) → Memᴰ a all → sec a ≡ false → wanted d (weight a) (number a) ≡ false
    broken-unwanted d o k a m h =
        let past = not (earlier (weight a) (number a) d.floor.weight d.floor.place) in
        ap (λ b. past && b) (first o k.best) ∙ and-false past
      where
        heavy : cost_limit ≤ weight a
        heavy = ltb-false (weight a) cost_limit (fits.unexposed_is a m ∙ h)

        first : (o : Option R) → Best d.best o → earlier (weight a) (number a) d.best.weight d.best.place ≡ false
        first none e = rw e (not_earlier (weight a) (number a) cost_limit 0 heavy (λ z. omega arith))
        first (some r) (b, i, safe, same, e) =
            let heavy = heavy in
            let light = ltb-true (weight b) cost_limit (fits.unexposed_is b i ∙ safe) in
            let costs = fits.price_is b i safe in
            rw e (not_earlier (weight a) (number a) (price (row b)) (number b) (omega arith) (λ z. omega arith))

    -- the walk takes what the fold takes
    takes-is : (d : Draw) (o : Option R) → Kept d o → (a : A) → Memᴰ a all → (wanted d (weight a) (number a) && passes (tests a)) ≡ takes o a
    takes-is d o k a m = go (sec a) refl
      where
        turn : (l b t : Bool) → ((l && b) && t) ≡ ((t && l) && b)
        turn true true true = refl
        turn true true false = refl
        turn true false true = refl
        turn true false false = refl
        turn false b true = refl
        turn false b false = refl

        go : (x : Bool) → sec a ≡ x → (wanted d (weight a) (number a) && passes (tests a)) ≡ ((x && passes (tests a)) && later (row a) && beats test (row a) o)
        go true h = ap (λ b. b && passes (tests a)) (unexposed-wanted d o k a m h) ∙ turn (later (row a)) (beats test (row a) o) (passes (tests a))
        go false h = ap (λ b. b && passes (tests a)) (broken-unwanted d o k a m h)

    kept_step : (d : Draw) (o : Option R) → Kept d o → (a : A) → Memᴰ a all → Kept (drawing d a) (keeping o a)
    unfolding drawn
    kept_step d o k a m = subst (λ x. Kept x (keeping o a)) (sym (ap put (takes-is d o k a m))) (go (takes o a) refl)
      where
        put : Bool → Draw
        put b = cond b (record { floor = d.floor; best = met (weight a) (number a) }) d

        safe : takes o a ≡ true → sec a ≡ true
        safe e = first (sec a) e
          where
            first : (x : Bool) → ((x && passes (tests a)) && later (row a) && beats test (row a) o) ≡ true → x ≡ true
            first true e = refl
            first false e = absurd (true≢false (sym e))

        go : (b : Bool) → takes o a ≡ b → Kept (put b) (cond b (some (row a)) o)
        go true e = record { asked = k.asked; best = (a, m, safe e, refl, ap (λ w. met w (number a)) (fits.price_is a m (safe e))) }
        go false e = k

    -- the whole walk
    pub kept-all : (l : List A) → ((a : A) → Memᴰ a l → Memᴰ a all) → (d : Draw) (o : Option R) → Kept d o → Kept (foldl drawing d l) (foldl keeping o l)
    kept-all [] inside d o k = k
    kept-all (a ∷ l) inside d o k =
        kept-all l (λ b m. inside b (Memᴰ.tail m)) (drawing d a) (keeping o a) (kept_step d o k a (inside a (Memᴰ.head refl)))
