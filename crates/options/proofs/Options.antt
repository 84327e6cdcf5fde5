-- Being the same option is an equivalence: it is equality of options, which is equality of the blocks' parts, one by one. Placements of
-- one option have every service on the same cloud.
use Prim.Native.Nat.{ℕ, ◌<◌}
use mathlib.Core.Path.{◌≡◌, refl, sym, ◌∙◌}
use mathlib.Core.Logic.Iff
use mathlib.Core.Logic.{◌↔◌}
use mathlib.Core.Bool.{true, false, true≢false, false≢true}
use mathlib.Core.List.{List, [], ◌∷◌, map, head-eq_of_cons-eq}
use lib.ListN.{length, get_or}
use borrow.Author.Tests.{ltb-true, not-true}
use Rattle.description.specs.declared.workflow.Kind.{Kind}
use Rattle.description.specs.declared.workflow.Kind.TheVariants.{Datum, Service}
use Rattle.description.specs.Declarations.{Description, block, is_datum, names_service}
use Rattle.options.specs.Options.{readers_of, stem, branch, joined, part, part_of, option, same_option}
use Rattle.options.specs.Representatives.{SameServices}
use Rattle.sequences.specs.Lists.{below, equal_by, same}
use Rattle.sequences.specs.Orders.{Equivalence}
use Rattle.sequences.proofs.Tests.{both-pass}
use Rattle.sequences.proofs.Equality.{equal_by-decides, same-decides, alike-by}
use Rattle.sequences.proofs.Agreeing.{map-agree, agree-map}
use Rattle.sequences.proofs.Members.{below-members}

module _ (d : Description) where
  -- the test says exactly whether the options are equal
  pub same-options : (p q : List ℕ) → (same_option d p q ≡ true) ↔ (option d p ≡ option d q)
  unfolding same_option
  same-options p q = equal_by-decides (equal_by same) (equal_by-decides same same-decides) (option d p) (option d q)

  -- so it is an equivalence: reflexive, symmetric and transitive
  pub same_option-equivalence : Equivalence (same_option d)
  same_option-equivalence = alike-by (option d) same-options

  -- it is decided by the blocks' parts, one by one
  pub same_parts : (p q : List ℕ) → (same_option d p q ≡ true) ↔ ((n : ℕ) → n < length d.blocks → part_of d p n ≡ part_of d q n)
  unfolding option
  same_parts p q =
      let blocks = below (length d.blocks) in
      Iff.trans (same-options p q) (
        λ e n h. agree-map (part_of d p) (part_of d q) blocks e n ((below-members (length d.blocks) n).1 h),
        λ h. map-agree (part_of d p) (part_of d q) blocks (λ n m. h n ((below-members (length d.blocks) n).0 m)),
      )

  -- a service is a declared block, and no datum
  pub service-named : (n : ℕ) → names_service d n ≡ true → (n < length d.blocks) × (is_datum (block d n).kind ≡ false)
  service-named n s = let (declared, service) = (both-pass _ _).0 s in (ltb-true n (length d.blocks) declared, not-true _ service)

  -- a service's part is its cloud, and a datum's its stem and branches
  pub service-part : (p : List ℕ) (n : ℕ) (k : Kind) → is_datum k ≡ false → part d p n k ≡ (get_or p n 0 ∷ []) ∷ []
  service-part p n (Datum size longevity) f = absurd (true≢false f)
  service-part p n (Service clearance units) f = refl

  pub datum-part : (p : List ℕ) (n : ℕ) (k : Kind) → is_datum k ≡ true → part d p n k ≡ joined (stem d p n) (map (branch p) (readers_of d n))
  datum-part p n (Datum size longevity) t = refl
  datum-part p n (Service clearance units) t = absurd (false≢true t)

  -- the same option: the same clouds for all services
  pub same-services : (p q : List ℕ) → same_option d p q ≡ true → SameServices d p q
  same-services p q t n s =
      let (declared, service) = service-named n s in
      let kind = (block d n).kind in
      let clouds = sym (service-part p n kind service) ∙ (same_parts p q).0 t n declared ∙ service-part q n kind service in
      head-eq_of_cons-eq (head-eq_of_cons-eq clouds)
