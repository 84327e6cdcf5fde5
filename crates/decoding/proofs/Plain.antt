-- The tests of the format decide what `specs/Commands.antt` says in plain orders and equations: names, repetitions, pins.
use Prim.Native.Nat.{ℕ, ◌<◌}
use Rattle.std.specs.Prelude.{Some, None}
use Rattle.description.specs.Declarations.{Pin}
use mathlib.Core.Path.{◌≡◌, refl, sym, ap, ◌∙◌}
use mathlib.Core.Logic.{◌↔◌, inl, inr}
use mathlib.Core.Bool.{Bool, true, false, not, ◌&&◌, ◌||◌, true≢false, false≢true}
use mathlib.Core.List.{List}
use lib.ListN.{length, get_or}
use lib.Dec.{eqb}
use borrow.Author.Tests.{ltb-true, lt-ltb, eqb-true, eq-eqb}
use Rattle.description.specs.declared.workflow.Kind.{Kind}
use Rattle.description.specs.declared.workflow.Kind.TheVariants.{Datum, Service}
use Rattle.description.specs.declared.workflow.Edge.{Edge}
use Rattle.description.specs.declared.workflow.Pair.{Pair}
use Rattle.description.specs.declared.workflow.Way.{Way}
use Rattle.description.specs.declared.workflow.Way.TheVariants.{Reads, Writes}
use Rattle.description.specs.Declarations.{Description, no_edge, no_pair, block, edge, pair, is_datum, is_pinned, is_write}
use Rattle.description.specs.Declarations.{same_way, same_edge, write_one_datum, names_datum, names_service}
use Rattle.sequences.specs.Lists.{any}
use Rattle.sequences.proofs.First.{first-none, none_found}
use Rattle.sequences.proofs.Tests.{both-pass, not-passed, or-fails, or-passes}
use Rattle.decoding.specs.Format.{clash, named_by, same_pair}
use Rattle.decoding.specs.Commands.{turned, NamesDatum, NamesService}

-- ---- names

datum-kind : (k : Kind) → (is_datum k ≡ true) ↔ ((size longevity : ℕ) × (k ≡ Datum size longevity))
datum-kind (Datum size longevity) = (λ _. (size, longevity, refl), λ _. refl)
datum-kind (Service clearance units) = (λ t. absurd (false≢true t), λ (a, b, e). ap is_datum e)

service-kind : (k : Kind) → (not (is_datum k) ≡ true) ↔ ((clearance units : ℕ) × (k ≡ Service clearance units))
service-kind (Datum size longevity) = (λ t. absurd (false≢true t), λ (a, b, e). ap (λ x. not (is_datum x)) e)
service-kind (Service clearance units) = (λ _. (clearance, units, refl), λ _. refl)

module _ (d : Description) (b : ℕ) where
  pub names-datum : (names_datum d b ≡ true) ↔ NamesDatum d b
  names-datum = (
    λ t. let (low, k) = (both-pass _ _).0 t in (ltb-true _ _ low, (datum-kind (block d b).kind).0 k),
    λ (low, k). (both-pass _ _).1 (lt-ltb _ _ low, (datum-kind (block d b).kind).1 k),
  )

  pub names-service : (names_service d b ≡ true) ↔ NamesService d b
  names-service = (
    λ t. let (low, k) = (both-pass _ _).0 t in (ltb-true _ _ low, (service-kind (block d b).kind).0 k),
    λ (low, k). (both-pass _ _).1 (lt-ltb _ _ low, (service-kind (block d b).kind).1 k),
  )

-- ---- pins

pub no_pin : (p : Pin) → (is_pinned p ≡ false) ↔ (p ≡ None)
no_pin None = (λ _. refl, λ _. refl)
no_pin (Some k) = (λ e. absurd (true≢false e), λ e. ap is_pinned e)

-- ---- repetitions

-- no element passes exactly if what a failure says holds at every position
module _ {A : Type 0} (t : A → Bool) (P : A → Type 0) (fails : (x : A) → (t x ≡ false) ↔ P x) (default : A) (l : List A) where
  none_passes : (any t l ≡ false) ↔ ((n : ℕ) → n < length l → P (get_or l n default))
  none_passes = (
    λ e n h. (fails _).0 ((first-none t default l).0 ((none_found t l).1 e) n h),
    λ all. (none_found t l).0 ((first-none t default l).1 (λ n h. (fails _).1 (all n h))),
  )

same-ways : (v w : Way) → same_way v w ≡ true → v ≡ w
same-ways Reads Reads t = refl
same-ways Reads Writes t = absurd (false≢true t)
same-ways Writes Reads t = absurd (false≢true t)
same-ways Writes Writes t = refl

own-way : (v : Way) → same_way v v ≡ true
own-way Reads = refl
own-way Writes = refl

writes-is : (w : Way) → is_write w ≡ true → w ≡ Writes
writes-is Reads t = absurd (false≢true t)
writes-is Writes t = refl

-- edges and pairs are equal if their parts are
edge-is : (e f : Edge) → e.way ≡ f.way → e.service ≡ f.service → e.datum ≡ f.datum → e ≡ f
edge-is e f p q r = λ i. record { way = p i; service = q i; datum = r i }

pair_is : (a b : Pair) → a.left ≡ b.left → a.right ≡ b.right → a ≡ b
pair_is a b p q = λ i. record { left = p i; right = q i }

own-number : (n : ℕ) → eqb n n ≡ true
own-number n = eq-eqb n n refl

-- an edge is the same as itself
own-edge : (e : Edge) → same_edge e e ≡ true
own-edge e =
    (both-pass (same_way e.way e.way && eqb e.service e.service) (eqb e.datum e.datum)).1
    ((both-pass (same_way e.way e.way) (eqb e.service e.service)).1 (own-way e.way, own-number e.service), own-number e.datum)

-- an edge can be declared after f: it is not f, and the two are not writers of one datum
abbrev After : (e f : Edge) → Type 0
After e f = (f ≡ e → ⊥) × (e.way ≡ Writes → f.way ≡ Writes → f.datum ≡ e.datum → ⊥)

no-clash : (e f : Edge) → (clash e f ≡ false) ↔ After e f
no-clash e f = (
  λ c.
      let (same, one) = or-fails (same_edge e f) (write_one_datum e f) c in (
        λ q. true≢false (sym (ap (same_edge e) q ∙ own-edge e) ∙ same),
        λ v w q. true≢false (sym ((both-pass _ _).1 ((both-pass _ _).1 (ap is_write v, ap is_write w), eq-eqb _ _ (sym q))) ∙ one),
      ),
  λ (new, only). not-passed (clash e f) (λ t. elim (or-passes (same_edge e f) (write_one_datum e f) t) [
    | inl s ↦
        let (r, y) = (both-pass _ _).0 s in
        let (w, x) = (both-pass _ _).0 r in
        new (sym (edge-is e f (same-ways _ _ w) (eqb-true _ _ x) (eqb-true _ _ y)))
    | inr s ↦
        let (r, y) = (both-pass _ _).0 s in
        let (v, w) = (both-pass _ _).0 r in
        only (writes-is _ v) (writes-is _ w) (sym (eqb-true _ _ y))
  ]),
)

-- x and y are the data of the pair b, in this order, exactly if b is the pair of x and y
named : (a b : Pair) → (named_by b a.left a.right ≡ true) ↔ (b ≡ a)
named a b = (
  λ t. let (x, y) = (both-pass _ _).0 t in sym (pair_is a b (eqb-true _ _ x) (eqb-true _ _ y)),
  λ q. rw q ((both-pass (eqb a.left a.left) (eqb a.right a.right)).1 (own-number a.left, own-number a.right)),
)

-- a pair can be declared after b: it is not b, in either order
abbrev New : (a b : Pair) → Type 0
New a b = (b ≡ a → ⊥) × (b ≡ turned a → ⊥)

no-same-pair : (a b : Pair) → (same_pair a b ≡ false) ↔ New a b
unfolding same_pair
no-same-pair a b = (
  λ c.
      let (same, other) = or-fails (named_by b a.left a.right) (named_by b a.right a.left) c in
      (λ q. true≢false (sym ((named a b).1 q) ∙ same), λ q. true≢false (sym ((named (turned a) b).1 q) ∙ other)),
  λ (new, new_turned). not-passed (named_by b a.left a.right || named_by b a.right a.left) (λ t.
      elim (or-passes (named_by b a.left a.right) (named_by b a.right a.left) t) [
        | inl s ↦ new ((named a b).0 s)
        | inr s ↦ new_turned ((named (turned a) b).0 s)
      ]),
)

-- the same for all declared edges and pairs
module _ (d : Description) where
  pub no-clashes : (e : Edge) → (any (clash e) d.edges ≡ false) ↔ ((n : ℕ) → n < length d.edges → After e (edge d n))
  no-clashes e = none_passes (clash e) (After e) (no-clash e) no_edge d.edges

  pub no-same-pairs : (a : Pair) → (any (same_pair a) d.pairs ≡ false) ↔ ((n : ℕ) → n < length d.pairs → New a (pair d n))
  no-same-pairs a = none_passes (same_pair a) (New a) (no-same-pair a) no_pair d.pairs
