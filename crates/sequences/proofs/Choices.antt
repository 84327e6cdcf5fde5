-- All choices of one element of each list: how many there are, which they are, and that they are in lexicographic order.
use Prim.Native.Nat.{ℕ, zero, suc, ◌*◌, ◌<◌}
use native.Mathlib.Nat.{suc-mul, zero-mul, add_comm, suc_inj, not-suc-le-zero, le_of_suc-le-suc}
use native.Mathlib.Omega.{arith}
use mathlib.Core.Path.{◌≡◌, refl, sym, ap, ◌∙◌}
use mathlib.Core.Logic.{◌↔◌, inl, inr}
use mathlib.Core.List.{List, [], ◌∷◌, map}
use mathlib.Core.List.Memᴰ
use mathlib.Core.List.{Memᴰ}
use lib.Dec.{ltb}
use lib.ListN.{length, get_or, length-append, length-map}
use borrow.Author.Tests.{ltb-true}
use Rattle.sequences.specs.Ascending.{Ascending, Once}
use Rattle.sequences.specs.Lists.{prefixed, sequences, product, before}
use Rattle.sequences.proofs.Ascending.{append-ascends, map-ascends, ascending-once}
use Rattle.sequences.proofs.Orders.{before-lower, before_same, before-irreflexive}

module _ {A : Type 0} where
  length-prefixed : (rest : List (List A)) (c : List A) → length (prefixed rest c) ≡ length c * length rest
  length-prefixed rest [] = sym (zero-mul (length rest))
  length-prefixed rest (k ∷ ks) = simp (length-append, length-map, length-prefixed rest ks, suc-mul) (add_comm _ _)

  -- the choices number the product of the lists' lengths
  pub length-sequences : (cs : List (List A)) → length (sequences cs) ≡ product (map length cs)
  length-sequences [] = refl
  length-sequences (c ∷ cs) = length-prefixed (sequences cs) c ∙ ap (λ n. length c * n) (length-sequences cs)

  -- each list in `prefixed` is one of the elements in front of one of the lists
  prefixed-to : (rest : List (List A)) (c p : List A) → Memᴰ p (prefixed rest c)
      → (k : A) × (q : List A) × Memᴰ k c × Memᴰ q rest × (p ≡ k ∷ q)
  prefixed-to rest [] p m = absurd (Memᴰ.not-nil m)
  prefixed-to rest (k ∷ ks) p m = elim (Memᴰ.append_cases (map (λ q. k ∷ q) rest) m) [
    | inl n ↦ let (q, i, e) = Memᴰ.of_map (λ (q : List A). k ∷ q) rest n in (k, q, Memᴰ.head refl, i, sym e)
    | inr n ↦ let (j, q, h, i, e) = prefixed-to rest ks p n in (j, q, Memᴰ.tail h, i, e)
  ]

  prefixed-from : (rest : List (List A)) {k : A} {q : List A} {c : List A} → Memᴰ k c → Memᴰ q rest → Memᴰ (k ∷ q) (prefixed rest c)
  prefixed-from rest {q} (Memᴰ.head {x} {xs} e) m =
      Memᴰ.append_left (prefixed rest xs) (Memᴰ.cast (ap (λ (y : A). y ∷ q) e) (Memᴰ.map (λ (p : List A). x ∷ p) m))
  prefixed-from rest (Memᴰ.tail {x} n) m = Memᴰ.append_right (map (λ p. x ∷ p) rest) (prefixed-from rest n m)

  module _ (default : A) where
    sequences-to : (cs : List (List A)) (p : List A) → Memᴰ p (sequences cs)
        → (length p ≡ length cs) × ((b : ℕ) → b < length cs → Memᴰ (get_or p b default) (get_or cs b []))
    sequences-to [] p m = (ap length (Memᴰ.eq_of_singleton m), λ b i. absurd (not-suc-le-zero i))
    sequences-to (c ∷ cs) p m =
        let (k, q, h, i, e) = prefixed-to (sequences cs) c p m in
        let rest = sequences-to cs q i in
        (ap length e ∙ ap suc rest.0, rw e (at_each k q h rest.1))
      where
        at_each : (k : A) (q : List A) → Memᴰ k c → ((b : ℕ) → b < length cs → Memᴰ (get_or q b default) (get_or cs b []))
            → (b : ℕ) → b < length (c ∷ cs) → Memᴰ (get_or (k ∷ q) b default) (get_or (c ∷ cs) b [])
        at_each k q h r zero l = h
        at_each k q h r (suc j) l = r j (le_of_suc-le-suc l)

    sequences-from : (cs : List (List A)) (p : List A) → length p ≡ length cs
        → ((b : ℕ) → b < length cs → Memᴰ (get_or p b default) (get_or cs b [])) → Memᴰ p (sequences cs)
    sequences-from [] [] e h = Memᴰ.head refl
    sequences-from [] (x ∷ p) e h = absurd (omega arith)
    sequences-from (c ∷ cs) [] e h = absurd (omega arith)
    sequences-from (c ∷ cs) (x ∷ p) e h =
        prefixed-from (sequences cs) (h 0 (omega arith)) (sequences-from cs p (suc_inj e) (λ b i. h (suc b) (omega arith)))

    -- the choices are exactly the lists that have as many elements as there are lists, each an element of its list
    pub sequences-members : (cs : List (List A)) (p : List A)
        → Memᴰ p (sequences cs) ↔ ((length p ≡ length cs) × ((b : ℕ) → b < length cs → Memᴰ (get_or p b default) (get_or cs b [])))
    sequences-members cs p = (sequences-to cs p, λ h. sequences-from cs p h.0 h.1)

prefixed-ascends : (rest : List (List ℕ)) (c : List ℕ) → Ascending before rest → Ascending ltb c → Ascending before (prefixed rest c)
prefixed-ascends rest [] r a = tt
prefixed-ascends rest (k ∷ ks) r a = append-ascends before (map (λ q. k ∷ q) rest) (prefixed rest ks)
    (map-ascends before before (λ q. k ∷ q) (λ x y h. before_same k x y ∙ h) rest r)
    (prefixed-ascends rest ks r a.1)
    (λ x y m n.
    let (q, i, e) = Memᴰ.of_map (λ (q : List ℕ). k ∷ q) rest m in
    let (l, u, j, o, f) = prefixed-to rest ks y n in
    rw (← e, f) (before-lower k l q u (ltb-true k l (a.0 l j))))

-- if each list ascends, the choices ascend lexicographically
pub sequences-ascend : (cs : List (List ℕ)) → ((c : List ℕ) → Memᴰ c cs → Ascending ltb c) → Ascending before (sequences cs)
sequences-ascend [] h = (λ y m. absurd (Memᴰ.not-nil m), tt)
sequences-ascend (c ∷ cs) h =
    prefixed-ascends (sequences cs) c (sequences-ascend cs (λ x m. h x (Memᴰ.tail m))) (h c (Memᴰ.head refl))

-- and so each is there once
pub sequences-once : (cs : List (List ℕ)) → ((c : List ℕ) → Memᴰ c cs → Ascending ltb c) → Once (sequences cs)
sequences-once cs h = ascending-once before before-irreflexive (sequences cs) (sequences-ascend cs h)
