-- Lists one after the other, and values stored after a front.
use Prim.Native.Nat.{ℕ, ◌+◌, ◌*◌, ◌≤◌}
use native.Mathlib.Omega.{arith}
use mathlib.Core.Path.{◌≡◌, refl, sym, ap, ap₂, ◌∙◌}
use mathlib.Core.List.{List, [], ◌∷◌, ◌++◌, map, append_assoc}
use borrow.Rule.Slice.PartMut.{put_mid}
use lib.ListN.{length, take, drop, length-append, length-drop}
use lib.Seq.{sets, sets-eq, take_at, drop_at, drop-drop}
use Rattle.sequences.specs.Lists.{joined}

module _ {A : Type 0} where
  pub joined-append : (xs ys : List (List A)) → joined (xs ++ ys) ≡ joined xs ++ joined ys
  joined-append [] ys = refl
  joined-append (x ∷ xs) ys = ap (λ l. x ++ l) (joined-append xs ys) ∙ sym (append_assoc x (joined xs) (joined ys))

  -- of lists that are all k long
  pub joined_length : {B : Type 0} (f : B → List A) (k : ℕ) → ((b : B) → length (f b) ≡ k) → (l : List B) → length (joined (map f l)) ≡ length l * k
  joined_length f k h [] = omega arith
  joined_length f k h (b ∷ l) =
      length-append (f b) (joined (map f l)) ∙ omega (arith, h b, joined_length f k h l)

  -- a front, then the rest of l: vs is stored after the front
  pub stored-behind : (front vs l : List A) (k : ℕ) → length front ≡ k → k + length vs ≤ length l
      → sets (front ++ drop k l) k vs ≡ (front ++ vs) ++ drop (k + length vs) l
  stored-behind front vs l k e h =
      let size : length (front ++ drop k l) ≡ length l = length-append front (drop k l) ∙ omega (arith, length-drop k l) in
      let beyond = sym (drop-drop (length vs) k (front ++ drop k l)) ∙ ap (drop (length vs)) (drop_at front (drop k l) k e) ∙ drop-drop (length vs) k l in
      sets-eq vs (front ++ drop k l) k (omega arith) ∙ ap₂ (λ x y. (x ++ vs) ++ y) (take_at front (drop k l) k e) beyond

-- numbers that take the place of as many
pub stored : (l : List ℕ) (at n : ℕ) (ys zs : List ℕ) → ys ≡ zs → n ≡ length zs → at + n ≤ length l → put_mid at n l ys ≡ sets l at zs
stored l at n ys zs e k h =
    ap₂ (λ (v : List ℕ) (m : ℕ). take at l ++ (v ++ drop m (drop at l))) e k ∙ sym (append_assoc (take at l) zs (drop (length zs) (drop at l))) ∙
    ap (λ r. take at l ++ zs ++ r) (drop-drop (length zs) at l) ∙ sym (sets-eq zs l at (omega (arith, h, k)))
