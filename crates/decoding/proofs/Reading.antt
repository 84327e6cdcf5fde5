-- Induction over decoding: what holds of the empty description and is kept by every taken command holds of every decoded description.
use Prim.Native.Nat.{ℕ, zero, suc, pred, ◌<◌}
use native.Mathlib.Omega.{arith}
use mathlib.Core.Path.{◌≡◌, refl, sym, ◌∙◌, subst}
use mathlib.Core.Bool.{Bool, true, false, ◌||◌}
use mathlib.Core.List.{List, [], ◌∷◌}
use mathlib.Core.Option.{Option, none, some}
use lib.ListN.{length}
use lib.Dec.{eqb}
use borrow.Author.Tests.{eqb-false}
use Rattle.sequences.specs.Results.{ok}
use Rattle.sequences.proofs.Results.{ok-inj, ok-not-refused, and_then-ok, cond-ok}
use Rattle.sequences.proofs.Tests.{or-fails}
use Rattle.description.specs.Declarations.{Description, nothing}
use Rattle.decoding.specs.Format.{Command, command_at, fault_of, ended, read_from, inhabited, decode}
use Rattle.decoding.specs.Bytes.{Bytes}
use Rattle.decoding.proofs.Commands.{Any, Keeps, keeps-command}
use Rattle.decoding.proofs.Turns.{ends, fails, goes}

ended_same : (rest : List ℕ) (at : ℕ) (d e : Description) → ended rest at d ≡ ok e → d ≡ e
ended_same [] at d e r = ok-inj r
ended_same (b ∷ rest) at d e r = absurd (ok-not-refused (sym r))

-- decoding is reading, with a result that has a cloud and a block
pub record Declared (s : List ℕ) (d : Description) : Type 0 where
  pub read : read_from s 0 0 nothing ≡ ok d
  pub some_cloud : 0 < length d.clouds
  pub some_block : 0 < length d.blocks

pub declared : (s : List ℕ) (d : Description) → decode s ≡ ok d → Declared s d
unfolding decode
declared s d r =
    let (e, q, i) = (and_then-ok (read_from s 0 0 nothing) (inhabited (length s)) d).0 r in
    let (t, k) = cond-ok (eqb (length e.clouds) 0 || eqb (length e.blocks) 0) 8 (length s) (ok e) d i in
    let f = or-fails (eqb (length e.clouds) 0) (eqb (length e.blocks) 0) t in
    subst (Declared s) (ok-inj k) (record { read = q; some_cloud = omega (arith, eqb-false); some_block = omega (arith, eqb-false) })

-- ---- the principle. B is what may be assumed of the bytes that are left, and P what is kept of the description.

module _ (B : List ℕ → Type 0) (fewer : (b : ℕ) (s : List ℕ) → B (b ∷ s) → B s) (P : Description → Type 0)
    (keeps : (s : List ℕ) (d : Description) → B s → P d → fault_of s (command_at s d) ≡ none → P (command_at s d).after) where
  reading : (s : List ℕ) (skip at : ℕ) (d e : Description) → B s → P d → read_from s skip at d ≡ ok e → P e
  reading [] skip at d e h p r = absurd (ok-not-refused (sym r))
  reading (b ∷ rest) (suc skip) at d e h p r = reading rest skip (suc at) d e (fewer b rest h) p r
  reading (b ∷ rest) zero at d e h p r =
      one (eqb b 0) (fault_of s c) refl refl (λ f. reading rest (pred c.width) (suc at) c.after e (fewer b rest h) (keeps s d h p f))
    where
      s : List ℕ
      s = b ∷ rest

      c : Command
      c = command_at s d

      one : (z : Bool) (f : Option ℕ) → eqb b 0 ≡ z → fault_of s c ≡ f
          → (fault_of s c ≡ none → read_from rest (pred c.width) (suc at) c.after ≡ ok e → P e) → P e
      one true f z q next = subst P (ended_same rest (suc at) d e (sym (ends b rest at d z) ∙ r)) p
      one false (some n) z q next = absurd (ok-not-refused (sym r ∙ fails b rest at d z q))
      one false none z q next = next q (sym (goes b rest at d z q) ∙ r)

  -- if B holds of the bytes and P of the empty description, P holds of what they are decoded to
  pub decoded-by : (s : List ℕ) (d : Description) → B s → P nothing → decode s ≡ ok d → P d
  decoded-by s d h p r = reading s 0 0 nothing d h p (declared s d r).read

-- ---- the same by cases of the command

module _ {P : Description → Type 0} where
  -- for an input of bytes
  pub decoded-bytes : Keeps Bytes P → P nothing → (s : List ℕ) (d : Description) → Bytes s → decode s ≡ ok d → P d
  decoded-bytes k start s d h r = decoded-by Bytes (λ b t f i. f (suc i)) P (keeps-command k) s d h start r

  -- for any input
  pub decoded-any : Keeps Any P → P nothing → (s : List ℕ) (d : Description) → decode s ≡ ok d → P d
  decoded-any k start s d r = decoded-by Any (λ b t u. tt) P (keeps-command k) s d tt start r
