-- What the reading code needs of the definitions: how the whole is read, and when two pairs are the same.
use Prim.Native.Nat.{ℕ}
use mathlib.Core.Path.{◌≡◌, refl}
use mathlib.Core.Bool.{◌||◌}
use mathlib.Core.List.{List}
use lib.ListN.{length}
use Rattle.description.specs.declared.workflow.Pair.{Pair}
use Rattle.description.specs.Declarations.{nothing}
use Rattle.sequences.specs.Results.{and_then}
use Rattle.decoding.specs.Format.{named_by, same_pair, read_from, inhabited, decode}

pub decode-of : (s : List ℕ) → decode s ≡ and_then (read_from s 0 0 nothing) (inhabited (length s))
unfolding decode
decode-of s = refl

pub same-pair : (a b : Pair) → same_pair a b ≡ named_by b a.left a.right || named_by b a.right a.left
unfolding same_pair
same-pair a b = refl
