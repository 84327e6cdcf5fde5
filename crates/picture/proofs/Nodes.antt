-- A path with one more node: its text, and the room for it.
use Prim.Native.Nat.{ℕ, zero, suc, ◌+◌, ◌≤◌, ◌<◌}
use native.Mathlib.Omega.{arith}
use native.Mathlib.Numerals.{add-one}
use mathlib.Core.Path.{◌≡◌}
use mathlib.Core.List.{List, [], ◌∷◌, ◌++◌, append_assoc, append-nil}
use lib.ListN.{length, take, get_or, length-append}
use Rattle.picture.specs.declared.sheet.Node.{Node}
use Rattle.picture.specs.Nodes.{node_text, next_text}
use Rattle.picture.specs.Picture.{arrow}

next-suc : (ns : List Node) (k : ℕ) (d : Node) → k < length ns
    → next_text (take (suc k) ns) ≡ next_text (take k ns) ++ arrow ++ node_text (get_or ns k d)
next-suc [] k d h = absurd (omega arith)
next-suc (n ∷ ns) zero d h = simp append-nil
next-suc (n ∷ ns) (suc k) d h = rw (next-suc ns k d (omega arith)) (simp append_assoc)

pub next_more : (ns : List Node) (k : ℕ) (d : Node) → k < length ns
    → next_text (take (k + 1) ns) ≡ next_text (take k ns) ++ arrow ++ node_text (get_or ns k d)
next_more ns k d h = rw add-one (next-suc ns k d h)

pub next_room : (ns : List Node) (k : ℕ) (d : Node) → k < length ns
    → length (next_text (take k ns)) + length (node_text (get_or ns k d)) + 4 ≤ length (next_text ns)
next_room [] k d h = absurd (omega arith)
next_room (n ∷ ns) zero d h = simp length-append (omega arith)
next_room (n ∷ ns) (suc k) d h = let r = next_room ns k d (omega arith) in simp length-append (omega arith)
