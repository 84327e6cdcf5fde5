-- A buffer that is too short for a text, and one that is long enough.
use Prim.Native.Nat.{ℕ, ◌≤◌, ◌<◌}
use mathlib.Core.Path.{◌≡◌, ap}
use mathlib.Core.Bool.{cond}
use mathlib.Core.List.{List}
use lib.ListN.{length}
use borrow.Author.Tests.{lt-ltb, le-ltb}
use Rattle.sequences.specs.Results.{ok, refused}
use Rattle.picture.specs.Calls.{fitted}

module _ (n : ℕ) (text : List ℕ) where
  pub too_short : n < length text → fitted n text ≡ refused 16 (length text)
  too_short h = ap (λ t. cond t (refused 16 (length text)) (ok text)) (lt-ltb n (length text) h)

  pub long-enough : length text ≤ n → fitted n text ≡ ok text
  long-enough h = ap (λ t. cond t (refused 16 (length text)) (ok text)) (le-ltb n (length text) h)
