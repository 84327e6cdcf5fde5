-- The nodes that the code puts for an edge are those of the definition: in place or moved, a read or a write.
use Prim.Native.Nat.{ℕ}
use mathlib.Core.Path.{◌≡◌, sym, ◌∙◌}
use mathlib.Core.Bool.{true, false}
use mathlib.Core.List.{List, [], ◌∷◌, ◌++◌, append_assoc, append-nil}
use lib.ListN.{get_or}
use borrow.Author.Tests.{eqb-true, not-false}
use Rattle.description.specs.declared.workflow.Edge.{Edge}
use Rattle.description.specs.declared.workflow.Way.TheVariants.{Reads, Writes}
use Rattle.description.specs.Declarations.{Description, block}
use Rattle.security.specs.Placements.{service_cloud, datum_cloud, moves}
use Rattle.security.proofs.Moves.{moves-apart}
use Rattle.picture.specs.declared.sheet.Node.{Node}
use Rattle.picture.specs.declared.sheet.Node.TheVariants.{Datum, Service, Transfer, Copy}
use Rattle.picture.specs.Nodes.{node_text, path_text}
use Rattle.picture.specs.Picture.{arrow, node, letter_of, read_path, write_path, path_of, line, has_edge, block_line}

-- two texts and four, with x between them
two-texts : (a b x : List ℕ) → a ++ (x ++ b ++ []) ≡ a ++ x ++ b
two-texts a b x = simp (append-nil, append_assoc)

four-texts : (a b c d x : List ℕ) → a ++ (x ++ b ++ (x ++ c ++ (x ++ d ++ []))) ≡ a ++ x ++ b ++ x ++ c ++ x ++ d
four-texts a b c d x = simp (append-nil, append_assoc)

two-nodes : (m n : Node) → path_text m (n ∷ []) ≡ node_text m ++ arrow ++ node_text n
two-nodes m n = two-texts (node_text m) (node_text n) arrow

four-nodes : (m n o r : Node) → path_text m (n ∷ o ∷ r ∷ []) ≡ node_text m ++ arrow ++ node_text n ++ arrow ++ node_text o ++ arrow ++ node_text r
four-nodes m n o r = four-texts (node_text m) (node_text n) (node_text o) (node_text r) arrow

-- edge e, which has number n; its service stands on cloud x, its datum on cloud y
module _ (n : ℕ) (p : List ℕ) (e : Edge) (x y : ℕ) (hx : x ≡ service_cloud p e) (hy : y ≡ datum_cloud p e) where
  one-cloud : moves p e ≡ false → service_cloud p e ≡ datum_cloud p e
  one-cloud stays = eqb-true _ _ (not-false _ (sym (moves-apart p e) ∙ stays))

  pub read_moved : e.way ≡ Reads → moves p e ≡ true
      → path_text (Datum e.datum y) (Transfer n ∷ Copy e.datum x n ∷ Service e.service x ∷ []) ≡ path_of n p e
  unfolding path_of read_path
  read_moved way moved = rw (hx, hy, moved, way) (four-nodes (Datum e.datum (datum_cloud p e)) (Transfer n) (Copy e.datum (service_cloud p e) n) (Service e.service (service_cloud p e)))

  pub read_in_place : e.way ≡ Reads → moves p e ≡ false → path_text (Datum e.datum y) (Service e.service x ∷ []) ≡ path_of n p e
  unfolding path_of read_path
  read_in_place way stays = rw (hx, hy, one-cloud stays, stays, way) (two-nodes (Datum e.datum (datum_cloud p e)) (Service e.service (datum_cloud p e)))

  pub write_moved : e.way ≡ Writes → moves p e ≡ true
      → path_text (Service e.service x) (Copy e.datum x n ∷ Transfer n ∷ Datum e.datum y ∷ []) ≡ path_of n p e
  unfolding path_of write_path
  write_moved way moved = rw (hx, hy, moved, way) (four-nodes (Service e.service (service_cloud p e)) (Copy e.datum (service_cloud p e) n) (Transfer n) (Datum e.datum (datum_cloud p e)))

  pub write_in_place : e.way ≡ Writes → moves p e ≡ false → path_text (Service e.service x) (Datum e.datum y ∷ []) ≡ path_of n p e
  unfolding path_of write_path
  write_in_place way stays = rw (hx, hy, ← one-cloud stays, stays, way) (two-nodes (Service e.service (service_cloud p e)) (Datum e.datum (service_cloud p e)))

module _ (d : Description) (p : List ℕ) (b : ℕ) where
  pub shown : has_edge d b ≡ true → block_line d p b ≡ []
  unfolding block_line
  shown h = simp h

  pub alone : has_edge d b ≡ false → block_line d p b ≡ line (node (letter_of (block d b).kind) b (get_or p b 0))
  unfolding block_line
  alone h = simp h
