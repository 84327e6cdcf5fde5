-- The code's nodes as text, and a path of them.
use Rattle.std.specs.Prelude.{ℕ, List, [], ◌∷◌, ◌++◌}
use Rattle.picture.specs.declared.sheet.Node.{Node}
use Rattle.picture.specs.declared.sheet.Node.TheVariants.{Datum, Service, Transfer, Copy}
use Rattle.picture.specs.Picture.{arrow, datum_node, service_node, transfer_node, copy_node}

abbrev pub node_text : Node → List ℕ
node_text (Datum number cloud) = datum_node number cloud
node_text (Service number cloud) = service_node number cloud
node_text (Transfer edge) = transfer_node edge
node_text (Copy datum cloud edge) = copy_node datum cloud edge

-- nodes that follow another, each after an arrow
abbrev pub next_text : List Node → List ℕ
next_text [] = []
next_text (n ∷ ns) = arrow ++ node_text n ++ next_text ns

-- a path from the first node on
abbrev pub path_text : Node → List Node → List ℕ
path_text start next = node_text start ++ next_text next
