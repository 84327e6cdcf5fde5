-- The picture of a placement: Graphviz text, as bytes.
use Rattle.std.specs.Prelude.{ℕ, zero, suc, ◌+◌, ◌*◌, Bool, ◌||◌, cond, List, [], ◌++◌, length, get_or, eqb}
use Rattle.sequences.specs.Lists.{any}
use Rattle.description.specs.declared.workflow.Edge.{Edge}
use Rattle.description.specs.declared.workflow.Kind.{Kind}
use Rattle.description.specs.declared.workflow.Kind.TheVariants.{Datum, Service}
use Rattle.description.specs.Declarations.{Description, block, edge, is_write}
use Rattle.security.specs.Placements.{service_cloud, datum_cloud, moves}
use Rattle.list_text.specs.Lines.{ascii, decimal}

-- the letter of a block's kind: d for a datum, s for a service
abbrev pub letter_of : Kind → List ℕ
letter_of (Datum size longevity) = ascii "d"
letter_of (Service clearance units) = ascii "s"

-- a block on a cloud
abbrev pub node : List ℕ → (number cloud : ℕ) → List ℕ
node letter number cloud = letter ++ decimal number ++ ascii "_" ++ decimal cloud

abbrev pub datum_node : (number cloud : ℕ) → List ℕ
datum_node = node (ascii "d")

abbrev pub service_node : (number cloud : ℕ) → List ℕ
service_node = node (ascii "s")

-- the transfer on edge n, and the copy of a datum that it makes on a cloud
abbrev pub transfer_node : ℕ → List ℕ
transfer_node n = ascii "x" ++ decimal n

abbrev pub copy_node : (datum cloud n : ℕ) → List ℕ
copy_node datum cloud n = datum_node datum cloud ++ ascii "_e" ++ decimal n

abbrev pub arrow : List ℕ
arrow = ascii " -> "

-- The nodes of an edge e, of datum d and service s, in place or moved. Cloud a is the writer's, b the datum's, c the reader's.
abbrev pub read_in_place : (d s b : ℕ) → List ℕ
read_in_place d s b = datum_node d b ++ arrow ++ service_node s b

abbrev pub moved_read : (d s e b c : ℕ) → List ℕ
moved_read d s e b c = datum_node d b ++ arrow ++ transfer_node e ++ arrow ++ copy_node d c e ++ arrow ++ service_node s c

abbrev pub write_in_place : (d s a : ℕ) → List ℕ
write_in_place d s a = service_node s a ++ arrow ++ datum_node d a

abbrev pub moved_write : (d s e a b : ℕ) → List ℕ
moved_write d s e a b = service_node s a ++ arrow ++ copy_node d a e ++ arrow ++ transfer_node e ++ arrow ++ datum_node d b

-- edge n, a read or a write
unfoldable pub read_path : ℕ → List ℕ → Edge → List ℕ
read_path n p e =
    cond (moves p e) (moved_read e.datum e.service n (datum_cloud p e) (service_cloud p e))
    (read_in_place e.datum e.service (datum_cloud p e))

unfoldable pub write_path : ℕ → List ℕ → Edge → List ℕ
write_path n p e =
    cond (moves p e) (moved_write e.datum e.service n (service_cloud p e) (datum_cloud p e))
    (write_in_place e.datum e.service (service_cloud p e))

unfoldable pub path_of : ℕ → List ℕ → Edge → List ℕ
path_of n p e = cond (is_write e.way) (write_path n p e) (read_path n p e)

-- a line: two spaces in, and a newline at its end
abbrev pub line : List ℕ → List ℕ
line nodes = ascii "  " ++ nodes ++ ascii ";\n"

-- the line of edge n
unfoldable pub edge_line : Description → List ℕ → ℕ → List ℕ
edge_line d p n = line (path_of n p (edge d n))

-- block b has an edge
abbrev pub touches : ℕ → Edge → Bool
touches b e = eqb e.service b || eqb e.datum b

unfoldable pub has_edge : Description → ℕ → Bool
has_edge d b = any (touches b) d.edges

-- the line of block b, if it has no edge
unfoldable pub block_line : Description → List ℕ → ℕ → List ℕ
block_line d p b = cond (has_edge d b) [] (line (node (letter_of (block d b).kind) b (get_or p b 0)))

-- the texts of 0, 1 and so on below n, one after the other
abbrev pub each : ℕ → (ℕ → List ℕ) → List ℕ
each zero text = []
each (suc n) text = each n text ++ text n

-- all edges in order; the blocks without an edge, in order too
abbrev pub edge_lines : Description → List ℕ → List ℕ
edge_lines d p = each (length d.edges) (edge_line d p)

abbrev pub block_lines : Description → List ℕ → List ℕ
block_lines d p = each (length d.blocks) (block_line d p)

unfoldable pub picture : Description → List ℕ → List ℕ
picture d p = ascii "digraph p {\n" ++ edge_lines d p ++ block_lines d p ++ ascii "}\n"

-- the most bytes of a picture: the first line, 38 for each of 32 edges, 9 for each of 16 blocks, the last line
abbrev pub picture_bytes : ℕ
picture_bytes = 12 + 32 * 38 + 16 * 9 + 2
