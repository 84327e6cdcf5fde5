-- The most room that parts of a picture can take, in bytes, whatever the words hold: a number of one byte has up to three digits. The
-- picture of an accepted description and a secure placement is shorter (`picture_bytes`).
use Rattle.std.specs.Prelude.{ℕ, ◌+◌, ◌*◌}

-- a block on a cloud; a transfer; a copy; the nodes and arrows of an edge
abbrev pub node_room : ℕ
node_room = 8

abbrev pub transfer_room : ℕ
transfer_room = 4

abbrev pub copy_room : ℕ
copy_room = node_room + 5

abbrev pub path_room : ℕ
path_room = node_room + transfer_room + copy_room + node_room + 3 * 4

-- a line, and all lines, of edges and of blocks
abbrev pub edge_room : ℕ
edge_room = path_room + 4

abbrev pub edges_room : ℕ
edges_room = 32 * edge_room

abbrev pub block_room : ℕ
block_room = node_room + 4

abbrev pub blocks_room : ℕ
blocks_room = 16 * block_room

-- a sheet
abbrev pub sheet_bytes : ℕ
sheet_bytes = 12 + edges_room + blocks_room + 2
