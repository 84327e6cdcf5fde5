-- The most room that nodes and lines of blocks and edges below 256 take.
use Prim.Native.Nat.{ℕ, ◌^◌, ◌+◌, ◌≤◌, ◌<◌}
use native.Mathlib.Omega.{arith}
use mathlib.Core.Path.{◌≡◌, ap}
use mathlib.Core.Bool.{Bool, true, false, cond}
use mathlib.Core.List.{List, ◌++◌}
use lib.ListN.{length, length-append}
use Rattle.description.specs.declared.workflow.Edge.{Edge}
use Rattle.description.specs.declared.workflow.Kind.{Kind}
use Rattle.description.specs.declared.workflow.Kind.TheVariants.{Datum, Service}
use Rattle.description.specs.Declarations.{is_write}
use Rattle.security.specs.Placements.{service_cloud, datum_cloud, moves}
use Rattle.list_text.proofs.Decimals.{fits_byte}
use Rattle.picture.specs.Picture.{node, letter_of, read_in_place, moved_read, write_in_place, moved_write, read_path, write_path, path_of, line}
use Rattle.picture.specs.Sheets.{path_room, edge_room, block_room}

-- the same bound for both, whichever is taken
either : (test : Bool) (a b : List ℕ) (most : ℕ) → length a ≤ most → length b ≤ most → length (cond test a b) ≤ most
either true a b most h k = h
either false a b most h k = k

-- the nodes of an edge n between datum d and service s, whose clouds are y and x
module _ (n d s x y : ℕ) (hn : n < 2 ^ 8) (hd : d < 2 ^ 8) (hs : s < 2 ^ 8) (hx : x < 2 ^ 8) (hy : y < 2 ^ 8) where
  read-moved : length (moved_read d s n y x) ≤ path_room
  read-moved = simp length-append (omega (arith, fits_byte n hn, fits_byte d hd, fits_byte s hs, fits_byte x hx, fits_byte y hy))

  read-stays : length (read_in_place d s y) ≤ path_room
  read-stays = simp length-append (omega (arith, fits_byte d hd, fits_byte s hs, fits_byte y hy))

  write-moved : length (moved_write d s n x y) ≤ path_room
  write-moved = simp length-append (omega (arith, fits_byte n hn, fits_byte d hd, fits_byte s hs, fits_byte x hx, fits_byte y hy))

  write-stays : length (write_in_place d s x) ≤ path_room
  write-stays = simp length-append (omega (arith, fits_byte d hd, fits_byte s hs, fits_byte x hx))

short-line : (nodes : List ℕ) (most : ℕ) → length nodes ≤ most → length (line nodes) ≤ most + 4
short-line nodes most h = simp length-append (omega arith)

pub edge_few : (n : ℕ) (p : List ℕ) (e : Edge) → n < 2 ^ 8 → e.datum < 2 ^ 8 → e.service < 2 ^ 8 → service_cloud p e < 2 ^ 8 → datum_cloud p e < 2 ^ 8
    → length (line (path_of n p e)) ≤ edge_room
unfolding path_of read_path write_path
edge_few n p e hn hd hs hx hy =
    let d = e.datum in
    let s = e.service in
    let x = service_cloud p e in
    let y = datum_cloud p e in
    let write =
    either (moves p e) _ _ path_room (write-moved n d s x y hn hd hs hx hy) (write-stays n d s x y hn hd hs hx hy) in
    let read =
    either (moves p e) _ _ path_room (read-moved n d s x y hn hd hs hx hy) (read-stays n d s x y hn hd hs hx hy) in
    short-line (path_of n p e) path_room (either (is_write e.way) (write_path n p e) (read_path n p e) path_room write read)

one-letter : (kind : Kind) → length (letter_of kind) ≤ 1
one-letter (Datum size longevity) = omega arith
one-letter (Service clearance units) = omega arith

pub node_few : (kind : Kind) (b k : ℕ) → b < 2 ^ 8 → k < 2 ^ 8 → length (line (node (letter_of kind) b k)) ≤ block_room
node_few kind b k hb hk = simp length-append (omega (arith, one-letter kind, fits_byte b hb, fits_byte k hk))

-- a sheet with one more text
pub longer : (old : List ℕ) {new : List ℕ} (text : List ℕ) (room : ℕ) → new ≡ old ++ text → length text ≤ room → length new ≤ length old + room
longer old text room e h = let size = simp length-append at (ap length e) in omega arith
