-- Every picture of an accepted description and a secure placement fits into `picture_bytes`: blocks and edges have at most two digits, and
-- clouds one.
use Prim.Native.Nat.{ℕ, zero, suc, ◌+◌, ◌*◌, ◌≤◌, ◌<◌}
use native.Mathlib.Nat.{suc-mul}
use native.Mathlib.Omega.{arith}
use mathlib.Core.Bool.{Bool, true, false, cond}
use mathlib.Core.List.{List, []}
use lib.ListN.{length, get_or, length-append}
use Rattle.description.specs.declared.workflow.Kind.{Kind}
use Rattle.description.specs.declared.workflow.Kind.TheVariants.{Datum, Service}
use Rattle.description.specs.Declarations.{Description, block, edge, is_write}
use Rattle.description.specs.Invariants.{WellFormed}
use Rattle.description.proofs.Named.{service-block, datum-block}
use Rattle.security.specs.Placements.{service_cloud, datum_cloud, moves}
use Rattle.security.specs.Statements.{Placed}
use Rattle.list_text.specs.Lines.{decimal}
use Rattle.list_text.proofs.Decimals.{length-bound}
use Rattle.picture.specs.Picture.{node, letter_of, read_in_place, moved_read, write_in_place, moved_write, read_path, write_path, path_of, line}
use Rattle.picture.specs.Picture.{edge_line, has_edge, block_line, each, picture, picture_bytes}

one : (n : ℕ) → n < 10 → length (decimal n) ≤ 1
one n h = length-bound 0 n h

two : (n : ℕ) → n < 100 → length (decimal n) ≤ 2
two n h = length-bound 1 n h

-- the nodes of an edge e between datum d and service s, whose clouds are x and y
module _ (d s e x y : ℕ) (hd : d < 100) (hs : s < 100) (he : e < 100) (hx : x < 10) (hy : y < 10) where
  moved-read : length (moved_read d s e x y) ≤ 34
  moved-read = simp length-append (omega (arith, two d hd, two s hs, two e he, one x hx, one y hy))

  read-in-place : length (read_in_place d s x) ≤ 34
  read-in-place = simp length-append (omega (arith, two d hd, two s hs, one x hx))

  moved-write : length (moved_write d s e x y) ≤ 34
  moved-write = simp length-append (omega (arith, two d hd, two s hs, two e he, one x hx, one y hy))

  write-in-place : length (write_in_place d s x) ≤ 34
  write-in-place = simp length-append (omega (arith, two d hd, two s hs, one x hx))

short-line : (nodes : List ℕ) (most : ℕ) → length nodes ≤ most → length (line nodes) ≤ most + 4
short-line nodes most h = simp length-append (omega arith)

-- the same bound for both, whichever is taken
either : (test : Bool) (a b : List ℕ) (most : ℕ) → length a ≤ most → length b ≤ most → length (cond test a b) ≤ most
either true a b most h k = h
either false a b most h k = k

-- n texts, each of at most `most` bytes
each-few : (n most : ℕ) (text : ℕ → List ℕ) → ((i : ℕ) → i < n → length (text i) ≤ most) → length (each n text) ≤ n * most
each-few zero most text h = omega arith
each-few (suc n) most text h =
    let before = each-few n most text (λ i l. h i (omega arith)) in
    let last = h n (omega arith) in
    omega (arith, before, last, suc-mul n most, length-append (each n text) (text n))

module _ (d : Description) (p : List ℕ) (wf : WellFormed d) (placed : Placed d p) where
  cloud-low : (b : ℕ) → b < length d.blocks → get_or p b 0 < 10
  cloud-low b h = omega (arith, ((placed b (omega (arith, wf.limits.blocks))).stands h).declared, wf.limits.clouds)

  edge_few : (n : ℕ) → n < length d.edges → length (edge_line d p n) ≤ 38
  unfolding edge_line path_of read_path write_path
  edge_few n h =
      let e = edge d n in
      let m = e.datum in
      let s = e.service in
      let b = datum_cloud p e in
      let c = service_cloud p e in
      let datum = datum-block d wf n h in
      let service = service-block d wf n h in
      let hm : m < 100 = omega (arith, datum, wf.limits.blocks) in
      let hs : s < 100 = omega (arith, service, wf.limits.blocks) in
      let hn : n < 100 = omega (arith, h, wf.limits.edges) in
      let hb = cloud-low m datum in
      let hc = cloud-low s service in
      let moved = moves p e in
      let write =
      either moved (moved_write m s n c b) (write_in_place m s c) 34 (moved-write m s n c b hm hs hn hc hb) (write-in-place m s n c b hm hs hn hc hb) in
      let read =
      either moved (moved_read m s n b c) (read_in_place m s b) 34 (moved-read m s n b c hm hs hn hb hc) (read-in-place m s n b c hm hs hn hb hc) in
      short-line (path_of n p e) 34 (either (is_write e.way) (write_path n p e) (read_path n p e) 34 write read)

  one-letter : (kind : Kind) → length (letter_of kind) ≤ 1
  one-letter (Datum size longevity) = omega arith
  one-letter (Service clearance units) = omega arith

  block-few : (b : ℕ) → b < length d.blocks → length (block_line d p b) ≤ 9
  unfolding block_line
  block-few b h =
      let low : b < 100 = omega (arith, h, wf.limits.blocks) in
      let cloud = one (get_or p b 0) (cloud-low b h) in
      let letter = one-letter (block d b).kind in
      either (has_edge d b) [] _ 9 (omega arith) (
      short-line (node (letter_of (block d b).kind) b (get_or p b 0)) 5 (simp length-append (omega (arith, two b low, cloud, letter)))
      )

  pub picture-few : length (picture d p) ≤ picture_bytes
  unfolding picture
  picture-few =
      let edges = each-few (length d.edges) 38 (edge_line d p) edge_few in
      let blocks = each-few (length d.blocks) 9 (block_line d p) block-few in
      simp length-append (omega (arith, edges, blocks, wf.limits.edges, wf.limits.blocks))
