-- Pictures stated for the bytes: description M, the interview file, and small inputs with blocks that have no edge.
use Rattle.std.specs.Prelude.{◌≡◌, ◌++◌}
use Rattle.decoding.specs.Inputs.{cloud, datum, service, reads, end, times, flat, m, m_apart, place}
use Rattle.list_text.specs.Lines.{ascii}
use Rattle.sequences.specs.Results.{ok, refused}
use Rattle.picture.specs.Calls.{picture_call, size_call}

pub record Interview : Type 0 where
  -- `examples/interview.dot`: the write of edge 1 is moved, and its copy lies on the writer's cloud
  pub row11000 : picture_call m (place 1 1 0 0 0) 95 ≡ ok (
      ascii "digraph p {\n" ++
      ascii "  d0_1 -> s1_1;\n" ++
      ascii "  s1_1 -> d2_1_e1 -> x1 -> d2_0;\n" ++
      ascii "  d2_0 -> s3_0;\n" ++
      ascii "  s3_0 -> d4_0;\n" ++
      ascii "}\n"
      )
  -- the read of edge 2 is moved, and its copy lies on the reader's cloud
  pub row11100 : picture_call m (place 1 1 1 0 0) 95 ≡ ok (
      ascii "digraph p {\n" ++
      ascii "  d0_1 -> s1_1;\n" ++
      ascii "  s1_1 -> d2_1;\n" ++
      ascii "  d2_1 -> x2 -> d2_0_e2 -> s3_0;\n" ++
      ascii "  s3_0 -> d4_0;\n" ++
      ascii "}\n"
      )
  -- its size; a buffer that is one byte short; a placement that is not secure, with no room at all
  pub size : size_call m (place 1 1 0 0 0) ≡ ok 95
  pub short : picture_call m (place 1 1 0 0 0) 94 ≡ refused 16 95
  pub first : (picture_call m (place 1 0 0 0 0) 0 ≡ refused 14 0) × (size_call m (place 1 0 0 0 0) ≡ refused 14 0)
  pub apart : (picture_call m_apart (place 1 1 1 1 1) 0 ≡ refused 17 0) × (size_call m_apart (place 1 1 1 1 1) ≡ refused 17 0)
  -- blocks without an edge come after the edges, in block order
  pub alone : picture_call (times 2 (cloud 0) ++ datum 0 ++ service 0 0 ++ service 0 0 ++ datum 0 ++ reads 1 3 ++ end) (place 1 0 1 0 0) 100 ≡ ok (
      ascii "digraph p {\n" ++
      ascii "  d3_0 -> s1_0;\n" ++
      ascii "  d0_1;\n" ++
      ascii "  s2_1;\n" ++
      ascii "}\n"
      )
  -- no edge at all, and a number of two digits
  pub eleven : picture_call (flat 11 1) (place 0 0 0 0 0) 104 ≡ ok (
      ascii "digraph p {\n" ++
      ascii "  d0_0;\n  d1_0;\n  d2_0;\n  d3_0;\n  d4_0;\n  d5_0;\n  d6_0;\n  d7_0;\n  d8_0;\n  d9_0;\n  d10_0;\n" ++
      ascii "}\n"
      )
