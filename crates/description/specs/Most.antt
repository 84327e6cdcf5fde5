-- The most that a description may declare.
use Rattle.std.specs.Prelude.{ℕ}

abbrev pub most_clouds : ℕ
most_clouds = 8

abbrev pub most_blocks : ℕ
most_blocks = 16

abbrev pub most_edges : ℕ
most_edges = 32

abbrev pub most_pairs : ℕ
most_pairs = 8
