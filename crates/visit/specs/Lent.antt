-- What a walk looks up in the tables that it is lent.
use Rattle.std.specs.Prelude.{ℕ, Bool}
use Rattle.packing.specs.Packing.{digits}
use Rattle.visit.specs.Tables.{tables, apart, stands, Tests, tests_of}
use Rattle.visit.specs.Tables.{Tables as Definition}
use Rattle.visit.specs.declared.tables.Tables.{Tables}

abbrev pub table_in : Tables → Definition
table_in t = tables t.words.now t.bytes.now

-- of a packed placement
abbrev pub apart_in : Tables → (place : ℕ) → Bool
apart_in t place = apart (table_in t) (digits t.blocks place)

abbrev pub stands_in : Tables → (place : ℕ) → Bool
stands_in t place = stands (table_in t) t.blocks (digits t.blocks place)

abbrev pub tests_in : Tables → (place : ℕ) → Tests
tests_in t place = tests_of (table_in t) t.blocks (digits t.blocks place)
