-- What the tables are by definition, for the crates that fill them.
use Prim.Native.Nat.{ℕ, ◌+◌, ◌*◌, ◌/◌, ◌%◌}
use mathlib.Core.Path.{◌≡◌, refl}
use mathlib.Core.Bool.{cond}
use lib.ListN.{length, get_or}
use Rattle.description.specs.declared.workflow.Block.{Block}
use Rattle.description.specs.declared.workflow.Cloud.{Cloud}
use Rattle.description.specs.declared.workflow.Edge.{Edge}
use Rattle.description.specs.Declarations.{Description}
use Rattle.costs.specs.Terms.{block_term, service_side, datum_side}
use Rattle.sequences.specs.Arrays.{table, table_to}
use Rattle.table_entries.specs.Building.{own_of, late_in, late_of, edges_before, starts_of, order_of, ordered, end_of, edge_in, ends_of}
use Rattle.table_entries.specs.Building.{is_datum_end, side_on, term_at, terms_of, pair_at, pairs_of, conflicts_to, conflict_list}

module _ (d : Description) where
  pub own-of : own_of d ≡ table 128 (λ i. block_term d (i / 8) (i % 8))
  unfolding own_of
  own-of = refl

  pub late_of_lem : late_of d ≡ table_to 32 (length d.edges) (late_in d)
  unfolding late_of
  late_of_lem = refl

  pub starts-of : starts_of d ≡ table_to 17 (length d.blocks + 1) (edges_before d)
  unfolding starts_of
  starts-of = refl

  pub ordered_of : ordered d ≡ table 32 (λ i. get_or (order_of d) i 0)
  unfolding ordered
  ordered_of = refl

  pub ends_of_lem : ends_of d ≡ table_to 64 (length d.edges * 2) (λ i. end_of (edge_in d (i / 2)) (i % 2))
  unfolding ends_of
  ends_of_lem = refl

  pub terms-of : terms_of d ≡ table 2048 (term_at d)
  unfolding terms_of
  terms-of = refl

  pub pairs_of_lem : pairs_of d ≡ table_to 32 (2 * length d.blocks) (pair_at d)
  unfolding pairs_of
  pairs_of_lem = refl

  pub conflict-list : conflict_list d ≡ conflicts_to d (length d.blocks * 16)
  unfolding conflict_list
  conflict-list = refl

pub side-on : (e : Edge) (datum : Block) (c : Cloud) (end : ℕ)
    → side_on e datum c end ≡ cond (is_datum_end e end) (datum_side e.way c datum) (service_side e.way c datum)
unfolding side_on
side-on e datum c end = refl
