-- The pairs in std's word.
use Rattle.std.proofs.Common.{ap, sym, ◌∙◌}
use Rattle.std.specs.List.{list_any}
use Rattle.security.specs.Conflicts.{conflict_by}
use Rattle.security.proofs.Holding.{conflicts-are}
use Rattle.sequences.proofs.Chains.{list_any_is}
use Rattle.conflict_tables.proofs.Holders.conflict.Goals as goal

pub conflict_in-requires-clause-low : goal.conflict_in-requires-clause-low
conflict_in-requires-clause-low c = rw c.pairs.ensures.value c.args.self.now.pairs_low

pub returns : goal.returns
returns c =
    let a = c.args in
    let by = conflict_by a.self.now.description.now a.u a.v in
    c.conflict_in.ensures ∙ ap (list_any by) c.pairs.ensures.value ∙ list_any_is by a.self.now.description.now.pairs ∙ sym (conflicts-are a.self.now.description.now a.u a.v)
