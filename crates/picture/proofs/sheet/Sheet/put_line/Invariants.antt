-- Of the nodes that follow, those before this one are on the sheet.
use Rattle.std.proofs.Common.{◌≡◌, ◌++◌, take}
use Rattle.picture.specs.Nodes.{next_text}
use Rattle.picture.proofs.sheet.Sheet.put_line.Given as goal

abbrev pub invariant-loop-node : goal.invariant-loop-node
invariant-loop-node l = l.self ≡ l.initial.self ++ next_text (take l.node-index l.next)
