use Rattle.dmf_links.specs.LinkTable.{links_of}
use Rattle.dmf_path.proofs.walks.NearGoal.{IsFirst}
use Rattle.dmf_path.proofs.residual.Residual.first_from.Given as goal

abbrev pub invariant-loop-place : goal.invariant-loop-place
invariant-loop-place l = IsFirst (links_of l.self.table.value) l.self.rooms.items l.self.flags.items l.head l.node l.from l.end l.initial.place l.place l.first
