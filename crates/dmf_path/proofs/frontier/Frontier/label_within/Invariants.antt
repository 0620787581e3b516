use Rattle.std.proofs.Common.{◌≡◌, ◌+◌, ◌-◌}
use Rattle.dmf_links.specs.LinkTable.{links_of}
use Rattle.dmf_path.specs.Frontier.{IsSpread}
use Rattle.dmf_path.proofs.frontier.Frontier.label_within.Given as goal

abbrev pub invariant-loop-self : goal.invariant-loop-self
invariant-loop-self g l = record {
  so_far : IsSpread (links_of l.table) (g.O.OpenLinks.flags l.opens) l.self;
  roots : l.self.roots ≡ l.fn.self.roots;
}

abbrev pub decreases-loop-self : goal.decreases-loop-self
decreases-loop-self g l = l.table.nodes + 1 - l.self.done
