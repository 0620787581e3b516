use Rattle.std.proofs.Common.{◌≡◌, ◌+◌, ◌-◌, [], ◌∷◌}
use Rattle.dmf_links.specs.LinkTable.{links_of}
use Rattle.dmf_path.specs.Frontier.{IsSpread}
use Rattle.dmf_path.proofs.ball.look_around.Given as goal

abbrev pub invariant-loop-around : goal.invariant-loop-around
invariant-loop-around l = record {
  so_far : IsSpread (links_of l.links.table.value) l.links.flags.items l.around;
  roots : l.around.roots ≡ l.goal ∷ [];
}

abbrev pub decreases-loop-around : goal.decreases-loop-around
decreases-loop-around l = l.links.table.value.nodes + 1 - l.around.done
