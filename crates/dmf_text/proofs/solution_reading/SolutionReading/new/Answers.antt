use Rattle.std.proofs.Common.{refl, subst}
use Rattle.dmf_text.proofs.PairLemmas.{small-ends}
use Rattle.dmf_text.specs.SolutionReading.{KeepsPairs}
use Rattle.dmf_text.proofs.solution_reading.SolutionReading.new.Goals as goal

pub returns : goal.returns
returns c =
    let network = c.args.state.now.network in
    let is = c.arcs.ensures.state.network in
    record {
      ends = small-ends network.nodes network.arcs is.at_most_nodes is.arcs;
      value = refl;
      pairs = subst (λ arcs. KeepsPairs arcs (λ _. 0) c.in_ok-pairs.pairs) c.arcs.ensures.value c.in_ok-pairs.ensures;
    }
