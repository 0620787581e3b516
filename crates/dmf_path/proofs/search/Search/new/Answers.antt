-- Callers see the pairs from which the search was made.
use Rattle.std.proofs.Common.{◌∙◌}
use Rattle.std.proofs.lemmas.Result.{IfOk-weaker}
use Rattle.dmf_path.proofs.search.Search.new.Goals as goal

pub search-requires : goal.search-requires
search-requires g c =
    let b = c.in_ok-linked.ensures in
    record {
      start = rw b.nodes_are c.requires.start;
      goal = rw b.nodes_are c.requires.goal;
      apart = c.requires.apart;
      places = b.places_are;
      rooms = b.rooms_are;
    }

pub returns : goal.returns
returns g c =
    let b = c.in_ok-linked.ensures in
    IfOk-weaker c.search.result _ _
    (λ search is. is
    ∙ λ i. record {
      nodes = b.nodes_are i;
      pairs = b.pairs_are i;
      start = c.args.ends.start;
      goal = c.args.ends.goal;
      takes_back = c.args.takes_back;
    })
    c.search.ensures
