use Rattle.std.proofs.Common.{◌∙◌, ap}
use Rattle.dmf_state.specs.Side.{CutSide, has_node}
use Rattle.dmf_state.proofs.Ascending.{has_node-searched}
use Rattle.dmf_state.proofs.side.Side.contains.Goals as goal

pub returns : goal.returns
returns c =
    let searched = rw c.deref.ensures.value at c.binary_search.ensures.position in
    let found = has_node-searched c.self.inside.ids.items c.args.v c.binary_search.result c.self.invariant searched in
    c.is_ok.ensures.value ∙ found ∙ ap (λ (side : CutSide). has_node side.ids c.args.v) c.self.view_is
