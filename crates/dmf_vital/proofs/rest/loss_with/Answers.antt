use Rattle.dmf_vital.proofs.Both.{less-at_most, pair-loss}
use Rattle.dmf_vital.proofs.rest.loss_with.Goals as goal

pub overflow_sub-lost : goal.overflow_sub-lost
overflow_sub-lost c = less-at_most c.args.state.now c.args.rest.now c.value.result c.value-2.result c.value.ensures.state c.requires.greatest c.requires.rest
    c.value.ensures.value c.value-2.ensures.value

pub returns-clause-loss : goal.returns-clause-loss
returns-clause-loss c = pair-loss c.args.state.now c.args.rest.now c.value.result c.value-2.result c.value.ensures.state c.requires.greatest c.requires.rest
    c.value.ensures.value c.value-2.ensures.value c.args.j c.in_ok-loss.loss c.requires.is_there c.in_ok-loss.ensures.loss
