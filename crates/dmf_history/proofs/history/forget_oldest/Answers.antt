use Rattle.dmf_history.proofs.history.forget_oldest.Goals as goal

pub returns : goal.returns
returns g c = c.pop_front-oldest.ensures.rest
