use Rattle.std.proofs.Common.{rules, ◌∙◌, Ok, Err, ap, get_or, sym}
use Rattle.std.proofs.lemmas.List.Sorted.{answers_always}
use Rattle.dmf_solver.proofs.Emptied.{emptied-searched}
use Rattle.dmf_solver.proofs.drained_flows.emptied_flow.Goals as goal

pub returns-in-Ok : goal.returns-in-Ok
returns-in-Ok c =
    let s = c.args.state.now in
    sym (emptied-searched c.args.shut.now s.network s.flows c.args.k (Ok c.in-Ok.field-0) c.requires.shut c.in-Ok.ensures.bound
    (c.in-Ok.ensures.position (λ a. a.arc) (answers_always _ _ _ (λ f a r g called. search rules))))

pub returns-in-Err : goal.returns-in-Err
returns-in-Err c =
    let s = c.args.state.now in
    ap (λ flows. get_or flows c.args.k 0) c.flows.ensures.value
    ∙ sym (emptied-searched c.args.shut.now s.network s.flows c.args.k (Err c.in-Err.field-0) c.requires.shut c.in-Err.ensures.bound
    (c.in-Err.ensures.position (λ a. a.arc) (answers_always _ _ _ (λ f a r g called. search rules))))
