use Rattle.dmf_path.proofs.relabel.label_anew.Goals as goal

pub returns-then-misses_goal-clause-relabelled : goal.returns-then-misses_goal-clause-relabelled
returns-then-misses_goal-clause-relabelled c =
    let e = c.misses_goal.ensures.enclosed c.if-misses_goal.true in
    record { ready = e.ready; labelled = e.labelled; none = e.none; current = e.current }
