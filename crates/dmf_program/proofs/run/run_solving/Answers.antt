use Rattle.dmf_program.proofs.run.run_solving.Goals as goal

pub returns-then-wanted : goal.returns-then-wanted
returns-then-wanted g c = rw c.if-wanted.true c.run_solve_brief.ensures.run

pub returns-then-wanted-2 : goal.returns-then-wanted-2
returns-then-wanted-2 g c = rw (c.if-wanted.false, c.if-wanted-2.true) c.run_solve_any.ensures.run

pub returns-else-wanted-2 : goal.returns-else-wanted-2
returns-else-wanted-2 g c = rw (c.if-wanted.false, c.if-wanted-2.false) c.run_solve_watched.ensures.run
