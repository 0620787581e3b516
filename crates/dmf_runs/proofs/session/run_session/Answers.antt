use Rattle.dmf_runs.proofs.session.run_session.Goals as goal

pub returns : goal.returns
returns g c = c.run_session_bounded.ensures
