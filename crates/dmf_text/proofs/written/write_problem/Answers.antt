use Rattle.dmf_text.proofs.RoundTrip.{round-trip}
use Rattle.dmf_text.proofs.written.write_problem.Goals as goal

pub returns-clause-stands : goal.returns-clause-stands
returns-clause-stands g c = round-trip c.args.state.now.network c.put_problem.ensures.state.network
