use Rattle.std.proofs.Common.{rules}
use Rattle.dmf_c.proofs.ranges.dmf_session_arc_range.Goals as goal

pub returns-clause-answer : goal.returns-clause-answer
returns-clause-answer c = record { state = c.present-present.result.now; present = search rules; so = c.copy_range.ensures.answer }

pub returns-clause-tails : goal.returns-clause-tails
returns-clause-tails c = record { state = c.present-present.result.now; present = search rules; so = c.copy_range.ensures.tails }

pub returns-clause-heads : goal.returns-clause-heads
returns-clause-heads c = record { state = c.present-present.result.now; present = search rules; so = c.copy_range.ensures.heads }

pub returns-clause-capacities : goal.returns-clause-capacities
returns-clause-capacities c = record { state = c.present-present.result.now; present = search rules; so = c.copy_range.ensures.capacities }

pub returns-clause-flows : goal.returns-clause-flows
returns-clause-flows c = record { state = c.present-present.result.now; present = search rules; so = c.copy_range.ensures.flows }

pub returns-clause-closed : goal.returns-clause-closed
returns-clause-closed c = record { state = c.present-present.result.now; present = search rules; so = c.copy_range.ensures.closed }
