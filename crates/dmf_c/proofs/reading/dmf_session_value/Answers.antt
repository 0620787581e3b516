use Rattle.std.proofs.Common.{rules}
use Rattle.dmf_c.proofs.reading.dmf_session_value.Goals as goal

pub returns-clause-value : goal.returns-clause-value
returns-clause-value c = record { state = c.present.result.now; present = search rules; so = c.value.ensures.value }
