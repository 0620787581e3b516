use Rattle.std.proofs.Common.{Ok, ap}
use Rattle.dmf_runs.specs.CommandText.{with_number}
use Rattle.dmf_runs.proofs.command_text.read_number.Goals as goal

pub returns-in-Err-TooLarge : goal.returns-in-Err-TooLarge
returns-in-Err-TooLarge c = ap (λ n. with_number n (λ n. Ok n)) (rw c.in-Err-TooLarge.field-0-is at c.in-Err-TooLarge.ensures)
