use Rattle.std.proofs.Common.{ap, ap₂, ◌∙◌}
use Rattle.std.proofs.lemmas.Result.{IfOk-weaker}
use Rattle.clap.specs.Words.{App, with_subcommand}
use Rattle.dmf_arguments.proofs.words.command.Goals as goal

pub returns : goal.returns
returns c =
    let top : App → _ = λ a. a.top in
    let one = c.in_ok-subcommand.ensures.shape c.in_ok-solve.ensures.1 ∙ ap₂ with_subcommand c.program.ensures (ap top c.in_ok-solve.ensures.0) in
    let two = c.in_ok-subcommand-2.ensures.shape c.in_ok-session.ensures.1 ∙ ap₂ with_subcommand one (ap top c.in_ok-session.ensures.0) in
    let three = c.in_ok-subcommand-3.ensures.shape c.in_ok-check.ensures.1 ∙ ap₂ with_subcommand two (ap top c.in_ok-check.ensures.0) in
    IfOk-weaker c.subcommand-4.result _ _
    (λ made adds. adds.shape c.in_ok-vital.ensures.1 ∙ ap₂ with_subcommand three (ap top c.in_ok-vital.ensures.0)) c.subcommand-4.ensures
