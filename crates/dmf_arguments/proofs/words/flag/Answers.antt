use Rattle.std.proofs.Common.{ap, ◌∙◌, Some}
use Rattle.clap.specs.Words.{Rule, rule_of}
use Rattle.clap.specs.declared.builder.action.ArgAction.TheVariants.{SetTrue}
use Rattle.clap.specs.declared.builder.arg.Arg.{Arg}
use Rattle.dmf_arguments.proofs.words.flag.Goals as goal

pub returns : goal.returns
returns c =
    let with_action : Rule → Rule = λ rule. record rule { action = Some SetTrue } in
    let with_long : Rule → Rule = λ rule. record rule { long = Some c.args.name.now } in
    let is_global : Arg → _ = λ arg. arg.global in (
      ap rule_of c.help.ensures ∙ (ap rule_of c.action.ensures ∙ ap with_action (ap rule_of c.long.ensures ∙ ap with_long c.new.ensures.rule)),
      ap is_global c.help.ensures ∙ (ap is_global c.action.ensures ∙ (ap is_global c.long.ensures ∙ c.new.ensures.optional.1)),
    )
