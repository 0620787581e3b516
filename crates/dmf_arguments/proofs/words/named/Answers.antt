use Rattle.std.proofs.Common.{ap, ◌∙◌}
use Rattle.clap.specs.Simple.{app_of_fields}
use Rattle.dmf_arguments.proofs.CommandLemmas.{has_globals}
use Rattle.dmf_arguments.proofs.words.named.Goals as goal

pub returns : goal.returns
returns c = (
  ap app_of_fields c.after_help.ensures ∙ (ap app_of_fields c.override_usage.ensures ∙ (ap app_of_fields c.about.ensures ∙ c.new.ensures.app)),
  ap has_globals c.after_help.ensures ∙ (ap has_globals c.override_usage.ensures ∙ (ap has_globals c.about.ensures ∙ c.new.ensures.local)),
)
