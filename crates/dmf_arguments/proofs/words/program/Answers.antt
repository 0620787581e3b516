use Rattle.std.proofs.Common.{ap, ◌∙◌, true}
use Rattle.clap.specs.Simple.{app_of_fields, on_top}
use Rattle.dmf_arguments.proofs.words.program.Goals as goal

pub returns : goal.returns
returns c = ap app_of_fields c.version.ensures ∙ ap (on_top (λ line. record line { has_version = true })) c.named.ensures.0
