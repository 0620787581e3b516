-- What a command of clap becomes with its texts and its arguments.
use Rattle.std.proofs.Common.{ap₂, ◌≡◌, ◌∙◌, ◌||◌, Bool, false, refl}
use Rattle.clap.specs.Words.{AddsArg, App, Rule, with_rule}
use Rattle.clap.specs.declared.builder.arg.Arg.{Arg}
use Rattle.clap.specs.declared.builder.command.Command.{Command}
use Rattle.clap.specs.declared.builder.command.Command.TheOpen.{Command-F}
use Rattle.dmf_arguments.specs.CommandLine.{IsCommandLine, IsRule}

both_false : (a b : Bool) → a ≡ false → b ≡ false → (a || b) ≡ false
both_false a b no_a no_b = rw (no_a, no_b) refl

-- a line with one argument more
pub line_with : {old new : Command} {a : Arg} {line : App} {rule : Rule} → AddsArg old a new → IsRule rule a → IsCommandLine line old
    → IsCommandLine (with_rule line rule) new
line_with adds is line_is =
    (adds.shape is.1 ∙ ap₂ with_rule line_is.0 is.0, adds.globals ∙ both_false _ _ line_is.1 is.1)

-- of the fields of a command
abbrev pub has_globals : Command-F Command → Bool
has_globals fields = fields.has_globals
