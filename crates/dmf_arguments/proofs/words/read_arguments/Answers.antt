use Rattle.std.proofs.Common.{ap, ap₂, sym, subst, map, ◌≡◌, ◌∙◌, ◌⊎◌, [], List, Option}
use Rattle.clap.specs.Words.{IsAmong, Kinds, Text, app_of, fault_of, is_simple, is_simple_and_free, kind_of, subcommand_of, subcommand_rows_of}
use Rattle.clap.specs.declared.error.kind.ErrorKind.TheVariants.{OutOfMemory}
use Rattle.dmf_arguments.specs.CommandLine.{Asked, asked_in, asked_of, arguments, faults_in}
use Rattle.dmf_arguments.specs.Words.{Asks}
use Rattle.dmf_arguments.proofs.Reading.{line_is_simple, line_is_free, no_kinds, short, told}
use Rattle.dmf_arguments.proofs.words.read_arguments.Goals as goal

-- reading succeeded
pub returns-in-Ok-clause-words : goal.returns-in-Ok-clause-words
returns-in-Ok-clause-words c =
    let all : List Text = map (λ word. word.bytes.items) c.args.words.items in
    let line : app_of c.in_ok-command.command ≡ arguments = c.in_ok-command.ensures in
    let words_are : map (λ word. word.bytes.items) c.as_slice.result.now ≡ all =
    ap (map (λ word. word.bytes.items)) c.as_slice.ensures.value in
    let clean = c.in-Ok.ensures.kinds (ap is_simple_and_free line ∙ line_is_free) in
    let found = (c.in-Ok.ensures.matches (ap is_simple line ∙ line_is_simple)).1 in
    let none : faults_in all ≡ [] = sym (ap₂ fault_of line words_are) ∙ clean in
    let asked : asked_of (subcommand_rows_of c.in-Ok.matches) ≡ asked_in all =
    ap asked_of (found ∙ ap₂ subcommand_of line words_are) in
    let tells = c.arguments_of.ensures in
    record {
      taken = λ clean. subst (λ (a : Option Asked). Asks a c.arguments_of.result) asked (tells.nothing, tells.solve, tells.session, tells.check, tells.vital);
      refused = λ kind kinds faulty. absurd (no_kinds (sym none ∙ faulty));
    }

-- reading failed
pub returns-clause-words : goal.returns-clause-words
returns-clause-words c =
    let all : List Text = map (λ word. word.bytes.items) c.args.words.items in
    let line : app_of c.in_ok-command.command ≡ arguments = c.in_ok-command.ensures in
    let words_are : map (λ word. word.bytes.items) c.as_slice.result.now ≡ all =
    ap (map (λ word. word.bytes.items)) c.as_slice.ensures.value in
    let kind = kind_of c.in-Err.error in
    let among = c.in-Err.ensures.kinds (ap is_simple_and_free line ∙ line_is_free) in
    let one : (kind ≡ OutOfMemory) ⊎ IsAmong kind (faults_in all) =
    subst (λ (kinds : Kinds). (kind ≡ OutOfMemory) ⊎ IsAmong kind kinds) (ap₂ fault_of line words_are) among in
    record {
      taken = λ clean. short (faults_in all) kind c.fault_of.result one c.fault_of.ensures (asked_in all) clean;
      refused = λ k kinds faulty. told (faults_in all) kind c.fault_of.result one c.fault_of.ensures k kinds faulty;
    }
