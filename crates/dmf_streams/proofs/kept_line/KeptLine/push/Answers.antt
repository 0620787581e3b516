use Rattle.std.proofs.Common.{◌<◌, length, arith, subst, sym}
use Rattle.std.proofs.lemmas.List.{length-take, take_more_set}
use Rattle.dmf_streams.specs.contracts.kept_line.KeptLine.{the_view}
use Rattle.dmf_streams.specs.KeptLine.{IsKept}
use Rattle.dmf_streams.proofs.KeptLineLemmas.{IsKept-push, IsKept-full}
use Rattle.dmf_streams.proofs.kept_line.KeptLine.push.Goals as goal

pub returns-then-self-eq-MAX_LINE : goal.returns-then-self-eq-MAX_LINE
returns-then-self-eq-MAX_LINE c = λ line is.
    let held = subst (λ kept. IsKept kept line) (sym c.self.view_is) is in
    IsKept-full (the_view c.self.inside) line c.args.byte (omega (arith, length-take c.self.inside.len c.self.inside.bytes)) held

pub returns-else-self-eq-MAX_LINE : goal.returns-else-self-eq-MAX_LINE
returns-else-self-eq-MAX_LINE c = λ line is.
    let held = subst (λ kept. IsKept kept line) (sym c.self.view_is) is in
    let within : c.self.inside.len < length c.self.inside.bytes = omega arith in
    rw (take_more_set c.self.inside.bytes c.self.inside.len c.args.byte within)
    (IsKept-push (the_view c.self.inside) line c.args.byte (omega (arith, length-take c.self.inside.len c.self.inside.bytes)) held)
