use Rattle.std.proofs.Common.{◌≡◌, ◌||◌, Bool, true, false, refl, ap, ◌∙◌}
use Rattle.dmf_text.proofs.writer.StdSinkSink.flush.Goals as goal

either-way : (a b : Bool) → (a || b) ≡ (b || a)
either-way true true = refl
either-way true false = refl
either-way false true = refl
either-way false false = refl

pub returns-clause-mark : goal.returns-clause-mark
returns-clause-mark g c = either-way c.args.self.now.failed c.is_err.result ∙ ap (λ failed. failed || c.args.self.now.failed) c.is_err.ensures.value
