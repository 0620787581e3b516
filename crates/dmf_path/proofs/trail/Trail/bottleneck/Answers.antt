use Rattle.std.proofs.Common.{ℕ, ◌≡◌, ◌<◌, ◌+◌, length, min, List, [], ◌∷◌, drop, refl, ap, sym, ◌∙◌, arith}
use Rattle.std.proofs.lemmas.List.{drop_more}
use Rattle.dmf_path.specs.Held.{least_left}
use Rattle.dmf_path.specs.declared.trail.Slot.{Slot}
use Rattle.dmf_path.proofs.trail.Trail.bottleneck.Goals as goal

-- taking the least with a limit may come before or after
least_left-min : (sent limit x : ℕ) (slots : List Slot) → least_left sent (min limit x) slots ≡ min x (least_left sent limit slots)
least_left-min sent limit x [] = omega arith
least_left-min sent limit x (s ∷ slots) = let later = least_left-min sent limit x slots in omega (arith, later)

pub loop-slot-init : goal.loop-slot-init
loop-slot-init c = refl

pub loop-slot-preserved : goal.loop-slot-preserved
loop-slot-preserved c =
    let slots = c.args.self.now.slots.items in
    let sent = c.args.self.now.sent in
    let i = c.loop-slot.slot-index in
    let more : i < length slots = omega arith in
    rw (c.min-least.ensures, c.room_left.ensures, c.deref-slot-items.ensures.value)
    (least_left-min sent c.loop-slot.least _ (drop (i + 1) slots)
    ∙ sym (ap (least_left sent c.loop-slot.least) (drop_more slots i _ more))
    ∙ c.loop-slot.invariant)
