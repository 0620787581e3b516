use Rattle.std.proofs.Common.{ℕ, ◌≡◌, ◌+◌, ap, get_or, sym, ◌∙◌, arith}
use Rattle.std.proofs.lemmas.List.{get_or_default}
use Rattle.dmf_path.specs.Residual.{ResidualLinks, residual_of, roomed, put_at, room_lowered}
use Rattle.dmf_path.specs.Walk.{pushed_once}
use Rattle.dmf_path.proofs.residual.Residual.push.Goals as goal

pub returns-then-self : goal.returns-then-self
returns-then-self c =
    let r = residual_of c.args.self.now in
    let p = c.args.place in
    let a = c.args.amount in
    let q = c.opposite-opposite.result in
    let lowered = c.lower.new.self in
    let is : q ≡ get_or r.links.partners p 0 =
    (rw c.deref.ensures at c.opposite-opposite.ensures.is) ∙ ap (λ (x : ResidualLinks). get_or x.links.partners p 0) c.lower.ensures in
    let room : c.index-room.result.now ≡ get_or lowered.rooms.items q 0 =
    c.index-room.ensures ∙ get_or_default lowered.rooms.items q _ 0 (omega (arith, lowered.rooms_are.0, rw c.deref.ensures at c.opposite-opposite.ensures.within)) in
    c.put.ensures ∙ ap (λ (x : ℕ). put_at (residual_of lowered) q (x + a)) room
    ∙ ap (λ (x : ResidualLinks). put_at x q (get_or x.rooms q 0 + a)) c.lower.ensures
    ∙ ap (λ (s : ℕ). put_at (room_lowered r p a) s (get_or (room_lowered r p a).rooms s 0 + a)) is
    ∙ ap (λ b. roomed r (pushed_once r.links b a p r.rooms)) (sym (sym (ap (λ (x : ResidualLinks). x.takes_back) c.lower.ensures) ∙ c.if-self.true))
