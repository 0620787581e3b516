use Rattle.std.proofs.Common.{ℕ, ◌≡◌, ◌+◌, ◌-◌, Bool, true, false, List, set, get_or, ap, sym, ◌∙◌, arith}
use Rattle.std.proofs.lemmas.List.{set-get_or, get_or_default}
use Rattle.dmf_links.specs.Links.{Links}
use Rattle.dmf_path.specs.Walk.{pushed_once}
use Rattle.dmf_path.specs.Held.{room_left}
use Rattle.dmf_path.specs.Residual.{residual_of, roomed}
use Rattle.dmf_path.proofs.residual.Residual.put_on.Goals as goal

-- A push of 0 leaves the rooms.
taken-nothing : (p : ℕ) (rooms : List ℕ) → set rooms p (get_or rooms p 0 - 0) ≡ rooms
taken-nothing p rooms = ap (set rooms p) (let same : get_or rooms p 0 - 0 ≡ get_or rooms p 0 = omega arith in same) ∙ set-get_or rooms p 0

pushed-nothing : (l : Links) (takes_back : Bool) (p : ℕ) (rooms : List ℕ) → pushed_once l takes_back 0 p rooms ≡ rooms
pushed-nothing l false p rooms = taken-nothing p rooms
pushed-nothing l true p rooms =
    let q : ℕ = get_or l.partners p 0 in
    ap (λ rs. set rs q (get_or rs q 0 + 0)) (taken-nothing p rooms)
    ∙ ap (set rooms q) (let same : get_or rooms q 0 + 0 ≡ get_or rooms q 0 = omega arith in same) ∙ set-get_or rooms q 0

pub returns-else-held-gt0 : goal.returns-else-held-gt0
returns-else-held-gt0 c =
    let r = residual_of c.args.self.now in
    let p = c.args.slot.place in
    let room : c.index.result.now ≡ get_or r.rooms p 0 =
    c.index.ensures ∙ get_or_default r.rooms p _ 0 (omega (arith, c.requires.slot.within, c.args.self.now.rooms_are.0)) in
    let nothing : get_or r.rooms p 0 - room_left c.args.sent c.args.slot.full_at ≡ 0 = omega (arith, room, c.room_left.ensures, c.if-held-gt0.false) in
    sym (ap (λ amount. roomed r (pushed_once r.links r.takes_back amount p r.rooms)) nothing
    ∙ ap (roomed r) (pushed-nothing r.links r.takes_back p r.rooms))
