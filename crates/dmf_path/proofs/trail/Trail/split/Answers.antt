use Rattle.std.proofs.Common.{◌≡◌, ◌-◌, take, drop, get_or, refl, ap, ◌∙◌, arith}
use Rattle.std.proofs.lemmas.List.{get_or_default}
use Rattle.dmf_path.specs.declared.trail.Slot.{Slot}
use Rattle.dmf_path.specs.Held.{Way, way_of, slot_at}
use Rattle.dmf_path.specs.Residual.{ResidualLinks, residual_of, put_each_on, stays, split_at}
use Rattle.dmf_path.proofs.trail.Trail.split.Goals as goal

pub put_each_on-requires : goal.put_each_on-requires
put_each_on-requires c =
    record {
      can = rw c.deref.ensures.value (c.requires.can c.first_full-first.result c.behind_last_full-behind.result c.if-first-behind.true
          c.behind_last_full-behind.ensures.within);
    }

pub returns-then-first-behind : goal.returns-then-first-behind
returns-then-first-behind c =
    let w : Way = way_of c.args.self.now in
    let r : ResidualLinks = residual_of c.args.links.now in
    let first = c.first_full-first.result in
    let behind = c.behind_last_full-behind.result in
    let within = c.behind_last_full-behind.ensures.within in
    let put : residual_of c.put_each_on.new.self ≡ put_each_on r w.sent (take (behind - first) (drop first w.slots)) =
    rw c.deref.ensures.value at c.put_each_on.ensures in
    let last = c.index-then-first-behind.result.now in
    let slot : c.index.result.now ≡ slot_at w.slots (behind - 1) = c.index.ensures ∙ get_or_default w.slots (behind - 1) _ _
    (omega (arith, within, c.if-first-behind.true)) in
    let joint : last ≡ get_or r.links.heads (slot_at w.slots (behind - 1)).place 0 =
    (rw c.deref-then-first-behind.ensures at c.index-then-first-behind.ensures) ∙ ap (λ (x : ResidualLinks). get_or x.links.heads c.index.result.now.place last) put
    ∙ ap (λ (s : Slot). get_or r.links.heads s.place last) slot
    ∙ get_or_default r.links.heads (slot_at w.slots (behind - 1)).place last 0
    (c.requires.places (behind - 1) (omega (arith, within, c.if-first-behind.true))) in
    split_at first behind c.if-first-behind.true within
    (record { before = c.first_full-first.ensures.open_links; after = c.behind_last_full-behind.ensures.open_links })
    (λ i. record w { walked = first; rest = behind; joint = joint i }) put

pub returns-else-first-behind : goal.returns-else-first-behind
returns-else-first-behind c =
    stays c.first_full-first.result c.behind_last_full-behind.result (omega arith)
    (record { before = c.first_full-first.ensures.open_links; after = c.behind_last_full-behind.ensures.open_links }) refl refl
