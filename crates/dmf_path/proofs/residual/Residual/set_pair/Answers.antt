use Rattle.std.proofs.Common.{ℕ, ◌≡◌, ◌≢◌, List, set, get_or, ap, sym, ◌∙◌}
use Rattle.std.proofs.lemmas.List.{set-set, set_comm}
use Rattle.dmf_path.specs.Residual.{ResidualLinks, residual_of, roomed, put_at}
use Rattle.dmf_links.proofs.tables.LinkPlaces.{partner-other}
use Rattle.dmf_path.proofs.residual.Residual.set_pair.Goals as goal

-- The last write at a place counts.
set-again : (xs : List ℕ) (p q a b c : ℕ) → p ≢ q → set (set (set xs p a) q b) p c ≡ set (set xs p c) q b
set-again xs p q a b c apart = ap (λ l. set l p c) (set_comm xs p q a b apart) ∙ set-set (set xs q b) p a c ∙ sym (set_comm xs p q c b apart)

pub returns : goal.returns
returns c =
    let r = residual_of c.args.self.now in
    let p = c.args.place in
    let q = c.opposite-opposite.result in
    let is : q ≡ get_or r.links.partners p 0 = rw c.deref.ensures at c.opposite-opposite.ensures.is in
    let apart : p ≢ q = λ e. partner-other r.links p c.args.self.now.table.value.are c.requires.within (sym is ∙ sym e) in
    c.put-3.ensures ∙ ap (λ (x : ResidualLinks). put_at x p c.args.along) (c.put-2.ensures ∙ ap (λ (x : ResidualLinks). put_at x q c.args.against) c.put.ensures)
    ∙ ap (roomed r) (set-again r.rooms p q 0 c.args.against c.args.along apart ∙ ap (λ s. set (set r.rooms p c.args.along) s c.args.against) is)
