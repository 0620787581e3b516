-- The head of the link is a node, so it has a mark.
use Rattle.std.proofs.Common.{◌<◌, get_or, ap, sym, ◌∙◌, length, arith, rules}
use Rattle.dmf_path.specs.Through.{is_on_side}
use Rattle.dmf_path.proofs.labels.WaysOut.{length-flags_to, open-to, shut-to}
use Rattle.dmf_path.proofs.open.LedToOpenLinks.is_open.Goals.{Start}
use Rattle.dmf_path.proofs.open.LedToOpenLinks.is_open.Goals as goal

within : (g : _) (c : Start g) → c.args.place < length c.args.self.now.heads.now
within g c =
    let s = c.args.self.now in
    omega (arith, c.requires, length-flags_to s.mark s.marks.now s.heads.now (g.O.OpenLinks.flags s.opens) s.one_flag_each)

pub offset_bounds-self-place : goal.offset_bounds-self-place
offset_bounds-self-place g c =
    let inside : c.args.place < length c.args.self.now.heads.now = within g (goal.at.offset_bounds-self-place g c).Start in
    search rules

pub bounds-self-place : goal.bounds-self-place
bounds-self-place g c = within g (goal.at.bounds-self-place g c).Start

pub overflow_sub-marked : goal.overflow_sub-marked
overflow_sub-marked g c = (c.args.self.now.nodes c.args.place (within g (goal.at.overflow_sub-marked g c).Start)).from_one

pub bounds-self-self : goal.bounds-self-self
bounds-self-self g c =
    let node = c.args.self.now.nodes c.args.place (within g (goal.at.bounds-self-self g c).Start) in
    omega (arith, node.from_one, node.to_last)

pub is_open-requires : goal.is_open-requires
is_open-requires g c = omega (arith, within g (goal.at.is_open-requires g c).Start, c.args.self.now.one_flag_each)

pub returns-then-self : goal.returns-then-self
returns-then-self g c =
    let s = c.args.self.now in
    sym (open-to s.mark s.marks.now s.heads.now (g.O.OpenLinks.flags s.opens) c.args.place s.one_flag_each (within g (goal.at.returns-then-self g c).Start)
    (sym c.is_open.ensures ∙ c.if-is_open.true) ∙ ap (λ m. is_on_side m s.marks.now (get_or s.heads.now c.args.place 0)) c.if-self.true)

pub returns-else-self : goal.returns-else-self
returns-else-self g c =
    let s = c.args.self.now in
    sym (open-to s.mark s.marks.now s.heads.now (g.O.OpenLinks.flags s.opens) c.args.place s.one_flag_each (within g (goal.at.returns-else-self g c).Start)
    (sym c.is_open.ensures ∙ c.if-is_open.true) ∙ ap (λ m. is_on_side m s.marks.now (get_or s.heads.now c.args.place 0)) c.if-self.false)

pub returns-else-is_open : goal.returns-else-is_open
returns-else-is_open g c =
    let s = c.args.self.now in
    c.if-is_open.false ∙ sym (shut-to s.mark s.marks.now s.heads.now (g.O.OpenLinks.flags s.opens) c.args.place s.one_flag_each
    (within g (goal.at.returns-else-is_open g c).Start) (sym c.is_open.ensures ∙ c.if-is_open.false))
