-- Four entries of both lists are put.
use Rattle.std.proofs.Common.{◌≡◌, ◌≢◌, ◌∙◌, get_or, refl}
use Rattle.std.proofs.lemmas.List.{get_or_default}
use Rattle.dmf_links.specs.LinkTable.{links_of}
use Rattle.dmf_links.specs.Links.{Links}
use Rattle.dmf_links.specs.Stack.{AreCoupled}
use Rattle.dmf_links.proofs.spares.Coupled.{coupled, are-coupled, AreLinks-coupled}
use Rattle.dmf_links.proofs.table.LinkTable.couple.Goals.{After-put_two-4}
use Rattle.dmf_links.proofs.table.LinkTable.couple.Goals as goal

far : (c : After-put_two-4) → get_or c.args.self.now.partners.items c.args.a 0 ≢ c.args.b
far c same = c.if-a_opposite-b.false (c.opposite-a_opposite.ensures.is ∙ same)

-- the links then
abbrev links : After-put_two-4 → Links
links c =
    coupled (links_of c.args.self.now) c.args.a c.args.b c.args.self.now.are c.requires.a_within c.requires.b_within c.requires.apart c.requires.a_spare
    c.requires.b_spare (far c)

are : (c : After-put_two-4) → AreCoupled (links_of c.args.self.now) c.args.a c.args.b (links c)
are c =
    are-coupled (links_of c.args.self.now) c.args.a c.args.b c.args.self.now.are c.requires.a_within c.requires.b_within c.requires.apart c.requires.a_spare
    c.requires.b_spare (far c)

heads : (c : After-put_two-4) → c.put_two-4.new.items.items ≡ (links c).heads
heads c =
    let l = links_of c.args.self.now in
    let a_head : c.index-a_head.result.now ≡ get_or l.heads c.args.a 0 = c.index-a_head.ensures ∙ get_or_default l.heads c.args.a _ 0 c.requires.a_within in
    let b_head : c.index-b_head.result.now ≡ get_or l.heads c.args.b 0 = c.index-b_head.ensures ∙ get_or_default l.heads c.args.b _ 0 c.requires.b_within in
    c.put_two-4.ensures
    ∙ rw (c.put_two-3.ensures, c.opposite-a_opposite.ensures.is, c.opposite-b_opposite.ensures.is, a_head, b_head, c.tail-a_tail.ensures, c.tail-b_tail.ensures) refl

partners : (c : After-put_two-4) → c.put_two-2.new.items.items ≡ (links c).partners
partners c =
    c.put_two-2.ensures
    ∙ rw (c.put_two.ensures, c.opposite-a_opposite.ensures.is, c.opposite-b_opposite.ensures.is) refl

pub invariant_of-self : goal.invariant_of-self
invariant_of-self c =
    let at = (goal.at.invariant_of-self c).After-put_two-4 in
    record { are = rw (heads at, partners at) (AreLinks-coupled c.args.self.now.are (are at)) }

pub returns : goal.returns
returns c =
    let at = (goal.at.returns c).After-put_two-4 in
    rw (heads at, partners at) (are at)
