-- The ends are set in the list of the ends, which at first is that of the places where links begin.
use Rattle.std.proofs.Common.{ℕ, ◌≡◌, ◌+◌, List, Option, Vec, Global, Some, None, get_or, ap, ◌∙◌, sym, set}
use Rattle.std.specs.List.{each_same}
use Rattle.std.proofs.lemmas.List.{get_or_default}
use Rattle.dmf_links.specs.Links.{Links, ends_of, tail_of}
use Rattle.dmf_links.specs.LinkTable.{links_of}
use Rattle.dmf_links.specs.Stack.{ends_set, with_ends}
use Rattle.dmf_links.proofs.table.LinkTable.set_ends.Goals.{in-Some, in-None+in-Ok}
use Rattle.dmf_links.proofs.table.LinkTable.set_ends.Goals as goal

-- The ends are those of the listed ones,
listed : (first : List ℕ) (before taken : Option (Vec ℕ Global)) (ends : Vec ℕ Global) → taken ≡ Some ends → taken ≡ before
    → ends.items ≡ ends_of first before
listed first before taken ends some is = ap (ends_of first) (sym some ∙ is)

-- or of none.
unlisted : (first : List ℕ) (before taken : Option (Vec ℕ Global)) → taken ≡ None → taken ≡ before → first ≡ ends_of first before
unlisted first before taken none is = ap (ends_of first) (sym none ∙ is)

pub invariant_of-self-2 : goal.invariant_of-self-2
invariant_of-self-2 c =
    let self = c.args.self.now in
    let ends : c.match-take.ends.items ≡ ends_of self.first.items self.ends = elim c.match-take.branch [
      | in-Some w ↦ ap (λ (v : Vec ℕ Global). v.items) w.ends-is ∙ listed self.first.items self.ends c.take.result w.in-Some.ends w.in-Some.is c.take.ensures.value
      | in-None+in-Ok w ↦ ap (λ (v : Vec ℕ Global). v.items) w.ends-is ∙ each_same self.first.items w.in-Ok.ends.items w.in-Ok.ensures.cases.0
          ∙ unlisted self.first.items self.ends c.take.result w.in-None.is c.take.ensures.value
    ] in
    let head : c.index-head.result.now ≡ get_or self.heads.items c.args.place 0 =
    c.index-head.ensures ∙ get_or_default self.heads.items c.args.place _ 0 c.requires.within in
    record { are = rw (ends, c.tail-tail.ensures, head) c.requires.links }

pub returns : goal.returns
returns c done =
    let self = c.args.self.now in
    let ends : c.match-take.ends.items ≡ ends_of self.first.items self.ends = elim c.match-take.branch [
      | in-Some w ↦ ap (λ (v : Vec ℕ Global). v.items) w.ends-is ∙ listed self.first.items self.ends c.take.result w.in-Some.ends w.in-Some.is c.take.ensures.value
      | in-None+in-Ok w ↦ ap (λ (v : Vec ℕ Global). v.items) w.ends-is ∙ each_same self.first.items w.in-Ok.ends.items w.in-Ok.ensures.cases.0
          ∙ unlisted self.first.items self.ends c.take.result w.in-None.is c.take.ensures.value
    ] in
    let head : c.index-head.result.now ≡ get_or self.heads.items c.args.place 0 =
    c.index-head.ensures ∙ get_or_default self.heads.items c.args.place _ 0 c.requires.within in
    let l : Links = links_of self in
    ap (λ xs. with_ends l (set (set xs (c.tail-tail.result + 1) c.args.to) (c.index-head.result.now + 1) c.args.opposite_to)) ends
    ∙ ap (λ v. with_ends l (ends_set v c.args.to c.index-head.result.now c.args.opposite_to l.ends)) c.tail-tail.ensures
    ∙ ap (λ w. with_ends l (ends_set (tail_of l c.args.place) c.args.to w c.args.opposite_to l.ends)) head
