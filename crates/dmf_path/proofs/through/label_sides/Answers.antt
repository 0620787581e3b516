-- Both searches come to their ends, and their labels are joined; or one misses its end.
use Rattle.std.proofs.Common.{ℕ, ◌≡◌, ◌≢◌, ◌+◌, ◌≤◌, ◌<◌, inl, inr, true, false, Some, map, length, get_or, set, replicate, refl, ap, ◌∙◌, arith}
use Rattle.std.proofs.lemmas.Bool.{cases_eq, cases_lt}
use Rattle.std.proofs.lemmas.List.{get_or_past, length-map, length-replicate}
use Rattle.dmf_node.specs.Node.{IsNode}
use Rattle.dmf_links.specs.Links.{open_flag}
use Rattle.dmf_links.specs.LinkTable.{links_of}
use Rattle.dmf_path.specs.Frontier.{IsSpread}
use Rattle.dmf_path.specs.Labels.{no_label, AreLabelsFrom}
use Rattle.dmf_path.specs.Reach.{Reach}
use Rattle.dmf_path.specs.Through.{flags_to, HasLooked}
use Rattle.dmf_path.proofs.labels.Labelling.{starts-spread}
use Rattle.dmf_path.proofs.labels.WaysOut.{falls-once, few-through, third-f, third-g, third-long, third-none}
use Rattle.dmf_path.proofs.paths.Reaching.{AreOpen-map}
use Rattle.dmf_path.proofs.through.label_sides.Goals as goal
use Rattle.dmf_path.proofs.through.label_sides.Goals.{After-begin, Else-not-branch-2}

-- The search from the goal begins.
begun : (c : After-begin) → IsSpread (links_of c.args.links.now.table.value) c.args.links.now.flags.items c.begin.new.self
begun c = starts-spread c.requires.goal c.args.links.now.flags_are.0 c.requires.near c.begin.ensures

pub returns-then-not-branch-clause-passed : goal.returns-then-not-branch-clause-passed
returns-then-not-branch-clause-passed c = record {
  one_label_each = ap length c.requires.near ∙ length-replicate (c.args.links.now.table.value.nodes + 1) no_label;
  labelled = λ found. absurd (cc);
  parted = λ _. c.in_ok-look_on.ensures.parted (ap Some c.if-not-branch.true);
  same = λ other. absurd (other refl);
}

pub join-requires-clause-counted : goal.join-requires-clause-counted
join-requires-clause-counted c =
    let is = begun (goal.at.join-requires-clause-counted c).After-begin in
    omega (arith, is.counted, is.one_each)

pub returns-then-not-branch-2-clause-passed : goal.returns-then-not-branch-2-clause-passed
returns-then-not-branch-2-clause-passed c = record {
  one_label_each = c.join.ensures.joined.one_each ∙ (begun (goal.at.returns-then-not-branch-2-clause-passed c).After-begin).one_each;
  labelled = λ found. absurd (cc);
  parted = λ _. c.in_ok-look_back.ensures.parted (ap Some c.if-not-branch-2.true);
  same = λ other. absurd (other refl);
}

-- The first search has left the marks as they were.
kept : (c : Else-not-branch-2) → c.look_on.new.marks ≡ c.args.marks.now
kept c = c.in_ok-look_on.ensures.same (λ e. let found = c.if-not-branch.false in cc)

-- what the two searches have labelled
on : (c : Else-not-branch-2) → HasLooked (links_of c.args.links.now.table.value)
    (flags_to false c.args.marks.now c.args.links.now.table.value.heads.items (map open_flag c.args.links.now.rooms.items))
    c.args.ways.now.heads.items c.args.ends.goal c.look_on.new.search (Some true)
on c = rw c.if-not-branch.false at c.in_ok-look_on.ensures.looked

back : (c : Else-not-branch-2) → HasLooked (links_of c.args.links.now.table.value)
    (flags_to true c.args.marks.now c.args.links.now.table.value.heads.items c.args.links.now.flags.items)
    c.args.ways.now.tails.items c.args.ends.start c.look_back.new.search (Some true)
back c = rw (kept c, c.if-not-branch-2.false) at c.in_ok-look_back.ensures.looked

beyond : (c : Else-not-branch-2) → AreLabelsFrom (links_of c.args.links.now.table.value)
    (flags_to false c.args.marks.now c.args.links.now.table.value.heads.items (map open_flag c.args.links.now.rooms.items)) c.look_on.new.search.roots
    c.args.ends.goal c.look_on.new.search.labels
beyond c = (on c).labels (λ none. (cc))

before : (c : Else-not-branch-2) → AreLabelsFrom (links_of c.args.links.now.table.value)
    (flags_to true c.args.marks.now c.args.links.now.table.value.heads.items c.args.links.now.flags.items) c.look_back.new.search.roots
    c.args.ends.start c.look_back.new.search.labels
before c = (back c).labels (λ none. (cc))

-- Their labels add up to small numbers.
few : (c : Else-not-branch-2) → (v : ℕ) → IsNode c.args.links.now.table.value.nodes v → get_or c.look_back.new.search.labels v 0 ≢ no_label
    → c.label-long.result + 1 + get_or c.look_back.new.search.labels v 0 ≤ c.args.links.now.table.value.nodes
few c v node has =
    let links = c.args.links.now in
    let l = links_of links.table.value in
    let rooms = links.rooms.items in
    let sum = few-through rooms links.flags.items (map open_flag rooms) c.args.marks.now links.table.value.are links.flags_are
    (AreOpen-map l rooms (map open_flag rooms) links.rooms_are refl) (length-map rooms open_flag ∙ links.rooms_are.0) c.requires.out
    (on c).roots (back c).roots c.look_on.new.search c.look_back.new.search (on c).spread (back c).spread (beyond c) (before c) c.requires.goal ((on c).found_is refl) v node has in
    omega (arith, sum, c.label-long.ensures)

-- The start has a label, so the length of the part beyond is small.
short : (c : Else-not-branch-2) → c.label-long.result + 1 ≤ c.args.links.now.table.value.nodes
short c = omega (arith, few c c.args.ends.start c.requires.start ((back c).found_is refl))

pub join_before-requires-clause-small : goal.join_before-requires-clause-small
join_before-requires-clause-small c = λ v has.
    let at = (goal.at.join_before-requires-clause-small c).Else-not-branch-2 in
    let most = c.args.links.now.table.value.are.at_most_nodes in
    let are = before at in
    elim (cases_lt c.args.links.now.table.value.nodes v) [
      | inl past ↦
          let none : get_or c.look_back.new.search.labels v 0 ≡ 0 = get_or_past c.look_back.new.search.labels v 0 (omega (arith, past, are.one_each)) in
          omega (arith, none, short at, most)
      | inr within ↦ elim (cases_eq v 0) [
        | inl zero_is ↦ absurd (has (ap (λ u. get_or c.look_back.new.search.labels u 0) zero_is ∙ are.zero))
        | inr other ↦ omega (arith, few at v (record { from_one = omega (arith, other); to_last = within }) has, most)
      ]
    ]

pub returns-clause-passed : goal.returns-clause-passed
returns-clause-passed c =
    let at = (goal.at.returns-clause-passed c).Else-not-branch-2 in
    let links = c.args.links.now in
    let l = links_of links.table.value in
    let rooms = links.rooms.items in
    let nodes = links.table.value.nodes in
    let goal = c.args.ends.goal in
    let long = c.label-long.result in
    let f = c.look_on.new.search.labels in
    let g = c.look_back.new.search.labels in
    let first = c.begin.new.self.labels in
    let second = c.join.new.self.labels in
    let third = c.join_before.new.self.labels in
    let first_is : first ≡ set (replicate (nodes + 1) no_label) goal 0 =
    ap (λ (f : Reach). f.labels) c.begin.ensures ∙ ap (λ ls. set ls goal 0) c.requires.near in
    let f_long = (beyond at).one_each in
    let small : long < no_label = omega (arith, short at, links.table.value.are.at_most_nodes) in
    let joined = c.join.ensures.joined in
    let whole = third-long nodes goal long first second third f g first_is c.requires.goal f_long joined c.join_before.ensures c.label-long.ensures small in
    record {
      one_label_each = whole;
      labelled = λ _. falls-once rooms links.flags.items (map open_flag rooms) c.args.marks.now links.table.value.are links.flags_are
          (AreOpen-map l rooms (map open_flag rooms) links.rooms_are refl) (length-map rooms open_flag ∙ links.rooms_are.0) c.requires.out
          (on at).roots (back at).roots f g third long (beyond at) (before at) c.requires.start c.requires.goal c.label-long.ensures ((on at).found_is refl) ((back at).found_is refl)
          (few at) whole
          (third-f nodes goal long first second third f g first_is c.requires.goal f_long joined c.join_before.ensures c.label-long.ensures small)
          (third-g nodes goal long first second third f g first_is c.requires.goal f_long joined c.join_before.ensures c.label-long.ensures small)
          (third-none nodes goal long first second third f g first_is c.requires.goal f_long joined c.join_before.ensures c.label-long.ensures small);
      parted = λ none. absurd (cc);
      same = λ _. c.in_ok-look_back.ensures.same (λ e. let found = c.if-not-branch-2.false in cc) ∙ kept at;
    }
