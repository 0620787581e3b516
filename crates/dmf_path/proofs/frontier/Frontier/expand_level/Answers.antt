-- A level: its first node, a turn, and its end.
use Rattle.std.proofs.Common.{rules, ℕ, ◌≡◌, ◌≢◌, ◌+◌, ◌<◌, ◌≤◌, inl, inr, None, Option, true, ap, sym, ◌∙◌, arith, [], ◌∷◌, length, get_or}
use Rattle.std.specs.Option.{is_some}
use Rattle.std.proofs.lemmas.Bool.{cases_eq}
use Rattle.std.proofs.lemmas.List.{length-drop, get_or-drop}
use Rattle.dmf_path.specs.BothEnds.{AreLevels, HasExpandedLevel}
use Rattle.dmf_path.specs.Frontier.{AreApart, next_label}
use Rattle.dmf_path.specs.Reach.{Reach, root_of}
use Rattle.dmf_links.specs.LinkTable.{links_of}
use Rattle.dmf_path.proofs.labels.Labelling.{label-below}
use Rattle.dmf_path.proofs.labels.Expanding.{IsLevel, level-next, level-labels, beyond-next, apart-next, apart-beyond, behind-is}
use Rattle.dmf_path.proofs.frontier.Frontier.expand_level.Goals as goal
use Rattle.dmf_path.proofs.frontier.Frontier.expand_level.Goals.{After-expand, After-next_label-level}

-- What is labelled up to the level, is labelled by levels.
labelled : (g : _) (c : After-next_label-level g) (f : Reach)
    → IsLevel (links_of c.args.table.now) (g.O.OpenLinks.flags c.args.opens.now) f.roots c.next_label-level.result f.labels f.queue f.done
    → f.roots ≡ root_of f ∷ [] → AreLevels (links_of c.args.table.now) (g.O.OpenLinks.flags c.args.opens.now) (root_of f) (next_label c.args.self.now) f.labels
labelled g c f level alone = rw (← c.next_label-level.ensures) (level-labels c.args.table.now.are level alone)

-- the label of the node that is expanded
next-is : (g : _) (c : After-expand g) → next_label c.loop-self.self ≡ c.next_label-level.result
next-is g c = sym c.next_label.ensures ∙ c.if-next_label-level.true

-- a turn
turn : (g : _) (c : After-expand g)
    → IsLevel (links_of c.args.table.now) (g.O.OpenLinks.flags c.args.opens.now) c.expand.new.self.roots c.next_label-level.result
    c.expand.new.self.labels c.expand.new.self.queue c.expand.new.self.done
turn g c =
    let e = c.expand.ensures in
    rw (e.roots, e.done) (level-next c.args.table.now.are c.loop-self.invariant.level (c.has_next.ensures.more c.loop-self-test.true) (next-is g c)
    (rw (← e.roots, ← e.done) e.so_far) e.expands)

-- each node has a label still
long : (g : _) (c : After-expand g) → length c.expand.new.self.labels ≡ length c.loop-self.self.labels
long g c = c.expand.ensures.so_far.one_each ∙ sym c.loop-self.invariant.level.so_far.one_each

-- The level is at its end, without a node of both searches.
ended : (g : _) (c : After-next_label-level g) (f : Reach)
    → IsLevel (links_of c.args.table.now) (g.O.OpenLinks.flags c.args.opens.now) f.roots c.next_label-level.result f.labels f.queue f.done
    → AreApart f.labels c.args.others.now → (f.done ≡ c.args.self.now.done → (f.done < length f.queue) × (next_label f ≡ c.next_label-level.result))
    → c.args.self.now.done ≤ f.done → f.roots ≡ c.args.self.now.roots → (f.done < length f.queue → next_label f ≢ c.next_label-level.result)
    → HasExpandedLevel (links_of c.args.table.now) (g.O.OpenLinks.flags c.args.opens.now) c.args.self.now f c.args.others.now None
ended g c f level apart first further roots other = record {
  so_far = level.so_far;
  levels = labelled g c f level;
  at_rest = λ _ j ahead within. let more = other ahead in omega (arith, level.most j within, level.from f.done (omega arith) ahead, more);
  apart = λ _. apart;
  beyond = apart-beyond (next_label c.args.self.now) f.labels c.args.others.now apart;
  both = λ v is. absurd (cc);
  further = λ _. elim (cases_eq f.done c.args.self.now.done) [
    | inl same ↦ let is = first same in absurd (other is.0 is.1)
    | inr later ↦ omega (arith, later, further)
  ];
  roots = roots;
}

pub first_labelled-met-requires : goal.first_labelled-met-requires
first_labelled-met-requires g c i within =
    let q = c.expand.new.self.queue in
    let before = length c.queue-before.result.now in
    let inside = rw (c.queue.ensures.value, behind-is q before, length-drop before q) at within in
    let node = (c.expand.ensures.so_far.queued (before + i) (omega (arith, inside))).node in
    rw (c.queue.ensures.value, behind-is q before, get_or-drop before q i 0) (omega (arith, node.to_last, c.requires.one_label_each))

pub returns-then-is_some : goal.returns-then-is_some
returns-then-is_some g c =
    let at = (goal.at.returns-then-is_some g c).After-expand in
    let e = c.expand.ensures in
    let i = c.loop-self.invariant in
    let q = c.expand.new.self.queue in
    let before = length c.queue-before.result.now in
    let there : is_some c.first_labelled-met.result ≡ true = sym c.is_some.ensures ∙ c.if-is_some.true in
    let some : c.first_labelled-met.result ≢ None = λ none. let no = ap (λ (m : Option ℕ). is_some m) none in absurd (cc) in
    record {
      so_far = e.so_far;
      levels = labelled g (goal.at.After-expand g at).After-next_label-level c.expand.new.self (turn g at);
      at_rest = λ none. absurd (some none);
      apart = λ none. absurd (some none);
      beyond = rw (← c.next_label-level.ensures) (beyond-next c.args.others.now e.expands i.apart (long g at) (next-is g at));
      both = λ v is.
          let found = rw (c.queue.ensures.value, behind-is q before) at (c.first_labelled-met.ensures.some v is) in
          let within : before + found.1 < length q = omega (arith, found.2, length-drop before q) in
          let here : get_or q (before + found.1) 0 ≡ v = sym (get_or-drop before q found.1 0) ∙ found.3 in
          let below = label-below e.so_far (before + found.1) c.args.table.now.are within in
          (rw here at (e.so_far.queued (before + found.1) within).node, (λ none. omega (arith, none, rw here at below)), found.0);
      further = λ none. absurd (some none);
      roots = e.roots ∙ i.roots;
    }

pub loop-self-preserved : goal.loop-self-preserved
loop-self-preserved g c =
    let at = (goal.at.loop-self-preserved g c).After-expand in
    let e = c.expand.ensures in
    let i = c.loop-self.invariant in
    let q = c.expand.new.self.queue in
    let before : length c.loop-self.self.queue ≡ length c.queue-before.result.now = sym (ap length c.queue-before.ensures.value) in
    let gone : c.first_labelled-met.result ≡ None = search rules in
    let none = rw (c.queue.ensures.value, behind-is q (length c.queue-before.result.now)) at (c.first_labelled-met.ensures.none gone) in
    record {
      level = turn g at;
      apart = apart-next c.args.others.now e.expands i.apart (long g at) (λ k within.
          rw (before, ← get_or-drop (length c.queue-before.result.now) q k 0)
          (none k (omega (arith, within, before, length-drop (length c.queue-before.result.now) q))));
      first = λ same. absurd (omega (arith, same, e.done, i.further));
      further = omega (arith, e.done, i.further);
      roots = e.roots ∙ i.roots;
    }

pub returns-else-next_label-level : goal.returns-else-next_label-level
returns-else-next_label-level g c =
    let i = c.loop-self.invariant in
    ended g (goal.at.returns-else-next_label-level g c).After-next_label-level c.loop-self.self i.level i.apart i.first i.further i.roots
    (λ ahead same. c.if-next_label-level.false (c.next_label.ensures ∙ same))

pub returns-after-loop-self : goal.returns-after-loop-self
returns-after-loop-self g c =
    let i = c.loop-self.invariant in
    let all = c.has_next.ensures.none c.loop-self-test.false in
    ended g (goal.at.returns-after-loop-self g c).After-next_label-level c.loop-self.self i.level i.apart i.first i.further i.roots
    (λ ahead same. omega (arith, ahead, all))
