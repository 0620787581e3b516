-- Each node of the ball is looked at, and the first link that leads to one is kept.
use Rattle.std.proofs.Common.{◌≡◌, ◌+◌, ◌<◌, ◌≤◌, get_or, length, inl, inr, ap, sym, subst, ◌∙◌, arith}
use Rattle.std.proofs.lemmas.Bool.{cases_eq, cases_lt}
use Rattle.dmf_links.specs.LinkTable.{links_of}
use Rattle.dmf_links.proofs.tables.LinkPlaces.{last-within}
use Rattle.dmf_path.proofs.residual.Residual.first_inside.Goals as goal
use Rattle.dmf_path.proofs.residual.Residual.first_inside.Goals.{then-is_next+then-label-wanted, else-is_next}
use Rattle.dmf_path.proofs.residual.Residual.first_inside.Goals.{else-is_next-via-then-is_next+else-label-wanted, else-is_next-via-else-is_next}

pub loop-head-preserved : goal.loop-head-preserved
loop-head-preserved c =
    let i = c.loop-head.invariant in
    let k = c.loop-head.head-index in
    let around = c.args.ball.now.around in
    let labels = c.args.labels.now in
    let rooms = c.args.self.now.rooms.items in
    let heads = c.args.self.now.table.value.heads.items in
    let read : get_or c.queue-head-items.result.now k 0 ≡ get_or around.queue k 0 = ap (λ xs. get_or xs k 0) c.queue-head-items.ensures.value in
    elim c.if-is_next.branch [
      | then-is_next+then-label-wanted w ↦
          let e = w.first_from-first.ensures in
          let first = w.first_from-first.result in
          let kept : c.loop-head.first ≤ first → c.loop-head.first ≡ first = λ past. omega (arith, e.to, past) in
          rw w.first-is (record {
            from = e.from;
            to = omega (arith, e.to, i.to);
            room = λ below. elim (cases_lt first c.loop-head.first) [
              | inl less ↦ e.room less
              | inr past ↦ subst (λ p. 0 < get_or rooms p 0) (kept past) (i.room (omega (arith, below, kept past)))
            ];
            falls = λ below. elim (cases_lt first c.loop-head.first) [
              | inl less ↦ ap (λ v. get_or labels v 0 + 1) (e.leads less) ∙ c.is_next.ensures.yes w.if-is_next.true
              | inr past ↦ subst (λ p. get_or labels (get_or heads p 0) 0 + 1 ≡ c.args.wanted.label) (kept past) (i.falls (omega (arith, below, kept past)))
            ];
            none = λ j below falls near p from before room. elim (cases_eq j k) [
              | inl same ↦ elim (e.first p from before room) [
                | inl apart ↦ inl (λ leads. apart (leads ∙ ap (λ n. get_or around.queue n 0) same ∙ sym read))
                | inr out ↦ inr out
              ]
              | inr other ↦ i.none j (omega (arith, below, other)) falls near p from (omega (arith, before, e.to)) room
            ];
          })
      | else-is_next w ↦ rw w.first-is (record {
        from = i.from;
        to = i.to;
        room = i.room;
        falls = i.falls;
        none = λ j below falls near p from before room. elim (cases_eq j k) [
          | inl same ↦
              let node : get_or c.queue-head-items.result.now k 0 ≡ get_or around.queue j 0 = read ∙ ap (λ n. get_or around.queue n 0) (sym same) in
              elim w.else-is_next.branch [
                | else-is_next-via-then-is_next+else-label-wanted v ↦
                    absurd (omega (arith, v.if-label-wanted.false, v.label.ensures, near, ap (λ u. get_or around.labels u 0) node))
                | else-is_next-via-else-is_next v ↦ absurd (c.is_next.ensures.no v.if-is_next.false (ap (λ u. get_or labels u 0 + 1) node ∙ falls))
              ]
          | inr other ↦ i.none j (omega (arith, below, other)) falls near p from before room
        ];
      })
    ]

pub returns-clause-only : goal.returns-clause-only
returns-clause-only c = λ p from before room falls.
    let table = c.args.self.now.table.value in
    let l = links_of table in
    let around = c.args.ball.now.around in
    let head = get_or l.heads p 0 in
    let last = last-within l c.args.node table.are c.requires.links.node_is.to_last in
    let within : p < length l.heads = omega (arith, before, c.loop-head.invariant.to, c.requires.links.to_last, last) in
    elim (cases_lt c.args.wanted.left (get_or around.labels head 0)) [
      | inl far ↦ inl far
      | inr near ↦
          let inside : head < length around.labels = omega (arith, (table.are.each p within).head.to_last, c.requires.seen.one_each c.requires.near) in
          let at = c.requires.seen.tidy c.requires.near head inside (omega (arith, near, c.requires.left)) in
          let node = at.1.1 in
          let label = ap (λ u. get_or around.labels u 0) node in
          let count : at.0 < c.loop-head.head-index = omega (arith, at.1.0, c.loop-head-test.false, ap length c.queue-head-items.ensures.value) in
          elim (c.loop-head.invariant.none at.0 count (ap (λ u. get_or c.args.labels.now u 0 + 1) node ∙ falls) (omega (arith, label, near)) p from before room) [
            | inl other ↦ absurd (other (sym node))
            | inr out ↦ inr out
          ]
    ]
