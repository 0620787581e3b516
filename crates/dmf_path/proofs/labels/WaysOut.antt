-- Labels from the ways out of marked nodes: they are sound, and fall once where a walk along them leaves the marked nodes. Where one of the
-- two searches ends without its end, the marks are those of a closed side.
use Rattle.std.proofs.Common.{ℕ, ◌≡◌, ◌≢◌, ◌+◌, ◌-◌, ◌<◌, ◌≤◌, ◌⊎◌, Bool, true, false, List, [], ◌∷◌, length, get_or, set, replicate, map, not, cond, zero, suc, inl, inr}
use Rattle.std.proofs.Common.{ap, refl, sym, subst, ◌∙◌, arith, eq-eqb, ◌==◌, ◌↔◌, Contains}
use Rattle.std.specs.List.{range_with_len}
use Rattle.std.proofs.lemmas.Bool.{cases_eq, cases_lt, cases_Bool, ne_eqb, not-true, not_from_false, false≢true}
use Rattle.std.proofs.lemmas.List.{get_or-replicate, get_or-set_same, length-replicate, length-set}
use Rattle.std.proofs.lemmas.List.FromFn.{get_or-map-range_with_len}
use Rattle.dmf_node.specs.Node.{IsNode}
use Rattle.dmf_links.specs.Links.{Links, LiesAt, AreLinks, AreFlags}
use Rattle.dmf_links.proofs.tables.LinkPlaces.{lies-within}
use Rattle.dmf_links.proofs.rooms.Flags.{flag-of_room}
use Rattle.dmf_path.specs.BothEnds.{AreJoinedBy, joined_by}
use Rattle.dmf_path.specs.ClosedSide.{is_marked}
use Rattle.dmf_path.specs.Frontier.{AreApart, IsSpread}
use Rattle.dmf_path.specs.Labels.{no_label, is_label, AreLabelsFrom}
use Rattle.dmf_path.specs.Reach.{Reach}
use Rattle.dmf_path.specs.Searching.{IsParted}
use Rattle.dmf_path.specs.Through.{flags_to, is_on_side, AreMarked, AreWaysOut, FallOnce}
use Rattle.dmf_path.specs.declared.through.WaysOut.{WaysOut}
use Rattle.dmf_path.specs.Walk.{AreValid}
use Rattle.dmf_path.proofs.labels.Labelled.{opposite}
use Rattle.dmf_path.proofs.labels.Labelling.{queued-at}
use Rattle.dmf_path.proofs.labels.Meeting.{apart-count}
use Rattle.dmf_path.proofs.labels.Spreading.{cases-set}
use Rattle.dmf_path.proofs.paths.Reaching.{AreOpen, label-none, label-to}

-- ---- the flags of links to nodes with a mark

pub length-flags_to : (mark : Bool) (marks : List Bool) (heads flags : List ℕ) → length flags ≡ length heads
    → length (flags_to mark marks heads flags) ≡ length heads
length-flags_to mark marks [] flags long = refl
length-flags_to mark marks (h ∷ heads) [] long = absurd (omega (arith, long))
length-flags_to mark marks (h ∷ heads) (f ∷ flags) long = ap suc (length-flags_to mark marks heads flags (omega (arith, long)))

pub flag-to : (mark : Bool) (marks : List Bool) (heads flags : List ℕ) (p : ℕ) → length flags ≡ length heads → p < length heads
    → get_or (flags_to mark marks heads flags) p 0 ≡ cond (is_on_side mark marks (get_or heads p 0)) (get_or flags p 0) 0
flag-to mark marks [] flags p long within = absurd (omega (arith, within))
flag-to mark marks (h ∷ heads) [] p long within = absurd (omega (arith, long))
flag-to mark marks (h ∷ heads) (f ∷ flags) zero long within = refl
flag-to mark marks (h ∷ heads) (f ∷ flags) (suc p) long within = flag-to mark marks heads flags p (omega (arith, long)) (omega (arith, within))

-- What is open among them is open, and leads to a node with the mark.
on-cond : (b : Bool) (flag : ℕ) → cond b flag 0 ≡ 1 → (b ≡ true) × (flag ≡ 1)
on-cond true flag is = (refl, is)
on-cond false flag is = absurd (omega (arith, is))

cond-on : (b : Bool) (flag : ℕ) → b ≡ true → flag ≡ 1 → cond b flag 0 ≡ 1
cond-on b flag e is = rw e is

cond-open : (b : Bool) (flag : ℕ) → (flag == 1) ≡ true → (cond b flag 0 == 1) ≡ b
cond-open true flag is = is
cond-open false flag is = refl

cond-shut : (b : Bool) (flag : ℕ) → (flag == 1) ≡ false → (cond b flag 0 == 1) ≡ false
cond-shut true flag is = is
cond-shut false flag is = refl

-- A link that is open is so among them if it leads to a node with the mark,
pub open-to : (mark : Bool) (marks : List Bool) (heads flags : List ℕ) (p : ℕ) → length flags ≡ length heads → p < length heads
    → (get_or flags p 0 == 1) ≡ true → (get_or (flags_to mark marks heads flags) p 0 == 1) ≡ is_on_side mark marks (get_or heads p 0)
open-to mark marks heads flags p long within is =
    ap (λ (f : ℕ). (f == 1)) (flag-to mark marks heads flags p long within) ∙ cond-open (is_on_side mark marks (get_or heads p 0)) (get_or flags p 0) is

-- and one that is not open is not.
pub shut-to : (mark : Bool) (marks : List Bool) (heads flags : List ℕ) (p : ℕ) → length flags ≡ length heads → p < length heads
    → (get_or flags p 0 == 1) ≡ false → (get_or (flags_to mark marks heads flags) p 0 == 1) ≡ false
shut-to mark marks heads flags p long within is =
    ap (λ (f : ℕ). (f == 1)) (flag-to mark marks heads flags p long within) ∙ cond-shut (is_on_side mark marks (get_or heads p 0)) (get_or flags p 0) is

cond-either : (a b : Bool) → b ≡ true → cond a true b ≡ true
cond-either true b e = refl
cond-either false b e = e

cond-neither : (a b : Bool) → b ≡ false → cond a false b ≡ false
cond-neither true b e = refl
cond-neither false b e = e

cond-false : (a b : Bool) → cond a false b ≡ true → (a ≡ false) × (b ≡ true)
cond-false true b e = absurd (false≢true e)
cond-false false b e = (refl, e)

-- ---- two searches, on from the heads and back from the tails

module _ {l : Links} (rooms flags opens : List ℕ) {start goal : ℕ} {ways : WaysOut} (marks : List Bool) (links : AreLinks l) (flagged : AreFlags l rooms flags)
    (opened : AreOpen l rooms opens) (opens_long : length opens ≡ length l.heads) (out : AreWaysOut l rooms start goal ways marks) where
  -- A link with room from a node whose label is below that of the end leads, where it leads to a node without a mark, to one label more.
  on-beyond : {roots f : List ℕ} → AreLabelsFrom l (flags_to false marks l.heads opens) roots goal f → (v p : ℕ) → IsNode l.nodes v → LiesAt l v p
      → 0 < get_or rooms p 0 → is_marked marks (get_or l.heads p 0) ≡ false → get_or f v 0 + 1 < get_or f goal 0
      → get_or f (get_or l.heads p 0) 0 ≤ get_or f v 0 + 1
  on-beyond are v p node lies room off low =
      let within = lies-within l v p links node lies in
      are.near v p node lies (flag-to false marks l.heads opens p opens_long within ∙ cond-on (not (is_marked marks (get_or l.heads p 0))) (get_or opens p 0)
      (not_from_false (is_marked marks (get_or l.heads p 0)) off) (opened p within ∙ flag-of_room (get_or rooms p 0) room)) low

  -- The same backwards, from a marked node.
  on-before : {roots g : List ℕ} → AreLabelsFrom l (flags_to true marks l.heads flags) roots start g → (v p : ℕ) → IsNode l.nodes v → LiesAt l v p
      → 0 < get_or rooms p 0 → is_marked marks v ≡ true → get_or g (get_or l.heads p 0) 0 + 1 < get_or g start 0
      → get_or g v 0 ≤ get_or g (get_or l.heads p 0) 0 + 1
  on-before {g = g} are v p node lies room inside low =
      let link = links.each p (lies-within l v p links node lies) in
      let other = opposite rooms flags links flagged (record { is_node = node; lies = lies; leads = refl; room = room }) in
      let q : ℕ = get_or l.partners p 0 in
      let here : is_marked marks (get_or l.heads q 0) ≡ true = ap (is_marked marks) other.head ∙ inside in
      let flag : get_or (flags_to true marks l.heads flags) q 0 ≡ 1 =
      flag-to true marks l.heads flags q flagged.0 link.partner ∙ cond-on (is_marked marks (get_or l.heads q 0)) (get_or flags q 0) here other.flag in
      omega (arith, are.near (get_or l.heads p 0) q link.head other.lies flag low, ap (λ u. get_or g u 0) other.head)

  -- ---- on from the heads

  module _ {heads : List ℕ} (heads_are : (v : ℕ) → Contains heads v ↔ Contains ways.heads.items v) where
    -- What the search beyond labels has no mark.
    out-beyond : {f : List ℕ} → AreLabelsFrom l (flags_to false marks l.heads opens) heads goal f → (v : ℕ) → IsNode l.nodes v → get_or f v 0 ≢ no_label
        → is_marked marks v ≡ false
    out-beyond are v node has = elim (cases_Bool (is_marked marks v)) [
      | inr off ↦ off
      | inl in_it ↦
          let back = are.backed v node (λ root. false≢true (sym (out.heads_out v ((heads_are v).0 root)).1 ∙ in_it)) has in
          let on = on-cond (not (is_marked marks (get_or l.heads back.place 0))) (get_or opens back.place 0)
          (sym (flag-to false marks l.heads opens back.place opens_long back.within) ∙ back.opened) in
          ap (is_marked marks) (sym back.leads) ∙ not-true (is_marked marks (get_or l.heads back.place 0)) on.0
    ]

    -- If the search beyond does not come to the goal, the nodes to which it comes join the side.
    pub parted-beyond : {f : List ℕ} (after : List Bool) → AreLabelsFrom l (flags_to false marks l.heads opens) heads goal f → get_or f goal 0 ≡ no_label
        → IsNode l.nodes start → IsNode l.nodes goal → AreMarked f true marks after → IsParted l rooms start goal after
    parted-beyond {f = f} after are missed start_is goal_is marked =
        let at = λ (v : ℕ) (node : IsNode l.nodes v). marked.each v (subst (λ n. IsNode n v) (sym out.one_each) node) in
        record {
          separated = record {
            inside = is_marked after;
            start_in = at start start_is ∙ cond-either (is_label (get_or f start 0)) (is_marked marks start) out.start_in;
            goal_out = at goal goal_is ∙ ap (λ b. cond b true (is_marked marks goal)) (label-none (get_or f goal 0) missed) ∙ out.goal_out;
            closed = λ v p node lies room inside.
                let w : ℕ = get_or l.heads p 0 in
                let head = (links.each p (lies-within l v p links node lies)).head in
                at w head ∙ (elim (cases_Bool (is_marked marks w)) [
                  | inl in_it ↦ cond-either (is_label (get_or f w 0)) (is_marked marks w) in_it
                  | inr off_it ↦
                      let has : get_or f w 0 ≢ no_label = elim (cases_eq (get_or f v 0) no_label) [
                        | inl none ↦
                            let was : is_marked marks v ≡ true = sym (ap (λ b. cond b true (is_marked marks v)) (label-none (get_or f v 0) none))
                            ∙ sym (at v node) ∙ inside in
                            let zero_is = are.roots_are w ((heads_are w).1 (out.leaves v p node lies room was off_it).1) in
                            λ unset. omega (arith, unset, zero_is)
                        | inr has_one ↦
                            let near = on-beyond are v p node lies room off_it (omega (arith, missed, are.small v node, has_one, links.at_most_nodes)) in
                            λ unset. omega (arith, near, unset, are.small v node, has_one, links.at_most_nodes)
                      ]
                      in
                      ap (λ b. cond b true (is_marked marks w)) (label-to (get_or f w 0) has)
                ]);
          };
          marked = λ long v node. refl;
        }

  -- ---- back from the tails

  module _ {tails : List ℕ} (tails_are : (v : ℕ) → Contains tails v ↔ Contains ways.tails.items v) where
    -- What the search before labels has one.
    in-before : {g : List ℕ} → AreLabelsFrom l (flags_to true marks l.heads flags) tails start g → (v : ℕ) → IsNode l.nodes v → get_or g v 0 ≢ no_label
        → is_marked marks v ≡ true
    in-before are v node has = elim (cases_Bool (is_marked marks v)) [
      | inl in_it ↦ in_it
      | inr off ↦
          let back = are.backed v node (λ root. false≢true (sym off ∙ (out.tails_in v ((tails_are v).0 root)).1)) has in
          let on = on-cond (is_marked marks (get_or l.heads back.place 0)) (get_or flags back.place 0)
          (sym (flag-to true marks l.heads flags back.place flagged.0 back.within) ∙ back.opened) in
          ap (is_marked marks) (sym back.leads) ∙ on.0
    ]

    -- If the search before does not come to the start, the nodes to which it comes leave the side.
    pub parted-before : {g : List ℕ} (after : List Bool) → AreLabelsFrom l (flags_to true marks l.heads flags) tails start g → get_or g start 0 ≡ no_label
        → IsNode l.nodes start → IsNode l.nodes goal → AreMarked g false marks after → IsParted l rooms start goal after
    parted-before {g = g} after are missed start_is goal_is marked =
        let at = λ (v : ℕ) (node : IsNode l.nodes v). marked.each v (subst (λ n. IsNode n v) (sym out.one_each) node) in
        record {
          separated = record {
            inside = is_marked after;
            start_in = at start start_is ∙ ap (λ b. cond b false (is_marked marks start)) (label-none (get_or g start 0) missed) ∙ out.start_in;
            goal_out = at goal goal_is ∙ cond-neither (is_label (get_or g goal 0)) (is_marked marks goal) out.goal_out;
            closed = λ v p node lies room inside.
                let w : ℕ = get_or l.heads p 0 in
                let head = (links.each p (lies-within l v p links node lies)).head in
                let was = cond-false (is_label (get_or g v 0)) (is_marked marks v) (sym (at v node) ∙ inside) in
                let unset : get_or g v 0 ≡ no_label = elim (cases_eq (get_or g v 0) no_label) [
                  | inl none ↦ none
                  | inr has ↦ absurd (false≢true (sym was.0 ∙ label-to (get_or g v 0) has))
                ] in
                let none : get_or g w 0 ≡ no_label = elim (cases_eq (get_or g w 0) no_label) [
                  | inl none ↦ none
                  | inr has_one ↦
                      let near = on-before are v p node lies room was.1 (omega (arith, missed, are.small w head, has_one, links.at_most_nodes)) in
                      absurd (omega (arith, near, unset, are.small w head, has_one, links.at_most_nodes))
                ] in
                let still : is_marked marks w ≡ true = elim (cases_Bool (is_marked marks w)) [
                  | inl in_it ↦ in_it
                  | inr off_it ↦
                      let zero_is = are.roots_are v ((tails_are v).1 (out.leaves v p node lies room was.1 off_it).0) in
                      absurd (omega (arith, unset, zero_is))
                ] in
                at w head ∙ ap (λ b. cond b false (is_marked marks w)) (label-none (get_or g w 0) none) ∙ still;
          };
          marked = λ long v node. refl;
        }

  -- ---- both come to their ends

  module _ {heads tails : List ℕ} (heads_are : (v : ℕ) → Contains heads v ↔ Contains ways.heads.items v)
      (tails_are : (v : ℕ) → Contains tails v ↔ Contains ways.tails.items v) where
    -- No node has labels of both. So these add up to small numbers.
    pub few-through : (f g : Reach) → IsSpread l (flags_to false marks l.heads opens) f → IsSpread l (flags_to true marks l.heads flags) g
        → AreLabelsFrom l (flags_to false marks l.heads opens) heads goal f.labels → AreLabelsFrom l (flags_to true marks l.heads flags) tails start g.labels
        → IsNode l.nodes goal → get_or f.labels goal 0 ≢ no_label → (v : ℕ) → IsNode l.nodes v → get_or g.labels v 0 ≢ no_label
        → get_or f.labels goal 0 + 1 + get_or g.labels v 0 ≤ l.nodes
    few-through f g on back beyond before goal_is goal_has v node has =
        let apart : AreApart f.labels g.labels = λ u within. elim (cases_eq u 0) [
          | inl none ↦ inl (rw none beyond.zero)
          | inr some ↦
              let is : IsNode l.nodes u = record { from_one = omega (arith, some); to_last = omega (arith, within, beyond.one_each) } in
              elim (cases_eq (get_or f.labels u 0) no_label) [
                | inl unset ↦ inl unset
                | inr has_one ↦ elim (cases_eq (get_or g.labels u 0) no_label) [
                  | inl unset ↦ inr unset
                  | inr also ↦ absurd (false≢true (sym (out-beyond heads_are beyond u is has_one) ∙ in-before tails_are before u is also))
                ]
              ]
        ] in
        let count = apart-count f.labels g.labels (beyond.one_each ∙ sym before.one_each) apart in
        let a = queued-at on goal goal_is goal_has in
        let b = queued-at back v node has in
        omega (arith, count, a.1, a.3, b.1, b.3, on.counted, back.counted, beyond.one_each)

    module _ (f g labels : List ℕ) (long : ℕ) (beyond : AreLabelsFrom l (flags_to false marks l.heads opens) heads goal f)
        (before : AreLabelsFrom l (flags_to true marks l.heads flags) tails start g) (start_is : IsNode l.nodes start) (goal_is : IsNode l.nodes goal)
        (long_is : long ≡ get_or f goal 0) (goal_has : get_or f goal 0 ≢ no_label) (start_has : get_or g start 0 ≢ no_label)
        (few : (v : ℕ) → IsNode l.nodes v → get_or g v 0 ≢ no_label → long + 1 + get_or g v 0 ≤ l.nodes) (labels_long : length labels ≡ l.nodes + 1)
        (with_f : (v : ℕ) → IsNode l.nodes v → get_or f v 0 ≢ no_label → get_or labels v 0 ≡ long - get_or f v 0)
        (with_g : (v : ℕ) → IsNode l.nodes v → get_or f v 0 ≡ no_label → get_or g v 0 ≢ no_label → get_or labels v 0 ≡ long + 1 + get_or g v 0)
        (with_none : (v : ℕ) → IsNode l.nodes v → get_or f v 0 ≡ no_label → get_or g v 0 ≡ no_label → get_or labels v 0 ≡ no_label) where
      -- as what a node counts
      count : ℕ → ℕ
      count v = cond (is_label (get_or labels v 0)) (get_or labels v 0) (cond (is_marked marks v) no_label 1)

      counts : List ℕ
      counts = map count (range_with_len 0 (l.nodes + 1))

      counts-at : (v : ℕ) → IsNode l.nodes v → get_or counts v 0 ≡ count v
      unfolding counts
      counts-at v node = get_or-map-range_with_len count 0 (l.nodes + 1) v v 0 (omega (arith, node.to_last)) (omega arith)

      -- A node inside the side, or outside: its labels, and as what it counts.
      data IsAt (v : ℕ) : Type 0 where
        in_unset : is_marked marks v ≡ true → get_or g v 0 ≡ no_label → get_or labels v 0 ≡ no_label → get_or counts v 0 ≡ no_label → IsAt v
        in_set : is_marked marks v ≡ true → get_or g v 0 ≢ no_label → get_or labels v 0 ≡ long + 1 + get_or g v 0
            → get_or counts v 0 ≡ long + 1 + get_or g v 0 → IsAt v
        out_unset : is_marked marks v ≡ false → get_or f v 0 ≡ no_label → get_or labels v 0 ≡ no_label → get_or counts v 0 ≡ 1 → IsAt v
        out_set : is_marked marks v ≡ false → get_or f v 0 ≢ no_label → get_or labels v 0 ≡ long - get_or f v 0
            → get_or counts v 0 ≡ long - get_or f v 0 → IsAt v

      few_long : long + 1 ≤ l.nodes
      few_long = omega (arith, few start start_is start_has)

      count-set : (v : ℕ) → IsNode l.nodes v → get_or labels v 0 ≢ no_label → get_or counts v 0 ≡ get_or labels v 0
      unfolding count
      count-set v node has =
          counts-at v node ∙ ap (λ b. cond b (get_or labels v 0) (cond (is_marked marks v) no_label 1)) (label-to (get_or labels v 0) has)

      count-unset : (v : ℕ) → IsNode l.nodes v → get_or labels v 0 ≡ no_label → get_or counts v 0 ≡ cond (is_marked marks v) no_label 1
      unfolding count
      count-unset v node none =
          counts-at v node ∙ ap (λ b. cond b (get_or labels v 0) (cond (is_marked marks v) no_label 1)) (label-none (get_or labels v 0) none)

      at : (v : ℕ) → IsNode l.nodes v → IsAt v
      at v node = elim (cases_Bool (is_marked marks v)) [
        | inl inside ↦
            let none_f : get_or f v 0 ≡ no_label = elim (cases_eq (get_or f v 0) no_label) [
              | inl none ↦ none
              | inr has ↦ absurd (false≢true (sym (out-beyond heads_are beyond v node has) ∙ inside))
            ] in
            elim (cases_eq (get_or g v 0) no_label) [
              | inl none ↦
                  let label = with_none v node none_f none in
                  in_unset inside none label (count-unset v node label ∙ ap (λ b. cond b no_label 1) inside)
              | inr has ↦
                  let label = with_g v node none_f has in
                  let set : get_or labels v 0 ≢ no_label = λ none. omega (arith, none, label, few v node has, links.at_most_nodes) in
                  in_set inside has label (count-set v node set ∙ label)
            ]
        | inr outside ↦ elim (cases_eq (get_or f v 0) no_label) [
          | inl none ↦
              let none_g : get_or g v 0 ≡ no_label = elim (cases_eq (get_or g v 0) no_label) [
                | inl unset ↦ unset
                | inr has ↦ absurd (false≢true (sym outside ∙ in-before tails_are before v node has))
              ] in
              let label = with_none v node none none_g in
              out_unset outside none label (count-unset v node label ∙ ap (λ b. cond b no_label 1) outside)
          | inr has ↦
              let label = with_f v node has in
              let set : get_or labels v 0 ≢ no_label = λ none. omega (arith, none, label, few_long, links.at_most_nodes) in
              out_set outside has label (count-set v node set ∙ label)
        ]
      ]

      -- Where a link leads out of the side, it leads from a tail to a head.
      ends : (v p : ℕ) → IsNode l.nodes v → LiesAt l v p → 0 < get_or rooms p 0 → is_marked marks v ≡ true → is_marked marks (get_or l.heads p 0) ≡ false
          → (get_or g v 0 ≡ 0) × (get_or f (get_or l.heads p 0) 0 ≡ 0)
      ends v p node lies room in_it off_it =
          let way = out.leaves v p node lies room in_it off_it in
          (before.roots_are v ((tails_are v).1 way.0), beyond.roots_are (get_or l.heads p 0) ((heads_are (get_or l.heads p 0)).1 way.1))

      top-is : get_or labels start 0 ≡ long + 1 + get_or g start 0
      top-is = elim (at start start_is) [
        | in_unset _ none b c ↦ absurd (start_has none)
        | in_set _ has b c ↦ b
        | out_unset off_it a b c ↦ absurd (false≢true (sym off_it ∙ out.start_in))
        | out_set off_it a b c ↦ absurd (false≢true (sym off_it ∙ out.start_in))
      ]

      -- No link with room falls by more than one.
      valid : AreValid l counts rooms (get_or labels start 0)
      valid v p node lies room below =
          let w : ℕ = get_or l.heads p 0 in
          let head = (links.each p (lies-within l v p links node lies)).head in
          let most = few start start_is start_has in
          elim (at w head) [
            | in_unset _ none b c ↦ absurd (omega (arith, below, c, top-is, most, links.at_most_nodes))
            | in_set _ has b c ↦ elim (at v node) [
              | in_unset in_it none d e ↦
                  let near = on-before before v p node lies room in_it (omega (arith, below, c, top-is)) in
                  absurd (omega (arith, near, none, below, c, top-is, most, links.at_most_nodes))
              | in_set in_it a d e ↦
                  let near = on-before before v p node lies room in_it (omega (arith, below, c, top-is)) in
                  omega (arith, near, c, e)
              | out_unset _ a d e ↦ omega (arith, e, c)
              | out_set _ a d e ↦ omega (arith, e, c)
            ]
            | out_unset off_it none b c ↦ elim (at v node) [
              | in_unset in_it a d e ↦ absurd (omega (arith, ends v p node lies room in_it off_it, none))
              | in_set in_it a d e ↦ absurd (omega (arith, ends v p node lies room in_it off_it, none))
              | out_unset _ a d e ↦ omega (arith, c, e)
              | out_set _ a d e ↦
                  let near = on-beyond beyond v p node lies room off_it in
                  elim (cases_lt (get_or f v 0 + 1) (get_or f goal 0)) [
                    | inl low ↦ absurd (omega (arith, near low, none, low, long_is, few_long, links.at_most_nodes))
                    | inr high ↦ omega (arith, c, e, high, long_is)
                  ]
            ]
            | out_set off_it has b c ↦ elim (at v node) [
              | in_unset in_it a d e ↦ absurd (omega (arith, ends v p node lies room in_it off_it, a))
              | in_set in_it a d e ↦ omega (arith, ends v p node lies room in_it off_it, c, e)
              | out_unset _ a d e ↦ omega (arith, e)
              | out_set _ a d e ↦
                  let near = on-beyond beyond v p node lies room off_it in
                  elim (cases_lt (get_or f v 0 + 1) (get_or f goal 0)) [
                    | inl low ↦ omega (arith, near low, c, e)
                    | inr high ↦ omega (arith, e, high, long_is)
                  ]
            ]
          ]

      -- No walk goes through a node without a label.
      gated : (v p : ℕ) → IsNode l.nodes v → LiesAt l v p → 0 < get_or rooms p 0 → get_or labels v 0 ≡ get_or counts (get_or l.heads p 0) 0 + 1
          → get_or labels (get_or l.heads p 0) 0 ≢ no_label
      gated v p node lies room level none =
          let w : ℕ = get_or l.heads p 0 in
          let head = (links.each p (lies-within l v p links node lies)).head in
          elim (at w head) [
            | in_unset _ a b c ↦ elim (at v node) [
              | in_unset _ a' b' c' ↦ omega (arith, level, b', c)
              | in_set _ a' b' c' ↦ omega (arith, level, b', c, few v node a', links.at_most_nodes)
              | out_unset _ a' b' c' ↦ omega (arith, level, b', c)
              | out_set _ a' b' c' ↦ omega (arith, level, b', c, few_long, links.at_most_nodes)
            ]
            | in_set _ a b c ↦ omega (arith, none, b, few w head a, links.at_most_nodes)
            | out_unset off_it a b c ↦ elim (at v node) [
              | in_unset in_it a' b' c' ↦ absurd (omega (arith, ends v p node lies room in_it off_it, a))
              | in_set in_it a' b' c' ↦ absurd (omega (arith, ends v p node lies room in_it off_it, a))
              | out_unset _ a' b' c' ↦ omega (arith, level, b', c)
              | out_set _ a' b' c' ↦
                  let near = on-beyond beyond v p node lies room off_it in
                  omega (arith, near (omega (arith, level, b', c, long_is)), a, level, b', c, few_long, links.at_most_nodes)
            ]
            | out_set _ a b c ↦ omega (arith, none, b, few_long, links.at_most_nodes)
          ]

      small : (v : ℕ) → IsNode l.nodes v → (get_or labels v 0 ≡ no_label) ⊎ (get_or labels v 0 ≤ l.nodes)
      small v node = elim (at v node) [
        | in_unset _ a b c ↦ inl b
        | in_set _ a b c ↦ inr (omega (arith, b, few v node a))
        | out_unset _ a b c ↦ inl b
        | out_set _ a b c ↦ inr (omega (arith, b, few_long))
      ]

      -- The labels of marked nodes are above those of the others.
      above : (v w : ℕ) → IsNode l.nodes v → IsNode l.nodes w → is_marked marks v ≡ false → is_marked marks w ≡ true → get_or labels v 0 ≢ no_label
          → get_or labels w 0 ≢ no_label → get_or labels v 0 < get_or labels w 0
      above v w node other off_it in_it v_has w_has = elim (at v node) [
        | in_unset inside a b c ↦ absurd (v_has b)
        | in_set inside a b c ↦ absurd (false≢true (sym off_it ∙ inside))
        | out_unset _ a b c ↦ absurd (v_has b)
        | out_set _ a b c ↦ elim (at w other) [
          | in_unset _ a' b' c' ↦ absurd (w_has b')
          | in_set _ a' b' c' ↦ omega (arith, b, b')
          | out_unset outside a' b' c' ↦ absurd (w_has b')
          | out_set outside a' b' c' ↦ absurd (false≢true (sym outside ∙ in_it))
        ]
      ]

      -- So the start has a label, and walks fall once out of the side.
      pub falls-once : FallOnce l rooms labels start goal marks
      falls-once = record {
        sound = record {
          sound = record {
            counts = counts;
            small = (labels_long, λ v node. small v node);
            filled_are = count-set;
            valid = valid;
            gated = gated;
          };
          start_label = omega (arith, top-is, few start start_is start_has);
          low = omega (arith, with_f goal goal_is goal_has, long_is);
        };
        goal_label = omega (arith, with_f goal goal_is goal_has, long_is);
        above = above;
      }

-- ---- the labels are joined

joined-own : (made : ℕ → ℕ) (own other : ℕ) → own ≢ no_label → joined_by made own other ≡ own
joined-own made own other has = rw (ne_eqb own no_label has) refl

joined-made : (made : ℕ → ℕ) (own other : ℕ) → own ≡ no_label → other ≢ no_label → joined_by made own other ≡ made other
joined-made made own other none has = rw (eq-eqb own no_label none, ne_eqb other no_label has) refl

joined-none : (made : ℕ → ℕ) (own other : ℕ) → own ≡ no_label → other ≡ no_label → joined_by made own other ≡ no_label
joined-none made own other none also = rw (eq-eqb own no_label none, eq-eqb other no_label also) refl

-- First those of the search beyond are joined to the goal's, and then those of the search before to these.
module _ (nodes goal long : ℕ) (first second third f g : List ℕ) (first_is : first ≡ set (replicate (nodes + 1) no_label) goal 0) (goal_is : IsNode nodes goal)
    (f_long : length f ≡ nodes + 1) (on : AreJoinedBy (λ s. long - s) first f second) (back : AreJoinedBy (λ s. long + 1 + s) second g third)
    (long_is : long ≡ get_or f goal 0) (small : long < no_label) where
  goal-within : goal < length (replicate (nodes + 1) no_label)
  goal-within = omega (arith, length-replicate (nodes + 1) no_label, goal_is.to_last)

  first-long : length first ≡ nodes + 1
  first-long = rw first_is (length-set (replicate (nodes + 1) no_label) goal 0 ∙ length-replicate (nodes + 1) no_label)

  second-long : length second ≡ nodes + 1
  second-long = on.one_each ∙ first-long

  pub third-long : length third ≡ nodes + 1
  third-long = back.one_each ∙ second-long

  first-goal : get_or first goal 0 ≡ 0
  first-goal = rw first_is (get_or-set_same (replicate (nodes + 1) no_label) goal 0 0 goal-within)

  first-other : (v : ℕ) → IsNode nodes v → v ≢ goal → get_or first v 0 ≡ no_label
  first-other v node other = rw first_is (elim (cases-set (replicate (nodes + 1) no_label) goal v 0 goal-within) [
    | inl here ↦ absurd (other here.0)
    | inr rest ↦ rest.1 ∙ get_or-replicate (nodes + 1) v no_label 0 (omega (arith, node.to_last))
  ])

  second-f : (v : ℕ) → IsNode nodes v → get_or f v 0 ≢ no_label → get_or second v 0 ≡ long - get_or f v 0
  second-f v node has =
      let is = on.each v (omega (arith, node.to_last, second-long)) in
      elim (cases_eq v goal) [
        | inl same ↦
            let zero_is : get_or first v 0 ≡ 0 = ap (λ u. get_or first u 0) same ∙ first-goal in
            let own = joined-own (λ s. long - s) (get_or first v 0) (get_or f v 0) (λ none. omega (arith, none, zero_is)) in
            omega (arith, is ∙ own, zero_is, long_is, ap (λ u. get_or f u 0) same)
        | inr other ↦ is ∙ joined-made (λ s. long - s) (get_or first v 0) (get_or f v 0) (first-other v node other) has
      ]

  second-none : (v : ℕ) → IsNode nodes v → get_or f v 0 ≡ no_label → get_or second v 0 ≡ no_label
  second-none v node none =
      let other : v ≢ goal = λ same. omega (arith, none, ap (λ u. get_or f u 0) same, long_is, small) in
      on.each v (omega (arith, node.to_last, second-long)) ∙ joined-none (λ s. long - s) (get_or first v 0) (get_or f v 0) (first-other v node other) none

  pub third-f : (v : ℕ) → IsNode nodes v → get_or f v 0 ≢ no_label → get_or third v 0 ≡ long - get_or f v 0
  third-f v node has =
      let own = second-f v node has in
      back.each v (omega (arith, node.to_last, third-long))
      ∙ joined-own (λ s. long + 1 + s) (get_or second v 0) (get_or g v 0) (λ none. omega (arith, none, own, small)) ∙ own

  pub third-g : (v : ℕ) → IsNode nodes v → get_or f v 0 ≡ no_label → get_or g v 0 ≢ no_label → get_or third v 0 ≡ long + 1 + get_or g v 0
  third-g v node none has = back.each v (omega (arith, node.to_last, third-long))
      ∙ joined-made (λ s. long + 1 + s) (get_or second v 0) (get_or g v 0) (second-none v node none) has

  pub third-none : (v : ℕ) → IsNode nodes v → get_or f v 0 ≡ no_label → get_or g v 0 ≡ no_label → get_or third v 0 ≡ no_label
  third-none v node none also = back.each v (omega (arith, node.to_last, third-long))
      ∙ joined-none (λ s. long + 1 + s) (get_or second v 0) (get_or g v 0) (second-none v node none) also
