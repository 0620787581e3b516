-- The search begins at the heads. If it misses its end, the marks of the nodes to which it comes change.
use Rattle.std.proofs.Common.{ℕ, ◌≡◌, ◌↔◌, Contains, true, false, map, refl, ◌∙◌}
use Rattle.std.proofs.lemmas.List.{length-map}
use Rattle.dmf_links.specs.Links.{open_flag}
use Rattle.dmf_links.specs.LinkTable.{links_of}
use Rattle.dmf_path.specs.Frontier.{IsSpread}
use Rattle.dmf_path.specs.Labels.{AreLabelsFrom}
use Rattle.dmf_path.specs.Through.{flags_to}
use Rattle.dmf_path.proofs.labels.Roots.{begun-spread, nodes-of}
use Rattle.dmf_path.proofs.labels.WaysOut.{length-flags_to, parted-beyond}
use Rattle.dmf_path.proofs.paths.Reaching.{AreOpen-map}
use Rattle.dmf_path.proofs.through.look_on.Goals as goal
use Rattle.dmf_path.proofs.through.look_on.Goals.{After-label_within}

pub begin_at-requires-clause-roots : goal.begin_at-requires-clause-roots
begin_at-requires-clause-roots c = λ v among.
    rw (nodes-of c.requires.clean) (c.requires.out.heads_out v (rw c.deref.ensures.value at among)).0

pub begin_at-requires-clause-clean : goal.begin_at-requires-clause-clean
begin_at-requires-clause-clean c = rw (nodes-of c.requires.clean) c.requires.clean

pub label_within-requires-clause-so_far : goal.label_within-requires-clause-so_far
label_within-requires-clause-so_far c =
    let links = c.args.links.now in
    rw (c.deref-5.ensures, c.deref-4.ensures.value, c.deref-3.ensures, c.deref-2.ensures.value)
    (begun-spread (length-flags_to false c.args.marks.now links.table.value.heads.items (map open_flag links.rooms.items) (length-map links.rooms.items open_flag ∙ links.rooms_are.0))
    (rw (nodes-of c.requires.clean) at c.begin_at.ensures.begun))

-- The roots are the heads, however far the search has come.
roots : (c : After-label_within) → (v : ℕ) → Contains c.label_within.new.self.roots v ↔ Contains c.args.ways.now.heads.items v
roots c = rw c.label_within.ensures.roots (rw c.deref.ensures.value at c.begin_at.ensures.roots)

-- The links are the open ones to nodes with the mark.
spread : (c : After-label_within) → IsSpread (links_of c.args.links.now.table.value)
    (flags_to false c.args.marks.now c.args.links.now.table.value.heads.items (map open_flag c.args.links.now.rooms.items)) c.label_within.new.self
spread c = rw (c.deref-5.ensures, c.deref-4.ensures.value, c.deref-3.ensures, c.deref-2.ensures.value) at c.label_within.ensures.spread

labels : (c : After-label_within) → c.label_within.result ≡ true → AreLabelsFrom (links_of c.args.links.now.table.value)
    (flags_to false c.args.marks.now c.args.links.now.table.value.heads.items (map open_flag c.args.links.now.rooms.items))
    c.label_within.new.self.roots c.args.ends.goal c.label_within.new.self.labels
labels c whole =
    rw c.label_within.ensures.roots (rw (c.deref-5.ensures, c.deref-4.ensures.value, c.deref-3.ensures, c.deref-2.ensures.value) at
    (c.label_within.ensures.labels whole))

pub returns-then-not-label_within-clause-looked : goal.returns-then-not-label_within-clause-looked
returns-then-not-label_within-clause-looked c =
    let at = (goal.at.returns-then-not-label_within-clause-looked c).After-label_within in
    record {
      spread = spread at;
      roots = roots at;
      labels = λ some. absurd (some refl);
      found_is = λ e. absurd (cc);
      missed = λ e. absurd (cc);
    }

pub returns-then-has_label-clause-looked : goal.returns-then-has_label-clause-looked
returns-then-has_label-clause-looked c =
    let at = (goal.at.returns-then-has_label-clause-looked c).After-label_within in
    record {
      spread = spread at;
      roots = roots at;
      labels = λ _. labels at c.if-not-label_within.false;
      found_is = λ _. c.has_label.ensures.has c.if-has_label.true;
      missed = λ e. absurd (cc);
    }

pub returns-clause-looked : goal.returns-clause-looked
returns-clause-looked c =
    let at = (goal.at.returns-clause-looked c).After-label_within in
    record {
      spread = spread at;
      roots = roots at;
      labels = λ _. labels at c.if-not-label_within.false;
      found_is = λ e. absurd (cc);
      missed = λ _. c.has_label.ensures.none c.if-has_label.false;
    }

pub returns-clause-parted : goal.returns-clause-parted
returns-clause-parted c = λ _.
    let at = (goal.at.returns-clause-parted c).After-label_within in
    let links = c.args.links.now in
    let l = links_of links.table.value in
    let rooms = links.rooms.items in
    parted-beyond rooms links.flags.items (map open_flag rooms) c.args.marks.now links.table.value.are links.flags_are
    (AreOpen-map l rooms (map open_flag rooms) links.rooms_are refl) (length-map rooms open_flag ∙ links.rooms_are.0) c.requires.out
    (roots at) c.mark_queued.new.marks (labels at c.if-not-label_within.false) (c.has_label.ensures.none c.if-has_label.false)
    c.requires.start c.requires.goal c.mark_queued.ensures
