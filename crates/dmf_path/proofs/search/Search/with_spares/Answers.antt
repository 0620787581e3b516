-- The links are made anew over the pairs and others behind them, which are taken off again.
use Rattle.std.proofs.Common.{ℕ, ◌≡◌, ◌+◌, ◌-◌, ◌<◌, ◌≤◌, ◌++◌, List, Option, Some, Result, Ok, Err, length, take, ap, sym, ◌∙◌, subst, arith}
use Rattle.std.proofs.lemmas.List.{length-map}
use Rattle.std.specs.Result.{IfOk, result_ok}
use Rattle.std.proofs.lemmas.Option.{IfSome_then, same_Some}
use Rattle.dmf_links.specs.declared.pair.Pair.{Pair}
use Rattle.dmf_links.specs.declared.table.LinkTable.{LinkTable}
use Rattle.dmf_links.specs.Links.{pair_at}
use Rattle.dmf_links.specs.Pair.{ArePairs, without_room, pair_number}
use Rattle.dmf_path.specs.Held.{way_of, filled_slots}
use Rattle.dmf_path.specs.Residual.{residual_of, with_settled_rooms}
use Rattle.dmf_path.specs.Phase.{Phased, sought_by}
use Rattle.dmf_path.specs.Search.{Searched, with_pairs}
use Rattle.dmf_path.specs.Searching.{sought, searched}
use Rattle.dmf_path.specs.Spares.{spare_pairs}
use Rattle.dmf_path.proofs.slots.Settled.{AreRooms-settled}
use Rattle.dmf_path.proofs.pairs.SparePairs.{both-long, both-valid, idle-behind, pairs-valid, take-before}
use Rattle.dmf_path.proofs.search.Search.with_spares.Goals as goal
use Rattle.dmf_path.proofs.search.Search.with_spares.Goals.{Joined-is_some, then-is_some+in_ok-ok, else-is_some}

pub new-requires-clause-pairs : goal.new-requires-clause-pairs
new-requires-clause-pairs c =
    let places = c.self.inside.places.value in
    let of = c.phase.inside in
    let r = residual_of of.links in
    let w = way_of of.trail in
    let a = c.phase.invariant.searching.aimed in
    let s = c.args.self in
    let view : searched (sought r w) places ≡ s = ap (λ (p : Phased). searched (sought_by p) places) c.phase.view_is ∙ c.self.view_is in
    let same = ap (λ (x : Searched). x.nodes) view in
    let nodes : c.deref.result.now.nodes ≡ s.nodes = ap (λ (t : LinkTable). t.nodes) c.deref.ensures ∙ same in
    let long = ap (λ (x : Searched). length x.pairs) (sym view) ∙ length-map places (pair_at r.links (with_settled_rooms r w).rooms) in
    let fit = AreRooms-settled r.links r.takes_back w.sent (filled_slots w) r.rooms a.links of.links.rooms_are in
    let places_are = rw (← c.phase.view_is) at c.self.invariant.0.places_are in
    let valid = subst (λ (x : Searched). ArePairs x.nodes x.pairs) view (pairs-valid (with_settled_rooms r w).rooms a.links places_are fit) in
    let two : 2 ≤ s.nodes = omega (arith, a.start_is.from_one, a.start_is.to_last, a.goal_is.from_one, a.goal_is.to_last, a.apart, same) in
    let few : c.min-more.result < s.nodes = omega (arith, c.min-more.ensures, nodes, two) in
    rw nodes (both-valid s.nodes c.args.hub c.min-more.result s.pairs valid two c.requires few
    (omega (arith, long, nodes, c.len.ensures, ap length c.deref-3.ensures, c.if-len-spares-gt-MOST_PAIRS.false)))

-- What holds of a result holds of the value that is taken from it.
from-ok : {T E : Type 0} (r : Result T E) (x : T) (P : T → Type 0) → Some x ≡ result_ok r → IfOk r P → P x
from-ok (Ok y) x P is has = subst P (sym (same_Some x y is)) has
from-ok (Err e) x P is has = absurd (cc)

-- the pairs, and those behind them
abbrev both : Joined-is_some → List (Option Pair)
both c = c.args.self.pairs ++ spare_pairs c.args.self.nodes c.args.hub c.min-more.result

-- the search as it was opened
view : (c : Joined-is_some) → searched (sought (residual_of c.phase.inside.links) (way_of c.phase.inside.trail)) c.self.inside.places.value ≡ c.args.self
view c = ap (λ (p : Phased). searched (sought_by p) c.self.inside.places.value) c.phase.view_is ∙ c.self.view_is

nodes : (c : Joined-is_some) → c.deref.result.now.nodes ≡ c.args.self.nodes
nodes c = ap (λ (t : LinkTable). t.nodes) c.deref.ensures ∙ ap (λ (x : Searched). x.nodes) (view c)

-- The search that was made has both.
made : (c : Joined-is_some) → c.if-is_some.made ≡ with_pairs c.args.self (both c)
made c =
    let of = c.phase.inside in
    let s = c.args.self in
    let new = from-ok c.new.result c.in_ok-made.made (λ (x : Searched). x ≡ record {
      nodes = c.deref.result.now.nodes;
      pairs = both c;
      start = of.trail.start;
      goal = of.trail.goal;
      takes_back = of.links.takes_back;
    }) c.in_ok-made.ensures.value c.new.ensures in
    let numbered : c.if-is_some.made ≡ c.in_ok-made.made = elim c.if-is_some.branch [
      | then-is_some+in_ok-ok w ↦ w.made-is ∙ w.number_links.ensures
      | else-is_some w ↦ w.made-is
    ] in
    let is = nodes c in
    let view = view c in
    numbered ∙ new ∙ λ j. record {
      nodes = is j;
      pairs = both c;
      start = ap (λ (x : Searched). x.start) view j;
      goal = ap (λ (x : Searched). x.goal) view j;
      takes_back = ap (λ (x : Searched). x.takes_back) view j;
    }

long : (c : Joined-is_some) → length c.if-is_some.made.pairs ≡ length c.args.self.pairs + (c.args.self.nodes + c.min-more.result)
long c = ap (λ (x : Searched). length x.pairs) (made c) ∙ both-long c.args.self.nodes c.args.hub c.min-more.result c.args.self.pairs

pub without_last-requires-clause-many : goal.without_last-requires-clause-many
without_last-requires-clause-many c =
    let at = (goal.at.without_last-requires-clause-many c).Joined-is_some in
    omega (arith, long at, nodes at)

pub without_last-requires-clause-idle : goal.without_last-requires-clause-idle
without_last-requires-clause-idle c = λ k past.
    let at = (goal.at.without_last-requires-clause-idle c).Joined-is_some in
    subst (λ (x : Searched). without_room (pair_number x.pairs k) ≡ pair_number x.pairs k) (sym (made at))
    (idle-behind c.args.self.nodes c.args.hub c.min-more.result c.args.self.pairs k (omega (arith, past, long at, nodes at)))

pub returns : goal.returns
returns c =
    let at = (goal.at.returns c).Joined-is_some in
    let s = c.args.self in
    let more : ℕ = c.min-more.result in
    IfSome_then c.without_last.result c.without_last.ensures (λ search is.
    is ∙ ap (λ (x : Searched). with_pairs x (take (length x.pairs - (c.deref.result.now.nodes + more)) x.pairs)) (made at)
    ∙ ap (λ n. with_pairs s (take (length (both at) - (n + more)) (both at))) (nodes at)
    ∙ ap (with_pairs s) (take-before s.nodes c.args.hub more s.pairs))
