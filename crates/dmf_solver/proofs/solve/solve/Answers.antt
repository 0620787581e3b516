use Rattle.std.proofs.Common.{[], ◌∙◌, refl, ap, subst, sym}
use Rattle.dmf_path.specs.ClosedSide.{IsClosedSide}
use Rattle.dmf_path.specs.Pair.{steps_of}
use Rattle.dmf_path.specs.Search.{Searched}
use Rattle.dmf_solver.proofs.solving.SolvingSearch.{solving-more, solving-done}
use Rattle.dmf_solver.proofs.pairs.Untouched.{keeps-same, keeps-next, keeps-sorted, below-next}
use Rattle.dmf_solver.proofs.solve.solve.Goals as goal

pub overflow_add-value : goal.overflow_add-value
overflow_add-value g c = record {
  fits = (solving-more c.args.state.now _ c.loop-found.value c.in-Some.found c.loop-found.search c.next_path.new.search refl c.loop-found.invariant.solving
      c.in-Some.ensures.found).small;
}

pub loop-found-smaller : goal.loop-found-smaller
loop-found-smaller g c =
    (solving-more c.args.state.now _ c.loop-found.value c.in-Some.found c.loop-found.search c.next_path.new.search refl c.loop-found.invariant.solving
    c.in-Some.ensures.found).falls

pub loop-found-init : goal.loop-found-init
loop-found-init g c = record {
  solving = record {
    flows = c.args.state.now.flows;
    reached = record { state = c.value-value.ensures.state; paths = []; augments = refl };
    kept = λ k h loop. refl;
    search_is = c.requires.residual;
    value_is = c.value-value.ensures.value;
  };
  kept = keeps-same _ _ _ (ap (λ (o : Searched). o.pairs) c.requires.residual);
  below = c.requires.below;
  ways = c.requires.ways;
}

-- one more path: its pairs count as touched
pub loop-found-preserved : goal.loop-found-preserved
loop-found-preserved g c =
    let s = c.args.state.now in
    let is = c.loop-found.invariant in
    let more = solving-more s _ c.loop-found.value c.in-Some.found c.loop-found.search c.next_path.new.search refl is.solving c.in-Some.ensures.found in
    let touches = c.next_path.ensures.touched in
    record {
      solving = more.solving;
      kept = keeps-next c.loop-found.touched c.next_path.new.touched _ c.loop-found.search.pairs c.next_path.new.search.pairs is.kept touches;
      below = below-next s c.loop-found.value c.loop-found.search c.loop-found.touched c.next_path.new.touched is.solving touches.below is.below;
      ways = c.next_path.ensures.ways (λ none. let is = c.in-Some.is in cc);
    }

pub returns-clause-solved : goal.returns-clause-solved
returns-clause-solved g c =
    let s = c.args.state.now in
    let is = c.loop-found.invariant in
    let none = c.in_default.ensures.found in
    let touches = c.next_path.ensures.touched in
    let kept = keeps-next c.loop-found.touched c.next_path.new.touched _ c.loop-found.search.pairs c.next_path.new.search.pairs is.kept touches in
    let below = below-next s c.loop-found.value c.loop-found.search c.loop-found.touched c.next_path.new.touched is.solving touches.below is.below in
    solving-done s _ c.loop-found.search c.value-value.ensures.state is.solving none.0 none.1
    (keeps-sorted c.next_path.new.touched c.sort.new.self _ _ kept c.sort.ensures.same) (c.sort.ensures.below _ below) c.sort.ensures.sorted

pub returns-clause-side : goal.returns-clause-side
returns-clause-side g c = λ long.
    let same = c.in_default.ensures.found.1 in
    let marks = c.next_path.new.marks in
    subst (λ (s : Searched). IsClosedSide (steps_of s.pairs) s.start s.goal marks) (sym same)
    (c.in_default.ensures.side (c.loop-found.auto.marks ∙ long ∙ ap (λ (s : Searched). s.nodes) same) refl)
