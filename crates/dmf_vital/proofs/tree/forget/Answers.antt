use Rattle.std.proofs.Common.{ℕ, List, ◌+◌, ◌-◌, ◌<◌, length, get_or, set, refl, ap, sym, ◌∙◌, subst, arith}
use Rattle.std.proofs.lemmas.List.{get_or_read}
use Rattle.dmf_vital.specs.declared.tree.Reached.{Reached}
use Rattle.dmf_vital.proofs.Listed.{AreForgotten, forgotten-more}
use Rattle.dmf_vital.proofs.tree.forget.Goals as goal

pub overflow_sub-v : goal.overflow_sub-v
overflow_sub-v c =
    let found : List ℕ = c.args.tree.now.found.items in
    let k : ℕ = c.loop-k.k in
    let h : k < length found = omega (arith, c.len-k-end.ensures, c.loop-k-test.true, c.args.tree.now.found.ok.0) in
    let read = get_or_read found k c.index.result.now h (c.index.ensures ∙ ap (λ xs. get_or xs k c.index.result.now) c.loop-k.invariant.found) 0 in
    omega (arith, read, (c.requires.listed k h).0.from_one)

pub loop-k-preserved : goal.loop-k-preserved
loop-k-preserved c =
    let first = c.args.tree.now.nodes.items in
    let found : List ℕ = c.args.tree.now.found.items in
    let k : ℕ = c.loop-k.k in
    let h : k < length found = omega (arith, c.len-k-end.ensures, c.loop-k-test.true, c.args.tree.now.found.ok.0) in
    let read = get_or_read found k c.index.result.now h (c.index.ensures ∙ ap (λ xs. get_or xs k c.index.result.now) c.loop-k.invariant.found) 0 in
    let now : Reached = record { place = 0; hop = c.index_mut.result.now.hop; width = c.index_mut.result.now.width; back = c.index_mut.result.now.back } in
    record {
      forgotten = subst (λ v. AreForgotten first (set c.loop-k.tree.nodes.items (v - 1) now) (k + 1)) (sym read)
          (forgotten-more first c.loop-k.tree.nodes.items found k now c.requires h refl c.loop-k.invariant.forgotten);
      found = c.loop-k.invariant.found;
    }
