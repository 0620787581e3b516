-- The flows that are read from a search.
use Rattle.std.proofs.Common.{ℕ, ◌≡◌, ◌≤◌, ◌<◌, List, [], ◌∷◌, length, get_or, zero, suc, refl, ap, arith, Option}
use Rattle.dmf_links.specs.declared.pair.Pair.{Pair}
use Rattle.dmf_links.specs.Pair.{pair_number}
use Rattle.dmf_solver.specs.Pairs.{PairLink, flow_read, flows_read}

-- There is one for each flow before,
pub length-flows_read : (link : PairLink) (firsts : List ℕ) (pairs : List (Option Pair)) → length firsts ≤ length pairs
    → length (flows_read link firsts pairs) ≡ length firsts
length-flows_read link [] pairs long = refl
length-flows_read link (first ∷ firsts) [] long = absurd (omega (arith, long))
length-flows_read link (first ∷ firsts) (pair ∷ pairs) long = ap suc (length-flows_read link firsts pairs (omega (arith, long)))

-- and each is read from its pair.
pub get_or-flows_read : (link : PairLink) (firsts : List ℕ) (pairs : List (Option Pair)) (k : ℕ) → length firsts ≤ length pairs → k < length firsts
    → get_or (flows_read link firsts pairs) k 0 ≡ flow_read link (get_or firsts k 0) (pair_number pairs k)
get_or-flows_read link [] pairs k long h = absurd (omega (arith, h))
get_or-flows_read link (first ∷ firsts) [] k long h = absurd (omega (arith, long))
get_or-flows_read link (first ∷ firsts) (pair ∷ pairs) zero long h = refl
get_or-flows_read link (first ∷ firsts) (pair ∷ pairs) (suc k) long h = get_or-flows_read link firsts pairs k (omega (arith, long)) (omega (arith, h))
