use Rattle.std.proofs.Common.{ℕ, ◌≡◌, ◌+◌, ◌-◌, ◌<◌, ◌∙◌, ◌++◌, ◌∷◌, [], List, arith, ap, ap₂, get_or, inr, length, map, refl, subst, sym}
use Rattle.std.proofs.lemmas.List.{get_or_read, map_push}
use Rattle.std.proofs.lemmas.List.FromFn.{length-range_with_len}
use Rattle.std.specs.List.{range_with_len}
use Rattle.dmf_vital.specs.Worst.{IsArcLoss}
use Rattle.dmf_valuing.specs.PartRows.{row_of}
use Rattle.dmf_valuing.specs.Rows.{AreSecondRows, Row}
use Rattle.dmf_valuing.proofs.FromLosses.{long}
use Rattle.dmf_valuing.proofs.WithSeconds.{no-room, none, one-more, second_at, seconds, seconds-are}
use Rattle.dmf_valuing.proofs.finding.second_rows.Goals as goal
use Rattle.dmf_valuing.proofs.finding.second_rows.Goals.{After-index}

-- There are as many losses as arcs.
many : (g : _) (c : After-index g) → length c.args.losses.now ≡ length c.args.state.now.network.arcs
many g c =
    let arcs = length c.args.state.now.network.arcs in
    long (IsArcLoss c.args.state.now.network) (range_with_len 1 arcs) c.args.losses.now c.requires.losses ∙ length-range_with_len 1 arcs

-- The gain at the index is read.
gain-read : (g : _) (c : After-index g) → c.index.result.now ≡ get_or c.in_ok-gains.gains.items c.loop-k.k 0
gain-read g c =
    let inside : c.loop-k.k < length c.in_ok-gains.gains.items = omega (arith, many g c, c.loop-k-test.true, c.in_ok-gains.ensures.one_each) in
    get_or_read c.in_ok-gains.gains.items c.loop-k.k c.index.result.now inside c.index.ensures 0

pub index-requires : goal.index-requires
index-requires g c =
    let arcs = length c.args.state.now.network.arcs in
    let many = long (IsArcLoss c.args.state.now.network) (range_with_len 1 arcs) c.args.losses.now c.requires.losses ∙ length-range_with_len 1 arcs in
    omega (arith, many, c.loop-k-test.true, c.in_ok-gains.ensures.one_each)

pub returns-in_default-clause-refused : goal.returns-in_default-clause-refused
returns-in_default-clause-refused g c =
    let n = c.args.state.now.network in
    let before = (goal.at.returns-in_default-clause-refused g c).After-index in
    let inside : c.loop-k.k < length n.arcs = omega (arith, many g before, c.loop-k-test.true) in
    let gain = c.in_ok-gains.ensures.gains c.loop-k.k inside in
    inr (
      refl,
      no-room n c.args.state.now.flows c.value-value.result c.requires.greatest c.value-value.ensures.value c.loop-k.k _ inside gain
          (omega (arith, gain-read g before, c.in_default.ensures)),
    )

pub loop-k-preserved : goal.loop-k-preserved
loop-k-preserved g c =
    let value = c.value-value.result in
    let losses = c.args.losses.now in
    let gains = c.in_ok-gains.gains.items in
    let k = c.loop-k.k in
    let row : row_of c.second_row.result ≡ second_at value losses gains k =
    c.second_row.ensures ∙ ap (λ (more : ℕ). (get_or losses k none).number ∷ (value - (get_or losses k none).loss) ∷ more ∷ [])
    (c.in-Some.ensures.1 ∙ ap (λ (gain : ℕ). value + gain) (gain-read g (goal.at.loop-k-preserved g c).After-index)) in
    ap (map row_of) c.in-Ok.ensures.items ∙ map_push row_of c.loop-k.rows.items c.second_row.result
    ∙ ap₂ (λ (rows : List Row) (one : Row). rows ++ one ∷ []) c.loop-k.invariant row ∙ sym (one-more value losses gains k)

pub returns-clause-rows : goal.returns-clause-rows
returns-clause-rows g c =
    let n = c.args.state.now.network in
    let value = c.value-value.result in
    let losses = c.args.losses.now in
    let gains = c.in_ok-gains.gains.items in
    let many = long (IsArcLoss n) (range_with_len 1 (length n.arcs)) losses c.requires.losses ∙ length-range_with_len 1 (length n.arcs) in
    let all : c.loop-k.k ≡ length n.arcs = omega (arith, many, c.loop-k-test.false, c.loop-k.auto.k-end) in
    subst (AreSecondRows n) (sym (c.loop-k.invariant ∙ ap (seconds value losses gains) all))
    (seconds-are n c.args.state.now.flows value c.requires.greatest c.value-value.ensures.value losses gains c.requires.losses c.in_ok-gains.ensures.gains)
