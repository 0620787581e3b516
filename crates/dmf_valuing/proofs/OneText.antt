-- A network has one value, one row for each arc, each node and each pair of arcs, and one list of the worst.
use Rattle.std.proofs.Common.{ℕ, ◌≡◌, ◌∙◌, ◌+◌, ◌<◌, List, [], ◌∷◌, get_or, length, ap, ap₂, arith, refl, subst, sym}
use Rattle.std.proofs.lemmas.List.{ext_get_or}
use Rattle.std.specs.List.{AllZip}
use Rattle.dmf_state.specs.Network.{Network}
use Rattle.dmf_vital.specs.GreatestValue.{IsGreatestValue}
use Rattle.dmf_vital.specs.Without.{with_second, without_arc, without_node, without_pair}
use Rattle.dmf_vital.specs.declared.worst.NumberedLoss.{NumberedLoss}
use Rattle.dmf_vital.proofs.Ranking.{worst-are_one}
use Rattle.dmf_vital.proofs.Values.{one-value}
use Rattle.dmf_valuing.specs.Laws.{ArcsHaveOneText, HaveOneText, NodesHaveOneText, SecondsHaveOneText, WorstArcsHaveOneText, WorstNodesHaveOneText, WorstPairsHaveOneText}
use Rattle.dmf_valuing.specs.Rows.{AreArcRows, AreNodeRows, AreRowsOfWorst, AreSecondRows, AreWorstArcRows, AreWorstNodeRows, AreWorstPairRows, IsArcRow, IsNodeRow, IsPairRow, IsSecondRow, Row, inner_nodes, vital_text}

-- An arc or a node has one row, since the network without it has one greatest value,
one-row : (m : Network) (j : ℕ) (row other : Row) → ((without : ℕ) × IsGreatestValue m without × (row ≡ j ∷ without ∷ []))
    → ((without : ℕ) × IsGreatestValue m without × (other ≡ j ∷ without ∷ [])) → row ≡ other
one-row m j row other is also = is.2 ∙ ap (λ without. j ∷ without ∷ []) (one-value m is.0 also.0 is.1 also.1) ∙ sym also.2

-- so all have one list of them.
arc-rows : (n : Network) (rows others : List Row) → AreArcRows n rows → AreArcRows n others → rows ≡ others
arc-rows n rows others are also = ext_get_or [] rows others (are.one_each ∙ sym also.one_each) (λ k below.
    let inside : k < length n.arcs = omega (arith, below, are.one_each) in
    one-row (without_arc n (k + 1)) (k + 1) _ _ (are.in_order k inside) (also.in_order k inside))

second-row : (n : Network) (j : ℕ) (row other : Row) → IsSecondRow n j row → IsSecondRow n j other → row ≡ other
second-row n j row other is also =
    let without = one-value (without_arc n j) is.0 also.0 is.2 also.2 in
    let more = one-value (with_second n j) is.1 also.1 is.3 also.3 in
    is.4 ∙ ap₂ (λ (without more : ℕ). j ∷ without ∷ more ∷ []) without more ∙ sym also.4

second-rows : (n : Network) (rows others : List Row) → AreSecondRows n rows → AreSecondRows n others → rows ≡ others
second-rows n rows others are also = ext_get_or [] rows others (are.one_each ∙ sym also.one_each) (λ k below.
    let inside : k < length n.arcs = omega (arith, below, are.one_each) in
    second-row n (k + 1) _ _ (are.in_order k inside) (also.in_order k inside))

node-rows : (n : Network) (rows others : List Row) → AreNodeRows n rows → AreNodeRows n others → rows ≡ others
node-rows n rows others are also = ext_get_or [] rows others (are.one_each ∙ sym also.one_each) (λ k below.
    let inside : k < length (inner_nodes n) = omega (arith, below, are.one_each) in
    let v = get_or (inner_nodes n) k 0 in
    one-row (without_node n v) v _ _ (are.in_order k inside) (also.in_order k inside))

pair-row : (n : Network) (i j : ℕ) (row other : Row) → IsPairRow n i j row → IsPairRow n i j other → row ≡ other
pair-row n i j row other is also =
    is.2 ∙ ap (λ without. i ∷ j ∷ without ∷ []) (one-value (without_pair n i j) is.0 also.0 is.1 also.1) ∙ sym also.2

-- Where each loss has one row, so has each of a list.
zip-rows : (IsRowOf : NumberedLoss → Row → Type 0) → ((w : NumberedLoss) (row other : Row) → IsRowOf w row → IsRowOf w other → row ≡ other)
    → (worst : List NumberedLoss) (rows others : List Row) → AllZip IsRowOf worst rows → AllZip IsRowOf worst others → rows ≡ others
zip-rows IsRowOf one [] [] [] are also = refl
zip-rows IsRowOf one [] [] (y ∷ ys) are also = absurd also
zip-rows IsRowOf one [] (x ∷ xs) others are also = absurd are
zip-rows IsRowOf one (w ∷ ws) [] others are also = absurd are
zip-rows IsRowOf one (w ∷ ws) (x ∷ xs) [] are also = absurd also
zip-rows IsRowOf one (w ∷ ws) (x ∷ xs) (y ∷ ys) are also =
    ap₂ (λ (row : Row) (rows : List Row). row ∷ rows) (one w x y are.0 also.0) (zip-rows IsRowOf one ws xs ys are.1 also.1)

-- There is one list of the worst, and so one of their rows.
worst-rows : (IsSuch : NumberedLoss → Type 0) (IsRowOf : NumberedLoss → Row → Type 0) (most : ℕ)
    → ((w : NumberedLoss) (row other : Row) → IsRowOf w row → IsRowOf w other → row ≡ other) → (rows others : List Row)
    → AreRowsOfWorst IsSuch IsRowOf most rows → AreRowsOfWorst IsSuch IsRowOf most others → rows ≡ others
worst-rows IsSuch IsRowOf most one rows others are also =
    let same = worst-are_one IsSuch most also.worst are.worst also.are_worst are.are_worst in
    zip-rows IsRowOf one are.worst rows others are.one_each
    (subst (λ (ws : List NumberedLoss). AllZip IsRowOf ws others) same also.one_each)

-- One value and one list of rows have one text.
one-text : (AreRows : Network → List Row → Type 0) → ((n : Network) (rows others : List Row) → AreRows n rows → AreRows n others → rows ≡ others)
    → HaveOneText AreRows
one-text AreRows one n value other rows others is also are likewise = ap₂ vital_text (one-value n value other is also) (one n rows others are likewise)

pub arcs-one-text : ArcsHaveOneText
arcs-one-text = one-text AreArcRows arc-rows

pub seconds-one-text : SecondsHaveOneText
seconds-one-text = one-text AreSecondRows second-rows

pub nodes-one-text : NodesHaveOneText
nodes-one-text = one-text AreNodeRows node-rows

pub worst_arcs-one-text : WorstArcsHaveOneText
worst_arcs-one-text most =
    one-text (AreWorstArcRows most) (λ n. worst-rows _ (λ w. IsArcRow n w.number) most (λ w row other. one-row (without_arc n w.number) w.number row other))

pub worst_nodes-one-text : WorstNodesHaveOneText
worst_nodes-one-text most =
    one-text (AreWorstNodeRows most) (λ n. worst-rows _ (λ w. IsNodeRow n w.number) most (λ w row other. one-row (without_node n w.number) w.number row other))

pub worst_pairs-one-text : WorstPairsHaveOneText
worst_pairs-one-text most =
    one-text (AreWorstPairRows most) (λ n. worst-rows _ (λ w. IsPairRow n w.number w.second) most (λ w row other. pair-row n w.number w.second row other))
