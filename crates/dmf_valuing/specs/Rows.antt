-- What is written of a network: its greatest value, and rows of numbers.
-- Public: a public contract says no more than this.
use Rattle.std.specs.Prelude.{ℕ, ◌≡◌, ◌+◌, ◌<◌, ◌==◌, ◌&&◌, not, Bool, List, [], ◌∷◌, ◌++◌, codes, decimal, filter, length, map}
use Rattle.std.specs.Prelude.{slice_index, slice_index_or}
use Rattle.std.specs.List.{AllZip, range_with_len}
use Rattle.dmf_state.specs.Network.{Network}
use Rattle.dmf_text.specs.Judging.{Line}
use Rattle.dmf_text.specs.Written.{written, written_line}
use Rattle.dmf_vital.specs.GreatestValue.{IsGreatestValue}
use Rattle.dmf_vital.specs.Without.{with_second, without_arc, without_node, without_pair}
use Rattle.dmf_vital.specs.Worst.{AreWorst, IsArcLoss, IsNodeLoss, IsPairLoss}
use Rattle.dmf_vital.specs.declared.worst.NumberedLoss.{NumberedLoss}

-- ---- rows of numbers

abbrev pub Row : Type 0
Row = List ℕ

-- The row has the number of arc `j`, and the value of a greatest flow of the network in which arc `j` is closed.
abbrev pub IsArcRow : Network → ℕ → Row → Type 0
IsArcRow n j row = (without : ℕ) × IsGreatestValue (without_arc n j) without × (row ≡ j ∷ without ∷ [])

-- There is a row of each arc, in order.
pub record AreArcRows (n : Network) (rows : List Row) : Type 0 where
  pub one_each : length rows ≡ length n.arcs
  pub in_order : (k : ℕ) → k < length n.arcs → IsArcRow n (k + 1) (slice_index_or rows k [])

-- The row has the number of arc `j`, the value of a greatest flow of the network in which arc `j` is closed, and that of the network with a
-- second arc beside arc `j`.
abbrev pub IsSecondRow : Network → ℕ → Row → Type 0
IsSecondRow n j row =
    (without more : ℕ) × IsGreatestValue (without_arc n j) without × IsGreatestValue (with_second n j) more × (row ≡ j ∷ without ∷ more ∷ [])

-- There is such a row of each arc, in order.
pub record AreSecondRows (n : Network) (rows : List Row) : Type 0 where
  pub one_each : length rows ≡ length n.arcs
  pub in_order : (k : ℕ) → k < length n.arcs → IsSecondRow n (k + 1) (slice_index_or rows k [])

-- The row has the number of node `v`, and the value of a greatest flow of the network in which each arc at node `v` is closed.
abbrev pub IsNodeRow : Network → ℕ → Row → Type 0
IsNodeRow n v row = (without : ℕ) × IsGreatestValue (without_node n v) without × (row ≡ v ∷ without ∷ [])

-- whether node `v` is neither the source nor the sink
abbrev pub is_inner : Network → ℕ → Bool
is_inner n v = not (v == n.source) && not (v == n.sink)

-- the nodes but the source and the sink, in order of number
abbrev pub inner_nodes : Network → List ℕ
inner_nodes n = filter (is_inner n) (range_with_len 1 n.nodes)

-- There is a row of each node but the source and the sink, in order of number.
pub record AreNodeRows (n : Network) (rows : List Row) : Type 0 where
  pub one_each : length rows ≡ length (inner_nodes n)
  pub in_order : (k : ℕ) → k < length (inner_nodes n) → IsNodeRow n (slice_index (inner_nodes n) k) (slice_index_or rows k [])

-- The row has the numbers of the arcs `i` and `j`, and the value of a greatest flow of the network in which both are closed.
abbrev pub IsPairRow : Network → ℕ → ℕ → Row → Type 0
IsPairRow n i j row = (without : ℕ) × IsGreatestValue (without_pair n i j) without × (row ≡ i ∷ j ∷ without ∷ [])

-- The rows are those of the worst of such losses, at most `most`, in their order.
pub record AreRowsOfWorst (IsSuch : NumberedLoss → Type 0) (IsRowOf : NumberedLoss → Row → Type 0) (most : ℕ) (rows : List Row) : Type 0 where
  pub worst : List NumberedLoss
  pub are_worst : AreWorst IsSuch most worst
  pub one_each : AllZip IsRowOf worst rows

-- those of the arcs without which most is lost
abbrev pub AreWorstArcRows : ℕ → Network → List Row → Type 0
AreWorstArcRows most n = AreRowsOfWorst (IsArcLoss n) (λ w. IsArcRow n w.number) most

-- those of the nodes but the source and the sink without which most is lost
abbrev pub AreWorstNodeRows : ℕ → Network → List Row → Type 0
AreWorstNodeRows most n = AreRowsOfWorst (IsNodeLoss n) (λ w. IsNodeRow n w.number) most

-- those of the pairs of arcs without which most is lost
abbrev pub AreWorstPairRows : ℕ → Network → List Row → Type 0
AreWorstPairRows most n = AreRowsOfWorst (IsPairLoss n) (λ w. IsPairRow n w.number w.second) most

-- ---- what is written

-- `c value V`
abbrev pub value_line : ℕ → List ℕ
value_line value = written_line (codes "c" ∷ codes "value" ∷ decimal value ∷ [])

-- the fields of a row: `v` and its numbers
abbrev pub row_fields : Row → Line
row_fields row = codes "v" ∷ map decimal row

abbrev pub row_line : Row → List ℕ
row_line row = written_line (row_fields row)

-- a line for each of these rows
abbrev pub rows_text : List Row → List ℕ
rows_text rows = written (map row_fields rows)

-- a greatest value, and these rows after it
abbrev pub vital_text : ℕ → List Row → List ℕ
vital_text value rows = value_line value ++ rows_text rows
