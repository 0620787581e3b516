-- What is written of a network is determined by it.
-- Public: a public contract says no more than this.
use Rattle.std.specs.Prelude.{ℕ, ◌≡◌, List}
use Rattle.dmf_state.specs.Network.{Network}
use Rattle.dmf_vital.specs.GreatestValue.{IsGreatestValue}
use Rattle.dmf_valuing.specs.Rows.{AreArcRows, AreNodeRows, AreSecondRows, AreWorstArcRows, AreWorstNodeRows, AreWorstPairRows, Row, vital_text}

-- A greatest value of a network and rows that are so have one text, whoever finds them.
abbrev pub HaveOneText : (Network → List Row → Type 0) → Type 0
HaveOneText AreRows = (n : Network) (value other : ℕ) (rows others : List Row) → IsGreatestValue n value → IsGreatestValue n other → AreRows n rows
    → AreRows n others → vital_text value rows ≡ vital_text other others

-- rows of its arcs,
abbrev pub ArcsHaveOneText : Type 0
ArcsHaveOneText = HaveOneText AreArcRows

-- rows of its arcs with second ones beside them,
abbrev pub SecondsHaveOneText : Type 0
SecondsHaveOneText = HaveOneText AreSecondRows

-- rows of its nodes,
abbrev pub NodesHaveOneText : Type 0
NodesHaveOneText = HaveOneText AreNodeRows

-- rows of its worst arcs, at most `most`,
abbrev pub WorstArcsHaveOneText : Type 0
WorstArcsHaveOneText = (most : ℕ) → HaveOneText (AreWorstArcRows most)

-- of its worst nodes,
abbrev pub WorstNodesHaveOneText : Type 0
WorstNodesHaveOneText = (most : ℕ) → HaveOneText (AreWorstNodeRows most)

-- and of its worst pairs of arcs
abbrev pub WorstPairsHaveOneText : Type 0
WorstPairsHaveOneText = (most : ℕ) → HaveOneText (AreWorstPairRows most)
