-- Lemmas on the lines that the reader of a problem text took.
use Rattle.std.proofs.Common.{◌≡◌, ℕ, Option, Some, true, sym, ap, ◌∙◌, IsTrue}
use Rattle.std.proofs.lemmas.Bool.{and_parts, leb-true}
use Rattle.std.specs.Option.{ForSome}
use Rattle.dmf_node.specs.Node.{IsNode, is_node}

-- A node by the test is a node.
pub node-from : (nodes v : ℕ) → is_node nodes v ≡ true → IsNode nodes v
node-from nodes v range = let parts = and_parts _ _ range in record { from_one = leb-true _ _ parts.0; to_last = leb-true _ _ parts.1 }

-- the terminal is the node that this line names,
pub node-now : (nodes node v : ℕ) → is_node nodes node ≡ true → Some node ≡ Some v → IsNode nodes v
node-now nodes node v range is = let same : node ≡ v = cc in node-from nodes v (ap (is_node nodes) (sym same) ∙ range)

-- or an earlier line named it
pub node-before : (nodes v : ℕ) (terminal : Option ℕ) → ForSome terminal (λ w. IsTrue (is_node nodes w)) → terminal ≡ Some v → IsNode nodes v
node-before nodes v terminal nodes_alone is = node-from nodes v (nodes_alone v is)
