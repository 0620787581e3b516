-- The nodes to which paths of steps lead. A set of nodes is given by its test: whether it has a node.
use Rattle.std.proofs.Common.{ℕ, ◌≡◌, ◌&&◌, ◌⊎◌, List, [], ◌∷◌, ◌++◌, Bool, true, false, nat_le, refl, ap, sym, ◌∙◌, inl, inr}
use Rattle.std.specs.List.{Contains}
use Rattle.std.proofs.lemmas.Bool.{both_ways, and_parts, and_from, le-leb}
use Rattle.dmf_path.specs.Step.{Step}
use Rattle.dmf_node.specs.Node.{IsNode, is_node}
use Rattle.dmf_path.specs.Path.{IsPath, HasNoPath}
use Rattle.dmf_state.proofs.IdleArc.{IsNode-is_node}
use Rattle.dmf_path.proofs.paths.SomeLeast.{SomePath, path-or-none}

-- No step leaves the set.
abbrev pub IsClosed : List Step → (ℕ → Bool) → Type 0
IsClosed steps has = (s : Step) → Contains steps s → has s.from ≡ true → has s.to ≡ true

-- A path from a node of a set that no step leaves stays in the set.
pub path-stays : (steps : List Step) (has : ℕ → Bool) (a b : ℕ) (path : List Step) → IsClosed steps has → IsPath steps a b path → has a ≡ true → has b ≡ true
path-stays steps has a b [] closed p inside = sym (ap has p) ∙ inside
path-stays steps has a b (s ∷ path) closed p inside = path-stays steps has s.to b path closed p.2 (closed s p.0 (ap has p.1 ∙ inside))

-- A path and a step from its last node are a path.
pub path-push : (steps : List Step) (a b : ℕ) (path : List Step) (s : Step) → IsPath steps a b path → Contains steps s → s.from ≡ b
    → IsPath steps a s.to (path ++ s ∷ [])
path-push steps a b [] s p c from = (c, from ∙ sym p, refl)
path-push steps a b (t ∷ path) s p c from = (p.0, p.1, path-push steps t.to b path s p.2 c from)

-- The head of each step is a node.
abbrev pub ArriveAtNodes : ℕ → List Step → Type 0
ArriveAtNodes nodes steps = (s : Step) → Contains steps s → IsNode nodes s.to

-- The set has just the nodes to which a path leads from node `a`.
pub record AreReachedFrom (steps : List Step) (nodes a : ℕ) (has : ℕ → Bool) : Type 0 where
  pub of_nodes : (v : ℕ) → has v ≡ true → IsNode nodes v
  pub reached : (v : ℕ) → has v ≡ true → (path : List Step) × IsPath steps a v path
  pub every : (v : ℕ) → IsNode nodes v → (path : List Step) → IsPath steps a v path → has v ≡ true

-- No step leaves the set of reached nodes.
pub reached_from-closed : (steps : List Step) (nodes a : ℕ) (has : ℕ → Bool) → ArriveAtNodes nodes steps → AreReachedFrom steps nodes a has → IsClosed steps has
reached_from-closed steps nodes a has arrive r s c inside =
    let before = r.reached s.from inside in
    r.every s.to (arrive s c) (before.0 ++ s ∷ []) (path-push steps a s.from before.0 s before.1 c refl)

-- ---- a test for reached nodes

-- whether a path leads there, given that one does or none does
abbrev is_path : (steps : List Step) (a b : ℕ) → HasNoPath steps a b ⊎ SomePath steps a b → Bool
is_path steps a b (inl none) = false
is_path steps a b (inr found) = true

is_path-some : (steps : List Step) (a b : ℕ) (known : HasNoPath steps a b ⊎ SomePath steps a b) → is_path steps a b known ≡ true
    → (path : List Step) × IsPath steps a b path
is_path-some steps a b (inl none) e = absurd (both_ways false refl e)
is_path-some steps a b (inr found) e = (found.path, found.leads)

is_path-true : (steps : List Step) (a b : ℕ) (known : HasNoPath steps a b ⊎ SomePath steps a b) (path : List Step) → IsPath steps a b path
    → is_path steps a b known ≡ true
is_path-true steps a b (inl none) path leads = absurd (none path leads)
is_path-true steps a b (inr found) path leads = refl

is_node-from : (nodes v : ℕ) → IsNode nodes v → is_node nodes v ≡ true
is_node-from nodes v node = and_from (nat_le 1 v) (nat_le v nodes) (le-leb 1 v node.from_one) (le-leb v nodes node.to_last)

-- whether `v` is a node to which a path leads from node `a`
pub is_reached : List Step → ℕ → ℕ → ℕ → Bool
is_reached steps nodes a v = is_node nodes v && is_path steps a v (path-or-none steps a v)

-- The test has just the reached nodes.
pub AreReachedFrom-is_reached : (steps : List Step) (nodes a : ℕ) → AreReachedFrom steps nodes a (is_reached steps nodes a)
unfolding is_reached
AreReachedFrom-is_reached steps nodes a = record {
  of_nodes = λ v e. IsNode-is_node nodes v (and_parts (is_node nodes v) _ e).0;
  reached = λ v e. is_path-some steps a v (path-or-none steps a v) (and_parts (is_node nodes v) _ e).1;
  every = λ v node path leads. and_from (is_node nodes v) _ (is_node-from nodes v node) (is_path-true steps a v (path-or-none steps a v) path leads);
}

-- If each set that has node `a` and that no step leaves has node `b`, it is absurd that no path leads from `a` to `b`.
pub path-not_none : (steps : List Step) (nodes a b : ℕ) → ArriveAtNodes nodes steps → IsNode nodes a
    → ((has : ℕ → Bool) → has a ≡ true → IsClosed steps has → has b ≡ true) → ¬ HasNoPath steps a b
path-not_none steps nodes a b arrive node kept none =
    let r = AreReachedFrom-is_reached steps nodes a in
    let p = r.reached b (kept (is_reached steps nodes a) (r.every a node [] refl) (reached_from-closed steps nodes a (is_reached steps nodes a) arrive r)) in
    none p.0 p.1
