-- No least path uses a self loop, so a search may ignore self loops.
use Rattle.std.proofs.Common.{ℕ, ◌≡◌, ◌≢◌, ◌≤◌, List, [], ◌∷◌, length, refl, ap, sym, ◌∙◌, inl, inr, subst, arith}
use Rattle.std.specs.List.{Contains}
use Rattle.std.proofs.lemmas.Bool.{cases_eq}
use Rattle.dmf_path.specs.Step.{Step}
use Rattle.dmf_path.specs.Path.{IsPath, HasNoPath, IsReachable, IsLeastPath}

-- The second steps are the first ones that are no self loops, and perhaps some that are.
pub record AreWithoutLoops (steps fewer : List Step) : Type 0 where
  pub within : (s : Step) → Contains fewer s → Contains steps s
  pub others : (s : Step) → Contains steps s → s.from ≢ s.to → Contains fewer s

-- A path of the fewer steps that is no longer than another one, and shorter if the two differ.
record IsShorter (fewer : List Step) (a b : ℕ) (path : List Step) : Type 0 where
  pub rest : List Step
  pub leads : IsPath fewer a b rest
  pub long : length rest ≤ length path
  pub same : length rest ≡ length path → rest ≡ path

-- a path without its loops
without_loops : (steps fewer : List Step) (a b : ℕ) (path : List Step) → AreWithoutLoops steps fewer → IsPath steps a b path → IsShorter fewer a b path
without_loops steps fewer a b [] are leads = record { rest = []; leads = leads; long = omega arith; same = λ e. refl }
without_loops steps fewer a b (s ∷ path) are leads =
    let later = without_loops steps fewer s.to b path are leads.2 in
    elim (cases_eq s.from s.to) [
      | inl loop ↦ record {
        rest = later.rest;
        leads = subst (λ v. IsPath fewer v b later.rest) (sym loop ∙ leads.1) later.leads;
        long = omega (arith, later.long);
        same = λ e. absurd (omega (arith, e, later.long));
      }
      | inr on ↦ record {
        rest = s ∷ later.rest;
        leads = (are.others s leads.0 on, leads.1, later.leads);
        long = omega (arith, later.long);
        same = λ e. ap (λ r. s ∷ r) (later.same (omega (arith, e)));
      }
    ]

-- A path of the fewer steps is one of them all.
path-within : (steps fewer : List Step) (a b : ℕ) (path : List Step) → AreWithoutLoops steps fewer → IsPath fewer a b path → IsPath steps a b path
path-within steps fewer a b [] are leads = leads
path-within steps fewer a b (s ∷ path) are leads = (are.within s leads.0, leads.1, path-within steps fewer s.to b path are leads.2)

-- The least path of the fewer steps is the least path of all of them.
pub least-without_loops : (steps fewer : List Step) (a b : ℕ) (path : List Step) → AreWithoutLoops steps fewer → IsLeastPath fewer a b path
    → IsLeastPath steps a b path
least-without_loops steps fewer a b path are least = record {
  leads = path-within steps fewer a b path are least.leads;
  shortest = λ other leads. let rest = without_loops steps fewer a b other are leads in omega (arith, rest.long, least.shortest rest.rest rest.leads);
  first = λ other leads long before.
      let rest = without_loops steps fewer a b other are leads in
      let same = rest.same (omega (arith, rest.long, long, least.shortest rest.rest rest.leads)) in
      least.first other (subst (IsPath fewer a b) same rest.leads) long before;
}

-- If no path of the fewer steps leads there, none does.
pub no_path-without_loops : (steps fewer : List Step) (a b : ℕ) → AreWithoutLoops steps fewer → HasNoPath fewer a b → HasNoPath steps a b
no_path-without_loops steps fewer a b are none path leads =
    let rest = without_loops steps fewer a b path are leads in none rest.rest rest.leads

-- The fewer steps reach what all of them reach.
pub reachable-without_loops : (steps fewer : List Step) (a b : ℕ) → AreWithoutLoops steps fewer → IsReachable steps a b → IsReachable fewer a b
reachable-without_loops steps fewer a b are reached =
    let rest = without_loops steps fewer a b reached.0 are reached.1 in (rest.rest, rest.leads)

-- What the steps that are no loops reach, all steps reach.
pub reachable-within : (steps fewer : List Step) (a b : ℕ) → AreWithoutLoops steps fewer → IsReachable fewer a b → IsReachable steps a b
reachable-within steps fewer a b are reached = (reached.0, path-within steps fewer a b reached.0 are reached.1)
