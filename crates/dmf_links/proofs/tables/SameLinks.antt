-- Links whose opposites are the same, and that begin at the same places at each node, are the same.
use Rattle.std.proofs.Common.{ℕ, ◌≡◌, ◌+◌, ◌≤◌, ◌<◌, ◌==◌, ◌&&◌, Bool, eqb, List, length, get_or, ap, sym, subst, ◌∙◌}
use Rattle.std.specs.Bool.{Decides}
use Rattle.std.specs.Cmp.Lexicographic.{pointwise, pointwise_decides}
use Rattle.std.proofs.lemmas.Bool.Decides.{Decides-and, Decides-eqb, Decides-like}
use Rattle.std.proofs.lemmas.Grind.{same_number_lists}
use Rattle.dmf_node.specs.Node.{IsNode}
use Rattle.dmf_links.specs.Links.{Links, LiesAt, AreLinks, tail_of}
use Rattle.dmf_links.proofs.tables.LinkPlaces.{lies-partner}

-- A link leads to the node at which its opposite lies,
same-head : (l m : Links) (p : ℕ) → AreLinks l → AreLinks m → l.nodes ≡ m.nodes → l.first ≡ m.first → l.partners ≡ m.partners → p < length l.heads
    → get_or l.heads p 0 ≡ get_or m.heads p 0
same-head l m p of_l of_m nodes first partners h =
    let v : ℕ = get_or l.heads p 0 in
    let q : ℕ = get_or l.partners p 0 in
    let link = of_l.each p h in
    let lies = lies-partner l p of_l h in
    let node : IsNode m.nodes v = subst (λ (n : ℕ). IsNode n v) nodes link.head in
    let there : LiesAt m v q = record {
      from = subst (λ (xs : List ℕ). get_or xs v 0 ≤ q) first lies.from;
      below = subst (λ (xs : List ℕ). q < get_or xs (v + 1) 0) first lies.below;
    } in
    let tail : tail_of m q ≡ v = of_m.at_tail v q node there in
    let back : get_or m.partners q 0 ≡ p = ap (λ (xs : List ℕ). get_or xs q 0) (sym partners) ∙ link.partner_back in
    sym tail ∙ ap (λ (r : ℕ). get_or m.heads r 0) back

-- so the heads are the same too.
same_links : (l m : Links) → AreLinks l → AreLinks m → l.nodes ≡ m.nodes → l.first ≡ m.first → l.ends ≡ m.ends → l.partners ≡ m.partners → l ≡ m
same_links l m of_l of_m nodes first ends partners =
    let long : length l.heads ≡ length m.heads = sym of_l.partners_long ∙ ap length partners ∙ of_m.partners_long in
    let heads = same_number_lists l.heads m.heads long (λ p h. same-head l m p of_l of_m nodes first partners h) in
    λ i. record { nodes = nodes i; first = first i; ends = ends i; heads = heads i; partners = partners i }

-- So a test of these four tells whether all is the same.
pub same_links-Decides : (l m : Links) (r : Bool) → AreLinks l → AreLinks m
    → r ≡ ((l.nodes == m.nodes && pointwise eqb l.first m.first) && pointwise eqb l.ends m.ends) && pointwise eqb l.partners m.partners
    → Decides r (l ≡ m)
same_links-Decides l m r of_l of_m is =
    rw is (Decides-like _ (λ same. same_links l m of_l of_m same.0.0.0 same.0.0.1 same.0.1 same.1)
    (λ same. (
      ((ap (λ (x : Links). x.nodes) same, ap (λ (x : Links). x.first) same), ap (λ (x : Links). x.ends) same),
      ap (λ (x : Links). x.partners) same,
    ))
    (Decides-and _ _ (Decides-and _ _ (Decides-and _ _ (Decides-eqb l.nodes m.nodes) (pointwise_decides Decides-eqb l.first m.first))
    (pointwise_decides Decides-eqb l.ends m.ends)) (pointwise_decides Decides-eqb l.partners m.partners)))
