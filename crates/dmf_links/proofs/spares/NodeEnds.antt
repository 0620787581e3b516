-- Where the links of two nodes end that belong to pairs.
use Rattle.std.proofs.Common.{ℕ, ◌≡◌, ◌≢◌, ◌+◌, ◌<◌, ◌≤◌, List, length, get_or, set, inl, inr, ap, ◌∙◌, arith, get_or-set_other, get_or-set_same, length-set}
use Rattle.std.proofs.lemmas.Bool.{cases_eq}
use Rattle.dmf_node.specs.Node.{IsNode}
use Rattle.dmf_links.specs.Links.{Links, IsSpare, AreLinks, tail_of}
use Rattle.dmf_links.specs.Stack.{ends_set, with_ends}

-- Node `u` is the one, the other or neither.
pub data EndIs (l : Links) (v w a b u : ℕ) : Type 0 where
  at_v : u ≡ v → get_or (ends_set v a w b l.ends) (u + 1) 0 ≡ a → EndIs l v w a b u
  at_w : u ≡ w → get_or (ends_set v a w b l.ends) (u + 1) 0 ≡ b → EndIs l v w a b u
  elsewhere : u ≢ v → u ≢ w → get_or (ends_set v a w b l.ends) (u + 1) 0 ≡ get_or l.ends (u + 1) 0 → EndIs l v w a b u

pub end-is : (l : Links) (v w a b u : ℕ) → AreLinks l → IsNode l.nodes v → IsNode l.nodes w → v ≢ w → EndIs l v w a b u
end-is l v w a b u links v_node w_node apart =
    let once : List ℕ = set l.ends (v + 1) a in
    elim (cases_eq u w) [
      | inl same ↦ at_w same (ap (λ x. get_or (ends_set v a w b l.ends) (x + 1) 0) same
          ∙ get_or-set_same once (w + 1) b 0 (omega (arith, length-set l.ends (v + 1) a, links.ends_long, w_node.to_last)))
      | inr not_w ↦ elim (cases_eq u v) [
        | inl same ↦ at_v same (ap (λ x. get_or (ends_set v a w b l.ends) (x + 1) 0) same
            ∙ get_or-set_other once (w + 1) (v + 1) b 0 (λ e. apart (omega (arith, e)))
            ∙ get_or-set_same l.ends (v + 1) a 0 (omega (arith, links.ends_long, v_node.to_last)))
        | inr not_v ↦ elsewhere not_v not_w (get_or-set_other once (w + 1) (u + 1) b 0 (λ e. not_w (omega (arith, e)))
            ∙ get_or-set_other l.ends (v + 1) (u + 1) a 0 (λ e. not_v (omega (arith, e))))
      ]
    ]

-- Links stay links with other ends, if these are ends: the opposite of each spare link is spare, and no link is a loop that is not.
pub AreLinks-ends : (l : Links) (ends : List ℕ) → AreLinks l → length ends ≡ length l.ends
    → ((v : ℕ) → v ≤ l.nodes → get_or l.first v 0 ≤ get_or ends (v + 1) 0)
    → ((p : ℕ) → p < length l.heads → IsSpare (with_ends l ends) p → IsSpare (with_ends l ends) (get_or l.partners p 0))
    → ((p : ℕ) → p < length l.heads → ¬ IsSpare (with_ends l ends) p → tail_of l p ≢ get_or l.heads p 0) → AreLinks (with_ends l ends)
AreLinks-ends l ends links long from closed loops = record {
  first_long = links.first_long;
  ends_long = long ∙ links.ends_long;
  ends_from = from;
  partners_long = links.partners_long;
  at_most = links.at_most;
  at_most_nodes = links.at_most_nodes;
  ascending = links.ascending;
  last = links.last;
  each = λ p h.
      let link = links.each p h in
      record {
        head = link.head;
        tail = link.tail;
        lies = record { from = link.lies.from; below = link.lies.below };
        partner = link.partner;
        partner_back = link.partner_back;
        partner_other = link.partner_other;
        partner_spare = closed p h;
        no_loop = loops p h;
      };
  at_tail = λ v p node lies. links.at_tail v p node (record { from = lies.from; below = lies.below });
}
