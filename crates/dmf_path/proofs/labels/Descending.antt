-- Links that fall, each from a lower label than the one before: no two of them are the same or opposite.
use Rattle.std.proofs.Common.{ℕ, ◌≡◌, ◌≢◌, ◌+◌, ◌<◌, ◌≤◌, List, [], ◌∷◌, ◌++◌, length, get_or, ap, sym, ◌∙◌, arith}
use Rattle.dmf_node.specs.Node.{IsNode}
use Rattle.dmf_links.specs.Links.{Links, AreLinks, tail_of}
use Rattle.dmf_path.specs.Walk.{IsTrail, end_of}
use Rattle.dmf_path.specs.Held.{IsOff}
use Rattle.dmf_links.proofs.tables.LinkPlaces.{lies-within}

-- The link at place `p` falls, from a label of at most `top`.
pub record FallsBelow (l : Links) (labels : List ℕ) (top p : ℕ) : Type 0 where
  pub within : p < length l.heads
  pub label : get_or labels (get_or l.heads p 0) 0 + 1 ≡ get_or labels (tail_of l p) 0
  pub below : get_or labels (tail_of l p) 0 ≤ top

-- These links fall, each from where the one before ends or lower, from `top` or lower down to `bottom` or higher.
abbrev pub Descends : Links → List ℕ → ℕ → ℕ → List ℕ → Type 0
Descends l labels top bottom [] = bottom ≤ top
Descends l labels top bottom (p ∷ ps) = FallsBelow l labels top p × Descends l labels (get_or labels (get_or l.heads p 0) 0) bottom ps

falls-raised : {l : Links} {labels : List ℕ} {top higher p : ℕ} → top ≤ higher → FallsBelow l labels top p → FallsBelow l labels higher p
falls-raised more falls = record { within = falls.within; label = falls.label; below = omega (arith, falls.below, more) }

module _ (l : Links) (labels : List ℕ) where
  -- The top may be raised.
  pub descends-raised : (top higher bottom : ℕ) (ps : List ℕ) → top ≤ higher → Descends l labels top bottom ps → Descends l labels higher bottom ps
  descends-raised top higher bottom [] more descends = omega arith
  descends-raised top higher bottom (p ∷ ps) more descends = (falls-raised more descends.0, descends.1)

  -- The bottom may be lowered.
  pub descends-lowered : (top bottom lower : ℕ) (ps : List ℕ) → lower ≤ bottom → Descends l labels top bottom ps → Descends l labels top lower ps
  descends-lowered top bottom lower [] less descends = omega arith
  descends-lowered top bottom lower (p ∷ ps) less descends =
      (descends.0, descends-lowered (get_or labels (get_or l.heads p 0) 0) bottom lower ps less descends.1)

  -- Links that fall to a label, and links that fall from it, fall together.
  pub descends-append : (top middle bottom : ℕ) (ps qs : List ℕ) → Descends l labels top middle ps → Descends l labels middle bottom qs
      → Descends l labels top bottom (ps ++ qs)
  descends-append top middle bottom [] qs first later = descends-raised middle top bottom qs first later
  descends-append top middle bottom (p ∷ ps) qs first later =
      (first.0, descends-append (get_or labels (get_or l.heads p 0) 0) middle bottom ps qs first.1 later)

  -- Those after some of them descend.
  pub descends-behind : (top bottom : ℕ) (ps qs : List ℕ) → Descends l labels top bottom (ps ++ qs) → Descends l labels top bottom qs
  descends-behind top bottom [] qs descends = descends
  descends-behind top bottom (p ∷ ps) qs descends =
      let next : ℕ = get_or labels (get_or l.heads p 0) 0 in
      descends-raised next top bottom qs (omega (arith, descends.0.label, descends.0.below)) (descends-behind next bottom ps qs descends.1)

  -- The links of a trail descend.
  pub descends-trail : (rooms current : List ℕ) (v : ℕ) (ps : List ℕ) → AreLinks l → IsNode l.nodes v → IsTrail l labels rooms current v ps
      → Descends l labels (get_or labels v 0) (get_or labels (end_of l v ps) 0) ps
  descends-trail rooms current v [] links node trail = omega arith
  descends-trail rooms current v (p ∷ ps) links node trail =
      let within = lies-within l v p links node trail.0.lies in
      let tail = ap (λ u. get_or labels u 0) (links.at_tail v p node trail.0.lies) in (
        record { within = within; label = trail.0.falls ∙ sym tail; below = omega (arith, tail) },
        descends-trail rooms current (get_or l.heads p 0) ps links (links.each p within).head trail.2,
      )

  descends-le : (top bottom : ℕ) (ps : List ℕ) → Descends l labels top bottom ps → bottom ≤ top
  descends-le top bottom [] descends = descends
  descends-le top bottom (p ∷ ps) descends =
      omega (arith, descends-le (get_or labels (get_or l.heads p 0) 0) bottom ps descends.1, descends.0.below, descends.0.label)

  -- A link that differs from each that falls between these labels is none of them.
  off-from : (top bottom p : ℕ) (ps : List ℕ) → Descends l labels top bottom ps
      → ((q : ℕ) → FallsBelow l labels top q → bottom ≤ get_or labels (get_or l.heads q 0) 0 → q ≢ p) → IsOff p ps
  off-from top bottom p [] descends other = tt
  off-from top bottom p (q ∷ qs) descends other =
      let next : ℕ = get_or labels (get_or l.heads q 0) 0 in (
        other q descends.0 (descends-le next bottom qs descends.1),
        off-from next bottom p qs descends.1 (λ r falls. other r (falls-raised (omega (arith, descends.0.label, descends.0.below)) falls)),
      )

  -- A link from a higher label is none of them,
  pub off-above : (top bottom p : ℕ) (ps : List ℕ) → Descends l labels top bottom ps → top < get_or labels (tail_of l p) 0 → IsOff p ps
  off-above top bottom p ps descends above =
      off-from top bottom p ps descends (λ q falls low same. omega (arith, falls.below, above, ap (λ r. get_or labels (tail_of l r) 0) same))

  -- nor is a link from a lower label,
  pub off-below : (top bottom p : ℕ) (ps : List ℕ) → Descends l labels top bottom ps → get_or labels (tail_of l p) 0 ≤ bottom → IsOff p ps
  off-below top bottom p ps descends below =
      off-from top bottom p ps descends (λ q falls low same. omega (arith, falls.label, low, below, ap (λ r. get_or labels (tail_of l r) 0) same))

  -- nor a link that does not fall.
  pub off-rising : (top bottom p : ℕ) (ps : List ℕ) → Descends l labels top bottom ps
      → get_or labels (get_or l.heads p 0) 0 + 1 ≢ get_or labels (tail_of l p) 0 → IsOff p ps
  off-rising top bottom p ps descends rises = off-from top bottom p ps descends (λ q falls low same. rises (rw same at falls.label))

  -- The opposite of a link that falls does not fall, so it is none of some links that fall.
  pub off-partner : (top bottom p : ℕ) (ps : List ℕ) → AreLinks l → p < length l.heads
      → get_or labels (get_or l.heads p 0) 0 + 1 ≡ get_or labels (tail_of l p) 0 → Descends l labels top bottom ps → IsOff (get_or l.partners p 0) ps
  off-partner top bottom p ps links within falls descends = off-rising top bottom (get_or l.partners p 0) ps descends (λ rises.
      omega (arith, falls, rises, ap (λ q. get_or labels (get_or l.heads q 0) 0) (links.each p within).partner_back))

-- A link that is in neither of two lists is not in both together.
pub off-append : (p : ℕ) (ps qs : List ℕ) → IsOff p ps → IsOff p qs → IsOff p (ps ++ qs)
off-append p [] qs first later = later
off-append p (q ∷ ps) qs first later = (first.0, off-append p ps qs first.1 later)

-- One of the links, and those before and after it.
pub record IsBetween (l : Links) (labels : List ℕ) (top bottom p : ℕ) (ps qs : List ℕ) : Type 0 where
  pub falls : FallsBelow l labels top p
  pub before : IsOff p ps
  pub behind : IsOff p qs
  pub without : Descends l labels top bottom (ps ++ qs)

-- A link among some that fall lies between those before and those after it.
pub between : (l : Links) (labels : List ℕ) (top bottom p : ℕ) (ps qs : List ℕ) → Descends l labels top bottom (ps ++ p ∷ qs)
    → IsBetween l labels top bottom p ps qs
between l labels top bottom p [] qs descends =
    let next : ℕ = get_or labels (get_or l.heads p 0) 0 in
    record {
      falls = descends.0;
      before = tt;
      behind = off-above l labels next bottom p qs descends.1 (omega (arith, descends.0.label));
      without = descends-raised l labels next top bottom qs (omega (arith, descends.0.label, descends.0.below)) descends.1;
    }
between l labels top bottom p (q ∷ ps) qs descends =
    let later = between l labels (get_or labels (get_or l.heads q 0) 0) bottom p ps qs descends.1 in
    record {
      falls = falls-raised (omega (arith, descends.0.label, descends.0.below)) later.falls;
      before = (λ same. omega (arith, later.falls.below, descends.0.label, ap (λ r. get_or labels (tail_of l r) 0) same), later.before);
      behind = later.behind;
      without = (descends.0, later.without);
    }
