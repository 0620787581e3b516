-- Labels that are set aside can be taken up as long as no room rises.
use Rattle.std.proofs.Common.{ℕ, ◌≡◌, ◌<◌, List, [], ◌∷◌, ◌++◌, false, get_or, set, length, sym, subst, arith}
use Rattle.std.proofs.lemmas.List.Elements.{All-push, All-set}
use Rattle.dmf_path.specs.declared.aside.Aside.{Aside}
use Rattle.dmf_path.specs.declared.levels.Levels.{Levels}
use Rattle.dmf_links.specs.Links.{AreLinks}
use Rattle.dmf_path.specs.Residual.{ResidualLinks, roomed}
use Rattle.dmf_path.specs.Searching.{Labelling, labelling_of, AreAside, AreUsable}
use Rattle.dmf_path.proofs.labels.Lasting.{lasting-opens}
use Rattle.dmf_path.proofs.rooms.Pushed.{ArePassed-opens, NoneOpens, opens-none}

usable-falls : (levels : Levels) (r : ResidualLinks) (rooms : List ℕ) (goal : ℕ) → AreLinks r.links → NoneOpens r.rooms rooms → AreUsable levels r goal
    → AreUsable levels (roomed r rooms) goal
usable-falls levels r rooms goal links none usable =
    let v : Labelling = labelling_of levels in
    let opens = opens-none r.links v.labels r.rooms rooms none in
    record {
      ready = usable.ready;
      goal_is = usable.goal_is;
      current_is = usable.current_is;
      kept = λ all.
          let k = usable.kept all in
          record {
            lasting = lasting-opens v levels.noted r rooms opens k.lasting;
            current_is = k.current_is;
            passed = ArePassed-opens r.links v.labels r.rooms rooms goal v.current links opens k.passed;
          };
    }

-- Labels that are set aside stay usable where no link gets room that had none.
pub aside-falls : (asides : List Aside) (r : ResidualLinks) (rooms : List ℕ) → AreLinks r.links → (r.takes_back ≡ false → NoneOpens r.rooms rooms)
    → AreAside asides r → AreAside asides (roomed r rooms)
aside-falls asides r rooms links none are k a within =
    let is = are k a within in (is.0, usable-falls (get_or asides k a).levels r rooms (get_or asides k a).ends.goal links (none is.0) is.1)

-- Where no labels are set aside, all that are aside are usable,
pub aside-none : (asides : List Aside) (r : ResidualLinks) → asides ≡ [] → AreAside asides r
aside-none asides r none = rw none (λ k a within. absurd (omega (arith, within)))

-- and so is the one set that is put there.
pub aside-one : (asides : List Aside) (a : Aside) (r : ResidualLinks) → asides ≡ [] → r.takes_back ≡ false → AreUsable a.levels r a.ends.goal
    → AreAside (asides ++ a ∷ []) r
aside-one asides a r none kept usable =
    All-push (λ x. (r.takes_back ≡ false) × AreUsable x.levels r x.ends.goal) asides a (aside-none asides r none) (kept, usable)

-- So are those that were in use, in exchange for the first ones.
pub aside-exchanged : (asides : List Aside) (a b : Aside) (r : ResidualLinks) → 0 < length asides → b ≡ get_or asides 0 b → AreUsable a.levels r a.ends.goal
    → AreAside asides r → AreUsable b.levels r b.ends.goal × AreAside (set asides 0 a) r
aside-exchanged asides a b r within is usable are =
    let first = are 0 b within in
    let set_aside = All-set (λ x. (r.takes_back ≡ false) × AreUsable x.levels r x.ends.goal) asides 0 a (first.0, usable) are in
    (subst (λ (x : Aside). AreUsable x.levels r x.ends.goal) (sym is) first.1, set_aside)
