-- Labels that another search may keep.
use Rattle.std.proofs.Common.{ℕ, ◌≡◌, List, sym, subst}
use Rattle.dmf_links.specs.Links.{Links}
use Rattle.dmf_path.specs.declared.noted.Noted.{Noted}
use Rattle.dmf_path.specs.Labels.{no_label}
use Rattle.dmf_path.specs.Residual.{ResidualLinks, roomed}
use Rattle.dmf_path.specs.Searching.{Labelling, Sought, AreLasting, AreNoted}
use Rattle.dmf_path.proofs.rooms.Pushed.{OpensUpwards, AreValid-opens, admissible-before}

-- They are kept for the search, however the pushes are held.
pub lasting : (v : Labelling) (noted : Noted) (s t : Sought) → s ≡ t → AreLasting v noted t.residual → AreLasting v noted s.residual
lasting v noted s t same is = subst (λ (x : Sought). AreLasting v noted x.residual) (sym same) is

-- A push gives room to no link that falls.
noted-opens : (l : Links) (labels old new current noted : List ℕ) → OpensUpwards l labels old new → AreNoted l labels old current noted
    → AreNoted l labels new current noted
noted-opens l labels old new current noted opens are = record {
  within = are.within;
  each = λ v p node lies before admissible. are.each v p node lies before (admissible-before l labels old new v p node opens admissible);
}

-- So a push leaves them.
pub lasting-opens : (v : Labelling) (noted : Noted) (r : ResidualLinks) (rooms : List ℕ) → OpensUpwards r.links v.labels r.rooms rooms
    → AreLasting v noted r → AreLasting v noted (roomed r rooms)
lasting-opens v noted r rooms opens is = record {
  whole = record { small = is.whole.small; valid = AreValid-opens r.links v.labels r.rooms rooms no_label opens is.whole.valid };
  skipped = λ known. noted-opens r.links v.labels r.rooms rooms v.current noted.places.items opens (is.skipped known);
}
