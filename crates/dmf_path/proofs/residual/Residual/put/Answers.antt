use Rattle.std.proofs.Common.{◌≡◌, ◌<◌, length, get_or, ap, ◌∙◌, arith}
use Rattle.std.proofs.lemmas.List.{get_or_default, with_items_is}
use Rattle.dmf_links.specs.Links.{open_flag}
use Rattle.dmf_links.specs.LinkTable.{links_of}
use Rattle.dmf_path.proofs.rooms.Pushing.{AreRooms-put, AreFlags-put}
use Rattle.dmf_path.proofs.residual.Residual.put.Goals as goal

pub renew_flag-requires : goal.renew_flag-requires
renew_flag-requires c =
    let a = c.args.self.now in
    let partners = a.table.value.partners.items in
    let rooms = a.rooms.items in
    let within = c.requires.within in
    let link = a.table.value.are.each c.args.place within in
    let opposite : c.args.opposite < length a.table.value.heads.items = omega (arith, c.requires.opposite, link.partner) in
    let read : c.index-before.result.now ≡ get_or rooms c.args.place 0 =
    c.index-before.ensures ∙ get_or_default rooms c.args.place _ 0 (omega (arith, a.rooms_are.0, within)) in
    record {
      within = rw c.deref_mut.ensures.value (omega (arith, a.flags_are.0, opposite));
      told = rw (c.deref_mut.ensures.value, read)
          (a.flags_are.1 c.args.opposite opposite ∙ ap (λ q. open_flag (get_or rooms (get_or partners q 0) 0)) c.requires.opposite
          ∙ ap (λ q. open_flag (get_or rooms q 0)) link.partner_back);
    }

pub invariant_of-self : goal.invariant_of-self
invariant_of-self c =
    let a = c.args.self.now in
    let l = links_of a.table.value in
    let flags = with_items_is a.flags c.renew_flag.new.flags (c.renew_flag.auto.flags ∙ c.deref_mut.ensures.len) in
    let q = c.requires in
    rw (flags, c.renew_flag.ensures, c.deref_mut.ensures.value)
    (record {
      rooms_are = AreRooms-put c.args.place c.args.room a.rooms.items a.table.value.are a.rooms_are q.within q.opposite q.fits q.spare;
      flags_are = AreFlags-put c.args.place c.args.room a.rooms.items a.flags.items a.table.value.are a.rooms_are.0 a.flags_are q.within q.opposite;
    })
