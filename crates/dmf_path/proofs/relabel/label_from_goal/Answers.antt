-- The start has a label then, or none.
use Rattle.std.proofs.Common.{refl, arith}
use Rattle.dmf_path.proofs.labels.Labelled.{labelled-one}
use Rattle.dmf_path.proofs.paths.Reaching.{parted-unlabelled}
use Rattle.dmf_path.proofs.relabel.label_from_goal.Goals as goal

pub returns-clause-relabelled : goal.returns-clause-relabelled
returns-clause-relabelled c =
    let links = c.args.links.now in
    let are = rw (c.deref.ensures, c.deref-2.ensures.value) at c.label_from.ensures in
    let told = c.has_label_or_mark.ensures in
    record {
      ready = record { one_label_each = are.one_each; far_is = c.requires.far_is };
      labelled = λ yes. labelled-one links.rooms.items links.flags.items links.table.value.are links.flags_are are c.requires.start_is (told.has yes)
          (omega arith);
      none = λ no. parted-unlabelled links.rooms.items links.flags.items links.table.value.are links.flags_are are (told.none no) (told.none no)
          c.has_label_or_mark.new.marks (told.marks no);
      current = refl;
    }
