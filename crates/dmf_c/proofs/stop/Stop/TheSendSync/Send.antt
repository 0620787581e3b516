-- A stop may go to another thread, as its flag may.
use mir.Raw.{raw}
use denote.Memory.{lone}
use denote.Struct.Struct.{exits_of}
use denote.Struct.Owning.{shape, fields, to}
use denote.Param.Send.{IsSend, AllSend, owning_send, struct_send, sendable}
use Rattle.std.proofs.Crossing as heap
use Rattle.std_alloc.proofs.SendSync.{quiet, lies}
use Rattle.std_heap.proofs.Global.TheSendSync as handle
use Rattle.dmf_c.specs.contracts.flag.Flag as flag
use Rattle.dmf_c.proofs.flag.Flag.TheSendSync.{the_send as sent}
use Rattle.dmf_c.specs.contracts.stop.Stop.{the_row, the_type}

pub send : IsSend the_row
send =
    let all : AllSend (fields the_type) = (search sendable, (handle.the_field_send, tt)) in
    owning_send the_type all (λ s. (lies flag.the_row sent s.at s.inside, heap.frees.frees s.alloc (raw (lone flag.the_row.mir)) s.at))
    (λ k. quiet (to the_type) (exits_of k (fields the_type)) ((struct_send (shape the_type) all).leaving k))
