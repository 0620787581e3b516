use Rattle.std.proofs.Common.{◌+◌, ◌∷◌, [], get_or, arith, subst, sym}
use Rattle.std.specs.List.{slice_range}
use Rattle.std.specs.Io.KnownBytes.{prepend_known, Consumes}
use Rattle.dmf_streams.specs.contracts.input.Input.{the_view}
use Rattle.dmf_streams.specs.Input.{input_over, TakesBytes}
use Rattle.dmf_streams.proofs.TakingLemmas.{Takes-trans, Consumes-pending, pending-more}
use Rattle.dmf_streams.proofs.input.Input.next_byte.Goals as goal

pub returns : goal.returns
returns g c =
    let reader = g.C.Source.left c.fill.new.source in
    let a = c.self.inside in
    let byte = get_or a.piece a.start 0 in
    let rest = slice_range a.piece (a.start + 1) a.end in
    let more = pending-more a.piece a.start a.end (omega arith) (omega arith) in
    let new = input_over (record { bytes = rest; count = a.count + 1 }) reader in
    let takes : TakesBytes (input_over (the_view a) reader) new (byte ∷ []) =
    record {
      consumes = subst (λ bytes. Consumes (prepend_known bytes reader.known) (prepend_known rest reader.known) (byte ∷ [])) (sym more)
          (Consumes-pending reader.known byte rest);
      counts = omega arith;
    } in
    let told = c.in_ok-fill.ensures in
    let all = Takes-trans _ _ new [] (byte ∷ []) told.0 (subst (λ p. TakesBytes (input_over p reader) new (byte ∷ [])) c.self.view_is takes) in
    (all, told.1, omega arith)
