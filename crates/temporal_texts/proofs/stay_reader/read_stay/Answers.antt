use Rattle.controller_table.specs.declared.text_kind.TextKind.TheVariants.{Stay}
use Rattle.controller_table.proofs.TextsRead.{never_many}
use Rattle.temporal_texts.proofs.stay_reader.read_stay.Goals as goal

pub without_turns-requires : goal.without_turns-requires
without_turns-requires c = λ turns.
    let refused = rw turns at c.in-Err.ensures.refused in
    never_many Stay c.args.bytes.now (λ p. tt) (refused (λ e. cc)).1
