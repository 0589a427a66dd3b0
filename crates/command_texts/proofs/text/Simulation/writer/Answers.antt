use Rattle.command_texts.proofs.text.Simulation.writer.Goals as goal

pub unreachable-requires : goal.unreachable-requires
unreachable-requires c =
    c.in-None.ensures (c.requires.row, c.requires.begins)
