use Rattle.command_texts.proofs.text.write_rows.Goals as goal

pub returns-clause-stopped : goal.returns-clause-stopped
returns-clause-stopped g c = rw c.in-Ok.ensures at c.write_buffered.ensures.stopped
