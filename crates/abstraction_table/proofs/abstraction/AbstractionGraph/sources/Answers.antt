use Rattle.std.proofs.Common.{◌≡◌, ℕ, ◌∙◌, List, length, sym, subst}
use Rattle.std.proofs.lemmas.List.{length-map}
use Rattle.game_core.specs.Game.{AreSources}
use Rattle.abstraction_table.specs.Table.{game_of}
use Rattle.abstraction_table.proofs.GameSources.{sources_are}
use Rattle.abstraction_table.proofs.abstraction.AbstractionGraph.sources.Goals as goal

pub returns : goal.returns
returns c =
    let a = c.args.self.now in
    let o = a.boxed in
    let one_each : length o.boxes ≡ _ = sym (length-map o.boxes _) ∙ o.in_memory.graph.game.one_list_each in
    subst (λ (pairs : List ℕ). AreSources (game_of a) c.args.c pairs) (sym (c.row.ensures ∙ a.in_memory.each c.args.c c.requires)) (sources_are o.grid o.inputs o.marks.items o.boxes c.args.c one_each)
