use Rattle.std.proofs.Common.{arith, sym, ◌∙◌}
use Rattle.std.proofs.lemmas.Bool.{false≢true}
use Rattle.std.proofs.lemmas.Bool.Decides.{Decides-ltb}
use Rattle.table_check.proofs.Best.{right_ranked, ranked_some, ranked_leads, ranked_lesser, ranked_further}
use Rattle.table_check.proofs.judge.RowJudge.is_best.Goals as goal
use Rattle.table_check.proofs.judge.RowJudge.is_best.Goals.{then-row-gt0, else-row-gt0, then-leads_below, else-leads_below}

pub returns-then-none_leads_below : goal.returns-then-none_leads_below
returns-then-none_leads_below g c =
    let game = g.G.Forward.game c.args.g.now in
    let rows = c.args.self.now.rows.now in
    let row = c.args.row in
    let inputs = c.inputs-inputs.result in
    let further = c.none_leads_below-then-none_leads_below.ensures in
    elim c.if-leads_below.branch [
      | then-leads_below w ↦
          elim c.if-row-gt0.branch [
            | then-row-gt0 v ↦
                let leads = v.leads_below.ensures.0 (sym v.value-is ∙ w.if-leads_below.true) in
                let lesser = w.none_leads_below.ensures.0 (sym w.value-is ∙ c.if-none_leads_below.true) in (
                  λ e. right_ranked game rows c.args.c row.input inputs c.requires.input c.inputs-inputs.ensures row.rank v.if-row-gt0.true leads lesser (further.0 e),
                  λ r. further.1 (ranked_further game rows c.args.c row.input inputs c.requires.input c.inputs-inputs.ensures row.rank r),
                )
            | else-row-gt0 v ↦
                let some = (Decides-ltb 0 row.rank).0 (sym v.value-is ∙ w.if-leads_below.true) in
                let none = v.if-row-gt0.false in
                absurd (omega (arith, some, none))
          ]
      | else-leads_below w ↦ absurd (false≢true (sym (w.value-is ∙ w.if-leads_below.false) ∙ c.if-none_leads_below.true))
    ]

pub returns-else-none_leads_below : goal.returns-else-none_leads_below
returns-else-none_leads_below g c =
    let game = g.G.Forward.game c.args.g.now in
    let rows = c.args.self.now.rows.now in
    let row = c.args.row in
    let inputs = c.inputs-inputs.result in
    let no = c.if-none_leads_below.false in (
      λ e. absurd (false≢true (sym no ∙ e)),
      λ r. elim c.if-leads_below.branch [
        | then-leads_below w ↦
            w.value-is ∙ w.none_leads_below.ensures.1 (ranked_lesser game rows c.args.c row.input inputs c.requires.input c.inputs-inputs.ensures row.rank r)
        | else-leads_below w ↦
            elim c.if-row-gt0.branch [
              | then-row-gt0 v ↦
                  absurd (false≢true (sym w.if-leads_below.false ∙ v.value-is ∙ v.leads_below.ensures.1 (ranked_leads game rows c.args.c row.input inputs c.requires.input c.inputs-inputs.ensures row.rank r)))
              | else-row-gt0 v ↦
                  let some = ranked_some game rows c.args.c row.input inputs c.requires.input c.inputs-inputs.ensures row.rank r in
                  let none = v.if-row-gt0.false in
                  absurd (omega (arith, some, none))
            ]
      ],
    )
