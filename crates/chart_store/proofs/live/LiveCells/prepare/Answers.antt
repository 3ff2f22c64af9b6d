-- A cell that is not held is put in, and can be taken out again.
use Rattle.std.proofs.Common.{◌≡◌, false, None, sym, ap, subst, ◌∙◌}
use Rattle.std.specs.FinMap as map
use Rattle.chart_model.specs.State.{StateValue}
use Rattle.chart_store.specs.Loaded.{HoldingsByKey}
use Rattle.chart_store.specs.Next.{CanStand}
use Rattle.chart_store.proofs.Preparing.{put-taken, can-give_up}
use Rattle.chart_store.proofs.live.LiveCells.prepare.Goals as goal

pub returns-clause-prepared : goal.returns-clause-prepared
returns-clause-prepared c =
    let absent : map.contains_key c.args.self.now.cells c.args.key ≡ false =
    ap (λ (cells : HoldingsByKey). map.contains_key cells c.args.key) (sym c.cells.ensures.cells)
    ∙ sym c.contains.ensures ∙ c.if-contains.false in
    subst (λ (s : StateValue). CanStand s.cells c.args.key None c.bytes-before.result) (sym c.in_ok-set.ensures.ok)
    (can-give_up c.args.self.now.cells c.args.key c.args.holding c.args.bytes c.bytes-before.result absent c.requires
    c.bytes-before.ensures.bytes c.bytes-before.ensures.within)

pub returns-clause-withdrawn : goal.returns-clause-withdrawn
returns-clause-withdrawn c =
    let absent : map.contains_key c.args.self.now.cells c.args.key ≡ false =
    ap (λ (cells : HoldingsByKey). map.contains_key cells c.args.key) (sym c.cells.ensures.cells)
    ∙ sym c.contains.ensures ∙ c.if-contains.false in
    (λ i. record { cells = map.remove (c.in_ok-set.ensures.ok i).cells c.args.key })
    ∙ (λ i. record { cells = put-taken c.args.self.now.cells c.args.key c.args.holding c.args.bytes absent c.requires i })
