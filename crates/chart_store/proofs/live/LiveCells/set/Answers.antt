-- What is put in place can be held, and it is counted.
use Rattle.std.proofs.Common.{sym, subst}
use Rattle.chart_model.specs.State.{StateValue}
use Rattle.chart_store.specs.Live.{IsStore}
use Rattle.chart_store.specs.Next.{CanStand}
use Rattle.chart_store.proofs.Holdings.{IsStore-with}
use Rattle.chart_store.proofs.live.LiveCells.set.Goals as goal

pub set-requires : goal.set-requires
set-requires c = c.requires.holds

pub invariant_of-self-2 : goal.invariant_of-self-2
invariant_of-self-2 c =
    subst (λ (s : StateValue). IsStore s c.args.bytes) (sym c.in_ok-before.ensures.ok)
    (IsStore-with c.self.inside.state c.args.key c.args.holding _ c.args.bytes c.self.invariant
    (subst (λ (s : StateValue). CanStand s.cells c.args.key c.args.holding c.args.bytes) (sym c.self.view_is) c.requires))
