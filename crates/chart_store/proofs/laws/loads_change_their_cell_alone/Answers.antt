use Rattle.std.proofs.Common.{ap}
use Rattle.chart_store.specs.Live.{state_or}
use Rattle.chart_store.proofs.Accepting.{loaded-is, accepted-is, loaded-alone}
use Rattle.chart_store.proofs.laws.loads_change_their_cell_alone.Goals as goal

pub returns-clause-keyed : goal.returns-clause-keyed
returns-clause-keyed c = λ state file done e.
    let l = loaded-is state file done e in
    let p = accepted-is state l.dataset file _ done l.accepts in
    (l.dataset, l.reads, p.keyed)

pub returns-clause-alone : goal.returns-clause-alone
returns-clause-alone c = loaded-alone

pub returns-clause-refused : goal.returns-clause-refused
returns-clause-refused c = λ state file refusal e. ap (state_or state) e
