use Rattle.chart_store.proofs.Accepting.{loaded-by-files}
use Rattle.chart_store.proofs.Loading.{Laws}
use Rattle.chart_store.proofs.laws.live_files_decide.Goals as goal

pub returns : goal.returns
returns c =
    let laws : Laws = record { none = c.one_file_more.ensures.none; follow = c.accepted_files_follow.ensures } in
    loaded-by-files laws
