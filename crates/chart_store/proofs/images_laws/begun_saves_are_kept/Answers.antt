use Rattle.chart_store.proofs.Saved.{begun-kept}
use Rattle.chart_store.proofs.images_laws.begun_saves_are_kept.Goals as goal

pub returns : goal.returns
returns g c = λ desk slices old new kept begun. begun-kept _ _ slices old new kept begun
