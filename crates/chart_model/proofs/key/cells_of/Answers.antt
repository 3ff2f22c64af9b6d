use Rattle.std.proofs.Common.{ℕ, List, ◌++◌, drop, replicate, length, ap, ◌∙◌}
use Rattle.std.proofs.lemmas.List.{drop-replicate}
use Rattle.chart_model.proofs.key.cells_of.Goals as goal

pub returns : goal.returns
returns c =
    ap (λ (l : List ℕ). l ++ drop (length c.args.bytes.now) (replicate 32 0)) c.copy_from_slice.ensures.after
    ∙ ap (λ (l : List ℕ). c.args.bytes.now ++ l) (drop-replicate (length c.args.bytes.now) 32 0)
