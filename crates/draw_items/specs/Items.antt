-- Items of drawings.
use Rattle.std.specs.Prelude.{ℕ, List}
use Rattle.chart_model.specs.declared.drawing.Item.{Item}
use Rattle.chart_model.specs.declared.drawing.Target.{Target}
use Rattle.chart_model.specs.declared.drawing.Target.TheVariants.{Whole}

-- an instruction at a target
abbrev pub item : Target → List ℕ → Item
item target text = record { target = target; text = text }

-- an instruction on the whole feature
abbrev pub whole : List ℕ → Item
whole text = item Whole text
