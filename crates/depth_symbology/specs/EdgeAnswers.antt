-- Answers that are kept for the edges of a drawing.
use Rattle.std.specs.Prelude.{◌≡◌, ℤ, Bool, IfSome}
use Rattle.std.specs.Coded.{Coded, coded_bool}
use Rattle.std.specs.FinMap as finite
use Rattle.chart_model.specs.Cell.{CellValue}
use Rattle.chart_model.specs.Names.{name_cmp, name_code}
use Rattle.chart_model.specs.declared.name.Name.{Name}
use Rattle.depth_symbology.specs.DepthArea.{borders_unsafe}

-- answers by the names of edges
abbrev pub AnswersValue : Type 0
AnswersValue = finite.FinMap name_cmp Bool

abbrev pub answers_code : Coded AnswersValue
answers_code = finite.code name_code coded_bool

-- each of them says whether an unsafe area of the cell points to its edge
abbrev pub AreAnswers : CellValue → ℤ → AnswersValue → Type 0
AreAnswers cell contour answers =
    (edge : Name) → IfSome (finite.get answers edge) (λ borders. borders ≡ borders_unsafe cell contour edge)
