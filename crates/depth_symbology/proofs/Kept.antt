-- Answers that are kept for edges.
use Rattle.std.proofs.Common.{◌≡◌, ℤ, Bool, subst, sym}
use Rattle.std.specs.Prelude.{Result, Ok, Err, OnOk, OnErr}
use Rattle.std.specs.FinMap as finite
use Rattle.chart_model.specs.Cell.{CellValue}
use Rattle.chart_model.specs.declared.name.Name.{Name}
use Rattle.chart_model.specs.Names.{name_cmp}
use Rattle.chart_model.proofs.Names.{name_cmp-total, name_cmp-IsAntisymmetric}
use Rattle.chart_model.proofs.Maps.{each-empty, each-insert}
use Rattle.depth_symbology.specs.DepthArea.{borders_unsafe}
use Rattle.depth_symbology.specs.EdgeAnswers.{AnswersValue, AreAnswers}

module _ (cell : CellValue) (contour : ℤ) where
  abbrev IsAnswer : Name → Bool → Type 0
  IsAnswer edge borders = borders ≡ borders_unsafe cell contour edge

  pub none-kept : AreAnswers cell contour finite.empty
  none-kept = each-empty name_cmp IsAnswer

  pub one-more-kept : (answers : AnswersValue) (edge : Name) (borders : Bool) → AreAnswers cell contour answers
      → borders ≡ borders_unsafe cell contour edge → AreAnswers cell contour (finite.insert answers edge borders)
  one-more-kept answers edge borders are is =
      each-insert name_cmp-total name_cmp-IsAntisymmetric IsAnswer answers edge borders are is

-- an answer that was kept, or for which there was no memory
pub kept-or-not : {E : Type 0} (cell : CellValue) (contour : ℤ) (r : Result (Unit {0}) E) (old new : AnswersValue)
    (edge : Name) (borders : Bool) → AreAnswers cell contour old → borders ≡ borders_unsafe cell contour edge
    → OnOk r (new ≡ finite.insert old edge borders) → OnErr r (new ≡ old) → AreAnswers cell contour new
kept-or-not cell contour (Ok u) old new edge borders are is put same =
    subst (AreAnswers cell contour) (sym put) (one-more-kept cell contour old edge borders are is)
kept-or-not cell contour (Err e) old new edge borders are is put same = subst (AreAnswers cell contour) (sym same) are
