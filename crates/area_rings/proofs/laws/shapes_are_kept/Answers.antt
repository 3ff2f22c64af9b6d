use Rattle.area_rings.proofs.KeptShapes.{line_kept, shape_kept}
use Rattle.area_rings.proofs.laws.shapes_are_kept.Goals as goal

pub returns-clause-line : goal.returns-clause-line
returns-clause-line c = λ before after name reversed keeps h. line_kept before after name reversed keeps h

pub returns-clause-shape : goal.returns-clause-shape
returns-clause-shape c = λ before after feature keeps h. shape_kept before after feature keeps h
