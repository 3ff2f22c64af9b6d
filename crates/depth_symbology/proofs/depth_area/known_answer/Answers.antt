use Rattle.std.proofs.Common.{◌≡◌, rules}
use Rattle.depth_symbology.specs.DepthArea.{borders_unsafe}
use Rattle.depth_symbology.proofs.Kept.{kept-or-not}
use Rattle.depth_symbology.proofs.depth_area.known_answer.Goals as goal

pub returns-clause-answers : goal.returns-clause-answers
returns-clause-answers c =
    let is : c.in_ok-borders.borders ≡ borders_unsafe c.args.cell.now c.args.contour c.args.edge = search rules in
    kept-or-not c.args.cell.now c.args.contour c.keep.result c.args.answers.now c.keep.new.self c.args.edge
    c.in_ok-borders.borders c.requires.answers is c.keep.ensures.ok c.keep.ensures.err
