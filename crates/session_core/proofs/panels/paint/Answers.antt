-- A painting that is refused, or for which there is no memory.
use Rattle.std.proofs.Common.{◌≡◌, Result, Err, sym, ◌∙◌, ap, subst}
use Rattle.panel_scenes.specs.Painting.{GivesPainting, given_up, is_failure, painting_among}
use Rattle.panel_scenes.specs.declared.fault.PaintingFault.{PaintingFault}
use Rattle.panel_scenes.specs.declared.fault.PaintingFault.TheVariants.{Refused, NoMemory}
use Rattle.scene_sync.specs.declared.progress.Progress.{Progress}
use Rattle.session_core.proofs.Painting.{failure-is, refused-gives}
use Rattle.session_core.proofs.PanelTurns.{given-up-panels, refused-painting}
use Rattle.session_core.proofs.panels.paint.Goals as goal

pub returns-in-Err-Refused-clause-given : goal.returns-in-Err-Refused-clause-given
returns-in-Err-Refused-clause-given g c =
    let refusal = c.in-Err-Refused.refusal in
    let is : c.paint.result ≡ Err (Refused refusal) = c.in-Err-Refused.is ∙ ap Err c.in-Err-Refused.field-0-is in
    let given = subst (λ (r : Result Progress PaintingFault). GivesPainting r c.paint.new.self
    (painting_among c.args.k c.args.n c.args.scenes.now) (given_up c.args.k c.args.scenes.now)) is c.paint.ensures.gives
    in (
      is_failure refusal,
      λ model same.
          refused-gives c.args.k c.args.n model c.args.scenes.now c.paint.new.self refusal same given c.refuse.result
          c.refuse.ensures.failed c.refuse.ensures.refused,
      λ fails. c.paint.ensures.failed (is
          ∙ ap (λ why. Err (Refused why)) (failure-is c.args.k c.args.n c.args.scenes.now refusal fails given.0)),
    )

pub returns-in-Err-Refused-clause-panels : goal.returns-in-Err-Refused-clause-panels
returns-in-Err-Refused-clause-panels g c =
    let refusal = c.in-Err-Refused.refusal in
    let is : c.paint.result ≡ Err (Refused refusal) = c.in-Err-Refused.is ∙ ap Err c.in-Err-Refused.field-0-is in
    let given = subst (λ (r : Result Progress PaintingFault). GivesPainting r c.paint.new.self
    (painting_among c.args.k c.args.n c.args.scenes.now) (given_up c.args.k c.args.scenes.now)) is c.paint.ensures.gives
    in
    refused-painting _ _ _ _ _ c.args.k c.args.n c.args.panels.now.items c.paint.new.panels.items c.args.scenes.now
    c.paint.new.self refusal given
    (λ calm. c.paint.ensures.untouched refusal is calm) c.paint.ensures.in_step c.refuse.result c.paint.ensures.others
    (c.paint.ensures.counted (λ want. let f : ◌≡◌ {A = Result Progress PaintingFault} (Err (Refused refusal))
    (Err NoMemory) = sym is ∙ want in cc))
    c.refuse.ensures.failed

pub returns-in-Err-NoMemory-clause-panels : goal.returns-in-Err-NoMemory-clause-panels
returns-in-Err-NoMemory-clause-panels g c =
    let is : c.paint.result ≡ Err NoMemory = c.in-Err-NoMemory.is ∙ ap Err c.in-Err-NoMemory.field-0-is in
    let given = subst (λ (r : Result Progress PaintingFault). GivesPainting r c.paint.new.self
    (painting_among c.args.k c.args.n c.args.scenes.now) (given_up c.args.k c.args.scenes.now)) is c.paint.ensures.gives
    in
    given-up-panels _ _ _ _ _ c.args.k c.args.n c.args.panels.now.items c.paint.new.panels.items c.args.scenes.now
    c.paint.new.self
    c.paint.ensures.others given c.paint.ensures.in_step
