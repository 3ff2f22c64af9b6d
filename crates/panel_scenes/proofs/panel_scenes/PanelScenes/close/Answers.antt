use Rattle.std.proofs.Common.{get_or, ap, ◌∙◌}
use Rattle.std.specs.List.{remove}
use Rattle.panel_scenes.specs.Painting.{panel_refusal}
use Rattle.panel_scenes.proofs.Places.{read-at, zip3-without}
use Rattle.panel_scenes.proofs.panel_scenes.PanelScenes.close.Goals as goal

pub returns-clause-answer : goal.returns-clause-answer
returns-clause-answer g c =
    read-at c.args.k c.in_ok-place.place c.args.self.now c.remove.result (panel_refusal c.args.k)
    c.in_ok-place.ensures.ok.0 c.in_ok-place.ensures.ok.1
    (c.remove.ensures.value ∙ ap (λ scenes. get_or scenes c.in_ok-place.place c.remove.result) c.self.view_is)

pub returns-clause-in_step : goal.returns-clause-in_step
returns-clause-in_step g c =
    λ starts so.
    zip3-without _ c.args.k c.in_ok-place.place starts _ _ c.args.self.now _ c.in_ok-place.ensures.ok.0
    c.remove-3.ensures.items (c.remove.ensures.items ∙ ap (λ scenes. remove scenes c.in_ok-place.place) c.self.view_is)
    so

pub returns-clause-counted : goal.returns-clause-counted
returns-clause-counted g c =
    λ starts so.
    zip3-without _ c.args.k c.in_ok-place.place starts _ _ c.args.self.now _ c.in_ok-place.ensures.ok.0
    c.remove-3.ensures.items (c.remove.ensures.items ∙ ap (λ scenes. remove scenes c.in_ok-place.place) c.self.view_is)
    so
