use Rattle.std.proofs.Common.{arith, slice_set, ap, ◌∙◌, refl}
use Rattle.std.proofs.lemmas.List.{set-get_or}
use Rattle.panel_scenes.proofs.Places.{of-replaced, others-same, zip3-replaced}
use Rattle.panel_scenes.proofs.panel_scenes.PanelScenes.paint.Goals as goal

pub returns-clause-untouched : goal.returns-clause-untouched
returns-clause-untouched g c =
    λ refusal is fails.
    ap (slice_set c.args.panels.now.items c.in_ok-place.place)
    (c.paint.ensures.untouched refusal is fails ∙ c.index_mut-2.ensures.value)
    ∙ set-get_or c.args.panels.now.items c.in_ok-place.place _

pub returns-clause-others : goal.returns-clause-others
returns-clause-others g c =
    others-same c.args.k c.in_ok-place.place c.args.panels.now.items _ c.paint.new.panel c.in_ok-place.ensures.ok.0 refl

pub returns-clause-in_step : goal.returns-clause-in_step
returns-clause-in_step g c =
    λ starts so.
    zip3-replaced _ _ starts c.args.panels.now.items c.self.inside.scenes.items c.args.self.now c.in_ok-place.place
    c.index_mut-2.result.now c.paint.new.panel c.index_mut.result.now c.paint.new.self c.self.view_is
    (omega (arith, c.requires.as_many, c.in_ok-place.ensures.ok.1)) c.index_mut-2.ensures.value
    c.in_ok-place.ensures.ok.1 c.index_mut.ensures.value (λ start _ before. c.paint.ensures.in_step start before) so so

pub returns-clause-counted : goal.returns-clause-counted
returns-clause-counted g c =
    λ fine starts so known.
    zip3-replaced _ _ starts c.args.panels.now.items c.self.inside.scenes.items c.args.self.now c.in_ok-place.place
    c.index_mut-2.result.now c.paint.new.panel c.index_mut.result.now c.paint.new.self c.self.view_is
    (omega (arith, c.requires.as_many, c.in_ok-place.ensures.ok.1)) c.index_mut-2.ensures.value
    c.in_ok-place.ensures.ok.1 c.index_mut.ensures.value
    (λ start before told. c.paint.ensures.counted fine start before told) so known

pub returns-clause-failed : goal.returns-clause-failed
returns-clause-failed g c =
    λ is.
    of-replaced c.args.k c.in_ok-place.place _ c.args.panels.now.items _ c.paint.new.panel c.in_ok-place.ensures.ok.0
    (omega (arith, c.requires.as_many, c.in_ok-place.ensures.ok.1)) c.index_mut-2.ensures.value
    (c.paint.ensures.failed is)
