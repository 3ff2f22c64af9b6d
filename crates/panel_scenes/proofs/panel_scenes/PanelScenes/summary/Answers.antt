use Rattle.std.proofs.Common.{◌≡◌, arith, IfSome, Ok, ap, subst, ◌∙◌}
use Rattle.std.specs.Option.{option_map}
use Rattle.panel_port.specs.Panel.{summary_of}
use Rattle.panel_scenes.specs.Painting.{summary_at}
use Rattle.panel_scenes.proofs.Places.{read-at}
use Rattle.panel_scenes.proofs.panel_scenes.PanelScenes.summary.Goals as goal

pub returns-clause-numbers : goal.returns-clause-numbers
returns-clause-numbers g c =
    ap Ok (c.summary.ensures.0 ∙ ap (λ panel. (goal.Panel-dyn g panel).numbers panel.1) c.as_ref.ensures.1)
    ∙ read-at c.args.k c.in_ok-place.place c.args.panels.now c.index-panels-place.result
    (λ o. summary_at c.args.k (option_map (λ panel. (goal.Panel-dyn g (panel.vtable, panel.value)).numbers panel.value) o))
    c.in_ok-place.ensures.ok.0 (omega (arith, c.requires.as_many, c.in_ok-place.ensures.ok.1)) c.index-panels-place.is

pub returns-clause-shown : goal.returns-clause-shown
returns-clause-shown g c =
    subst
    (λ o.
    IfSome o
    (λ panel.
    IfSome ((goal.Panel-dyn g (panel.vtable, panel.value)).scene panel.value)
    (λ shown. c.summary.result ≡ summary_of shown)))
    (read-at c.args.k c.in_ok-place.place c.args.panels.now c.index-panels-place.result (λ o. o)
    c.in_ok-place.ensures.ok.0 (omega (arith, c.requires.as_many, c.in_ok-place.ensures.ok.1)) c.index-panels-place.is)
    (subst (λ told. IfSome told (λ shown. c.summary.result ≡ summary_of shown))
    (ap (λ panel. (goal.Panel-dyn g panel).scene panel.1) c.as_ref.ensures.1) c.summary.ensures.1)
