use Rattle.std.proofs.Common.{ap, sym, ◌∙◌}
use Rattle.scene_sync.specs.Scene.{refresh_of}
use Rattle.panel_scenes.proofs.Counts.{counted-in, first-in}
use Rattle.panel_scenes.proofs.panel_scene.PanelScene.paint.Goals as goal

pub returns-in-Ok-clause-counted : goal.returns-in-Ok-clause-counted
returns-in-Ok-clause-counted g c =
    λ fine start in-step known. record {
      counted =
          counted-in (refresh_of c.self.inside.scene) c.in-Some.before c.in-Ok.now c.args.n c.args.self.now.failures
          start.faults _ _ _ c.args.self.now.made c.self.inside.made c.saturating_add-self-inside.result start.calls _ _ _
          (sym c.progress.ensures ∙ c.in-Some.is) c.in-Ok.ensures.progress c.in-Ok.ensures.counted
          (ap (λ panel. (goal.Panel-dyn g panel).faults panel.1) c.as_mut.ensures.value.1)
          (ap (λ panel. (goal.Panel-dyn g panel).calls panel.1) c.as_mut.ensures.value.1)
          (ap (λ scene. scene.made) c.self.view_is) c.saturating_add-self-inside.ensures in-step.rose
          c.in-Ok.ensures.later known.counted;
      first =
          first-in (refresh_of c.self.inside.scene) c.in-Some.before c.in-Ok.now c.args.n _ _
          (c.as_mut.result.now.0, c.paint.new.panel) (λ panel. (goal.Panel-dyn g panel).numbers panel.1) start.numbers
          c.args.self.now.failures c.self.inside.failures c.args.self.now.made c.self.inside.made
          c.saturating_add-self-inside.result (sym c.progress.ensures ∙ c.in-Some.is) c.in-Ok.ensures.progress
          c.in-Ok.ensures.untouched c.as_mut.ensures.value.1 (ap (λ scene. scene.failures) c.self.view_is)
          (ap (λ scene. scene.made) c.self.view_is) c.saturating_add-self-inside.ensures known.first;
    }
