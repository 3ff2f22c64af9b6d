-- The numbers of a panel, where there is one.
use Rattle.std.proofs.Common.{sym}
use Rattle.panel_scenes.specs.Numbered.{numbered}
use Rattle.session_core.proofs.PanelTurns.{no-numbers, none-if, none-too, told-of, told-there, told-turn, untold-none, untold-turn}
use Rattle.session_core.proofs.panels.sum_up.Goals as goal

pub returns-in_err-shown-clause-given : goal.returns-in_err-shown-clause-given
returns-in_err-shown-clause-given g c =
    let missing = untold-none _ c.args.k (numbered c.args.k c.args.panels.now) c.in_err-shown.field-0.0
    c.in_err-shown.ensures.numbers in (
      no-numbers,
      λ model is. untold-turn model c.args.k c.from_residual.result c.in_err-shown.field-0.0
          (numbered c.args.k c.args.scenes.now)
          c.from_residual.ensures.1 missing.1
          (none-too c.args.k c.args.panels.now c.args.scenes.now c.requires.as_many missing.0),
      none-if (numbered c.args.k c.args.panels.now) _ missing.0,
      none-if (numbered c.args.k c.args.panels.now) _ missing.0,
    )

pub returns-clause-given : goal.returns-clause-given
returns-clause-given g c = (
  c.in_ok-shown.shown,
  λ model is. told-turn model c.args.k c.in_ok-shown.shown (numbered c.args.k c.args.scenes.now) (λ none.
      told-there _ c.args.k (numbered c.args.k c.args.panels.now) c.in_ok-shown.shown c.in_ok-shown.ensures.numbers
      (none-too c.args.k c.args.scenes.now c.args.panels.now (sym c.requires.as_many) none)),
  told-of _ c.args.k (numbered c.args.k c.args.panels.now) c.in_ok-shown.shown c.in_ok-shown.ensures.numbers,
  c.in_ok-shown.ensures.shown,
)
