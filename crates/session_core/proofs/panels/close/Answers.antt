-- A panel that is taken out, or that isn't there.
use Rattle.std.proofs.Common.{◌≡◌, length, sym, ◌∙◌}
use Rattle.session_core.proofs.PanelTurns.{err-untouched, none-too, refused-none, without-none, without-there}
use Rattle.session_core.proofs.panels.close.Goals as goal

pub returns-in_err-close-clause-panels : goal.returns-in_err-close-clause-panels
returns-in_err-close-clause-panels g c =
    let many : length c.args.scenes.now ≡ length c.args.panels.now.items = sym c.requires.as_many
    ∙ c.args.panels.now.ok.0 in
    let none = none-too c.args.k c.args.scenes.now c.args.panels.now.items many
    (refused-none c.args.k _ c.in_err-close.field-0.0 c.in_err-close.ensures.answer) in
    let same = c.in_err-close.ensures.untouched in
    err-untouched _ _ _ _ _ _ c.from_residual.result _ c.args.panels.now.items c.close.new.panels.items _ _
    c.from_residual.ensures.1
    (same ∙ without-none c.args.k c.args.panels.now.items none) same

pub returns-clause-panels : goal.returns-clause-panels
returns-clause-panels g c =
    let many : length c.args.panels.now.items ≡ length c.args.scenes.now = sym c.args.panels.now.ok.0
    ∙ c.requires.as_many in
    record {
      others =
          c.in_ok-close.ensures.panels
          ∙ without-there c.args.k c.args.panels.now.items c.args.scenes.now many c.in_ok-close.ensures.answer;
      in_step = c.in_ok-close.ensures.in_step;
      counted = λ starts so known. c.in_ok-close.ensures.counted starts known;
      risen = tt;
    }
