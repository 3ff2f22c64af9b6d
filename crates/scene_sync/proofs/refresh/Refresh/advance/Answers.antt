use Rattle.std.proofs.Common.{ap, ◌∙◌}
use Rattle.scene_sync.specs.Calls.{after_calls, call_in}
use Rattle.scene_sync.specs.Scene.{calls_of}
use Rattle.scene_sync.proofs.Paints.{called, each-called, next-of, none-next}
use Rattle.scene_sync.proofs.refresh.Refresh.advance.Goals as goal

pub make_calls-requires : goal.make_calls-requires
make_calls-requires g c =
    let refresh = c.args.self.now in
    each-called (call_in refresh.target) _ _
    (next-of (call_in refresh.target) c.args.n refresh.made c.min-count.result c.deref.result.now refresh.calls.items
    (calls_of refresh) c.deref.ensures.value refresh.planned c.min-count.ensures)

pub returns-clause-shown : goal.returns-clause-shown
returns-clause-shown g c =
    let panel = goal.Panel-dyn g c.args.panel.now in
    let refresh = c.args.self.now in
    c.in_ok-make_calls.ensures.shown
    ∙ ap (λ calls. after_calls (panel.tells c.args.panel.now.1) calls (panel.scene c.args.panel.now.1))
    (called (call_in refresh.target) _ _
    (next-of (call_in refresh.target) c.args.n refresh.made c.min-count.result c.deref.result.now refresh.calls.items
    (calls_of refresh) c.deref.ensures.value refresh.planned c.min-count.ensures))

pub returns-clause-untouched : goal.returns-clause-untouched
returns-clause-untouched g c = λ none.
    let refresh = c.args.self.now in
    c.in_ok-make_calls.ensures.untouched
    (none-next (call_in refresh.target) _ _
    (next-of (call_in refresh.target) c.args.n refresh.made c.min-count.result c.deref.result.now refresh.calls.items
    (calls_of refresh) c.deref.ensures.value refresh.planned c.min-count.ensures)
    none)
