use Rattle.std.proofs.Common.{◌≡◌, true, [], Some, None, IfSome, sym, ap, subst, ◌∙◌}
use Rattle.scene_sync.specs.Calls.{after_calls}
use Rattle.scene_sync.specs.Scene.{UnderWay, next_calls, refresh_in, shown_in, shown_of, under_way_in}
use Rattle.scene_sync.proofs.Refreshes.{agrees-on, finished-shows, painted}
use Rattle.scene_sync.proofs.scene.Scene.paint.Goals as goal

pub returns-clause-shown : goal.returns-clause-shown
returns-clause-shown g c =
    let old = c.take_refresh-refresh.result in
    subst (λ o. IfSome o (λ refresh. shown_in c.settled.result ≡ after_calls true (next_calls c.args.n refresh) (shown_of c.args.self.now)))
    (sym c.take_refresh-refresh.ensures.refresh)
    (c.settled.ensures.shown
    ∙ painted old c.advance.new.self c.args.n c.in_ok-advance.ensures.made c.in_ok-advance.ensures.before
    ∙ ap (after_calls true (next_calls c.args.n (under_way_in old))) (sym c.take_refresh-refresh.ensures.shown))

pub returns-clause-agrees : goal.returns-clause-agrees
returns-clause-agrees g c = λ tell agrees.
    let old = c.take_refresh-refresh.result in
    agrees-on _ (next_calls c.args.n (under_way_in old)) _ _ _ _ tell
    (c.settled.ensures.shown
    ∙ painted old c.advance.new.self c.args.n c.in_ok-advance.ensures.made c.in_ok-advance.ensures.before
    ∙ ap (after_calls true (next_calls c.args.n (under_way_in old))) (sym c.take_refresh-refresh.ensures.shown))
    c.in_ok-advance.ensures.shown agrees

pub returns-clause-finished : goal.returns-clause-finished
returns-clause-finished g c =
    let new = c.advance.new.self in
    subst (λ o. IfSome o (λ refresh. refresh_in c.settled.result ≡ None → shown_in c.settled.result ≡ Some refresh.target))
    (sym c.take_refresh-refresh.ensures.refresh)
    (λ finished.
    c.settled.ensures.shown
    ∙ finished-shows new (sym c.settled.ensures.refresh ∙ finished)
    ∙ ap (λ (u : UnderWay). Some u.target) c.in_ok-advance.ensures.made)

pub returns-clause-untouched : goal.returns-clause-untouched
returns-clause-untouched g c =
    subst
    (λ o.
    IfSome o
    (λ refresh. next_calls c.args.n refresh ≡ [] → (c.args.panel.now.0, c.advance.new.panel) ≡ c.args.panel.now))
    (sym c.take_refresh-refresh.ensures.refresh)
    c.in_ok-advance.ensures.untouched
