use Rattle.std.proofs.Common.{◌≡◌, ap, lit≤, ◌∙◌}
use Rattle.panel_port.specs.Panel.{with_block}
use Rattle.scene_sync.specs.Calls.{after_call}
use Rattle.scene_sync.proofs.Paints.{put-called}
use Rattle.scene_sync.proofs.call.make_call.Goals as goal

-- a call is counted, whether it fails or not
pub returns-in_err-take-in-Take-clause-at_most : goal.returns-in_err-take-in-Take-clause-at_most
returns-in_err-take-in-Take-clause-at_most g c = (1, lit≤ tt, c.take.ensures.1.1.1.0)

pub returns-in_ok-take-in-Take-clause-at_most : goal.returns-in_ok-take-in-Take-clause-at_most
returns-in_ok-take-in-Take-clause-at_most g c = (1, lit≤ tt, c.take.ensures.1.1.1.0)

pub returns-in_ok-put-in-Put-clause-shown : goal.returns-in_ok-put-in-Put-clause-shown
returns-in_ok-put-in-Put-clause-shown g c =
    let before = goal.Panel-dyn g c.args.panel.now in
    let after = goal.Panel-dyn g (c.args.panel.now.0, c.put.new.self) in
    let entry = c.index-as_slice-place.result in
    put-called
    (λ made. after.scene c.put.new.self ≡ after_call (before.tells c.args.panel.now.1) made (before.scene c.args.panel.now.1))
    c.args.target.now c.args.call c.in-Put.place c.as_slice.result.now entry c.in-Put.is c.as_slice.ensures c.requires
    c.index-as_slice-place.is
    (c.in_ok-put-in-Put.ensures.0 ∙ ap (λ block. with_block entry.0 block (before.scene c.args.panel.now.1)) c.in_ok-copy-in-Put.ensures)
