use Rattle.std.proofs.Common.{◌≡◌, Some, length, refl, sym, ◌∙◌}
use Rattle.std.specs.List.{slice_get}
use Rattle.std.proofs.lemmas.Bool.{false≢true}
use Rattle.std.proofs.lemmas.Option.{slice_get_read}
use Rattle.spatial_grid.proofs.Telling.{told_more, told_apart}
use Rattle.spatial_grid.proofs.candidates.push_at.Goals as goal

pub returns-in_ok-push-clause-told : goal.returns-in_ok-push-clause-told
returns-in_ok-push-clause-told c =
    let boxes = c.args.boxes.now in
    let boxed = c.in-Some.boxed.now in
    let found = c.in-Some.ensures.lookup in
    let here : slice_get boxes c.args.place ≡ Some boxed = slice_get_read boxes (length boxes) c.args.place boxed refl found.3.0 found.1 in
    told_more boxes c.args.area c.args.place boxed c.args.names.now.items c.push.new.self.items here (c.meets.ensures.0 c.if-meets.true) c.in_ok-push.ensures.items

pub returns-else-meets-clause-told : goal.returns-else-meets-clause-told
returns-else-meets-clause-told c =
    let boxes = c.args.boxes.now in
    let boxed = c.in-Some.boxed.now in
    let found = c.in-Some.ensures.lookup in
    let here : slice_get boxes c.args.place ≡ Some boxed = slice_get_read boxes (length boxes) c.args.place boxed refl found.3.0 found.1 in
    told_apart boxes c.args.area c.args.place boxed c.args.names.now.items here (λ m. false≢true (sym c.if-meets.false ∙ c.meets.ensures.1 m))
