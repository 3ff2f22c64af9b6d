use Rattle.std.proofs.Common.{◌≡◌, Bool, ◌&&◌, not, Option, Some, None, is_none, is_some, nat_eq, ap, sym, ◌∙◌}
use Rattle.scene_sync.specs.Scene.{shown_by}
use Rattle.scene_sync.specs.declared.refresh.Refresh.{Refresh}
use Rattle.scene_sync.proofs.Shows.{not-known}
use Rattle.scene_sync.proofs.refresh.Refresh.is_blind.Goals as goal

blind : (refresh : Refresh) → is_none (shown_by refresh) ≡ (is_none refresh.before && nat_eq refresh.made 0)
blind refresh = not-known refresh.before refresh.target refresh.made

unknown : {X : Type 0} (o : Option X) {b : Bool} → is_some o ≡ b → is_none o ≡ not b
unknown None there = ap not there
unknown (Some x) there = ap not there

pub returns-then-is_none : goal.returns-then-is_none
returns-then-is_none c =
    let refresh = c.args.self.now in
    sym (blind refresh ∙ ap (λ b. b && nat_eq refresh.made 0) (unknown refresh.before c.if-is_none.ensures))

pub returns-else-is_none : goal.returns-else-is_none
returns-else-is_none c =
    let refresh = c.args.self.now in
    c.if-is_none.false ∙ sym (blind refresh ∙ ap (λ b. b && nat_eq refresh.made 0) (unknown refresh.before c.if-is_none.ensures))
