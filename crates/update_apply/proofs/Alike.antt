-- Edited lists keep what all their items and the given ones have.
use Rattle.std.proofs.Common.{◌≡◌, ◌⊎◌, inl, inr, ⊎_elim, Bool, true, false, true≢false, not, ◌&&◌, ◌==◌, if◌then◌else◌, List, [], ◌∷◌, ◌+◌, ◌-◌, ◌++◌, length, take, drop, Option, Some, None, All, arith, refl, sym, ap, ◌∙◌, subst}
use Rattle.std.specs.Option.{is_some, IsSome, IsNone}
use Rattle.std.specs.Bool.{beq}
use Rattle.std.proofs.lemmas.Bool.{eqb-true, ne_eqb}
use Rattle.std.proofs.lemmas.List.Elements.{All-nil, All-head, All-append, All-take, All-drop}
use Rattle.chart_model.specs.declared.name.Name.{Name}
use Rattle.chart_model.specs.declared.record.Coord.{Coord}
use Rattle.chart_model.specs.declared.update_record.Control.{Control}
use Rattle.chart_model.specs.Record.{AreCoords, IsCoord}
use Rattle.update_apply.specs.declared.judge.HeldRecord.{HeldRecord}
use Rattle.update_apply.specs.declared.fault.ChangeFault.{ChangeFault}
use Rattle.update_apply.specs.declared.fault.ChangeFault.TheVariants as fault
use Rattle.update_apply.specs.Edited.{list_after, edited_by}
use Rattle.chart_model.specs.Answers.{when}
use Rattle.update_apply.specs.Fault.{have_depths, mixed_fault}

module _ {A : Type 0} (P : A → Type 0) where
  all-edited-by : (control : Control) (given items : List A) → (control.instruction == 2 ≡ false → All P given) → All P items → All P (edited_by control given items)
  all-edited-by control given items new old =
      let front = control.index - 1 in
      let before = take front items in
      let after = drop (front + control.count) items in
      let P-before = All-take P front items old in
      let P-after = All-drop P (front + control.count) items old in
      let removed = before ++ after in
      let replaced = before ++ given ++ after in
      elim (control.instruction == 1) as (λ b. control.instruction == 1 ≡ b
      → All P (if b then before ++ given ++ drop front items else if control.instruction == 2 then removed else replaced)) [
        | true ↦ λ e. All-append P _ _ (All-append P _ _ P-before (new (ap (λ n. n == 2) (eqb-true control.instruction 1 e)))) (All-drop P front items old)
        | false ↦ λ e. elim (control.instruction == 2) as (λ b. control.instruction == 2 ≡ b → All P (if b then removed else replaced)) [
          | true ↦ λ d. All-append P _ _ P-before P-after
          | false ↦ λ d. All-append P _ _ (All-append P _ _ P-before (new d)) P-after
        ] refl
      ] refl

  pub all-list_after : (edit : Option Control) (given items : List A) → All P given → All P items
      → All P (list_after edit given items)
  all-list_after None given items new old = old
  all-list_after (Some control) given items new old = all-edited-by control given items (λ _. new) old

-- a list that is alike has depths everywhere or nowhere
abbrev HasDepths : Bool → List Coord → Type 0
HasDepths b coords = All (λ coord. is_some coord.z ≡ b) coords

from-alike : (coords : List Coord) → AreCoords coords → HasDepths (have_depths coords) coords
from-alike [] are = All-nil (λ coord. is_some coord.z ≡ false)
from-alike (x ∷ xs) are =
    let other = is_some x.z in
    ⊎_elim
    (λ (all : All (λ coord. IsSome coord.z) (x ∷ xs)). subst (λ b. HasDepths b (x ∷ xs)) (sym (All-head (λ coord. IsSome coord.z) x xs all)) all)
    (λ (all : All (λ coord. IsNone coord.z) (x ∷ xs)). subst (λ b. HasDepths b (x ∷ xs)) (sym (All-head (λ coord. IsNone coord.z) x xs all)) all)
    are.alike

to-alike : (b : Bool) (coords : List Coord) → HasDepths b coords → All (λ coord. IsSome coord.z) coords ⊎ All (λ coord. IsNone coord.z) coords
to-alike true coords all = inl all
to-alike false coords all = inr all

quiet : (so : Bool) (what : ChangeFault) → when so what ≡ None → so ≡ false
quiet true what e = absurd (true≢false (ap is_some e))
quiet false what e = refl

same-depths : (a b : Bool) → not (beq a b) ≡ false → b ≡ a
same-depths true true e = refl
same-depths true false e = absurd (true≢false e)
same-depths false true e = absurd (true≢false e)
same-depths false false e = refl

-- where no depths are mixed the given ones are like the kept ones
given-alike : (name : Name) (control : Control) (held : HeldRecord) (x y : Coord) (xs ys : List Coord) → held.coords ≡ length (y ∷ ys) → held.depths ≡ is_some y.z
    → mixed_fault name (Some control) held (x ∷ xs) ≡ None → control.instruction == 2 ≡ false → is_some x.z ≡ is_some y.z
given-alike name control held x y xs ys many depths none other =
    let some : held.coords == 0 ≡ false = ap (λ n. n == 0) many ∙ ne_eqb (length (y ∷ ys)) 0 (λ e. omega (arith, e)) in
    same-depths held.depths (is_some x.z)
    (sym (λ i. not (other i) && not (some i) && not (beq held.depths (is_some x.z))) ∙ quiet _ (fault.Mixed name) none)
    ∙ depths

module _ (name : Name) (control : Control) (held : HeldRecord) where
  alike-edited : (given items : List Coord) → held.coords ≡ length items → held.depths ≡ have_depths items → mixed_fault name (Some control) held given ≡ None
      → AreCoords given → AreCoords items → (b : Bool) × HasDepths b (edited_by control given items)
  alike-edited [] items many depths none new old =
      (have_depths items, all-edited-by (λ coord. is_some coord.z ≡ have_depths items) control [] items (λ _. All-nil _) (from-alike items old))
  alike-edited (x ∷ xs) [] many depths none new old =
      (is_some x.z, all-edited-by (λ coord. is_some coord.z ≡ is_some x.z) control (x ∷ xs) [] (λ _. from-alike (x ∷ xs) new) (All-nil _))
  alike-edited (x ∷ xs) (y ∷ ys) many depths none new old = (
    is_some y.z,
    all-edited-by (λ coord. is_some coord.z ≡ is_some y.z) control (x ∷ xs) (y ∷ ys)
        (λ other. subst (λ b. HasDepths b (x ∷ xs)) (given-alike name control held x y xs ys many depths none other) (from-alike (x ∷ xs) new)) (from-alike (y ∷ ys) old),
  )

-- coordinates that are edited without a fault stay those of one record
pub coords-list_after : (name : Name) (edit : Option Control) (held : HeldRecord) (given items : List Coord)
    → held.coords ≡ length items → held.depths ≡ have_depths items
    → mixed_fault name edit held given ≡ None → AreCoords given → AreCoords items
    → AreCoords (list_after edit given items)
coords-list_after name None held given items many depths none new old = old
coords-list_after name (Some control) held given items many depths none new old =
    let alike = alike-edited name control held given items many depths none new old in
    record {
      each = all-list_after IsCoord (Some control) given items new.each old.each;
      alike = to-alike alike.0 _ alike.1;
    }
