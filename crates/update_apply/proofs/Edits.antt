-- A list that is edited is as the rule of its instruction says, and nothing else is.
use Rattle.std.proofs.Common.{◌≡◌, ◌≤◌, Bool, true, false, true≢false, not, ◌&&◌, ◌==◌, nat_lt, if◌then◌else◌, List, [], ◌+◌, ◌-◌, ◌++◌, length, take, drop, Option, Some, None, ℕ, arith, refl, sym, ap, ◌∙◌, subst}
use Rattle.std.specs.Option.{is_some}
use Rattle.std.proofs.lemmas.Bool.{eqb-true, eqb-false, ltb-false, or_parts}
use Rattle.std.proofs.lemmas.List.{append-nil, append_assoc, take-append-drop, drop-drop, length-drop, length-take-le, length-append}
use Rattle.std.proofs.Math.Seq.{take-append_seam, drop-append_seam}
use Rattle.chart_model.specs.declared.name.Name.{Name}
use Rattle.chart_model.specs.declared.update_record.Control.{Control}
use Rattle.chart_model.specs.Change.{IsEdit, IsInstruction}
use Rattle.update_apply.specs.declared.fault.ChangeFault.{ChangeFault}
use Rattle.update_apply.specs.declared.fault.ChangeFault.TheVariants as fault
use Rattle.update_apply.specs.Edited.{list_after, edited_by, IsEdited, IsEditedBy, FitsEach}
use Rattle.chart_model.specs.Answers.{when}
use Rattle.update_apply.specs.Fault.{index_fault, count_fault, behind}

-- where it is no fault it isn't so
pub quiet : (so : Bool) (what : ChangeFault) → when so what ≡ None → so ≡ false
quiet true what e = absurd (true≢false (ap is_some e))
quiet false what e = refl

-- places that are no fault of an index are in the list
pub record IsPlaced (control : Control) (held : ℕ) : Type 0 where
  pub first : 1 ≤ control.index
  pub insert : control.instruction ≡ 1 → control.index ≤ held + 1
  pub others : control.instruction == 1 ≡ false → control.index + control.count ≤ held + 1

pub placed : (name : Name) (control : Control) (held : ℕ) → index_fault name (Some control) held ≡ None → IsPlaced control held
placed name control held none =
    let parts = or_parts (control.index == 0) (nat_lt (held + 1) (behind control)) (quiet _ (fault.Index name held control.index) none) in
    let fits = ltb-false (held + 1) (behind control) parts.1 in
    record {
      first = omega (arith, eqb-false control.index 0 parts.0);
      insert = λ is. subst (λ (b : Bool). (if b then control.index else control.index + control.count) ≤ held + 1) (ap (λ n. n == 1) is) fits;
      others = λ not. subst (λ (b : Bool). (if b then control.index else control.index + control.count) ≤ held + 1) not fits;
    }

-- a list around n of its items
around : {A : Type 0} (f n : ℕ) (items : List A) → items ≡ take f items ++ take n (drop f items) ++ drop (f + n) items
around f n items =
    sym (take-append-drop f items)
    ∙ ap (λ l. take f items ++ l) (sym (take-append-drop n (drop f items)) ∙ ap (λ l. take n (drop f items) ++ l) (drop-drop n f items))
    ∙ sym (append_assoc (take f items) (take n (drop f items)) (drop (f + n) items))

module _ {A : Type 0} (control : Control) (given items : List A) where
  is-edited-by : IsInstruction control.instruction → IsPlaced control (length items) → IsEditedBy control given items (edited_by control given items)
  is-edited-by range at =
      let f = control.index - 1 in
      let n = control.count in
      let removed = take f items ++ drop (f + n) items in
      let replaced = take f items ++ given ++ drop (f + n) items in
      elim (control.instruction == 1) as (λ b. control.instruction == 1 ≡ b
      → IsEditedBy control given items (if b then take f items ++ given ++ drop f items else if control.instruction == 2 then removed else replaced)) [
        | true ↦ λ e.
            let one = eqb-true control.instruction 1 e in
            record {
              front = take f items;
              gone = [];
              come = given;
              back = drop f items;
              old_is = sym (take-append-drop f items) ∙ ap (λ l. l ++ drop f items) (sym (append-nil (take f items)));
              new_is = refl;
              place = omega (arith, at.first, length-take-le f items (omega (arith, at.first, at.insert one)));
              insert = λ _. (refl, refl);
              delete = λ two. absurd (omega (arith, one, two));
              modify = λ three. absurd (omega (arith, one, three));
            }
        | false ↦ λ e.
            let fits = at.others e in
            let place : length (take f items) + 1 ≡ control.index = omega (arith, at.first, length-take-le f items (omega (arith, at.first, fits))) in
            let many : length (take n (drop f items)) ≡ n = length-take-le n (drop f items) (omega (arith, at.first, fits, length-drop f items)) in
            let other = eqb-false control.instruction 1 e in
            elim (control.instruction == 2) as (λ b. control.instruction == 2 ≡ b → IsEditedBy control given items (if b then removed else replaced)) [
              | true ↦ λ d.
                  let two = eqb-true control.instruction 2 d in
                  record {
                    front = take f items;
                    gone = take n (drop f items);
                    come = [];
                    back = drop (f + n) items;
                    old_is = around f n items;
                    new_is = ap (λ l. l ++ drop (f + n) items) (sym (append-nil (take f items)));
                    place = place;
                    insert = λ one. absurd (other one);
                    delete = λ _. (many, refl);
                    modify = λ three. absurd (omega (arith, two, three));
                  }
              | false ↦ λ d. record {
                front = take f items;
                gone = take n (drop f items);
                come = given;
                back = drop (f + n) items;
                old_is = around f n items;
                new_is = refl;
                place = place;
                insert = λ one. absurd (other one);
                delete = λ two. absurd (eqb-false control.instruction 2 d two);
                modify = λ _. (many, refl);
              }
            ] refl
      ] refl

pub is-edited : {A : Type 0} (name : Name) (edit : Option Control) (given items : List A) → IsEdit edit
    → index_fault name edit (length items) ≡ None → IsEdited edit given items (list_after edit given items)
is-edited name None given items range none = refl
is-edited name (Some control) given items range none = is-edited-by control given items range (placed name control (length items) none)

-- the parts around the place are those that the numbers name
front-of : {A : Type 0} (front gone back : List A) → take (length front) (front ++ gone ++ back) ≡ front
front-of front gone back = ap (take (length front)) (append_assoc front gone back) ∙ take-append_seam front (gone ++ back)

back-of : {A : Type 0} (front gone back : List A) → drop (length front + length gone) (front ++ gone ++ back) ≡ back
back-of front gone back = ap (λ n. drop n (front ++ gone ++ back)) (sym (length-append front gone)) ∙ drop-append_seam (front ++ gone) back

module _ {A : Type 0} (control : Control) (given old new : List A) where
  only-edited-by : IsInstruction control.instruction → IsEditedBy control given old new → new ≡ edited_by control given old
  only-edited-by range is =
      let f = control.index - 1 in
      let n = control.count in
      let at : f ≡ length is.front = omega (arith, is.place) in
      let front : take f old ≡ is.front = (λ i. take (at i) (is.old_is i)) ∙ front-of is.front is.gone is.back in
      let removed = take f old ++ drop (f + n) old in
      let replaced = take f old ++ given ++ drop (f + n) old in
      elim (control.instruction == 1) as (λ b. control.instruction == 1 ≡ b
      → new ≡ (if b then take f old ++ given ++ drop f old else if control.instruction == 2 then removed else replaced)) [
        | true ↦ λ e.
            let one = is.insert (eqb-true control.instruction 1 e) in
            let behind : f ≡ length is.front + length is.gone = omega (arith, at, ap length one.0) in
            let back : drop f old ≡ is.back = (λ i. drop (behind i) (is.old_is i)) ∙ back-of is.front is.gone is.back in
            is.new_is ∙ (λ i. sym front i ++ one.1 i ++ sym back i)
        | false ↦ λ e. elim (control.instruction == 2) as (λ b. control.instruction == 2 ≡ b → new ≡ (if b then removed else replaced)) [
          | true ↦ λ d.
              let two = is.delete (eqb-true control.instruction 2 d) in
              let behind : f + n ≡ length is.front + length is.gone = omega (arith, at, two.0) in
              let back : drop (f + n) old ≡ is.back = (λ i. drop (behind i) (is.old_is i)) ∙ back-of is.front is.gone is.back in
              is.new_is ∙ (λ i. is.front ++ two.1 i ++ is.back) ∙ ap (λ l. l ++ is.back) (append-nil is.front) ∙ (λ i. sym front i ++ sym back i)
          | false ↦ λ d.
              let three = is.modify (omega (arith, range, eqb-false control.instruction 1 e, eqb-false control.instruction 2 d)) in
              let behind : f + n ≡ length is.front + length is.gone = omega (arith, at, three.0) in
              let back : drop (f + n) old ≡ is.back = (λ i. drop (behind i) (is.old_is i)) ∙ back-of is.front is.gone is.back in
              is.new_is ∙ (λ i. sym front i ++ three.1 i ++ sym back i)
        ] refl
      ] refl

pub only-edited : {A : Type 0} (edit : Option Control) (given old new : List A) → IsEdit edit
    → IsEdited edit given old new → new ≡ list_after edit given old
only-edited None given old new range is = is
only-edited (Some control) given old new range is = only-edited-by control given old new range is

-- a replacement without a fault of its count states how many items are given
stated : {A : Type 0} (name : Name) (control : Control) (given : List A) → control.instruction ≡ 3 → count_fault name (Some control) given ≡ None → control.count ≡ length given
stated name control given three none =
    let so = quiet (not (control.instruction == 2) && not (control.count == length given)) (fault.Count name control.count (length given)) none in
    same control.count (length given) (sym (ap (λ n. not (n == 2) && not (control.count == length given)) three) ∙ so)
  where
    same : (m n : ℕ) → not (m == n) ≡ false → m ≡ n
    same m n e = by (m == n) refl e
      where
        by : (b : Bool) → m == n ≡ b → not b ≡ false → m ≡ n
        by true is not-not = eqb-true m n is
        by false is not-not = absurd (true≢false not-not)

-- an edit without a fault of index and count fits the list
pub fits : {A : Type 0} (name : Name) (edit : Option Control) (given items : List A) → IsEdit edit
    → index_fault name edit (length items) ≡ None → count_fault name edit given ≡ None → FitsEach edit given items
fits name None given items range index count = tt
fits name (Some control) given items range index count =
    let at = placed name control (length items) index in
    let apart : (k : ℕ) → control.instruction ≡ k → k == 1 ≡ false → control.instruction == 1 ≡ false = λ k is not. ap (λ n. n == 1) is ∙ not in
    record {
      instruction = range;
      first = at.first;
      insert = at.insert;
      delete = λ two. at.others (apart 2 two refl);
      modify = λ three. (at.others (apart 3 three refl), stated name control given three count);
    }
