-- Lists in a strict order with the same elements are one; so a state has one report.
use Rattle.std.proofs.Common.{◌≡◌, inl, inr, ℕ, suc, ◌<◌, List, [], ◌∷◌, length, get_or, refl, sym, ap, ◌∙◌, subst, arith}
use Rattle.std.specs.List.{AllPairs}
use Rattle.std.specs.declared.cmp.Ordering.{Ordering}
use Rattle.std.specs.declared.cmp.Ordering.TheVariants.{Less, Greater}
use Rattle.std.specs.Ordering.{ordering_reverse}
use Rattle.chart_model.specs.declared.settings.Settings.{Settings}
use Rattle.chart_model.specs.State.{StateValue, IsState}
use Rattle.route_check.specs.declared.danger.Danger.{Danger}
use Rattle.route_check.specs.declared.route.Route.{Route}
use Rattle.route_check.specs.Report.{IsReport, report_of}
use Rattle.common_lemmas.proofs.Members.{Has, has_out, has_in, IsBefore, Rises, before_each}
use Rattle.route_check.proofs.InOrder.{Above}
use Rattle.route_check.proofs.Once.{danger_total}
use Rattle.route_check.proofs.Rows.{report_is}

module _ {X : Type 0} (R : X → X → Type 0) where
  before_from : (x : X) (ys : List X) → ((j : ℕ) (d : X) → j < length ys → R x (get_or ys j d)) → IsBefore R x ys
  before_from x [] h = tt
  before_from x (y ∷ ys) h = (h 0 x (omega arith), before_from x ys (λ j d lt. h (suc j) d (omega (arith, lt))))

  rises_from : (xs : List X) → AllPairs R xs → Rises R xs
  rises_from [] pairs = tt
  rises_from (x ∷ xs) pairs = (
    before_from x xs (λ j d lt. pairs 0 (suc j) d (omega arith) (omega (arith, lt))),
    rises_from xs (λ i j d lt fits. pairs (suc i) (suc j) d (omega (arith, lt)) (omega (arith, fits))),
  )

  module _ (apart : (x y : X) → R x y → R y x → ⊥) where
    -- the heads
    heads : (x y : X) (xs ys : List X) → IsBefore R x xs → IsBefore R y ys → Has y (x ∷ xs) → Has x (y ∷ ys) → x ≡ y
    heads x y xs ys first second (inl e) there = e
    heads x y xs ys first second (inr h) (inl e) = sym e
    heads x y xs ys first second (inr h) (inr k) = absurd (apart x y (before_each R x xs y first h) (before_each R y ys x second k))

    -- the others
    others : (x y : X) (xs ys : List X) → x ≡ y → IsBefore R x xs → ((z : X) → Has z (x ∷ xs) → Has z (y ∷ ys)) → (z : X) → Has z xs → Has z ys
    others x y xs ys e first to z h =
        elim (to z (inr h)) [
          | inl same ↦
              let less = before_each R x xs z first h in
              let itself : R x x = subst (R x) (sym (e ∙ same)) less in
              absurd (apart x x itself itself)
          | inr k ↦ k
        ]

    pub one_list : (xs ys : List X) → Rises R xs → Rises R ys → ((z : X) → Has z xs → Has z ys) → ((z : X) → Has z ys → Has z xs) → xs ≡ ys
    one_list [] [] first second to from = refl
    one_list [] (y ∷ ys) first second to from = absurd (from y (inl refl))
    one_list (x ∷ xs) [] first second to from = absurd (to x (inl refl))
    one_list (x ∷ xs) (y ∷ ys) first second to from =
        let same = heads x y xs ys first.0 second.0 (from y (inl refl)) (to x (inl refl)) in
        let rest =
        one_list xs ys first.1 second.1 (others x y xs ys same first.0 to) (others y x ys xs (sym same) second.0 from) in
        λ i. same i ∷ rest i

apart : (x y : Danger) → Above x y → Above y x → ⊥
apart x y h k =
    let no : ◌≡◌ {A = Ordering} Less Greater = sym h ∙ danger_total.antisymm x y ∙ ap ordering_reverse k in
    absurd cc

pub one_report : (state : StateValue) (settings : Settings) (route : Route) (report : List Danger) → IsState state → IsReport state settings route report
    → report ≡ report_of state settings route
one_report state settings route report is exact =
    let whole = report_of state settings route in
    let other = report_is state settings route is in
    one_list Above apart report whole (rises_from Above report exact.ordered) (rises_from Above whole other.ordered)
    (λ d h. has_out whole d ((other.rows d).1 ((exact.rows d).0 (has_in report d h))))
    (λ d h. has_out report d ((exact.rows d).1 ((other.rows d).0 (has_in whole d h))))
