use Rattle.std.proofs.Common.{rules, ◌≡◌, ℕ, List, [], ◌∷◌, ◌++◌, append_assoc, sym, ap, ◌∙◌, subst}
use Rattle.std.specs.FinMap as finite
use Rattle.std.proofs.lemmas.List.{append-nil}
use Rattle.chart_model.specs.declared.state.Holding.{Holding}
use Rattle.chart_model.specs.State.{IsState}
use Rattle.route_check.specs.declared.danger.Danger.{Danger}
use Rattle.route_check.proofs.Asked.{IsEntryRow, rows_are_wanted}
use Rattle.route_check.proofs.Gaining.{AreGiven, none_given, next_given}
use Rattle.route_check.proofs.reports.rows_met.Goals as goal

pub loop-key-init : goal.loop-key-init
loop-key-init c =
    let given = none_given (IsEntryRow c.args.grids.now c.args.state.now c.args.settings.now c.args.route.now) in (
      [],
      (
        search rules,
        subst (λ (rows : List Danger). AreGiven (IsEntryRow c.args.grids.now c.args.state.now c.args.settings.now c.args.route.now) [] rows) (sym c.new-rows.ensures.items) given,
      ),
    )

pub loop-key-preserved : goal.loop-key-preserved
loop-key-preserved c =
    let next : List ℕ × Holding = (c.in-Some.key.now, c.in-Some.holding.now) in
    let walked = c.loop-key.invariant in
    let taken : c.loop-key.key-iterator ≡ next ∷ c.next.new.self = search rules in (
      walked.0 ++ next ∷ [],
      (
        append_assoc walked.0 (next ∷ []) c.next.new.self ∙ ap (λ (left : List (List ℕ × Holding)). walked.0 ++ left) (sym taken) ∙ walked.1.0,
        next_given (IsEntryRow c.args.grids.now c.args.state.now c.args.settings.now c.args.route.now) walked.0 next c.loop-key.rows.items c.push_held.new.rows.items
            walked.1.1 c.in_ok-push_held.ensures,
      ),
    )

pub returns-clause-rows : goal.returns-clause-rows
returns-clause-rows c =
    let walked = c.loop-key.invariant in
    let left : c.loop-key.key-iterator ≡ [] = c.in-None.ensures.steps.0 in
    let all : walked.0 ≡ finite.entries c.args.state.now.cells =
    sym (append-nil walked.0) ∙ ap (λ (l : List (List ℕ × Holding)). walked.0 ++ l) (sym left) ∙ walked.1.0 in
    let is : IsState c.args.state.now = search rules in
    rows_are_wanted c.args.grids.now c.args.state.now c.args.settings.now c.args.route.now is c.loop-key.rows.items
    (subst (λ (l : List (List ℕ × Holding)). AreGiven (IsEntryRow c.args.grids.now c.args.state.now c.args.settings.now c.args.route.now) l c.loop-key.rows.items) all walked.1.1)
