use Rattle.std.proofs.Common.{ℕ, ◌≤◌, List, [], ◌∷◌, ◌++◌, length, All, ap, sym, subst, ◌∙◌, arith}
use Rattle.std.proofs.lemmas.List.Elements.{All-nil, All-cons}
use Rattle.chart_model.specs.Keys.{key_cmp}
use Rattle.chart_model.specs.State.{IsHolding, IsFileLength}
use Rattle.chart_model.proofs.Keys.{key_cmp-total, key_cmp-IsAntisymmetric}
use Rattle.chart_model.proofs.Maps.{Each, each-insert, each-empty}
use Rattle.sample_values.proofs.tests.copies.full_state.Goals as goal

pub invariant_of-result : goal.invariant_of-result
invariant_of-result c =
    let files = c.in_ok-push.ensures.ok ∙ ap (λ (l : List (List ℕ)). l ++ c.in_ok-of.field-0 ∷ []) c.new-files.ensures
    ∙ ap (λ (file : List ℕ). file ∷ []) (c.in_ok-of.ensures ∙ c.from_vec.ensures ∙ c.new.ensures.items) in
    record {
      cells = subst (Each IsHolding) (sym c.in_ok-insert.ensures.ok)
          (each-insert key_cmp-total key_cmp-IsAntisymmetric IsHolding c.new-cells.result _ _ (subst (Each IsHolding) (sym c.new-cells.ensures) (each-empty key_cmp IsHolding)) (record {
            keyed = c.requires.key;
            held = record { edition = c.requires.edition; update = c.requires.update };
            nonempty = subst (λ (l : List (List ℕ)). 1 ≤ length l) (sym files) (omega arith);
            files = subst (All (λ file. IsFileLength (length file))) (sym files) (All-cons (λ file. IsFileLength (length file)) [] [] (omega arith) (All-nil _));
            cancelled = (λ e. cc, λ e. cc);
            chart = record {
              cell = c.in_ok-full_cell.ensures.cell;
              keyed = ap (λ h. h.key) c.in_ok-full_cell.ensures.header;
              edition = ap (λ h. h.edition) c.in_ok-full_cell.ensures.header;
              update = ap (λ h. h.update) c.in_ok-full_cell.ensures.header;
            };
          }));
    }
