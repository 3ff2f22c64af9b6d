-- Attributes that are set keep texts that a record may have.
use Rattle.std.proofs.Common.{◌≡◌, ◌≢◌, true, false, true≢false, if◌then◌else◌, nat_eq, List, [], ◌∷◌, ℕ, All, refl, sym, ap, ◌∙◌}
use Rattle.std.specs.Cmp.{nat_cmp_total}
use Rattle.std.specs.Cmp.Lexicographic.{pointwise}
use Rattle.std.specs.Ordering.{nat_cmp}
use Rattle.std.specs.FinMap as map
use Rattle.std.specs.FinMap.{nat_cmp-IsAntisymmetric}
use Rattle.std.proofs.lemmas.List.Elements.{All-head, All-tail}
use Rattle.chart_model.specs.declared.record.Attr.{Attr}
use Rattle.chart_model.specs.Attrs.{Attrs, set_attr, set_attrs}
use Rattle.chart_model.specs.Record.{IsPlainText}
use Rattle.chart_model.specs.Cell.{AreKeptTexts, IsKeptText}
use Rattle.chart_model.proofs.Maps.{each-empty, each-insert, each-remove}

not-deleted : (text : List ℕ) → pointwise nat_eq text (127 ∷ []) ≡ false → text ≢ 127 ∷ []
not-deleted text e is = true≢false (sym (ap (λ t. pointwise nat_eq t (127 ∷ [])) is) ∙ e)

text-set : (attrs : Attrs) (setting : Attr) → IsPlainText setting.value → AreKeptTexts attrs → AreKeptTexts (set_attr attrs setting)
text-set attrs setting plain kept =
    elim (pointwise nat_eq setting.value (127 ∷ [])) as (λ b. pointwise nat_eq setting.value (127 ∷ []) ≡ b
    → AreKeptTexts (if b then map.remove attrs setting.code else map.insert attrs setting.code setting.value)) [
      | true ↦ λ e. each-remove nat_cmp_total (λ code. IsKeptText) attrs setting.code kept
      | false ↦ λ e. each-insert nat_cmp_total nat_cmp-IsAntisymmetric (λ code. IsKeptText) attrs setting.code setting.value kept
          (record { plain = plain; kept = not-deleted setting.value e })
    ] refl

pub texts-set : (attrs : Attrs) (settings : List Attr) → All (λ attr. IsPlainText attr.value) settings → AreKeptTexts attrs → AreKeptTexts (set_attrs attrs settings)
texts-set attrs [] plain kept = kept
texts-set attrs (setting ∷ settings) plain kept =
    texts-set (set_attr attrs setting) settings (All-tail (λ attr. IsPlainText attr.value) setting settings plain)
    (text-set attrs setting (All-head (λ attr. IsPlainText attr.value) setting settings plain) kept)

pub texts-new : (settings : List Attr) → All (λ attr. IsPlainText attr.value) settings → AreKeptTexts (set_attrs map.empty settings)
texts-new settings plain = texts-set map.empty settings plain (each-empty nat_cmp (λ code. IsKeptText))
