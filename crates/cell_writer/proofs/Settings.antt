-- Attributes that are set again, in the order of their codes.
use Rattle.std.proofs.Common.{◌≡◌, ◌≢◌, ℕ, Bool, true, false, cond, List, [], ◌∷◌, nat_eq, refl, ap, ◌∙◌}
use Rattle.std.specs.Prelude as list
use Rattle.std.specs.Ordering.{nat_cmp}
use Rattle.std.specs.Cmp.{nat_cmp_total}
use Rattle.std.specs.Cmp.Lexicographic.{pointwise, bytes_decides}
use Rattle.std.specs.FinMap as map
use Rattle.std.specs.FinMap.{nat_cmp-IsAntisymmetric}
use Rattle.chart_model.specs.declared.record.Attr.{Attr}
use Rattle.chart_model.specs.Attrs.{Attrs, set_attr, set_attrs}
use Rattle.chart_model.specs.Cell.{AreKeptTexts, IsKeptText}
use Rattle.chart_model.proofs.Pages.{EachEntry, each-of-map}
use Rattle.cell_writer.specs.ReadBack.{settings_of}
use Rattle.cell_writer.proofs.PutEntries.{put_entries, put_entries-all}

abbrev setting : ℕ × List ℕ → Attr
setting entry = record { code = entry.0; value = entry.1 }

not_deleted : (text : List ℕ) (b : Bool) → pointwise nat_eq text (127 ∷ []) ≡ b → text ≢ 127 ∷ [] → b ≡ false
not_deleted text true is kept = absurd (kept ((bytes_decides text (127 ∷ [])).0 is))
not_deleted text false is kept = refl

-- a text that is kept takes its place
set-kept : (attrs : Attrs) (code : ℕ) (text : List ℕ) → IsKeptText text → set_attr attrs (setting (code, text)) ≡ map.insert attrs code text
set-kept attrs code text is =
    ap (λ b. cond b (map.remove attrs code) (map.insert attrs code text)) (not_deleted text _ refl is.kept)

set-entries : (es : List (ℕ × List ℕ)) (attrs : Attrs) → EachEntry nat_cmp (λ _ text. IsKeptText text) es → set_attrs attrs (list.map setting es) ≡ put_entries nat_cmp attrs es
set-entries [] attrs each = refl
set-entries (e ∷ es) attrs each =
    ap (λ m. set_attrs m (list.map setting es)) (set-kept attrs e.0 e.1 each.0)
    ∙ set-entries es (map.insert attrs e.0 e.1) each.1

pub set-settings : (attrs : Attrs) → AreKeptTexts attrs → set_attrs map.empty (settings_of attrs) ≡ attrs
set-settings attrs kept =
    set-entries (map.entries attrs) map.empty (each-of-map nat_cmp nat_cmp_total nat_cmp-IsAntisymmetric (λ _ text. IsKeptText text) attrs kept)
    ∙ put_entries-all nat_cmp nat_cmp_total nat_cmp-IsAntisymmetric attrs
