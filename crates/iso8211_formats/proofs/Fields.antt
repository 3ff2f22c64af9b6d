-- A field gives the layout that it spells, and no other.
use Rattle.std.proofs.Common.{◌≡◌, ℕ, ◌≤◌, true, eqb, leb, ◌&&◌, List, [], ◌∷◌, ◌++◌, length, take, drop, map, Option, Some, None, Ok, Err, ◌↔◌, refl, sym, ap, subst, ◌∙◌, inl, inr, arith, append_assoc, length-append, length-take, take-append-drop}
use Rattle.std.specs.Prelude.{IfOk}
use Rattle.std.specs.List.{AllByRecursion, join_with_byte, slice_split}
use Rattle.std.specs.Option.{ok_or}
use Rattle.std.proofs.lemmas.Bool.{eqb-true, eq-eqb, leb-true, le-leb, and_parts}
use Rattle.std.proofs.lemmas.List.{length-map, drop_at}
use Rattle.std.proofs.lemmas.List.Splits.{join_with_byte-slice_split, length-slice_split}
use Rattle.common_lemmas.proofs.Choices.{chosen, some_is}
use Rattle.iso8211_formats.specs.declared.fault.DescriptorFault.TheVariants.{Bad}
use Rattle.iso8211_formats.specs.declared.format.Format.{Format}
use Rattle.iso8211_formats.specs.Layout.{Layout, IsLayout, IsFormat}
use Rattle.iso8211_formats.specs.Grammar.{Spells, Item, IsItem, item_text, item_formats, format_controls, array_descriptor}
use Rattle.iso8211_formats.specs.Reading.{when, cut_at, before_end, items_text, formats_of, labels_of, layout_with, parts_of, descriptor_of}
use Rattle.iso8211_formats.proofs.GivenValues.{bind_some, guarded_some}
use Rattle.iso8211_formats.proofs.Cuts.{Lacks, cut_at_found, cut_at_again, before_end_found, before_end_again}
use Rattle.iso8211_formats.proofs.Items.{items_of_found, items_of_again, slice_split-items, formats_of_items}
use Rattle.iso8211_formats.proofs.LabelTexts.{IsArray, labels_of_found, labels_of_again, AreLabels-from_array, Lacks-array, AreFour-from_labels}

-- ---- format controls

pub record AreControls (text : List ℕ) (formats : List Format) : Type 0 where
  pub items : List Item
  pub has_items : 1 ≤ length items
  pub each_item : AllByRecursion IsItem items
  pub formats_are : formats ≡ item_formats items
  pub whole : text ≡ format_controls items ++ 30 ∷ []

items_text_found : (text items : List ℕ) → items_text text ≡ Some items → text ≡ 40 ∷ (items ++ 41 ∷ 30 ∷ [])
unfolding items_text
items_text_found [] items e = absurd cc
items_text_found (first ∷ rest) items e =
    elim (chosen (eqb first 40) (before_end rest) None (Some items) e) [
      | inl h ↦ ap (λ (x : ℕ). x ∷ rest) (eqb-true first 40 h.0) ∙ ap (λ (t : List ℕ). 40 ∷ t) (before_end_found rest items h.1)
      | inr h ↦ absurd (let none = h.1 in cc)
    ]

items_text_again : (items : List ℕ) → items_text ((40 ∷ (items ++ 41 ∷ [])) ++ 30 ∷ []) ≡ Some items
unfolding items_text
items_text_again items = ap before_end (append_assoc items (41 ∷ []) (30 ∷ [])) ∙ before_end_again items

pub formats_of_found : (text : List ℕ) (formats : List Format) → formats_of text ≡ Some formats → AreControls text formats
unfolding formats_of
formats_of_found text formats e =
    let b = bind_some (items_text text) _ formats e in
    let parts = slice_split (λ byte. eqb byte 44) b.0 in
    let f = items_of_found parts formats b.2 in
    let joined : join_with_byte 44 (map item_text f.0) ≡ b.0 = ap (join_with_byte 44) f.2 ∙ join_with_byte-slice_split 44 b.0 in
    let count = ap length f.2 in
    record {
      items = f.0;
      has_items = omega (arith, count, length-map f.0 item_text, length-slice_split (λ byte. eqb byte 44) b.0);
      each_item = f.1;
      formats_are = f.3;
      whole = items_text_found text b.0 b.1 ∙ ap (λ (t : List ℕ). 40 ∷ (t ++ 41 ∷ 30 ∷ [])) (sym joined) ∙ ap (λ (t : List ℕ). 40 ∷ t) (sym (append_assoc (join_with_byte 44 (map item_text f.0)) (41 ∷ []) (30 ∷ [])));
    }

pub formats_of_again : (items : List Item) → 1 ≤ length items → AllByRecursion IsItem items → length (item_formats items) ≤ 99999 → formats_of (format_controls items ++ 30 ∷ []) ≡ Some (item_formats items)
unfolding formats_of
formats_of_again [] present each few = absurd (omega arith)
formats_of_again (item ∷ items) present each few =
    rw (items_text_again (join_with_byte 44 (map item_text (item ∷ items))), slice_split-items item items each.0 each.1, items_of_again (item ∷ items) each few) refl

-- ---- the whole field

-- how a field lies in its parts
regrouped : (controls name array formats : List ℕ) → controls ++ (name ++ 31 ∷ (array ++ 31 ∷ (formats ++ 30 ∷ []))) ≡ controls ++ name ++ 31 ∷ array ++ 31 ∷ formats ++ 30 ∷ []
regrouped controls name array formats = simp append_assoc

parts_spell : (field name rest array tail : List ℕ) (labels : List (List ℕ)) (group : Option ℕ) (formats : List Format) (layout : Layout) → 9 ≤ length field → drop 9 field ≡ name ++ 31 ∷ rest → Lacks 31 name → rest ≡ array ++ 31 ∷ tail → Lacks 31 array → IsArray array labels group → AreControls tail formats → layout_with (labels, group) formats ≡ Some layout → Spells layout field
unfolding layout_with
parts_spell field name rest array tail labels group formats layout long named name_lacks arrayed array_lacks is_array are_controls made =
    let w : ((leb (length labels) 64 && eqb (length formats) (length labels)) ≡ true) × (◌≡◌ {A = Layout} (record { labels = labels; formats = formats; repeats_from = group }) layout) = guarded_some (leb (length labels) 64 && eqb (length formats) (length labels)) _ layout made in
    let tests = and_parts (leb (length labels) 64) (eqb (length formats) (length labels)) w.0 in
    let is_layout : IsLayout (record { labels = labels; formats = formats; repeats_from = group }) = record {
      present = is_array.present;
      few = leb-true (length labels) 64 tests.0;
      as_many = eqb-true (length formats) (length labels) tests.1;
      each = subst (λ (fs : List Format). AllByRecursion IsFormat fs) (sym are_controls.formats_are) (formats_of_items are_controls.items are_controls.each_item);
      begins = is_array.begins;
    } in
    let whole : field ≡ take 9 field ++ (name ++ 31 ∷ (array_descriptor group labels ++ 31 ∷ (format_controls are_controls.items ++ 30 ∷ []))) =
    sym (take-append-drop 9 field)
    ∙ ap (λ (t : List ℕ). take 9 field ++ t) (named ∙ ap (λ (t : List ℕ). name ++ 31 ∷ t) (arrayed ∙ ap (λ (t : List ℕ). array ++ 31 ∷ t) are_controls.whole ∙ ap (λ (t : List ℕ). t ++ 31 ∷ (format_controls are_controls.items ++ 30 ∷ [])) is_array.whole))
    in
    let spells : Spells (record { labels = labels; formats = formats; repeats_from = group }) field = record {
      controls = take 9 field;
      name = name;
      items = are_controls.items;
      is_layout = is_layout;
      nine_controls = omega (arith, length-take 9 field);
      name_ends = name_lacks;
      labels = AreLabels-from_array group labels is_array.four (subst (λ (t : List ℕ). Lacks 31 t) is_array.whole array_lacks);
      has_items = are_controls.has_items;
      each_item = are_controls.each_item;
      formats = are_controls.formats_are;
      whole = whole ∙ regrouped (take 9 field) name (array_descriptor group labels) (format_controls are_controls.items);
    } in
    subst (λ (l : Layout). Spells l field) w.1 spells

pub descriptor_of_found : (field : List ℕ) (layout : Layout) → descriptor_of field ≡ Some layout → Spells layout field
unfolding descriptor_of parts_of
descriptor_of_found field layout e =
    let a = bind_some (parts_of field) _ layout e in
    let c = bind_some (when (leb 9 (length field)) (drop 9 field)) _ a.0 a.1 in
    let checked = guarded_some (leb 9 (length field)) (drop 9 field) c.0 c.1 in
    let n = bind_some (cut_at 31 c.0) _ a.0 c.2 in
    let name = cut_at_found 31 c.0 n.0 n.1 in
    let array = cut_at_found 31 n.0.1 a.0 n.2 in
    let l = bind_some (labels_of a.0.0) _ layout a.2 in
    let f = bind_some (formats_of a.0.1) _ layout l.2 in
    parts_spell field n.0.0 n.0.1 a.0.0 a.0.1 l.0.0 l.0.1 f.0 layout (leb-true 9 (length field) checked.0) (checked.1 ∙ name.0) name.1 array.0 array.1 (labels_of_found a.0.0 l.0 l.1) (formats_of_found a.0.1 f.0 f.1) f.2

spelled_parts : (controls name array tail : List ℕ) (labels : List (List ℕ)) (group : Option ℕ) (formats : List Format) → length controls ≡ 9 → Lacks 31 name → Lacks 31 array → labels_of array ≡ Some (labels, group) → formats_of tail ≡ Some formats → length labels ≤ 64 → length formats ≡ length labels → descriptor_of (controls ++ (name ++ 31 ∷ (array ++ 31 ∷ tail))) ≡ Some (record { labels = labels; formats = formats; repeats_from = group })
unfolding descriptor_of parts_of layout_with
spelled_parts controls name array tail labels group formats nine name_lacks array_lacks labels_are formats_are few as_many =
    let rest = name ++ 31 ∷ (array ++ 31 ∷ tail) in
    let long : leb 9 (length (controls ++ rest)) ≡ true = le-leb 9 (length (controls ++ rest)) (omega (arith, nine, length-append controls rest)) in
    let is_few : leb (length labels) 64 ≡ true = le-leb (length labels) 64 few in
    let are_as_many : eqb (length formats) (length labels) ≡ true = eq-eqb (length formats) (length labels) as_many in
    rw (long, drop_at controls rest 9 nine, cut_at_again 31 name (array ++ 31 ∷ tail) name_lacks, cut_at_again 31 array tail array_lacks, labels_are, formats_are, is_few, are_as_many) refl

pub descriptor_of_again : (field : List ℕ) (layout : Layout) → Spells layout field → descriptor_of field ≡ Some layout
descriptor_of_again field layout s =
    let array = array_descriptor layout.repeats_from layout.labels in
    let tail = format_controls s.items ++ 30 ∷ [] in
    let count = ap length s.formats in
    let formats_are : formats_of tail ≡ Some layout.formats =
    formats_of_again s.items s.has_items s.each_item (omega (arith, count, s.is_layout.few, s.is_layout.as_many)) ∙ ap (λ (fs : List Format). Some fs) (sym s.formats)
    in
    let labels_are = labels_of_again layout.labels layout.repeats_from (AreFour-from_labels layout.labels s.labels) s.is_layout.present s.is_layout.begins in
    ap descriptor_of (s.whole ∙ sym (regrouped s.controls s.name array (format_controls s.items)))
    ∙ spelled_parts s.controls s.name array tail layout.labels layout.repeats_from layout.formats s.nine_controls s.name_ends (Lacks-array layout.repeats_from layout.labels s.labels) labels_are formats_are s.is_layout.few s.is_layout.as_many

-- a field spells one layout at most
pub one_layout : (field : List ℕ) (a b : Layout) → Spells a field → Spells b field → a ≡ b
one_layout field a b p q = some_is a b (sym (descriptor_of_again field a p) ∙ descriptor_of_again field b q)

-- ---- what an answer says of the spellings

pub reads_spelled : (field : List ℕ) (answer : Option Layout) → answer ≡ descriptor_of field → (layout : Layout) → (ok_or answer Bad ≡ Ok layout) ↔ Spells layout field
reads_spelled field None e layout =
    (λ h. absurd cc, λ s. let none : ◌≡◌ {A = Option Layout} None (Some layout) = e ∙ descriptor_of_again field layout s in absurd cc)
reads_spelled field (Some d) e layout =
    (λ h. let same : d ≡ layout = cc in descriptor_of_found field layout (sym e ∙ ap (λ (l : Layout). Some l) same), λ s. ap (λ (l : Layout). Ok l) (some_is d layout (e ∙ descriptor_of_again field layout s)))

pub refuses_others : (field : List ℕ) (answer : Option Layout) → answer ≡ descriptor_of field → (ok_or answer Bad ≡ Err Bad) ↔ ((layout : Layout) → Spells layout field → ⊥)
refuses_others field None e =
    (λ h layout s. let none : ◌≡◌ {A = Option Layout} None (Some layout) = e ∙ descriptor_of_again field layout s in cc, λ no. refl)
refuses_others field (Some d) e = (λ h. absurd cc, λ no. absurd (no d (descriptor_of_found field d (sym e))))

pub ok_is_layout : (field : List ℕ) (answer : Option Layout) → answer ≡ descriptor_of field → IfOk (ok_or answer Bad) IsLayout
ok_is_layout field None e = tt
ok_is_layout field (Some d) e = (descriptor_of_found field d (sym e)).is_layout
