-- Attributes in the order of their codes, found and changed.
use Rattle.std.proofs.Common.{◌≡◌, ℕ, ◌<◌, ◌≤◌, List, [], length, slice_index_or, slice_set, Some, None, sym, ◌∙◌}
use Rattle.std.specs.declared.cmp.Ordering.TheVariants.{Less, Equal, Greater}
use Rattle.std.specs.Ordering.{nat_cmp, ordering_index}
use Rattle.std.specs.Cmp.{nat_cmp_total}
use Rattle.std.specs.List.{HoldsAt, insert, remove}
use Rattle.std.specs.List.Sorted.{IsNonDecreasingBy, IsPartitionPoint}
use Rattle.std.specs.FinMap as map
use Rattle.std.specs.FinMap.{nat_cmp-IsAntisymmetric}
use Rattle.chart_model.specs.declared.record.Attr.{Attr}
use Rattle.chart_model.specs.Attrs.{AreRising, attrs_of}
use Rattle.chart_model.proofs.Blocks as block
use Rattle.chart_model.proofs.Trees.{entries-empty}

pub attrs-empty : attrs_of [] ≡ map.empty
attrs-empty = map.same_entries_map _ _ (map.entries-from_sorted nat_cmp [] tt ∙ sym (entries-empty nat_cmp _))

pub searchable : (attrs : List Attr) (code : ℕ) → AreRising attrs → IsNonDecreasingBy (λ attr. ordering_index (nat_cmp attr.code code)) attrs
searchable attrs code rising = block.searchable nat_cmp_total (λ attr. attr.code) (λ attr. attr.value) attrs code rising

module _ (attrs : List Attr) (code : ℕ) (rising : AreRising attrs) where
  -- the text that stands under a code, and none
  pub text-present : (i : ℕ) (d : Attr) → i < length attrs → HoldsAt (λ attr. nat_cmp attr.code code ≡ Equal) attrs i
      → map.get (attrs_of attrs) code ≡ Some (slice_index_or attrs i d).value
  text-present = block.value-present nat_cmp_total (λ attr. attr.code) (λ attr. attr.value) nat_cmp-IsAntisymmetric attrs code rising

  pub text-absent : (i : ℕ) → i ≤ length attrs → IsPartitionPoint (λ attr. nat_cmp attr.code code ≡ Less) (λ attr. nat_cmp attr.code code ≡ Greater) attrs i
      → map.get (attrs_of attrs) code ≡ None
  text-absent = block.value-absent nat_cmp_total (λ attr. attr.code) (λ attr. attr.value) nat_cmp-IsAntisymmetric attrs code rising

  -- what a text that is put into its place leaves
  abbrev pub IsPut : List Attr → List ℕ → Type 0
  IsPut new text = (attrs_of new ≡ map.insert (attrs_of attrs) code text) × AreRising new

  pub put-present : (text : List ℕ) (i : ℕ) → i < length attrs → HoldsAt (λ attr. nat_cmp attr.code code ≡ Equal) attrs i
      → IsPut (slice_set attrs i (record { code = code; value = text })) text
  put-present text i fits at = block.put-present nat_cmp_total (λ attr. attr.code) (λ attr. attr.value) nat_cmp-IsAntisymmetric attrs code rising i (record { code = code; value = text }) (λ _. code) fits at

  pub put-absent : (text : List ℕ) (i : ℕ) → i ≤ length attrs → IsPartitionPoint (λ attr. nat_cmp attr.code code ≡ Less) (λ attr. nat_cmp attr.code code ≡ Greater) attrs i
      → IsPut (insert attrs i (record { code = code; value = text })) text
  put-absent text i fits parted = block.put-absent nat_cmp_total (λ attr. attr.code) (λ attr. attr.value) nat_cmp-IsAntisymmetric attrs code rising i (record { code = code; value = text }) (λ _. code) fits parted

  -- what stays without the text under the code
  pub remove-present : (i : ℕ) → i < length attrs → HoldsAt (λ attr. nat_cmp attr.code code ≡ Equal) attrs i
      → (attrs_of (remove attrs i) ≡ map.remove (attrs_of attrs) code) × AreRising (remove attrs i)
  remove-present = block.remove-present nat_cmp_total (λ attr. attr.code) (λ attr. attr.value) nat_cmp-IsAntisymmetric attrs code rising

  pub remove-absent-text : (i : ℕ) → i ≤ length attrs → IsPartitionPoint (λ attr. nat_cmp attr.code code ≡ Less) (λ attr. nat_cmp attr.code code ≡ Greater) attrs i
      → attrs_of attrs ≡ map.remove (attrs_of attrs) code
  remove-absent-text = block.remove-missing nat_cmp_total (λ attr. attr.code) (λ attr. attr.value) nat_cmp-IsAntisymmetric attrs code rising
