-- How many files there may be.
use Rattle.std.proofs.Common.{◌≡◌, ◌≢◌, inl, inr, ℕ, ◌<◌, ◌≤◌, Bool, eqb, false, List, [], ◌∷◌, length, map, Option}
use Rattle.std.proofs.Common.{Some, None, Result, Ok, Err, refl, sym, ap, ◌∙◌}
use Rattle.std.proofs.lemmas.Bool.{lt-ltb, le-ltb}
use Rattle.std.proofs.lemmas.Bool.Decides.{eqb_tells}
use Rattle.std.proofs.lemmas.List.{length-map}
use Rattle.chart_model.specs.Answers.{first_of, when, unless}
use Rattle.exchange_catalogue.specs.Firsts.{paths_check}
use Rattle.exchange_catalogue.specs.Orders.{paths_fault, count_fault, load_order_of, load_order_in, IsLoadOrder}
use Rattle.exchange_catalogue.specs.declared.cell_file.CellFile.{CellFile}
use Rattle.exchange_catalogue.specs.declared.entry.Entry.{Entry}
use Rattle.exchange_catalogue.specs.declared.fault.OrderFault.{OrderFault}
use Rattle.exchange_catalogue.specs.declared.fault.OrderFault.TheVariants.{Many, Empty}
use Rattle.exchange_catalogue.proofs.Putting.{order-one}
use Rattle.exchange_catalogue.proofs.Sorted.{path_in}

no_fault : (o : Option OrderFault) → ◌≡◌ {A = Result (Unit {0}) OrderFault} (unless o tt) (Ok tt) → o ≡ None
no_fault None e = refl
no_fault (Some fault) e = absurd cc

other : (count : ℕ) → count ≢ 0 → eqb count 0 ≡ false
other count some = elim (eqb_tells count 0) [ inl h ↦ absurd (some h.1) | inr h ↦ h.0 ]

count-many : (count : ℕ) → 1000 < count → count_fault count ≡ Some (Many count)
count-many count over =
    ap (λ (b : Bool). first_of (when b (Many count) ∷ when (eqb count 0) Empty ∷ [])) (lt-ltb 1000 count over)

count-none : (count : ℕ) → count ≡ 0 → count_fault count ≡ Some Empty
count-none count e = ap count_fault e

count-fine : (count : ℕ) → count ≤ 1000 → count ≢ 0 → count_fault count ≡ None
count-fine count under some =
    (λ i. first_of (when (le-ltb 1000 count under i) (Many count) ∷ when (other count some i) Empty ∷ []))

module _ (entries : List Entry) (files : List CellFile) (order : IsLoadOrder entries (map path_in files))
    (fine : paths_check entries ≡ Ok tt) (count : ℕ)
    (counted : count ≡ length files) where
  paths_count : length (load_order_of entries) ≡ count
  paths_count = ap length (sym (order-one entries (map path_in files) order)) ∙ length-map files path_in ∙ sym counted

  by_count : load_order_in entries ≡ unless (first_of (count_fault count ∷ [])) (load_order_of entries)
  unfolding load_order_in
  by_count =
      (λ i. unless (first_of (no_fault (paths_fault entries) fine i ∷ count_fault (paths_count i) ∷ []))
      (load_order_of entries))

  pub many : 1000 < count → load_order_in entries ≡ Err (Many count)
  many over = by_count ∙ ap (λ (o : Option OrderFault). unless (first_of (o ∷ [])) (load_order_of entries))
      (count-many count over)

  pub none : count ≡ 0 → load_order_in entries ≡ Err Empty
  none e = by_count ∙ ap (λ (o : Option OrderFault). unless (first_of (o ∷ [])) (load_order_of entries))
      (count-none count e)

  pub some : count ≤ 1000 → count ≢ 0 → load_order_in entries ≡ Ok (map path_in files)
  some under other =
      by_count ∙ ap (λ (o : Option OrderFault). unless (first_of (o ∷ [])) (load_order_of entries))
      (count-fine count under other)
      ∙ ap (λ (l : List (List ℕ)). Ok l) (sym (order-one entries (map path_in files) order))
