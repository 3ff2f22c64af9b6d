-- Files that are written, and the number of their records.
use Rattle.std.proofs.Common.{◌≡◌, ℕ, zero, suc, ◌+◌, ◌≤◌, Bool, true, false, cond, length, Result, Ok, refl, sym, ap, subst, arith, length-append}
use Rattle.std.specs.Prelude.{is_some}
use Rattle.std.specs.FinMap as finite
use Rattle.std.proofs.lemmas.List.{length-map}
use Rattle.chart_model.specs.Cell.{CellValue}
use Rattle.chart_model.specs.declared.name.Name.{Name}
use Rattle.chart_model.specs.declared.cell.Vector.{Vector}
use Rattle.chart_model.specs.Names.{name_cmp}
use Rattle.chart_model.proofs.Names.{name_cmp-total}
use Rattle.cell_bytes.specs.Generator.{areas_to, area_name, edge_name, edges_to, made_area, made_cell, made_edge, made_node, node_name, nodes_to}
use Rattle.cell_bytes.specs.Written.{data_records, feature_record, feature_records, vector_record, vector_records}
use Rattle.session_core.specs.declared.fault.EventFault.{EventFault}
use Rattle.session_core.specs.declared.changes.written.MadeFile.{MadeFile}
use Rattle.session_core.specs.Answers.{Gives}
use Rattle.session_core.specs.Written.{base_of, made_file, update_of}

-- ---- the records of a base file

pub records_written : (cell : CellValue) → length (data_records cell) ≡ 2 + (finite.len cell.vectors + finite.len cell.features)
unfolding data_records vector_records feature_records
records_written cell =
    omega (
      arith,
      length-append (vector_records cell) (feature_records cell),
      length-map (finite.entries cell.vectors) (λ entry. vector_record entry.0 entry.1),
      length-map (finite.entries cell.features) (λ entry. feature_record entry.0 entry.1),
      finite.len-entries cell.vectors,
      finite.len-entries cell.features,
    )

-- ---- how many records a cell that is made has

one-more : {X : Type 0} (m : finite.FinMap name_cmp X) (name : Name) (x : X) → finite.len (finite.insert m name x) ≤ finite.len m + 1
one-more m name x =
    subst (λ (n : ℕ). n ≤ finite.len m + 1) (sym (finite.len-insert name_cmp-total m name x)) (either (is_some (finite.get m name)))
  where
    either : (b : Bool) → cond b (finite.len m) (finite.len m + 1) ≤ finite.len m + 1
    either true = omega arith
    either false = omega arith

few-nodes : (count : ℕ) → finite.len (nodes_to count) ≤ count
unfolding nodes_to
few-nodes zero = omega (arith, finite.len-empty)
few-nodes (suc count) = omega (arith, one-more (nodes_to count) (node_name (suc count)) (made_node (suc count)), few-nodes count)

few-edges : (vectors : finite.FinMap name_cmp Vector) (count : ℕ) → finite.len (edges_to vectors count) ≤ finite.len vectors + count
unfolding edges_to
few-edges vectors zero = omega arith
few-edges vectors (suc count) = omega (arith, one-more (edges_to vectors count) (edge_name (suc count)) (made_edge (suc count)), few-edges vectors count)

few-areas : (count : ℕ) → finite.len (areas_to count) ≤ count
unfolding areas_to
few-areas zero = omega (arith, finite.len-empty)
few-areas (suc count) = omega (arith, one-more (areas_to count) (area_name (suc count)) (made_area (suc count)), few-areas count)

pub few-vectors-made : (count : ℕ) (cell : CellValue) → cell ≡ made_cell count → count ≤ 20000 → finite.len cell.vectors ≤ 40000
unfolding made_cell
few-vectors-made count cell is most =
    omega (arith, ap (λ (c : CellValue). finite.len c.vectors) is, few-edges (nodes_to count) count, few-nodes count, most)

pub few-features-made : (count : ℕ) (cell : CellValue) → cell ≡ made_cell count → count ≤ 20000 → finite.len cell.features ≤ 20000
unfolding made_cell
few-features-made count cell is most = omega (arith, ap (λ (c : CellValue). finite.len c.features) is, few-areas count, most)

-- ---- what is made

pub made-base : (areas update : ℕ) (r : Result MadeFile EventFault) → update ≡ 0 → Gives r (base_of (made_cell areas)) → Gives r (made_file areas update)
unfolding made_file
made-base areas update r is h = subst (λ (n : ℕ). Gives r (made_file areas n)) (sym is) h

pub made-update : (areas update : ℕ) (file : MadeFile) → (update ≡ 0 → ⊥) → file ≡ update_of areas update → made_file areas update ≡ Ok file
unfolding made_file
made-update areas zero file other is = absurd (other refl)
made-update areas (suc before) file other is = ap Ok (sym is)
