-- The order of blocks.
use Rattle.std.proofs.Common.{◌≡◌, ℕ, ◌+◌, get_or, List, refl, sym, ap, ◌∙◌, subst}
use Rattle.std.specs.List.Sorted.{IsPermutation, IsSorted, IsSortedByKey}
use Rattle.std.specs.Ordering.{is_lt, nat_cmp, ordering_then}
use Rattle.chart_model.specs.Cell.{CellValue}
use Rattle.chart_model.specs.declared.drawing.Geom.{Geom}
use Rattle.chart_model.specs.declared.drawing.Geom.TheVariants.{Area, Line, Point}
use Rattle.chart_model.specs.declared.settings.Settings.{Settings}
use Rattle.lookup_table.specs.declared.line.TableLine.{TableLine}
use Rattle.draw_list.specs.declared.drawing.Drawn.{Drawn}
use Rattle.draw_list.specs.contracts.drawing.DrawOrderOrd.TheImpl.{ghosts}
use Rattle.draw_list.specs.Drawing.{key_of, rank_of, drawn_cmp, blocks_in, IsDrawing}

-- the derived order of the keys is that of the definitions
by_parts : (p q : ℕ) (g h : Geom) (r s : ℕ)
    → ghosts.cmp (record { priority = p; geom = g; rcid = r }) (record { priority = q; geom = h; rcid = s })
    ≡ ordering_then (nat_cmp p q) (ordering_then (nat_cmp (rank_of g) (rank_of h)) (nat_cmp r s))
by_parts p q Area Area r s = refl
by_parts p q Area Line r s = refl
by_parts p q Area Point r s = refl
by_parts p q Line Area r s = refl
by_parts p q Line Line r s = refl
by_parts p q Line Point r s = refl
by_parts p q Point Area r s = refl
by_parts p q Point Line r s = refl
by_parts p q Point Point r s = refl

pub same_order : (x y : Drawn) → ghosts.cmp (key_of x) (key_of y) ≡ drawn_cmp x y
same_order x y = by_parts x.block.priority y.block.priority x.block.geom y.block.geom x.rcid y.rcid

-- so what is sorted by the keys is sorted so
pub sorted_by_keys : (xs : List Drawn) → IsSortedByKey key_of ghosts.cmp xs → IsSorted drawn_cmp xs
sorted_by_keys xs sorted k d low high = ap is_lt (sym (same_order (get_or xs (k + 1) d) (get_or xs k d))) ∙ sorted k d low high

pub drawing_by : (cell : CellValue) (table : List TableLine) (settings : Settings) (blocks sorted drawing : List Drawn) → blocks ≡ blocks_in cell table settings → drawing ≡ sorted
    → IsPermutation blocks sorted → IsSorted drawn_cmp sorted → IsDrawing cell table settings drawing
drawing_by cell table settings blocks sorted drawing made taken permuted ordered = record {
  all = subst (λ (l : List Drawn). IsPermutation (blocks_in cell table settings) l) (sym taken) (subst (λ (l : List Drawn). IsPermutation l sorted) made permuted);
  ordered = subst (IsSorted drawn_cmp) (sym taken) ordered;
}
