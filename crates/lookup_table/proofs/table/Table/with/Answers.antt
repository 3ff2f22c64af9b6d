use Rattle.std.proofs.Common.{◌≡◌, ℕ, List, length, sym, subst, rules}
use Rattle.lookup_table.specs.declared.line.TableLine.{TableLine}
use Rattle.lookup_table.specs.Index.{IsIndexOf, index_of, AddsPlace}
use Rattle.lookup_table.proofs.Indexes.{indexed-push}
use Rattle.lookup_table.proofs.table.Table.with.Goals as goal

pub invariant_of-result : goal.invariant_of-result
invariant_of-result c =
    let lines = c.self.inside.lines.items in
    let line = c.args.line in
    let counted : c.len.result ≡ length lines = search rules in
    subst (λ (l : List TableLine). IsIndexOf l (index_of c.in_ok-index.index)) (sym c.in_ok-push.ensures.items)
    (indexed-push (index_of c.self.inside.index) (index_of c.in_ok-index.index) lines line c.self.invariant
    (subst (λ (n : ℕ). AddsPlace (index_of c.self.inside.index) (index_of c.in_ok-index.index) line.class line.geom n) counted c.in_ok-index.ensures))
