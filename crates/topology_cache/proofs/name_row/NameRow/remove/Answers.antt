use Rattle.std.proofs.Common.{◌≡◌, ◌<◌, ◌≤◌, ℕ, zero, suc, List, [], ◌∷◌, length, get_or, sym, ap, subst, refl, ◌∙◌}
use Rattle.std.proofs.Common.{arith}
use Rattle.std.specs.List.{remove}
use Rattle.chart_model.specs.declared.name.Name.{Name}
use Rattle.topology_cache.specs.declared.name_row.NameRow.{NameRow}
use Rattle.topology_cache.specs.Rows.{names_of}
use Rattle.topology_cache.proofs.name_row.NameRow.remove.Goals as goal

none-left : (name : Name) (place : ℕ) → place < 1 → [] ≡ remove (name ∷ []) place
none-left name zero fits = refl
none-left name (suc place) fits = absurd (omega (arith, fits))

two-names : (names : List Name) (d : Name) → length names ≡ 2 → get_or names 0 d ∷ get_or names 1 d ∷ [] ≡ names
two-names [] d two = absurd (omega (arith, two))
two-names (one ∷ []) d two = absurd (omega (arith, two))
two-names (one ∷ other ∷ []) d two = refl
two-names (one ∷ other ∷ third ∷ names) d two = absurd (omega (arith, two))

below-two : (n m : ℕ) → n < m → m ≡ 2 → n ≤ 1
below-two n m fits two = omega (arith, fits, two)

pub other-requires : goal.other-requires
other-requires c =
    below-two c.args.place _ (subst (λ (row : NameRow). c.args.place < length (names_of row)) c.in-Two.is c.requires)
    c.in-Two.pair.two

pub returns-in-One : goal.returns-in-One
returns-in-One c =
    none-left c.in-One.field-0 c.args.place (subst (λ (row : NameRow). c.args.place < length (names_of row))
    c.in-One.is c.requires)
    ∙ sym (ap (λ (row : NameRow). remove (names_of row) c.args.place) c.in-One.is)

pub returns-in-Two : goal.returns-in-Two
returns-in-Two c =
    c.other.ensures
    ∙ ap (λ (names : List Name). remove names c.args.place) (two-names c.in-Two.pair.names _ c.in-Two.pair.two)
    ∙ sym (ap (λ (row : NameRow). remove (names_of row) c.args.place) c.in-Two.is)
