-- Lists of names, each of which stands once.
use Rattle.std.proofs.Common.{◌≡◌, Bool, true, false, ◌&&◌, ◌==◌, List, get_or, refl, sym, rules}
use Rattle.std.specs.List.{Contains, list_all}
use Rattle.std.specs.Cmp.{IsEquivalence}
use Rattle.std.specs.Cmp.Rules.{comparing}
use Rattle.std.proofs.lemmas.Bool.{eqb-true, and_parts}
use Rattle.std.proofs.lemmas.List.Elements.{All-contains, All-contains_itself}
use Rattle.std.proofs.lemmas.List.Sums.{AllPass-from_list_all, list_all-from_AllPass}
use Rattle.chart_model.specs.declared.name.Name.{Name}

abbrev pub name_eq : Name → Name → Bool
name_eq x y = (x.rcnm == y.rcnm) && (x.rcid == y.rcid)

pub name_eq-IsEquivalence : IsEquivalence name_eq
name_eq-IsEquivalence = search (comparing, rules)

pub name_eq-same : (x y : Name) → name_eq x y ≡ true → x ≡ y
name_eq-same x y e =
    let parts = and_parts (x.rcnm == y.rcnm) (x.rcid == y.rcid) e in
    λ i. record { rcnm = eqb-true x.rcnm y.rcnm parts.0 i; rcid = eqb-true x.rcid y.rcid parts.1 i }

-- ---- lists of the same items

passes : {A : Type 0} (p : A → Bool) (xs ys : List A) → ((x : A) → Contains ys x → Contains xs x) → list_all p xs ≡ true → list_all p ys ≡ true
passes p xs ys within all =
    list_all-from_AllPass p ys (λ k d below. All-contains (λ x. p x ≡ true) xs (get_or ys k d) (AllPass-from_list_all p xs all) (within (get_or ys k d) (All-contains_itself ys k d below)))

both-ways : (a b : Bool) → (a ≡ true → b ≡ true) → (b ≡ true → a ≡ true) → a ≡ b
both-ways true b there back = sym (there refl)
both-ways false true there back = back refl
both-ways false false there back = refl

-- a test passes on the one as on the other
pub list_all-same : {A : Type 0} (p : A → Bool) (xs ys : List A) → ((x : A) → (Contains xs x → Contains ys x) × (Contains ys x → Contains xs x)) → list_all p xs ≡ list_all p ys
list_all-same p xs ys same = both-ways (list_all p xs) (list_all p ys) (passes p xs ys (λ x. (same x).1)) (passes p ys xs (λ x. (same x).0))
