-- Extents that are put into groups.
use Rattle.std.proofs.Common.{◌≡◌, ◌⊎◌, inl, inr, ℕ, ◌+◌, ◌<◌, ◌≤◌, true, false, List, [], ◌∷◌, ◌++◌, take, length, get_or, sym, ap, ◌∙◌, subst, arith}
use Rattle.std.specs.Prelude.{◌==◌}
use Rattle.std.specs.List.{Contains}
use Rattle.std.proofs.lemmas.Int.{ints}
use Rattle.std.proofs.lemmas.Bool.{cases_lt}
use Rattle.std.proofs.lemmas.Bool.Decides.{nat_tests}
use Rattle.std.proofs.lemmas.List.{take_more, take_all, get_or_default}
use Rattle.std.proofs.lemmas.List.Elements.{Contains-append_left, Contains-append_cases, Contains-push, Contains-push_cases}
use Rattle.plane_geometry.specs.declared.point.Pt.{Pt}
use Rattle.plane_bounds.specs.declared.bounds.Bounds.{Bounds}
use Rattle.plane_bounds.specs.Bounds.{IsIn, Holds, RingsIn}
use Rattle.depth_values.specs.DepthArea.{ExtentValue}
use Rattle.depth_values.specs.declared.groups.Group.{Group}
use Rattle.depth_values.specs.Groups.{IsRound, IsGroup, IsGroupOf, StandsIn, AreGrouped}

-- ---- boxes

in_grown : (grown bounds : Bounds) (p : Pt) → Holds grown bounds → IsIn bounds p → IsIn grown p
in_grown grown bounds p h q = record {
  west = omega (arith, ints, h.west, q.west);
  east = omega (arith, ints, h.east, q.east);
  south = omega (arith, ints, h.south, q.south);
  north = omega (arith, ints, h.north, q.north);
}

-- rings in a box are in a grown one
pub rings_in_grown : (grown bounds : Bounds) (rings : List (List Pt)) → Holds grown bounds → RingsIn bounds rings → RingsIn grown rings
rings_in_grown grown bounds rings h q i ring lt j p within = in_grown grown bounds _ h (q i ring lt j p within)

-- boxes are round places before a place of a list
pub round_next : (extents : List ExtentValue) (places : List ℕ) (i d : ℕ) (old new : Bounds) → i < length places → Holds new old → IsRound extents new (get_or places i d)
    → ((k : ℕ) → Contains (take i places) k → IsRound extents old k) → (k : ℕ) → Contains (take (i + 1) places) k → IsRound extents new k
round_next extents places i d old new lt grown here before k c =
    elim (Contains-push_cases (take i places) (get_or places i d) k (subst (λ (l : List ℕ). Contains l k) (take_more places i d lt) c)) [
      | inl q ↦ λ extent there. rings_in_grown new old extent.rings grown (before k q extent there)
      | inr e ↦ subst (IsRound extents new) e here
    ]

pub round_all : (extents : List ExtentValue) (places : List ℕ) (i : ℕ) (bounds : Bounds) → length places ≤ i → ((k : ℕ) → Contains (take i places) k → IsRound extents bounds k)
    → (k : ℕ) → Contains places k → IsRound extents bounds k
round_all extents places i bounds past h = subst (λ (l : List ℕ). (k : ℕ) → Contains l k → IsRound extents bounds k) (take_all i places past) h

-- ---- groups

-- of some places each is left, or stands in a group
pub record AreCovered (extents : List ExtentValue) (places rest : List ℕ) (groups : List Group) : Type 0 where
  pub each : (group : Group) → Contains groups group → IsGroup extents group
  pub all : (k : ℕ) → Contains places k → Contains rest k ⊎ StandsIn groups k

pub covered_none_yet : (extents : List ExtentValue) (places : List ℕ) (groups : List Group) → groups ≡ [] → AreCovered extents places places groups
covered_none_yet extents places groups none = record {
  each = λ group c. absurd (let d = subst (λ (l : List Group). Contains l group) none c in omega (arith, d.1));
  all = λ k c. inl c;
}

pub covered_next : (extents : List ExtentValue) (places rest front others : List ℕ) (group : Group) (old new : List Group) → rest ≡ front ++ others → IsGroupOf extents front group
    → new ≡ old ++ group ∷ [] → AreCovered extents places rest old → AreCovered extents places others new
covered_next extents places rest front others group old new parts of pushed h = record {
  each = λ other c.
      elim (Contains-push_cases old group other (subst (λ (l : List Group). Contains l other) pushed c)) [
        | inl q ↦ h.each other q
        | inr e ↦ subst (IsGroup extents) e of.round
      ];
  all = λ k c.
      elim (h.all k c) [
        | inr s ↦ inr (record { group = s.group; among = subst (λ (l : List Group). Contains l s.group) (sym pushed) (Contains-append_left old (group ∷ []) s.group s.among); there = s.there })
        | inl r ↦ elim (Contains-append_cases front others k (subst (λ (l : List ℕ). Contains l k) parts r)) [
          | inl f ↦ inr (record { group = group; among = subst (λ (l : List Group). Contains l group) (sym pushed) (Contains-push old group); there = subst (λ (l : List ℕ). Contains l k) (sym of.those) f })
          | inr o ↦ inl o
        ]
      ];
}

pub covered_all : (extents : List ExtentValue) (places rest : List ℕ) (groups : List Group) → ((k : ℕ) → k < length extents → Contains places k) → length rest ≡ 0
    → AreCovered extents places rest groups → AreGrouped extents groups
covered_all extents places rest groups whole none h = record {
  each = h.each;
  all = λ k lt. elim (h.all k (whole k lt)) [ inl r ↦ absurd (omega (arith, r.1, none)) | inr s ↦ s ];
}

-- ---- counting

step : (k i : ℕ) → k < i + 1 → (k < i) ⊎ (k ≡ i)
step k i lt = elim (cases_lt k i) [ inl h ↦ inl h | inr h ↦ inr (omega (arith, lt, h)) ]

-- each number below one is in the list, and then that one too
pub counted_next : (n : ℕ) (old new : List ℕ) → new ≡ old ++ n ∷ [] → ((k : ℕ) → k < n → Contains old k) → (k : ℕ) → k < n + 1 → Contains new k
counted_next n old new pushed before k lt =
    subst (λ (l : List ℕ). Contains l k) (sym pushed)
    (elim (step k n lt) [
      | inl h ↦ Contains-append_left old (n ∷ []) k (before k h)
      | inr e ↦ subst (λ (m : ℕ). Contains (old ++ n ∷ []) m) (sym e) (Contains-push old n)
    ])

-- the first points are in a box, and then one more
pub points_next : (points : List Pt) (i : ℕ) (d : Pt) (old new : Bounds) → i < length points → Holds new old → IsIn new (get_or points i d)
    → ((k : ℕ) (e : Pt) → k < i → IsIn old (get_or points k e)) → (k : ℕ) (e : Pt) → k < i + 1 → IsIn new (get_or points k e)
points_next points i d old new within grown here before k e lt =
    elim (step k i lt) [
      | inl h ↦ in_grown new old (get_or points k e) grown (before k e h)
      | inr same ↦
          subst (IsIn new) (get_or_default points i d e within ∙ ap (λ (n : ℕ). get_or points n e) (sym same)) here
    ]

-- ---- what `is_empty` says

pub empty_false : (n : ℕ) → false ≡ (n == 0) → 0 < n
empty_false n h = grind (arith, nat_tests)

pub empty_true : (n : ℕ) → true ≡ (n == 0) → n ≡ 0
empty_true n h = grind (arith, nat_tests)
