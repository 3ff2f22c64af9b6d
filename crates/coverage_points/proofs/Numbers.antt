-- What holding every leg against every area gives are the numbers of the legs that none covers.
use Rattle.std.proofs.Common.{◌≡◌, inl, inr, ℕ, ◌+◌, ◌<◌, ◌≤◌, Bool, true, false, cond, List, [], ◌∷◌, ◌++◌, refl, sym, ap, ◌∙◌, subst, arith}
use Rattle.std.specs.List.{list_any, flat_map, enumerate_from}
use Rattle.std.proofs.lemmas.Bool.{false≢true, cases_Bool, or_left, or_right, or_from}
use Rattle.plane_geometry.specs.declared.point.Pt.{Pt}
use Rattle.chart_model.specs.State.{StateValue}
use Rattle.route_geometry.specs.declared.leg.Leg.{Leg}
use Rattle.common_lemmas.proofs.Members.{Has, has_out, has_in, Rises, before_all, all_pairs}
use Rattle.coverage_points.specs.Cover.{IsCovered, is_covered}
use Rattle.coverage_points.specs.Coverage.{IsCharted, coverage_in}
use Rattle.coverage_points.specs.Uncovered.{IsUncovered, AreUncovered, uncovered_at, uncovered_of}
use Rattle.coverage_points.proofs.Members.{comes, goes}
use Rattle.coverage_points.proofs.Numbered.{numbered_out, numbered_in}
use Rattle.coverage_points.proofs.Covering.{Decides-covered}
use Rattle.coverage_points.proofs.Charted.{charted_out, charted_in}

-- ---- a leg that none of the areas covers

some_passes : {X : Type 0} (test : X → Bool) (xs : List X) (x : X) → Has x xs → test x ≡ true → list_any test xs ≡ true
some_passes test [] x h e = absurd h
some_passes test (y ∷ ys) x (inl same) e = or_left (test y) (list_any test ys) (ap test same ∙ e)
some_passes test (y ∷ ys) x (inr h) e = or_right (test y) (list_any test ys) (some_passes test ys x h e)

fails : (b : Bool) → ¬ (b ≡ true) → b ≡ false
fails b none = elim (cases_Bool b) [ inl e ↦ absurd (none e) | inr e ↦ e ]

none_passes : {X : Type 0} (test : X → Bool) (xs : List X) → ((x : X) → Has x xs → ¬ (test x ≡ true)) → list_any test xs ≡ false
none_passes test [] none = refl
none_passes test (x ∷ xs) none =
    or_from (test x) (list_any test xs) (fails (test x) (none x (inl refl))) (none_passes test xs (λ y h. none y (inr h)))

module _ (state : StateValue) (leg : Leg) where
  uncovered_out : list_any (is_covered leg) (coverage_in state) ≡ false → (rings : List (List Pt)) → IsCharted state rings → ¬ IsCovered leg rings
  uncovered_out e rings charted covered =
      false≢true (sym e ∙ some_passes (is_covered leg) (coverage_in state) rings (charted_in state rings charted) ((Decides-covered leg rings).1 covered))

  uncovered_in : ((rings : List (List Pt)) → IsCharted state rings → ¬ IsCovered leg rings) → list_any (is_covered leg) (coverage_in state) ≡ false
  uncovered_in none =
      none_passes (is_covered leg) (coverage_in state) (λ rings h e. none rings (charted_out state rings h) ((Decides-covered leg rings).0 e))

-- ---- the numbers of all such legs

alone_out : (b : Bool) (n m : ℕ) → Has m (cond b [] (n ∷ [])) → (b ≡ false) × (n ≡ m)
alone_out true n m h = absurd h
alone_out false n m (inl e) = (refl, e)
alone_out false n m (inr h) = absurd h

-- the numbers from n on
from_on : (areas : List (List (List Pt))) (n : ℕ) (legs : List Leg) (m : ℕ) → Has m (flat_map (uncovered_at areas) (enumerate_from n legs)) → n ≤ m
from_on areas n legs m h =
    let c = comes (uncovered_at areas) (enumerate_from n legs) m h in
    let one = alone_out (list_any (is_covered c.from.1) areas) c.from.0 m c.gives in
    let numbered = numbered_out legs n c.from.0 c.from.1 c.among in
    subst (λ (k : ℕ). n ≤ k) one.1 numbered.from

rise_from : (b : Bool) (n : ℕ) (rest : List ℕ) → ((m : ℕ) → Has m rest → n < m) → Rises ◌<◌ rest → Rises ◌<◌ (cond b [] (n ∷ []) ++ rest)
rise_from true n rest above rises = rises
rise_from false n rest above rises = (before_all ◌<◌ n rest above, rises)

-- the numbers rise
rise : (areas : List (List (List Pt))) (n : ℕ) (legs : List Leg) → Rises ◌<◌ (flat_map (uncovered_at areas) (enumerate_from n legs))
rise areas n [] = tt
rise areas n (leg ∷ legs) =
    rise_from (list_any (is_covered leg) areas) n (flat_map (uncovered_at areas) (enumerate_from (n + 1) legs))
    (λ m h. omega (arith, from_on areas (n + 1) legs m h)) (rise areas (n + 1) legs)

module _ (state : StateValue) (legs : List Leg) where
  number_out : (m : ℕ) → Has m (uncovered_of state legs) → IsUncovered state legs m
  number_out m h =
      let c = comes (uncovered_at (coverage_in state)) (enumerate_from 1 legs) m h in
      let one = alone_out (list_any (is_covered c.from.1) (coverage_in state)) c.from.0 m c.gives in
      let numbered = numbered_out legs 1 c.from.0 c.from.1 c.among in
      subst (IsUncovered state legs) one.1 (record {
        counted = numbered.from;
        leg = c.from.1;
        on_route = numbered.there;
        uncovered = uncovered_out state c.from.1 one.0;
      })

  number_in : (m : ℕ) → IsUncovered state legs m → Has m (uncovered_of state legs)
  number_in m u =
      goes (uncovered_at (coverage_in state)) (enumerate_from 1 legs) (m, u.leg) m
      (numbered_in legs 1 m u.leg (record { from = u.counted; there = u.on_route }))
      (subst (λ (b : Bool). Has m (cond b [] (m ∷ []))) (sym (uncovered_in state u.leg u.uncovered)) (inl refl))

  pub numbers_are : AreUncovered state legs (uncovered_of state legs)
  numbers_are = record {
    all = λ m. (λ h. number_out m (has_out _ m h), λ u. has_in _ m (number_in m u));
    ordered = all_pairs ◌<◌ _ (rise (coverage_in state) 1 legs);
  }
