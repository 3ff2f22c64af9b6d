-- Paths that are put among others in order are the load order, and the only one.
use Rattle.std.proofs.Common.{◌≡◌, ◌⊎◌, inl, inr, ℕ, List, [], ◌∷◌, refl, sym, ap, ◌∙◌, subst}
use Rattle.std.specs.Prelude.{◌↔◌}
use Rattle.std.specs.List.{Contains, fold}
use Rattle.std.specs.Ordering.{ordering_reverse}
use Rattle.std.specs.declared.cmp.Ordering.{Ordering}
use Rattle.std.specs.declared.cmp.Ordering.TheVariants.{Less, Equal, Greater}
use Rattle.exchange_catalogue.specs.Orders.{cell_paths, load_cmp, put_by, put_among, load_order_of, IsLoadOrder}
use Rattle.exchange_catalogue.specs.declared.entry.Entry.{Entry}
use Rattle.common_lemmas.proofs.Members.{Has, has_in, has_out, IsBefore, Rises, before_each, before_all, all_pairs}
use Rattle.common_lemmas.proofs.Members.{rises_from, one_list}
use Rattle.exchange_catalogue.proofs.Listed.{load_total, tied-path}

-- ---- one path, by how it stands to the first of the others

from-by : (o : Ordering) (x y : List ℕ) (ys behind : List (List ℕ)) (z : List ℕ) → (Has z behind → (x ≡ z) ⊎ Has z ys)
    → Has z (put_by o x y ys behind)
    → (x ≡ z) ⊎ Has z (y ∷ ys)
from-by Less x y ys behind z later h = h
from-by Equal x y ys behind z later h = inr h
from-by Greater x y ys behind z later (inl e) = inr (inl e)
from-by Greater x y ys behind z later (inr h) = elim (later h) [ inl e ↦ inl e | inr k ↦ inr (inr k) ]

keeps-by : (o : Ordering) (x y : List ℕ) (ys behind : List (List ℕ)) (z : List ℕ) → (Has z ys → Has z behind)
    → Has z (y ∷ ys) → Has z (put_by o x y ys behind)
keeps-by Less x y ys behind z later h = inr h
keeps-by Equal x y ys behind z later h = h
keeps-by Greater x y ys behind z later (inl e) = inl e
keeps-by Greater x y ys behind z later (inr h) = inr (later h)

there-by : (o : Ordering) (x y : List ℕ) (ys behind : List (List ℕ)) → (o ≡ Equal → x ≡ y) → Has x behind
    → Has x (put_by o x y ys behind)
there-by Less x y ys behind same later = inl refl
there-by Equal x y ys behind same later = inl (sym (same refl))
there-by Greater x y ys behind same later = inr later

module _ (entries : List Entry) where
  abbrev pub Above : List ℕ → List ℕ → Type 0
  Above a b = load_cmp entries a b ≡ Less

  rises-by : (o : Ordering) (x y : List ℕ) (ys behind : List (List ℕ)) → load_cmp entries x y ≡ o → Rises Above (y ∷ ys)
      → Rises Above behind
      → ((z : List ℕ) → Has z behind → (x ≡ z) ⊎ Has z ys) → Rises Above (put_by o x y ys behind)
  rises-by Less x y ys behind e rises later from = (
    (e, before_all Above x ys (λ z h. (load_total entries).trans x y z e (before_each Above y ys z rises.0 h))),
    rises,
  )
  rises-by Equal x y ys behind e rises later from = rises
  rises-by Greater x y ys behind e rises later from =
      let above : Above y x = (load_total entries).antisymm y x ∙ ap ordering_reverse e in (
        before_all Above y behind (λ z h. elim (from z h) [
          | inl q ↦ subst (Above y) q above
          | inr k ↦ before_each Above y ys z rises.0 k
        ]),
        later,
      )

  put-from : (x : List ℕ) (ys : List (List ℕ)) (z : List ℕ) → Has z (put_among entries x ys) → (x ≡ z) ⊎ Has z ys
  unfolding put_among
  put-from x [] z h = h
  put-from x (y ∷ ys) z h = from-by (load_cmp entries x y) x y ys (put_among entries x ys) z (put-from x ys z) h

  put-keeps : (x : List ℕ) (ys : List (List ℕ)) (z : List ℕ) → Has z ys → Has z (put_among entries x ys)
  unfolding put_among
  put-keeps x [] z h = absurd h
  put-keeps x (y ∷ ys) z h = keeps-by (load_cmp entries x y) x y ys (put_among entries x ys) z (put-keeps x ys z) h

  put-there : (x : List ℕ) (ys : List (List ℕ)) → ((y : List ℕ) → Has y ys → load_cmp entries x y ≡ Equal → x ≡ y)
      → Has x (put_among entries x ys)
  unfolding put_among
  put-there x [] same = inl refl
  put-there x (y ∷ ys) same =
      there-by (load_cmp entries x y) x y ys (put_among entries x ys) (same y (inl refl))
      (put-there x ys (λ z h. same z (inr h)))

  put-rises : (x : List ℕ) (ys : List (List ℕ)) → Rises Above ys → Rises Above (put_among entries x ys)
  unfolding put_among
  put-rises x [] rises = (tt, tt)
  put-rises x (y ∷ ys) rises =
      rises-by (load_cmp entries x y) x y ys (put_among entries x ys) refl rises (put-rises x ys rises.1)
      (put-from x ys)

  -- ---- each path put among those before it

  abbrev placed : List (List ℕ) → List (List ℕ) → List (List ℕ)
  placed order paths = fold (λ order path. put_among entries path order) order paths

  placed-from : (order paths : List (List ℕ)) (z : List ℕ) → Has z (placed order paths) → Has z order ⊎ Has z paths
  placed-from order [] z h = inl h
  placed-from order (path ∷ paths) z h =
      elim (placed-from (put_among entries path order) paths z h) [
        | inl k ↦ elim (put-from path order z k) [ inl e ↦ inr (inl e) | inr q ↦ inl q ]
        | inr k ↦ inr (inr k)
      ]

  placed-keeps : (order paths : List (List ℕ)) (z : List ℕ) → Has z order → Has z (placed order paths)
  placed-keeps order [] z h = h
  placed-keeps order (path ∷ paths) z h = placed-keeps (put_among entries path order) paths z (put-keeps path order z h)

  abbrev AreListed : List (List ℕ) → Type 0
  AreListed paths = (z : List ℕ) → Has z paths → Has z (cell_paths entries)

  placed-there : (order paths : List (List ℕ)) → AreListed order → AreListed paths → (z : List ℕ) → Has z paths
      → Has z (placed order paths)
  placed-there order [] before all z h = absurd h
  placed-there order (path ∷ paths) before all z (inl e) =
      let there = put-there path order (λ y h. tied-path entries path y (all path (inl refl)) (before y h)) in
      placed-keeps (put_among entries path order) paths z
      (subst (λ (q : List ℕ). Has q (put_among entries path order)) e there)
  placed-there order (path ∷ paths) before all z (inr h) =
      placed-there (put_among entries path order) paths
      (λ y k. elim (put-from path order y k) [
        | inl e ↦ subst (λ (q : List ℕ). Has q (cell_paths entries)) e (all path (inl refl))
        | inr q ↦ before y q
      ])
      (λ y k. all y (inr k)) z h

  placed-rises : (order paths : List (List ℕ)) → Rises Above order → Rises Above (placed order paths)
  placed-rises order [] rises = rises
  placed-rises order (path ∷ paths) rises =
      placed-rises (put_among entries path order) paths (put-rises path order rises)

  order-from : (z : List ℕ) → Has z (load_order_of entries) → Has z (cell_paths entries)
  unfolding load_order_of
  order-from z h = elim (placed-from [] (cell_paths entries) z h) [ inl k ↦ absurd k | inr k ↦ k ]

  order-there : (z : List ℕ) → Has z (cell_paths entries) → Has z (load_order_of entries)
  unfolding load_order_of
  order-there z h = placed-there [] (cell_paths entries) (λ y k. absurd k) (λ y k. k) z h

  order-rises : Rises Above (load_order_of entries)
  unfolding load_order_of
  order-rises = placed-rises [] (cell_paths entries) tt

  pub order-is : IsLoadOrder entries (load_order_of entries)
  order-is = record {
    paths = λ path. (
      λ h. has_in (cell_paths entries) path (order-from path (has_out (load_order_of entries) path h)),
      λ h. has_in (load_order_of entries) path (order-there path (has_out (cell_paths entries) path h)),
    );
    ordered = all_pairs Above (load_order_of entries) order-rises;
  }

  apart : (x y : List ℕ) → Above x y → Above y x → ⊥
  apart x y h k =
      let no : ◌≡◌ {A = Ordering} Less Greater = sym h ∙ (load_total entries).antisymm x y ∙ ap ordering_reverse k in
      absurd cc

  pub order-one : (order : List (List ℕ)) → IsLoadOrder entries order → order ≡ load_order_of entries
  order-one order is =
      one_list Above apart order (load_order_of entries) (rises_from Above order is.ordered) order-rises
      (λ z h. order-there z (has_out (cell_paths entries) z ((is.paths z).0 (has_in order z h))))
      (λ z h. has_out order z ((is.paths z).1 (has_in (cell_paths entries) z (order-from z h))))
