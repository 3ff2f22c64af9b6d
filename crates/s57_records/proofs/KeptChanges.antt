-- The changes of a data set keep what every change keeps.
use Rattle.std.proofs.Common.{◌≡◌, ℕ, suc, Bool, true, false, cond, List, [], ◌∷◌, map, Result, Ok, Err, subst, inl, inr, All}
use Rattle.std.specs.Prelude.{codes, filter_map}
use Rattle.std.specs.List.{AllByRecursion}
use Rattle.std.proofs.lemmas.List.Elements.{All-from_recursion}
use Rattle.common_lemmas.proofs.Choices.{chosen}
use Rattle.chart_model.specs.Change.{IsChange}
use Rattle.chart_model.specs.Dataset.{DatasetValue}
use Rattle.s57_records.specs.declared.general.General.{General}
use Rattle.s57_records.specs.declared.fault.DatasetFault.{DatasetFault}
use Rattle.s57_records.specs.declared.fault.DatasetFault.TheVariants.{NoGeneral}
use Rattle.s57_records.specs.Subfields.{Subfields}
use Rattle.chart_model.specs.Answers.{◌>>=◌}
use Rattle.s57_records.specs.Rows.{general_of, checked_structure, scale_of, vector_of, feature_of}
use Rattle.s57_records.specs.Dataset.{Kind, general, parameters, vector, feature, other, kind_of, is_parameters, Said, change_is, scale_is, nothing, record_content, records_looked_at, all_of, change_in, scale_among, cancels, dataset_after, dataset_of}
use Rattle.s57_records.proofs.AnswerLemmas.{bind_then, ok_is}
use Rattle.s57_records.proofs.Changes.{AreWithinLimits, All-nil, vector_is_change, feature_is_change}

KeptSaid : Said → Type 0
KeptSaid (change_is change) = IsChange change
KeptSaid (scale_is scale) = Unit {0}
KeptSaid nothing = Unit {0}

said_is_kept : (base : Bool) (n : ℕ) (s : Subfields) (kind : Kind) (said : Said) → AreWithinLimits s → record_content base n s kind ≡ Ok said → KeptSaid said
unfolding record_content KeptSaid
said_is_kept base n s vector said limits e =
    bind_then (vector_of base n s) _ said e (λ change change_e made. subst KeptSaid (ok_is (change_is change) said made) (vector_is_change base n s change limits change_e))
said_is_kept base n s feature said limits e =
    bind_then (feature_of base n s) _ said e (λ change change_e made. subst KeptSaid (ok_is (change_is change) said made) (feature_is_change base n s change limits change_e))
said_is_kept true n s parameters said limits e =
    bind_then (scale_of s) _ said e (λ scale scale_e made. subst KeptSaid (ok_is (scale_is scale) said made) tt)
said_is_kept false n s parameters said limits e = subst KeptSaid (ok_is nothing said e) tt
said_is_kept base n s general said limits e = subst KeptSaid (ok_is nothing said e) tt
said_is_kept base n s other said limits e = subst KeptSaid (ok_is nothing said e) tt

-- the records that are looked at are among all
looked_within : (seen : Bool) (n : ℕ) (records : List Subfields) → AllByRecursion AreWithinLimits records → AllByRecursion (λ (r : ℕ × Subfields). AreWithinLimits r.1) (records_looked_at seen n records)
looked_within seen n [] limits = tt
looked_within true n (s ∷ rest) limits =
    elim (is_parameters (kind_of s)) as (λ b. AllByRecursion (λ (r : ℕ × Subfields). AreWithinLimits r.1) (cond b (records_looked_at true (suc n) rest) ((n, s) ∷ records_looked_at true (suc n) rest))) [
      | true ↦ looked_within true (suc n) rest limits.1
      | false ↦ (limits.0, looked_within true (suc n) rest limits.1)
    ]
looked_within false n (s ∷ rest) limits =
    elim (is_parameters (kind_of s)) as (λ b. AllByRecursion (λ (r : ℕ × Subfields). AreWithinLimits r.1) (cond b ((n, s) ∷ records_looked_at true (suc n) rest) ((n, s) ∷ records_looked_at false (suc n) rest))) [
      | true ↦ (limits.0, looked_within true (suc n) rest limits.1)
      | false ↦ (limits.0, looked_within false (suc n) rest limits.1)
    ]

each_of : {A B : Type 0} (Q : A → Type 0) (P : B → Type 0) (f : A → Result B DatasetFault) (xs : List A) (ys : List B) → ((x : A) (y : B) → Q x → f x ≡ Ok y → P y) → AllByRecursion Q xs → all_of (map f xs) ≡ Ok ys → AllByRecursion P ys
each_of Q P f [] ys each limits e = subst (AllByRecursion P) (ok_is [] ys e) tt
each_of Q P f (x ∷ xs) ys each limits e =
    bind_then (f x) _ ys e (λ y y_e after_y.
    bind_then (all_of (map f xs)) _ ys after_y (λ rest rest_e made.
    subst (AllByRecursion P) (ok_is (y ∷ rest) ys made) (each x y limits.0 y_e, each_of Q P f xs rest each limits.1 rest_e)))

changes_kept : (said : List Said) → AllByRecursion KeptSaid said → AllByRecursion IsChange (filter_map change_in said)
unfolding KeptSaid
changes_kept [] each = tt
changes_kept (change_is change ∷ said) each = (each.0, changes_kept said each.1)
changes_kept (scale_is scale ∷ said) each = changes_kept said each.1
changes_kept (nothing ∷ said) each = changes_kept said each.1

after_is_kept : (g : General) (first : Subfields) (rest : List Subfields) (value : DatasetValue) → AllByRecursion AreWithinLimits rest → dataset_after g first rest ≡ Ok value → All IsChange value.changes
unfolding dataset_after
after_is_kept g first rest value limits e =
    elim (chosen (cancels g) _ _ (Ok value) e) [
      | inl h ↦ subst (λ (d : DatasetValue). All IsChange d.changes) (ok_is _ value h.1) (All-nil IsChange)
      | inr h ↦
          bind_then (checked_structure first) _ value h.1 (λ _ structure_e after_structure.
          bind_then (all_of (map (λ r. record_content g.base r.0 r.1 (kind_of r.1)) (records_looked_at false 2 rest))) _ value after_structure (λ said said_e after_said.
          bind_then (scale_among g.base said) _ value after_said (λ scale scale_e made.
          subst (λ (d : DatasetValue). All IsChange d.changes) (ok_is _ value made)
          (All-from_recursion IsChange (filter_map change_in said)
          (changes_kept said
          (each_of (λ (r : ℕ × Subfields). AreWithinLimits r.1) KeptSaid (λ (r : ℕ × Subfields). record_content g.base r.0 r.1 (kind_of r.1)) (records_looked_at false 2 rest) said
          (λ r y s h. said_is_kept g.base r.0 r.1 (kind_of r.1) y s h) (looked_within false 2 rest limits) said_e))))))
    ]

pub changes_are : (records : List Subfields) (value : DatasetValue) → AllByRecursion AreWithinLimits records → dataset_of records ≡ Ok value → All IsChange value.changes
unfolding dataset_of
changes_are [] value limits e = absurd cc
changes_are (first ∷ rest) value limits e =
    elim (chosen (first.has (codes "DSID")) (general_of first >>= λ g. dataset_after g first rest) (Err NoGeneral) (Ok value) e) [
      | inl h ↦ bind_then (general_of first) _ value h.1 (λ g g_e after_g. after_is_kept g first rest value limits.1 after_g)
      | inr h ↦ absurd (let none = h.1 in cc)
    ]
