-- The data set that records are keeps what every data set keeps.
use Rattle.std.proofs.Common.{◌≡◌, ℕ, ◌≤◌, Bool, true, false, not, ◌&&◌, ◌||◌, eqb, List, [], ◌∷◌, map, Result, Ok, Err, refl, sym, ap, subst, ◌∙◌, inl, inr, All}
use Rattle.std.specs.Prelude.{codes, filter_map}
use Rattle.std.specs.List.{AllByRecursion}
use Rattle.std.proofs.lemmas.List.Elements.{All-from_recursion}
use Rattle.std.proofs.lemmas.Bool.{and_parts, and_from, eqb-true, eq-eqb, true≢false, cases_Bool}
use Rattle.common_lemmas.proofs.Choices.{chosen}
use Rattle.chart_model.specs.Dataset.{DatasetValue, IsDataset, IsPlainInsert}
use Rattle.chart_model.specs.Key.{IsKey}
use Rattle.s57_records.specs.declared.general.General.{General}
use Rattle.s57_records.specs.declared.fault.DatasetFault.{DatasetFault}
use Rattle.s57_records.specs.declared.fault.DatasetFault.TheVariants.{NoGeneral, Profile}
use Rattle.s57_records.specs.Subfields.{Subfields}
use Rattle.chart_model.specs.Answers.{◌>>=◌}
use Rattle.s57_subfields.specs.Number.{ONE_BYTE, TWO_BYTES}
use Rattle.s57_records.specs.Rows.{ensure, reads_as, checked_edition, general_of, checked_structure, scale_of, vector_of, feature_of}
use Rattle.s57_records.specs.Dataset.{Kind, general, parameters, vector, feature, other, kind_of, Said, change_is, scale_is, nothing, record_content, records_looked_at, all_of, change_in, scale_among, header_with, cancels, dataset_after, dataset_of}
use Rattle.s57_records.proofs.AnswerLemmas.{bind_then, ensure_ok, ok_is}
use Rattle.s57_records.proofs.Changes.{AreWithinLimits, HasKeys, vector_is_plain, feature_is_plain}

-- ---- general information

pub record IsGeneral (g : General) : Type 0 where
  pub key : IsKey g.key
  pub edition : g.edition ≤ 999999999
  pub update : g.update ≤ 999999999
  pub base : g.base ≡ true → g.edition ≡ 0 → ⊥

base_edition : (s : Subfields) (edition prof : ℕ) → not (eqb edition 0 && reads_as (s.number (codes "DSID") (codes "PROF") ONE_BYTE) 1) ≡ true → s.number (codes "DSID") (codes "PROF") ONE_BYTE ≡ Ok prof → eqb prof 1 ≡ true → edition ≡ 0 → ⊥
base_edition s edition prof test prof_e base none =
    let reads : reads_as (s.number (codes "DSID") (codes "PROF") ONE_BYTE) 1 ≡ true = ap (λ (x : Result ℕ DatasetFault). reads_as x 1) prof_e ∙ base in
    let both : (eqb edition 0 && reads_as (s.number (codes "DSID") (codes "PROF") ONE_BYTE) 1) ≡ true = and_from _ _ (eq-eqb edition 0 none) reads in
    true≢false (sym test ∙ ap not both)

-- the subfields that it is read from
record IsReadFrom (s : Subfields) (g : General) : Type 0 where
  key : s.key (codes "DSID") (codes "DSNM") ≡ Ok g.key
  edition : s.digits (codes "DSID") (codes "EDTN") ≡ Ok g.edition
  update : s.digits (codes "DSID") (codes "UPDN") ≡ Ok g.update
  base : g.base ≡ true → g.edition ≡ 0 → ⊥

general_from : (s : Subfields) (g : General) → general_of s ≡ Ok g → IsReadFrom s g
unfolding general_of
general_from s g e =
    bind_then (s.key (codes "DSID") (codes "DSNM")) _ g e (λ key key_e after_key.
    bind_then (s.digits (codes "DSID") (codes "EDTN")) _ g after_key (λ edition edition_e after_edition.
    bind_then (checked_edition s edition) _ g after_edition (λ _ test_e after_test.
    bind_then (s.digits (codes "DSID") (codes "UPDN")) _ g after_test (λ update update_e after_update.
    bind_then (s.date (codes "DSID") (codes "ISDT")) _ g after_update (λ issued issued_e after_issued.
    bind_then (s.number (codes "DSID") (codes "PROF") ONE_BYTE) _ g after_issued (λ prof prof_e after_prof.
    bind_then (ensure (eqb prof 1 || eqb prof 2) (Profile (codes "PROF"))) _ g after_prof (λ _ listed_e after_listed.
    bind_then (s.number (codes "DSID") (codes "AGEN") TWO_BYTES) _ g after_listed (λ agency agency_e made.
    subst (λ (h : General). IsReadFrom s h) (ok_is _ g made) (record {
      key = key_e;
      edition = edition_e;
      update = update_e;
      base = base_edition s edition prof (ensure_ok _ _ _ test_e) prof_e;
    })))))))))

pub general_is :
    (s : Subfields) (g : General) → AreWithinLimits s → IsKey g.key → general_of s ≡ Ok g → IsGeneral g
general_is s g limits keyed e =
    let from = general_from s g e in
    record {
      key = keyed;
      edition = limits.digits _ _ g.edition from.edition;
      update = limits.digits _ _ g.update from.update;
      base = from.base;
    }

-- ---- what the records after the first say

PlainSaid : Said → Type 0
PlainSaid (change_is change) = IsPlainInsert change
PlainSaid (scale_is scale) = Unit {0}
PlainSaid nothing = Unit {0}

said_is_plain : (n : ℕ) (s : Subfields) (kind : Kind) (said : Said) → record_content true n s kind ≡ Ok said → PlainSaid said
unfolding record_content PlainSaid
said_is_plain n s vector said e =
    bind_then (vector_of true n s) _ said e (λ change change_e made. subst PlainSaid (ok_is (change_is change) said made) (vector_is_plain n s change change_e))
said_is_plain n s feature said e =
    bind_then (feature_of true n s) _ said e (λ change change_e made. subst PlainSaid (ok_is (change_is change) said made) (feature_is_plain n s change change_e))
said_is_plain n s parameters said e =
    bind_then (scale_of s) _ said e (λ scale scale_e made. subst PlainSaid (ok_is (scale_is scale) said made) tt)
said_is_plain n s general said e = subst PlainSaid (ok_is nothing said e) tt
said_is_plain n s other said e = subst PlainSaid (ok_is nothing said e) tt

each_of : {A B : Type 0} (P : B → Type 0) (f : A → Result B DatasetFault) (xs : List A) (ys : List B) → ((x : A) (y : B) → f x ≡ Ok y → P y) → all_of (map f xs) ≡ Ok ys → AllByRecursion P ys
each_of P f [] ys each e = subst (AllByRecursion P) (ok_is [] ys e) tt
each_of {B = B} P f (x ∷ xs) ys each e =
    bind_then (f x) _ ys e (λ y y_e after_y.
    bind_then (all_of (map f xs)) _ ys after_y (λ rest rest_e made.
    subst (AllByRecursion P) (ok_is (y ∷ rest) ys made) (each x y y_e, each_of P f xs rest each rest_e)))

changes_are_plain : (said : List Said) → AllByRecursion PlainSaid said → AllByRecursion IsPlainInsert (filter_map change_in said)
unfolding PlainSaid
changes_are_plain [] each = tt
changes_are_plain (change_is change ∷ said) each = (each.0, changes_are_plain said each.1)
changes_are_plain (scale_is scale ∷ said) each = changes_are_plain said each.1
changes_are_plain (nothing ∷ said) each = changes_are_plain said each.1

all_plain : (rest : List (ℕ × Subfields)) (said : List Said) → all_of (map (λ r. record_content true r.0 r.1 (kind_of r.1)) rest) ≡ Ok said → All IsPlainInsert (filter_map change_in said)
all_plain rest said e =
    All-from_recursion IsPlainInsert (filter_map change_in said) (changes_are_plain said (each_of PlainSaid (λ (r : ℕ × Subfields). record_content true r.0 r.1 (kind_of r.1)) rest said (λ r y h. said_is_plain r.0 r.1 (kind_of r.1) y h) e))

-- ---- the whole

pub dataset_made : (g : General) (scale : ℕ) (said : List Said) → IsGeneral g → cancels g ≡ false → scale_among g.base said ≡ Ok scale → (g.base ≡ true → All IsPlainInsert (filter_map change_in said)) → IsDataset (record { header = header_with g scale; base = g.base; cancels = false; changes = filter_map change_in said })
dataset_made g scale said is stands scaled plain = record {
  key = is.key;
  edition = is.edition;
  update = is.update;
  cancels = (λ h. absurd (true≢false (sym h)), λ none. absurd (not_cancelled g none is stands));
  base_stands = λ h. absurd (true≢false (sym h));
  no_changes = λ h. absurd (true≢false (sym h));
  scale = λ update. sym (ok_is 0 scale (ap (λ (b : Bool). scale_among b said) (sym update) ∙ scaled));
  inserts = plain;
}
  where
    not_cancelled : (g : General) → g.edition ≡ 0 → IsGeneral g → cancels g ≡ false → ⊥
    not_cancelled g none is stands =
        elim (cases_Bool g.base) [
          | inl base ↦ is.base base none
          | inr update ↦ true≢false (sym (and_from (not g.base) (eqb g.edition 0) (ap not update) (eq-eqb g.edition 0 none)) ∙ stands)
        ]

pub cancelled : (g : General) → IsGeneral g → cancels g ≡ true → IsDataset (record { header = header_with g 0; base = false; cancels = true; changes = [] })
cancelled g is h = record {
  key = is.key;
  edition = is.edition;
  update = is.update;
  cancels = (λ _. eqb-true g.edition 0 (and_parts (not g.base) (eqb g.edition 0) h).1, λ _. refl);
  base_stands = λ _. refl;
  no_changes = λ _. refl;
  scale = λ _. refl;
  inserts = λ base. absurd (true≢false (sym base));
}

pub base_plain : (base : Bool) (rest : List (ℕ × Subfields)) (said : List Said) → all_of (map (λ r. record_content base r.0 r.1 (kind_of r.1)) rest) ≡ Ok said → base ≡ true → All IsPlainInsert (filter_map change_in said)
base_plain true rest said e is_base = all_plain rest said e
base_plain false rest said e is_base = absurd (true≢false (sym is_base))

after_is_dataset : (g : General) (first : Subfields) (rest : List Subfields) (value : DatasetValue) → IsGeneral g → dataset_after g first rest ≡ Ok value → IsDataset value
unfolding dataset_after
after_is_dataset g first rest value is e =
    elim (chosen (cancels g) _ _ (Ok value) e) [
      | inl h ↦ subst IsDataset (ok_is _ value h.1) (cancelled g is h.0)
      | inr h ↦
          bind_then (checked_structure first) _ value h.1 (λ _ structure_e after_structure.
          bind_then (all_of (map (λ r. record_content g.base r.0 r.1 (kind_of r.1)) (records_looked_at false 2 rest))) _ value after_structure (λ said said_e after_said.
          bind_then (scale_among g.base said) _ value after_said (λ scale scale_e made.
          subst IsDataset (ok_is _ value made) (dataset_made g scale said is h.0 scale_e (base_plain g.base (records_looked_at false 2 rest) said said_e)))))
    ]

pub dataset_is :
    (records : List Subfields) (value : DatasetValue) → AllByRecursion AreWithinLimits records → AllByRecursion HasKeys records →
    dataset_of records ≡ Ok value → IsDataset value
unfolding dataset_of
dataset_is [] value limits keyed e = absurd cc
dataset_is (first ∷ rest) value limits keyed e =
    elim (chosen (first.has (codes "DSID")) (general_of first >>= λ g. dataset_after g first rest) (Err NoGeneral) (Ok value) e) [
      | inl h ↦ bind_then (general_of first) _ value h.1 (λ g g_e after_g. after_is_dataset g first rest value (general_is first g limits.0 (keyed.0 _ _ g.key (general_from first g g_e).key) g_e) after_g)
      | inr h ↦ absurd (let none = h.1 in cc)
    ]
