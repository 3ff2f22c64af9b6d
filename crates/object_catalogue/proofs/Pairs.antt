-- Pairs of code and acronym, and the maps that hold them.
use Rattle.std.proofs.Common.{◌≡◌, ℕ, Bool, true, false, cond, ◌||◌, eqb, List, [], ◌∷◌, ◌++◌, Option, Some, refl, sym, ap, ◌∙◌, append_assoc, append-nil}
use Rattle.std.specs.List.{list_any}
use Rattle.std.specs.Str.{bytes_eq}
use Rattle.std.specs.Map.{keys_of, lookup}
use Rattle.indexmap.specs.IndexMap.{insert_entry}
use Rattle.object_catalogue.specs.declared.entry.Kind.{Kind}
use Rattle.object_catalogue.specs.declared.entry.Kind.TheVariants.{Class, Attribute}
use Rattle.object_catalogue.specs.declared.entry.Entry.{Entry}
use Rattle.object_catalogue.specs.Codes.{by_acronym, has_code, has_acronym, code_in, pairs_of, pair_if, catalogue_of, with_entry}

pub keys_with_code : (code : ℕ) (pairs : List (ℕ × List ℕ)) → list_any (eqb code) (keys_of pairs) ≡ has_code pairs code
keys_with_code code [] = refl
keys_with_code code (pair ∷ pairs) = ap (λ (b : Bool). eqb code pair.0 || b) (keys_with_code code pairs)

pub keys_with_acronym : (acronym : List ℕ) (pairs : List (ℕ × List ℕ)) → list_any (bytes_eq acronym) (keys_of (by_acronym pairs)) ≡ has_acronym pairs acronym
keys_with_acronym acronym [] = refl
keys_with_acronym acronym (pair ∷ pairs) = ap (λ (b : Bool). bytes_eq acronym pair.1 || b) (keys_with_acronym acronym pairs)

pub code_found : (acronym : List ℕ) (pairs : List (ℕ × List ℕ)) → lookup (bytes_eq acronym) (by_acronym pairs) ≡ code_in pairs acronym
unfolding code_in
code_found acronym [] = refl
code_found acronym (pair ∷ pairs) = ap (λ (o : Option ℕ). cond (bytes_eq acronym pair.1) (Some pair.0) o) (code_found acronym pairs)

left_false : (a b : Bool) → (a || b) ≡ false → a ≡ false
left_false true b h = h
left_false false b h = refl

right_false : (a b : Bool) → (a || b) ≡ false → b ≡ false
right_false true b h = absurd cc
right_false false b h = h

-- a new key goes behind the others
pub inserted_new : {K V : Type 0} (eq : K → K → Bool) (es : List (K × V)) (k : K) (v : V) → list_any (eq k) (keys_of es) ≡ false
    → insert_entry eq es k v ≡ es ++ (k, v) ∷ []
inserted_new eq [] k v h = refl
inserted_new {K} {V} eq (e ∷ es) k v h =
    ap (λ (b : Bool). cond b ((e.0, v) ∷ es) (e ∷ insert_entry eq es k v)) (left_false (eq k e.0) _ h)
    ∙ ap (λ (l : List (K × V)). e ∷ l) (inserted_new eq es k v (right_false (eq k e.0) _ h))

pub by_acronym-push : (pairs : List (ℕ × List ℕ)) (code : ℕ) (acronym : List ℕ) → by_acronym (pairs ++ (code, acronym) ∷ []) ≡ by_acronym pairs ++ (acronym, code) ∷ []
by_acronym-push [] code acronym = refl
by_acronym-push (pair ∷ pairs) code acronym = ap (λ (l : List (List ℕ × ℕ)). (pair.1, pair.0) ∷ l) (by_acronym-push pairs code acronym)

-- ---- entries

pairs_of-append : (kind : Kind) (xs ys : List Entry) → pairs_of kind (xs ++ ys) ≡ pairs_of kind xs ++ pairs_of kind ys
unfolding pairs_of
pairs_of-append kind [] ys = refl
pairs_of-append kind (x ∷ xs) ys =
    ap (λ (l : List (ℕ × List ℕ)). pair_if kind x.kind x.code x.acronym ++ l) (pairs_of-append kind xs ys)
    ∙ sym (append_assoc (pair_if kind x.kind x.code x.acronym) (pairs_of kind xs) (pairs_of kind ys))

pairs_of-one : (kind : Kind) (entry : Entry) → pairs_of kind (entry ∷ []) ≡ pair_if kind entry.kind entry.code entry.acronym
unfolding pairs_of
pairs_of-one kind entry = append-nil (pair_if kind entry.kind entry.code entry.acronym)

pub catalogue-push : (entries : List Entry) (entry : Entry) → catalogue_of (entries ++ entry ∷ []) ≡ with_entry (catalogue_of entries) entry
catalogue-push entries entry = λ i. record {
  classes = (pairs_of-append Class entries (entry ∷ []) ∙ ap (λ (l : List (ℕ × List ℕ)). pairs_of Class entries ++ l) (pairs_of-one Class entry)) i;
  attributes = (pairs_of-append Attribute entries (entry ∷ []) ∙ ap (λ (l : List (ℕ × List ℕ)). pairs_of Attribute entries ++ l) (pairs_of-one Attribute entry)) i;
}
