-- The tests of lists of files say whether they are update sequences.
use Rattle.std.proofs.Common.{◌≡◌, ◌≤◌, ℕ, Bool, true, false, ◌&&◌, ◌||◌, leb, List, [], ◌∷◌, ◌++◌, length}
use Rattle.std.proofs.Common.{Result, Ok, Err, refl, sym, ◌∙◌, ap, subst, arith}
use Rattle.std.proofs.lemmas.Bool.{true≢false, and_parts, and_from, not-true}
use Rattle.std.proofs.lemmas.Bool.Decides.{nat_tests}
use Rattle.std.proofs.lemmas.List.{append_assoc, append-nil}
use Rattle.std.specs.Cmp.{tied_itself}
use Rattle.std.specs.Result.{is_ok}
use Rattle.std.specs.declared.cmp.Ordering.{Ordering}
use Rattle.std.specs.declared.cmp.Ordering.TheVariants.{Less, Equal, Greater}
use Rattle.std.specs.Ordering.{is_eq, eq_by_cmp}
use Rattle.chart_model.specs.Dataset.{DatasetValue}
use Rattle.chart_model.specs.Keys.{key_cmp}
use Rattle.chart_model.specs.State.{IsFileLength}
use Rattle.chart_model.proofs.Keys.{key_cmp-total, key_cmp-IsAntisymmetric}
use Rattle.update_sequence.specs.Reading.{data_set_in}
use Rattle.update_sequence.specs.Judged.{judged}
use Rattle.update_sequence.specs.Rebuilt.{held_by}
use Rattle.update_sequence.specs.Sequence.{Follows, IsUpdateSequence, is_in_order, is_next_read, may_follow, may_all_follow}
use Rattle.update_sequence.specs.Sequence.{is_update_sequence}
use Rattle.update_sequence.specs.declared.fault.ReadFault.{ReadFault}
use Rattle.update_sequence.proofs.Lists.{cons_is, no_item}

tied : (r : Ordering) → is_eq r ≡ true → r ≡ Equal
tied Less e = absurd (true≢false (sym e))
tied Equal e = refl
tied Greater e = absurd (true≢false (sym e))

same_key : (p q : List ℕ) → eq_by_cmp key_cmp p q ≡ true → p ≡ q
same_key p q e = key_cmp-IsAntisymmetric p q (tied (key_cmp p q) e)

key_itself : (p q : List ℕ) → p ≡ q → eq_by_cmp key_cmp p q ≡ true
key_itself p q e = subst (λ (r : List ℕ). eq_by_cmp key_cmp p r ≡ true) e (ap is_eq (tied_itself key_cmp-total p))

-- ---- the order

first-is : (base : Bool) (before : List (List ℕ)) → is_in_order base before ≡ true →
    (base ≡ true → before ≡ []) × (before ≡ [] → base ≡ true)
first-is base [] e = (λ _. refl, λ _. e)
first-is base (file ∷ before) e = (λ so. absurd (true≢false (sym so ∙ not-true base e)), λ none. absurd cc)

first-tested : (base : Bool) (before : List (List ℕ)) → (base ≡ true → before ≡ []) → (before ≡ [] → base ≡ true) →
    is_in_order base before ≡ true
first-tested base [] there back = back refl
first-tested true (file ∷ before) there back = absurd (let none = there refl in cc)
first-tested false (file ∷ before) there back = refl

-- ---- one file

builds-is : (cancels b : Bool) → (cancels || b) ≡ true → cancels ≡ false → b ≡ true
builds-is true b e stands = absurd (true≢false stands)
builds-is false b e stands = e

builds-tested : (cancels b : Bool) → (cancels ≡ false → b ≡ true) → (cancels || b) ≡ true
builds-tested true b h = refl
builds-tested false b h = h refl

pub follows-is : (key : List ℕ) (before : List (List ℕ)) (file : List ℕ) → may_follow key before file ≡ true →
    Follows key before file
follows-is key before file e =
    let parts = and_parts (leb (length file) 8388608) (is_next_read key before (data_set_in file)) e in
    reading (data_set_in file) refl (let short : length file ≤ 8388608 = grind (arith, nat_tests, parts.0) in short) parts.1
  where
    reading : (r : Result DatasetValue ReadFault) → data_set_in file ≡ r → IsFileLength (length file) →
        is_next_read key before r ≡ true → Follows key before file
    reading (Err fault) reads short e = absurd (true≢false (sym e))
    reading (Ok dataset) reads short e =
        let a = and_parts ((eq_by_cmp key_cmp dataset.header.key key && is_in_order dataset.base before)
        && is_ok (judged (held_by before) dataset)) _ e in
        let b = and_parts (eq_by_cmp key_cmp dataset.header.key key && is_in_order dataset.base before) _ a.0 in
        let c = and_parts (eq_by_cmp key_cmp dataset.header.key key) _ b.0 in
        record {
          dataset = dataset;
          short = short;
          reads = reads;
          keyed = same_key dataset.header.key key c.0;
          first = first-is dataset.base before c.1;
          accepted = b.1;
          builds = builds-is dataset.cancels _ a.1;
        }

pub follows-tested : (key : List ℕ) (before : List (List ℕ)) (file : List ℕ) → Follows key before file →
    may_follow key before file ≡ true
follows-tested key before file h =
    and_from (leb (length file) 8388608) (is_next_read key before (data_set_in file))
    (let short : length file ≤ 8388608 = h.short in grind (arith, nat_tests))
    (ap (is_next_read key before) h.reads
    ∙ and_from _ _
    (and_from _ _
    (and_from _ _ (key_itself h.dataset.header.key key h.keyed)
    (first-tested h.dataset.base before h.first.0 h.first.1))
    h.accepted)
    (builds-tested h.dataset.cancels _ h.builds))

-- ---- files one after the other

pub all-follow : (key : List ℕ) (front rest : List (List ℕ)) → may_all_follow key front rest ≡ true →
    (before after : List (List ℕ)) (file : List ℕ) → rest ≡ before ++ file ∷ after →
    Follows key (front ++ before) file
all-follow key front [] e before after file is = absurd (no_item before after file is)
all-follow key front (first ∷ rest) e [] after file is =
    let parts = and_parts (may_follow key front first) _ e in
    subst (λ (f : List ℕ). Follows key (front ++ []) f) (cons_is is).0
    (subst (λ (b : List (List ℕ)). Follows key b first) (sym (append-nil front)) (follows-is key front first parts.0))
all-follow key front (first ∷ rest) e (next ∷ before) after file is =
    let parts = and_parts (may_follow key front first) _ e in
    subst (λ (f : List ℕ). Follows key (front ++ f ∷ before) file) (cons_is is).0
    (subst (λ (b : List (List ℕ)). Follows key b file) (append_assoc front (first ∷ []) before)
    (all-follow key (front ++ first ∷ []) rest parts.1 before after file (cons_is is).1))

pub all-tested : (key : List ℕ) (front rest : List (List ℕ)) →
    ((before after : List (List ℕ)) (file : List ℕ) → rest ≡ before ++ file ∷ after →
    Follows key (front ++ before) file) → may_all_follow key front rest ≡ true
all-tested key front [] h = refl
all-tested key front (first ∷ rest) h =
    and_from (may_follow key front first) _
    (follows-tested key front first (subst (λ (b : List (List ℕ)). Follows key b first) (append-nil front)
    (h [] rest first refl)))
    (all-tested key (front ++ first ∷ []) rest (λ before after file is.
    subst (λ (b : List (List ℕ)). Follows key b file) (sym (append_assoc front (first ∷ []) before))
    (h (first ∷ before) after file (ap (λ (l : List (List ℕ)). first ∷ l) is))))

-- ---- lists

pub sequence-is : (key : List ℕ) (files : List (List ℕ)) → is_update_sequence key files ≡ true → IsUpdateSequence key files
unfolding is_update_sequence
sequence-is key [] e = absurd (true≢false (sym e))
sequence-is key (file ∷ rest) e = record { some = λ none. cc; each = all-follow key [] (file ∷ rest) e }

pub sequence-tested : (key : List ℕ) (files : List (List ℕ)) → IsUpdateSequence key files → is_update_sequence key files ≡ true
unfolding is_update_sequence
sequence-tested key [] h = absurd (h.some refl)
sequence-tested key (file ∷ rest) h = all-tested key [] (file ∷ rest) h.each
