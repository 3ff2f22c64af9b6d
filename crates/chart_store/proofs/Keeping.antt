-- What a rollback keeps of a list of files.
use Rattle.std.proofs.Common.{◌≡◌, ◌≢◌, ℕ, ◌+◌, ◌<◌, ◌≤◌, Bool, true, false, cond, not, ◌&&◌, ◌==◌, List, [], ◌∷◌, ◌++◌}
use Rattle.std.proofs.Common.{length, get_or, take, drop, map, Option, Some, None, option_map, Result, Ok, Err, refl, sym}
use Rattle.std.proofs.Common.{◌∙◌, ap, subst, arith, inl, inr, zero, suc}
use Rattle.std.proofs.lemmas.Bool.{true≢false, and_parts, and_from, not-true, eqb-true, cases_Bool, cases_lt}
use Rattle.std.proofs.lemmas.Bool.Decides.{nat_tests}
use Rattle.std.proofs.lemmas.List.{append_assoc, take_more, take-append-drop, take-append-le, length-append, get_or_append_left}
use Rattle.std.proofs.lemmas.List.Sums.{sum_by-append, sum_by_more_le}
use Rattle.std.specs.List.{AllByRecursion}
use Rattle.std.specs.Prelude.{find, ◌↔◌}
use Rattle.chart_model.specs.Dataset.{DatasetValue}
use Rattle.iso8211_records.specs.RecordFile.{data_records_in}
use Rattle.update_sequence.specs.Reading.{data_set_in, tags_read}
use Rattle.update_sequence.specs.Rebuilt.{data_records_of}
use Rattle.update_sequence.specs.Sequence.{Follows, IsUpdateSequence, is_update_sequence}
use Rattle.update_sequence.specs.declared.fault.ReadFault.{ReadFault}
use Rattle.chart_store.specs.Loaded.{bytes_of}
use Rattle.chart_store.specs.KeptFiles.{is_update, has_update, ends_with, beginnings, may_keep, kept_by}
use Rattle.chart_store.specs.KeptFiles.{EndsWith, MayKeep, IsShortestKept}

-- ---- the first list that passes a test

find-map : {A B : Type 0} (p : B → Bool) (f : A → B) (xs : List A) →
    find p (map f xs) ≡ option_map f (find (λ x. p (f x)) xs)
find-map p f [] = refl
find-map p f (x ∷ xs) =
    elim (p (f x)) as (λ b. cond b (Some (f x)) (find p (map f xs)) ≡ option_map f (cond b (Some x)
    (find (λ y. p (f y)) xs))) [
      | true ↦ refl
      | false ↦ find-map p f xs
    ]

-- the test of a list that begins another is one of its last item
abbrev Agree : {A : Type 0} → (List A → Bool) → (A → Bool) → List A → Type 0
Agree {A} p q xs = (before after : List A) (x : A) → xs ≡ before ++ x ∷ after → p (before ++ x ∷ []) ≡ q x

agree-next : {A : Type 0} (p : List A → Bool) (q : A → Bool) (z : A) (xs : List A) → Agree p q (z ∷ xs) →
    Agree (λ begun. p (z ∷ begun)) q xs
agree-next {A} p q z xs agree before after x e = agree (z ∷ before) after x (ap (λ (l : List A). z ∷ l) e)

first-passes : {A : Type 0} (p : List A → Bool) (q : A → Bool) (before : List A) (x : A) (after : List A) →
    Agree p q (before ++ x ∷ []) → AllByRecursion (λ y. q y ≡ false) before → q x ≡ true →
    find p (beginnings (before ++ x ∷ after)) ≡ Some (before ++ x ∷ [])
first-passes {A} p q [] x after agree none passes =
    ap (λ b. cond b (Some (x ∷ [])) (find p (map (λ (l : List A). x ∷ l) (beginnings after))))
    (agree [] [] x refl ∙ passes)
first-passes {A} p q (z ∷ before) x after agree none passes =
    ap (λ b. cond b (Some (z ∷ [])) (find p (map (λ (l : List A). z ∷ l) (beginnings (before ++ x ∷ after)))))
    (agree [] (before ++ x ∷ []) z refl ∙ none.0)
    ∙ find-map p (λ (l : List A). z ∷ l) (beginnings (before ++ x ∷ after))
    ∙ ap (option_map (λ (l : List A). z ∷ l))
    (first-passes (λ (l : List A). p (z ∷ l)) q before x after (agree-next p q z (before ++ x ∷ []) agree) none.1
    passes)

none-passes : {A : Type 0} (p : List A → Bool) (xs : List A) →
    ((begun rest : List A) → xs ≡ begun ++ rest → begun ≢ [] → p begun ≡ false) → find p (beginnings xs) ≡ None
none-passes p [] none = refl
none-passes {A} p (z ∷ xs) none =
    ap (λ b. cond b (Some (z ∷ [])) (find p (map (λ (l : List A). z ∷ l) (beginnings xs))))
    (none (z ∷ []) xs refl (λ e. cc))
    ∙ find-map p (λ (l : List A). z ∷ l) (beginnings xs)
    ∙ ap (option_map (λ (l : List A). z ∷ l))
    (none-passes (λ (l : List A). p (z ∷ l)) xs
    (λ begun rest parts some. none (z ∷ begun) rest (ap (λ (l : List A). z ∷ l) parts) (λ e. cc)))

-- ---- the end of a list

ends-push : (number : ℕ) (files : List (List ℕ)) (file : List ℕ) →
    ends_with number (files ++ file ∷ []) ≡ has_update number file
ends-push number [] file = refl
ends-push number (first ∷ []) file = refl
ends-push number (first ∷ next ∷ files) file = ends-push number (next ∷ files) file

-- ---- files that are found one after the other

-- the laws of update sequences
pub record Sequences : Type 0 where
  pub tested : (key : List ℕ) (files : List (List ℕ)) → (is_update_sequence key files ≡ true) ↔ IsUpdateSequence key files
  pub before : (key : List ℕ) (files rest : List (List ℕ)) → files ≢ [] → IsUpdateSequence key (files ++ rest) →
      IsUpdateSequence key files

no_files : (files : List (List ℕ)) (file : List ℕ) → files ++ file ∷ [] ≢ []
no_files [] file e = cc
no_files (first ∷ files) file e = cc

agree-keep : (sequences : Sequences) (key : List ℕ) (number : ℕ) (files : List (List ℕ)) → IsUpdateSequence key files →
    Agree (may_keep key number) (has_update number) files
agree-keep sequences key number files sequence before after file e =
    let whole : files ≡ (before ++ file ∷ []) ++ after = e ∙ sym (append_assoc before (file ∷ []) after) in
    let so = sequences.before key (before ++ file ∷ []) after (no_files before file)
    (subst (IsUpdateSequence key) whole sequence) in
    ap (λ b. b && ends_with number (before ++ file ∷ [])) ((sequences.tested key (before ++ file ∷ [])).1 so)
    ∙ ends-push number before file

around : (files : List (List ℕ)) (i : ℕ) (file : List ℕ) → i < length files → file ≡ get_or files i file →
    files ≡ take i files ++ file ∷ drop (i + 1) files
around files i file below is =
    sym (take-append-drop (i + 1) files)
    ∙ ap (λ (l : List (List ℕ)). l ++ drop (i + 1) files) (take_more files i file below ∙ ap (λ (f : List ℕ). take i files ++ f ∷ []) (sym is))
    ∙ append_assoc (take i files) (file ∷ []) (drop (i + 1) files)

pub take-next : (files : List (List ℕ)) (i : ℕ) (file : List ℕ) → i < length files → file ≡ get_or files i file →
    take (i + 1) files ≡ take i files ++ file ∷ []
take-next files i file below is = take_more files i file below ∙ ap (λ (f : List ℕ). take i files ++ f ∷ []) (sym is)

pub kept-first : (sequences : Sequences) (key : List ℕ) (number : ℕ) (files : List (List ℕ)) (i : ℕ) (file : List ℕ) →
    IsUpdateSequence key (take i files ++ file ∷ []) → i < length files → file ≡ get_or files i file →
    AllByRecursion (λ f. has_update number f ≡ false) (take i files) → has_update number file ≡ true →
    kept_by key number files ≡ Some (take i files ++ file ∷ [])
unfolding kept_by
kept-first sequences key number files i file sequence below is none has =
    ap (λ (l : List (List ℕ)). find (may_keep key number) (beginnings l)) (around files i file below is)
    ∙ first-passes (may_keep key number) (has_update number) (take i files) file (drop (i + 1) files)
    (agree-keep sequences key number (take i files ++ file ∷ []) sequence) none has

-- one more file that has not the number
pub none-next : (number : ℕ) (files : List (List ℕ)) (file : List ℕ) →
    AllByRecursion (λ f. has_update number f ≡ false) files → has_update number file ≡ false →
    AllByRecursion (λ f. has_update number f ≡ false) (files ++ file ∷ [])
none-next number [] file none has = (has, tt)
none-next number (first ∷ files) file none has = (none.0, none-next number files file none.1 has)

-- ---- what is kept

pub some_is : {A : Type 0} {x y : A} → ◌≡◌ {A = Option A} (Some x) (Some y) → x ≡ y
some_is e = cc

cons_is : {A : Type 0} {x y : A} {xs ys : List A} → ◌≡◌ {A = List A} (x ∷ xs) (y ∷ ys) → (x ≡ y) × (xs ≡ ys)
cons_is e = (cc, cc)

-- the first list that passes: it begins the other, passes, and none that is shorter does
record Found {A : Type 0} (p : List A → Bool) (xs found : List A) : Type 0 where
  rest : List A
  begins : xs ≡ found ++ rest
  passes : p found ≡ true
  shortest : (less more : List A) → found ≡ less ++ more → more ≢ [] → less ≢ [] → p less ≡ false

mapped-some : {A B : Type 0} (f : A → B) (o : Option A) (y : B) → option_map f o ≡ Some y →
    (x : A) × (o ≡ Some x) × (f x ≡ y)
mapped-some f None y e = absurd cc
mapped-some f (Some x) y e = (x, refl, some_is e)

no_more : {A : Type 0} (x : A) (less more : List A) → x ∷ [] ≡ less ++ more → more ≢ [] → less ≢ [] → ⊥
no_more x [] more e some there = there refl
no_more x (y ∷ []) more e some there = some (sym (cons_is e).1)
no_more x (y ∷ z ∷ less) more e some there = let f = (cons_is e).1 in cc

shorter : {A : Type 0} (p : List A → Bool) (x : A) (kept : List A) → p (x ∷ []) ≡ false →
    ((less more : List A) → kept ≡ less ++ more → more ≢ [] → less ≢ [] → p (x ∷ less) ≡ false) →
    (less more : List A) → x ∷ kept ≡ less ++ more → more ≢ [] → less ≢ [] → p less ≡ false
shorter {A} p x kept alone later [] more parts some there = absurd (there refl)
shorter {A} p x kept alone later (y ∷ []) more parts some there =
    ap (λ (w : A). p (w ∷ [])) (sym (cons_is parts).0) ∙ alone
shorter {A} p x kept alone later (y ∷ z ∷ less) more parts some there =
    ap (λ (w : A). p (w ∷ z ∷ less)) (sym (cons_is parts).0)
    ∙ later (z ∷ less) more (cons_is parts).1 some (λ none. cc)

found-next : {A : Type 0} (p : List A → Bool) (x : A) (xs found : List A) → ((kept : List A) →
    find (λ (l : List A). p (x ∷ l)) (beginnings xs) ≡ Some kept → Found (λ (l : List A). p (x ∷ l)) xs kept) →
    (b : Bool) → p (x ∷ []) ≡ b →
    cond b (Some (x ∷ [])) (find p (map (λ (l : List A). x ∷ l) (beginnings xs))) ≡ Some found → Found p (x ∷ xs) found
found-next {A} p x xs found next true is e =
    subst (Found p (x ∷ xs)) (some_is e) (record {
      rest = xs;
      begins = refl;
      passes = is;
      shortest = λ less more parts some there. absurd (no_more x less more parts some there);
    })
found-next {A} p x xs found next false is e =
    let m = mapped-some (λ (l : List A). x ∷ l) (find (λ (l : List A). p (x ∷ l)) (beginnings xs)) found
    (sym (find-map p (λ (l : List A). x ∷ l) (beginnings xs)) ∙ e) in
    let f = next m.0 m.1 in
    subst (Found p (x ∷ xs)) m.2 (record {
      rest = f.rest;
      begins = ap (λ (l : List A). x ∷ l) f.begins;
      passes = f.passes;
      shortest = shorter p x m.0 is f.shortest;
    })

first-found : {A : Type 0} (p : List A → Bool) (xs found : List A) → find p (beginnings xs) ≡ Some found →
    Found p xs found
first-found p [] found e = absurd cc
first-found {A} p (x ∷ xs) found e =
    found-next p x xs found (λ kept is. first-found (λ (l : List A). p (x ∷ l)) xs kept is) (p (x ∷ [])) refl e

unmapped : {A B : Type 0} (f : A → B) (o : Option A) → option_map f o ≡ None → o ≡ None
unmapped f None e = refl
unmapped f (Some l) e = absurd cc

none-next-found : {A : Type 0} (p : List A → Bool) (x : A) (xs rest : List A) → (find (λ (l : List A). p (x ∷ l))
    (beginnings xs) ≡ None → (begun : List A) → xs ≡ begun ++ rest → begun ≢ [] → p (x ∷ begun) ≡ false) → (b : Bool) →
    p (x ∷ []) ≡ b → cond b (Some (x ∷ [])) (find p (map (λ (l : List A). x ∷ l) (beginnings xs))) ≡ None →
    (begun : List A) → x ∷ xs ≡ begun ++ rest → begun ≢ [] → p begun ≡ false
none-next-found {A} p x xs rest next true is e begun parts some = absurd cc
none-next-found {A} p x xs rest next false is e [] parts some = absurd (some refl)
none-next-found {A} p x xs rest next false is e (y ∷ []) parts some =
    ap (λ (w : A). p (w ∷ [])) (sym (cons_is parts).0) ∙ is
none-next-found {A} p x xs rest next false is e (y ∷ z ∷ begun) parts some =
    ap (λ (w : A). p (w ∷ z ∷ begun)) (sym (cons_is parts).0)
    ∙ next (unmapped _ _ (sym (find-map p (λ (l : List A). x ∷ l) (beginnings xs)) ∙ e)) (z ∷ begun)
    (cons_is parts).1 (λ none. cc)

none-found : {A : Type 0} (p : List A → Bool) (xs : List A) → find p (beginnings xs) ≡ None →
    (begun rest : List A) → xs ≡ begun ++ rest → begun ≢ [] → p begun ≡ false
none-found p [] e [] rest parts some = absurd (some refl)
none-found p [] e (y ∷ begun) rest parts some = absurd cc
none-found {A} p (x ∷ xs) e begun rest parts some =
    none-next-found p x xs rest (λ none later is there. none-found (λ (l : List A). p (x ∷ l)) xs none later rest is there)
    (p (x ∷ [])) refl e begun parts some

-- the files that are kept begin the list, and are an update sequence
pub record Begins (key : List ℕ) (number : ℕ) (files kept : List (List ℕ)) : Type 0 where
  pub rest : List (List ℕ)
  pub begins : files ≡ kept ++ rest
  pub sequence : is_update_sequence key kept ≡ true

pub kept-begins : (key : List ℕ) (number : ℕ) (files kept : List (List ℕ)) → kept_by key number files ≡ Some kept →
    Begins key number files kept
unfolding kept_by
kept-begins key number files kept e =
    let f = first-found (may_keep key number) files kept e in
    record { rest = f.rest; begins = f.begins; sequence = (and_parts (is_update_sequence key kept) (ends_with number kept) f.passes).0 }

-- the data records of what is kept are among those of the files
pub data_records-kept : (key : List ℕ) (number : ℕ) (files kept : List (List ℕ)) → kept_by key number files ≡ Some kept →
    data_records_of kept ≤ data_records_of files
data_records-kept key number files kept e =
    let b = kept-begins key number files kept e in
    omega (arith, ap data_records_of b.begins, sum_by-append (data_records_in tags_read) kept b.rest)

-- the bytes of what is kept are among those of the files
pub bytes-kept : (key : List ℕ) (number : ℕ) (files kept : List (List ℕ)) → kept_by key number files ≡ Some kept →
    bytes_of kept ≤ bytes_of files
bytes-kept key number files kept e =
    let b = kept-begins key number files kept e in
    omega (arith, ap bytes_of b.begins, sum_by-append length kept b.rest)

pub records-within : (files : List (List ℕ)) (i : ℕ) (file : List ℕ) → i < length files → file ≡ get_or files i file →
    data_records_of (take i files) + data_records_in tags_read file ≤ data_records_of files
records-within files i file below is =
    subst (λ (f : List ℕ). data_records_of (take i files) + data_records_in tags_read f ≤ data_records_of files) (sym is)
    (sum_by_more_le (data_records_in tags_read) files i file below)

eqb-itself : (m n : ℕ) → m ≡ n → (m == n) ≡ true
eqb-itself m n e = grind (arith, nat_tests)

-- the file has the number
pub has-number : (number : ℕ) (file : List ℕ) (dataset : DatasetValue) → data_set_in file ≡ Ok dataset →
    dataset.cancels ≡ false → dataset.header.update ≡ number → has_update number file ≡ true
has-number number file dataset reads stands numbered =
    ap (is_update number) reads
    ∙ and_from (not dataset.cancels) (dataset.header.update == number) (ap not stands)
    (eqb-itself dataset.header.update number numbered)

-- ---- the tests and the relations

ends-is : (number : ℕ) (files : List (List ℕ)) → ends_with number files ≡ true → EndsWith number files
ends-is number [] e = absurd (true≢false (sym e))
ends-is number (file ∷ []) e = reading (data_set_in file) refl e
  where
    reading : (r : Result DatasetValue ReadFault) → data_set_in file ≡ r → is_update number r ≡ true →
        EndsWith number (file ∷ [])
    reading (Err fault) reads e = absurd (true≢false (sym e))
    reading (Ok dataset) reads e =
        let parts = and_parts (not dataset.cancels) (dataset.header.update == number) e in
        record {
          before = [];
          last = file;
          dataset = dataset;
          parts = refl;
          reads = reads;
          stands = not-true dataset.cancels parts.0;
          numbered = eqb-true dataset.header.update number parts.1;
        }
ends-is number (file ∷ next ∷ rest) e =
    let h = ends-is number (next ∷ rest) e in
    record {
      before = file ∷ h.before;
      last = h.last;
      dataset = h.dataset;
      parts = ap (λ (l : List (List ℕ)). file ∷ l) h.parts;
      reads = h.reads;
      stands = h.stands;
      numbered = h.numbered;
    }

ends-tested : (number : ℕ) (files : List (List ℕ)) → EndsWith number files → ends_with number files ≡ true
ends-tested number files h =
    ap (ends_with number) h.parts ∙ ends-push number h.before h.last
    ∙ ap (is_update number) h.reads
    ∙ and_from (not h.dataset.cancels) (h.dataset.header.update == number) (ap not h.stands)
    (eqb-itself h.dataset.header.update number h.numbered)

may-is : (sequences : Sequences) (key : List ℕ) (number : ℕ) (files : List (List ℕ)) → may_keep key number files ≡ true →
    MayKeep key number files
may-is sequences key number files e =
    let parts = and_parts (is_update_sequence key files) (ends_with number files) e in
    record { sequence = (sequences.tested key files).0 parts.0; ends = ends-is number files parts.1 }

may-tested : (sequences : Sequences) (key : List ℕ) (number : ℕ) (files : List (List ℕ)) → MayKeep key number files →
    may_keep key number files ≡ true
may-tested sequences key number files h =
    and_from (is_update_sequence key files) (ends_with number files) ((sequences.tested key files).1 h.sequence)
    (ends-tested number files h.ends)

pub kept-is : (sequences : Sequences) (key : List ℕ) (number : ℕ) (files kept : List (List ℕ)) →
    kept_by key number files ≡ Some kept → IsShortestKept key number files kept
unfolding kept_by
kept-is sequences key number files kept e =
    let f = first-found (may_keep key number) files kept e in
    record {
      rest = f.rest;
      begins = f.begins;
      may = may-is sequences key number kept f.passes;
      shortest = λ less more parts some may. true≢false
          (sym (may-tested sequences key number less may) ∙ f.shortest less more parts some may.sequence.some);
    }

pub kept-not : (sequences : Sequences) (key : List ℕ) (number : ℕ) (files : List (List ℕ)) →
    kept_by key number files ≡ None → (kept rest : List (List ℕ)) → files ≡ kept ++ rest → ¬ MayKeep key number kept
unfolding kept_by
kept-not sequences key number files e kept rest parts may =
    true≢false (sym (may-tested sequences key number kept may)
    ∙ none-found (may_keep key number) files e kept rest parts may.sequence.some)

-- ---- lists that keep nothing

in_front : {A : Type 0} (P : A → Type 0) (i : ℕ) (before : List A) (x : A) (more : List A) → length before < i →
    AllByRecursion P (take i (before ++ x ∷ more)) → P x
in_front P zero before x more below all = absurd (omega (arith, below))
in_front P (suc i) [] x more below all = all.0
in_front P (suc i) (first ∷ before) x more below all = in_front P i before x more (omega (arith, below)) all.1

-- the list ends at this place, or the file there may not follow those before it
pub record Ends (key : List ℕ) (files : List (List ℕ)) (i : ℕ) : Type 0 where
  pub stops : i < length files → (file : List ℕ) × (file ≡ get_or files i file) × (¬ Follows key (take i files) file)

-- what begins the files has the file at each of its places
same-place : (files begun rest : List (List ℕ)) (i : ℕ) (file : List ℕ) → files ≡ begun ++ rest → i < length begun →
    file ≡ get_or files i file → begun ≡ take i files ++ file ∷ drop (i + 1) begun
same-place files begun rest i file parts below is =
    around begun i file below
    (is ∙ ap (λ (l : List (List ℕ)). get_or l i file) parts ∙ get_or_append_left begun rest file i below)
    ∙ ap (λ (l : List (List ℕ)). l ++ file ∷ drop (i + 1) begun)
    (sym (ap (take i) parts ∙ take-append-le i begun rest (omega (arith, below))))

no-keep : (key : List ℕ) (number : ℕ) (files : List (List ℕ)) (i : ℕ) →
    AllByRecursion (λ f. has_update number f ≡ false) (take i files) → Ends key files i →
    (begun rest : List (List ℕ)) → files ≡ begun ++ rest → ¬ MayKeep key number begun
no-keep key number files i none ends begun rest parts may =
    let last = may.ends in
    let whole : files ≡ last.before ++ last.last ∷ rest =
    parts ∙ ap (λ (l : List (List ℕ)). l ++ rest) last.parts ∙ append_assoc last.before (last.last ∷ []) rest in
    elim (cases_lt (length last.before) i) [
      | inl h ↦ true≢false
          (sym (has-number number last.last last.dataset last.reads last.stands last.numbered)
          ∙ in_front (λ f. has_update number f ≡ false) i last.before last.last rest h
          (subst (λ (l : List (List ℕ)). AllByRecursion (λ f. has_update number f ≡ false) (take i l)) whole none))
      | inr h ↦
          let long = ap (λ (l : List (List ℕ)). length l) last.parts ∙ length-append last.before (last.last ∷ []) in
          let below : i < length begun = omega (arith, h, long) in
          let all = ap (λ (l : List (List ℕ)). length l) parts ∙ length-append begun rest in
          let stop = ends.stops (omega (arith, below, all)) in
          stop.2 (may.sequence.each (take i files) (drop (i + 1) begun) stop.0
          (same-place files begun rest i stop.0 parts below stop.1))
    ]

pub kept-none : (sequences : Sequences) (key : List ℕ) (number : ℕ) (files : List (List ℕ)) (i : ℕ) →
    AllByRecursion (λ f. has_update number f ≡ false) (take i files) → Ends key files i →
    kept_by key number files ≡ None
unfolding kept_by
kept-none sequences key number files i none ends =
    none-passes (may_keep key number) files (λ begun rest parts some.
    elim (cases_Bool (may_keep key number begun)) [
      | inl is_so ↦ absurd (no-keep key number files i none ends begun rest parts
          (may-is sequences key number begun is_so))
      | inr is_not ↦ is_not
    ])
