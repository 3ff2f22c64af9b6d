-- Array descriptors, read as they are spelled: a mark can stand at one place only.
use Rattle.std.proofs.Common.{◌≡◌, ℕ, zero, suc, ◌+◌, ◌-◌, ◌*◌, ◌<◌, ◌≤◌, Bool, true, false, cond, eqb, List, [], ◌∷◌, ◌++◌, length, Option, Some, None, refl, sym, ap, subst, ◌∙◌, inl, inr, arith, length-append, append_assoc}
use Rattle.std.specs.Prelude.{option_map, IfSome}
use Rattle.std.specs.List.{AllByRecursion, join_with_byte}
use Rattle.std.proofs.lemmas.Bool.{eqb-true, eq-eqb, cases_Bool, ne_eqb}
use Rattle.common_lemmas.proofs.Choices.{chosen, map_some, none_unless, some_is}
use Rattle.iso8211_formats.specs.Grammar.{IsLabel, begins_at, marked_labels, array_descriptor}
use Rattle.iso8211_formats.specs.Reading.{plain_labels, grouped_labels, labels_of}
use Rattle.iso8211_formats.proofs.GivenValues.{or_some}
use Rattle.iso8211_formats.proofs.Cuts.{Lacks, Lacks-append}

-- four bytes
abbrev pub IsFour : List ℕ → Type 0
IsFour label = length label ≡ 4

-- each label with `!` behind it
abbrev pub closed : List (List ℕ) → List ℕ
closed [] = []
closed (label ∷ labels) = label ++ 33 ∷ closed labels

-- labels with `!` between them
abbrev pub plain : List (List ℕ) → List ℕ
plain labels = join_with_byte 33 labels

-- labels without a mark are those of an array descriptor from this place on where the group does not begin there or behind
abbrev pub unmarked : (place : ℕ) (group : Option ℕ) → Type 0
unmarked place group = IfSome group (λ first. first < place)

pub marked_labels-unmarked : (group : Option ℕ) (place : ℕ) (labels : List (List ℕ)) → unmarked place group → marked_labels group place labels ≡ labels
marked_labels-unmarked group place [] h = refl
marked_labels-unmarked None place (label ∷ labels) h = ap (λ (ls : List (List ℕ)). label ∷ ls) (marked_labels-unmarked None (suc place) labels tt)
marked_labels-unmarked (Some first) place (label ∷ labels) h =
    let differs : eqb first place ≡ false = ne_eqb first place (λ same. omega (arith, same)) in
    rw (differs, marked_labels-unmarked (Some first) (suc place) labels (omega arith)) refl

-- the labels before the group, those of the group, and how they stand in the text
abbrev pub grouped : List (List ℕ) → List (List ℕ) → List ℕ
grouped before group = closed before ++ 42 ∷ plain group

join-more : (label : List ℕ) (pieces : List (List ℕ)) → 1 ≤ length pieces → join_with_byte 33 (label ∷ pieces) ≡ label ++ 33 ∷ join_with_byte 33 pieces
join-more label [] more = absurd (omega arith)
join-more label (next ∷ pieces) more = refl

-- a marked first label, and the others
join-marked : (label : List ℕ) (labels : List (List ℕ)) → join_with_byte 33 ((42 ∷ label) ∷ labels) ≡ 42 ∷ join_with_byte 33 (label ∷ labels)
join-marked label [] = refl
join-marked label (next ∷ labels) = refl

length-marked_labels : (group : Option ℕ) (place : ℕ) (labels : List (List ℕ)) → length (marked_labels group place labels) ≡ length labels
length-marked_labels group place [] = refl
length-marked_labels group place (label ∷ labels) = ap (λ (n : ℕ). suc n) (length-marked_labels group (suc place) labels)

marked_labels-here : (first place : ℕ) (label : List ℕ) (labels : List (List ℕ)) → first ≡ place → marked_labels (Some first) place (label ∷ labels) ≡ (42 ∷ label) ∷ labels
marked_labels-here first place label labels same =
    let here : eqb first place ≡ true = eq-eqb first place same in
    rw (here, marked_labels-unmarked (Some first) (suc place) labels (omega (arith, same))) refl

marked_labels-later : (first place : ℕ) (label : List ℕ) (labels : List (List ℕ)) → place < first → marked_labels (Some first) place (label ∷ labels) ≡ label ∷ marked_labels (Some first) (suc place) labels
marked_labels-later first place label labels later =
    let differs : eqb first place ≡ false = ne_eqb first place (λ same. omega (arith, same)) in
    rw differs refl

pub array-grouped : (first place : ℕ) (before : List (List ℕ)) (label : List ℕ) (labels : List (List ℕ)) → first ≡ place + length before → join_with_byte 33 (marked_labels (Some first) place (before ++ label ∷ labels)) ≡ grouped before (label ∷ labels)
array-grouped first place [] label labels same =
    ap (join_with_byte 33) (marked_labels-here first place label labels (omega (arith, same))) ∙ join-marked label labels
array-grouped first place (b ∷ before) label labels same =
    let rest = marked_labels (Some first) (suc place) (before ++ label ∷ labels) in
    let more : 1 ≤ length rest = omega (arith, length-marked_labels (Some first) (suc place) (before ++ label ∷ labels), length-append before (label ∷ labels)) in
    ap (join_with_byte 33) (marked_labels-later first place b (before ++ label ∷ labels) (omega (arith, same)))
    ∙ join-more b rest more
    ∙ ap (λ (t : List ℕ). b ++ 33 ∷ t) (array-grouped first (suc place) before label labels (omega (arith, same)))
    ∙ sym (append_assoc b (33 ∷ closed before) (42 ∷ plain (label ∷ labels)))

-- ---- plain labels

pub plain_labels_found : (text : List ℕ) (labels : List (List ℕ)) → plain_labels text ≡ Some labels → (text ≡ plain labels) × AllByRecursion IsFour labels × (1 ≤ length labels)
unfolding plain_labels
plain_labels_found [] labels e = absurd cc
plain_labels_found (a ∷ []) labels e = absurd cc
plain_labels_found (a ∷ b ∷ []) labels e = absurd cc
plain_labels_found (a ∷ b ∷ c ∷ []) labels e = absurd cc
plain_labels_found (a ∷ b ∷ c ∷ d ∷ []) labels e =
    let P : List (List ℕ) → Type 0 = λ ls. (a ∷ b ∷ c ∷ d ∷ [] ≡ plain ls) × AllByRecursion IsFour ls × (1 ≤ length ls) in
    subst P (some_is ((a ∷ b ∷ c ∷ d ∷ []) ∷ []) labels e) (refl, (refl, tt), omega arith)
plain_labels_found (a ∷ b ∷ c ∷ d ∷ e ∷ rest) labels found =
    let first = a ∷ b ∷ c ∷ d ∷ [] in
    elim (chosen (eqb e 33) (option_map (λ ls. first ∷ ls) (plain_labels rest)) None (Some labels) found) [
      | inl h ↦
          let m = map_some (λ ls. first ∷ ls) (plain_labels rest) labels h.1 in
          let r = plain_labels_found rest m.0 m.1 in
          let P : List (List ℕ) → Type 0 = λ ls. (a ∷ b ∷ c ∷ d ∷ e ∷ rest ≡ plain ls) × AllByRecursion IsFour ls × (1 ≤ length ls) in
          let text_is : a ∷ b ∷ c ∷ d ∷ e ∷ rest ≡ first ++ 33 ∷ plain m.0 = ap (λ (k : ℕ). a ∷ b ∷ c ∷ d ∷ k ∷ rest) (eqb-true e 33 h.0) ∙ ap (λ (t : List ℕ). first ++ 33 ∷ t) r.0 in
          subst P m.2 (text_is ∙ sym (join-more first m.0 r.2), (refl, r.1), omega arith)
      | inr h ↦ absurd (let none = h.1 in cc)
    ]

pub plain_labels_again : (label : List ℕ) (labels : List (List ℕ)) → AllByRecursion IsFour (label ∷ labels) → plain_labels (plain (label ∷ labels)) ≡ Some (label ∷ labels)
unfolding plain_labels
plain_labels_again (a ∷ b ∷ c ∷ d ∷ []) [] four = refl
plain_labels_again (a ∷ b ∷ c ∷ d ∷ []) (next ∷ labels) four = rw (plain_labels_again next labels four.1) refl
plain_labels_again [] labels four = absurd (let no_bytes = four.0 in omega arith)
plain_labels_again (a ∷ []) labels four = absurd (let short = four.0 in omega arith)
plain_labels_again (a ∷ b ∷ []) labels four = absurd (let short = four.0 in omega arith)
plain_labels_again (a ∷ b ∷ c ∷ []) labels four = absurd (let short = four.0 in omega arith)
plain_labels_again (a ∷ b ∷ c ∷ d ∷ e ∷ rest) labels four = absurd (let long = four.0 in omega arith)

-- five bytes a label, without the last `!`
pub length-plain : (label : List ℕ) (labels : List (List ℕ)) → AllByRecursion IsFour (label ∷ labels) → length (plain (label ∷ labels)) + 1 ≡ 5 * length (label ∷ labels)
length-plain label [] four = omega (arith, four.0)
length-plain label (next ∷ labels) four =
    omega (arith, four.0, length-plain next labels four.1, length-append label (33 ∷ plain (next ∷ labels)))

pub length-closed : (labels : List (List ℕ)) → AllByRecursion IsFour labels → length (closed labels) ≡ 5 * length labels
length-closed [] four = refl
length-closed (label ∷ labels) four = omega (arith, four.0, length-closed labels four.1, length-append label (33 ∷ closed labels))

-- ---- labels with a mark

-- the labels are those before the group and those of it, and the text has them so
pub record IsParted (place : ℕ) (text : List ℕ) (labels : List (List ℕ)) (first : ℕ) : Type 0 where
  pub before : List (List ℕ)
  pub group : List (List ℕ)
  pub parts : labels ≡ before ++ group
  pub begins : first ≡ place + length before
  pub whole : text ≡ grouped before group
  pub four_before : AllByRecursion IsFour before
  pub four_group : AllByRecursion IsFour group
  pub present : 1 ≤ length group

pub grouped_labels_found : (place : ℕ) (text : List ℕ) (found : List (List ℕ) × ℕ) → grouped_labels place text ≡ Some found → IsParted place text found.0 found.1
unfolding grouped_labels
grouped_labels_found place [] found e = absurd cc
grouped_labels_found place (a ∷ []) found e = absurd cc
grouped_labels_found place (a ∷ b ∷ []) found e = absurd cc
grouped_labels_found place (a ∷ b ∷ c ∷ []) found e = absurd cc
grouped_labels_found place (a ∷ b ∷ c ∷ d ∷ []) found e = absurd cc
grouped_labels_found place (a ∷ b ∷ c ∷ d ∷ k ∷ rest) found e =
    let text = a ∷ b ∷ c ∷ d ∷ k ∷ rest in
    let label = a ∷ b ∷ c ∷ d ∷ [] in
    let P : List (List ℕ) × ℕ → Type 0 = λ q. IsParted place text q.0 q.1 in
    let here : Option (List (List ℕ) × ℕ) = option_map (λ (ls : List (List ℕ)). (ls, place)) (plain_labels (b ∷ c ∷ d ∷ k ∷ rest)) in
    let later : Option (List (List ℕ) × ℕ) = option_map (λ (q : List (List ℕ) × ℕ). (label ∷ q.0, q.1)) (grouped_labels (suc place) rest) in
    elim (or_some (cond (eqb a 42) here None) (cond (eqb k 33) later None) found e) [
      | inl first ↦
          elim (chosen (eqb a 42) here None (Some found) first) [
            | inl h ↦
                let m = map_some (λ (ls : List (List ℕ)). (ls, place)) (plain_labels (b ∷ c ∷ d ∷ k ∷ rest)) found h.1 in
                let r = plain_labels_found (b ∷ c ∷ d ∷ k ∷ rest) m.0 m.1 in
                let text_is : text ≡ 42 ∷ plain m.0 = ap (λ (x : ℕ). x ∷ b ∷ c ∷ d ∷ k ∷ rest) (eqb-true a 42 h.0) ∙ ap (λ (t : List ℕ). 42 ∷ t) r.0 in
                subst P m.2 (record { before = []; group = m.0; parts = refl; begins = omega arith; whole = text_is; four_before = tt; four_group = r.1; present = r.2 })
            | inr h ↦ absurd (let none = h.1 in cc)
          ]
      | inr second ↦
          elim (chosen (eqb k 33) later None (Some found) second) [
            | inl h ↦
                let m = map_some (λ (q : List (List ℕ) × ℕ). (label ∷ q.0, q.1)) (grouped_labels (suc place) rest) found h.1 in
                let r = grouped_labels_found (suc place) rest m.0 m.1 in
                let text_is : text ≡ grouped (label ∷ r.before) r.group =
                ap (λ (x : ℕ). a ∷ b ∷ c ∷ d ∷ x ∷ rest) (eqb-true k 33 h.0) ∙ ap (λ (t : List ℕ). label ++ 33 ∷ t) r.whole
                in
                subst P m.2 (record { before = label ∷ r.before; group = r.group; parts = ap (λ (ls : List (List ℕ)). label ∷ ls) r.parts; begins = omega (arith, r.begins); whole = text_is; four_before = (refl, r.four_before); four_group = r.four_group; present = r.present })
            | inr h ↦ absurd (let none = h.1 in cc)
          ]
    ]

-- behind the mark's place no byte at a fifth place but `!` can follow
no_second : (w x y z : ℕ) (before : List (List ℕ)) (tail : List ℕ) → AllByRecursion IsFour before → plain_labels (w ∷ x ∷ y ∷ z ∷ (closed before ++ 42 ∷ tail)) ≡ None
unfolding plain_labels
no_second w x y z [] tail four = refl
no_second w x y z ((a ∷ b ∷ c ∷ d ∷ []) ∷ before) tail four =
    elim (cases_Bool (eqb a 33)) [
      | inl h ↦ rw (h, no_second b c d 33 before tail four.1) refl
      | inr h ↦ rw h refl
    ]
no_second w x y z ([] ∷ before) tail four = absurd (let no_bytes = four.0 in omega arith)
no_second w x y z ((a ∷ []) ∷ before) tail four = absurd (let short = four.0 in omega arith)
no_second w x y z ((a ∷ b ∷ []) ∷ before) tail four = absurd (let short = four.0 in omega arith)
no_second w x y z ((a ∷ b ∷ c ∷ []) ∷ before) tail four = absurd (let short = four.0 in omega arith)
no_second w x y z ((a ∷ b ∷ c ∷ d ∷ e ∷ rest) ∷ before) tail four = absurd (let long = four.0 in omega arith)

grouped_labels-mark : (place a b c d : ℕ) (rest : List ℕ) (labels : List (List ℕ)) → plain_labels (a ∷ b ∷ c ∷ d ∷ rest) ≡ Some labels → grouped_labels place (42 ∷ a ∷ b ∷ c ∷ d ∷ rest) ≡ Some (labels, place)
unfolding grouped_labels
grouped_labels-mark place a b c d rest labels e = rw e refl

grouped_labels-first : (place : ℕ) (label : List ℕ) (labels : List (List ℕ)) → AllByRecursion IsFour (label ∷ labels) → grouped_labels place (42 ∷ plain (label ∷ labels)) ≡ Some (label ∷ labels, place)
grouped_labels-first place (a ∷ b ∷ c ∷ d ∷ []) [] four = grouped_labels-mark place a b c d [] _ (plain_labels_again (a ∷ b ∷ c ∷ d ∷ []) [] four)
grouped_labels-first place (a ∷ b ∷ c ∷ d ∷ []) (next ∷ labels) four = grouped_labels-mark place a b c d (33 ∷ plain (next ∷ labels)) _ (plain_labels_again (a ∷ b ∷ c ∷ d ∷ []) (next ∷ labels) four)
grouped_labels-first place [] labels four = absurd (let no_bytes = four.0 in omega arith)
grouped_labels-first place (a ∷ []) labels four = absurd (let short = four.0 in omega arith)
grouped_labels-first place (a ∷ b ∷ []) labels four = absurd (let short = four.0 in omega arith)
grouped_labels-first place (a ∷ b ∷ c ∷ []) labels four = absurd (let short = four.0 in omega arith)
grouped_labels-first place (a ∷ b ∷ c ∷ d ∷ e ∷ rest) labels four = absurd (let long = four.0 in omega arith)

grouped_labels-later : (place a b c d : ℕ) (before : List (List ℕ)) (tail : List ℕ) (found : List (List ℕ) × ℕ) → AllByRecursion IsFour before → grouped_labels (suc place) (closed before ++ 42 ∷ tail) ≡ Some found → grouped_labels place (a ∷ b ∷ c ∷ d ∷ 33 ∷ (closed before ++ 42 ∷ tail)) ≡ Some ((a ∷ b ∷ c ∷ d ∷ []) ∷ found.0, found.1)
unfolding grouped_labels
grouped_labels-later place a b c d before tail found four e =
    elim (cases_Bool (eqb a 42)) [
      | inl h ↦ rw (no_second b c d 33 before tail four, h, e) refl
      | inr h ↦ rw (no_second b c d 33 before tail four, h, e) refl
    ]

pub grouped_labels_again : (place : ℕ) (before : List (List ℕ)) (label : List ℕ) (labels : List (List ℕ)) → AllByRecursion IsFour before → AllByRecursion IsFour (label ∷ labels) → grouped_labels place (grouped before (label ∷ labels)) ≡ Some (before ++ label ∷ labels, place + length before)
grouped_labels_again place [] label labels four_before four =
    grouped_labels-first place label labels four ∙ ap (λ (n : ℕ). Some (label ∷ labels, n)) (omega arith)
grouped_labels_again place ((a ∷ b ∷ c ∷ d ∷ []) ∷ before) label labels four_before four =
    grouped_labels-later place a b c d before (plain (label ∷ labels)) _ four_before.1 (grouped_labels_again (suc place) before label labels four_before.1 four)
    ∙ ap (λ (n : ℕ). Some ((a ∷ b ∷ c ∷ d ∷ []) ∷ (before ++ label ∷ labels), n)) (omega arith)
grouped_labels_again place ([] ∷ before) label labels four_before four = absurd (let no_bytes = four_before.0 in omega arith)
grouped_labels_again place ((a ∷ []) ∷ before) label labels four_before four = absurd (let short = four_before.0 in omega arith)
grouped_labels_again place ((a ∷ b ∷ []) ∷ before) label labels four_before four = absurd (let short = four_before.0 in omega arith)
grouped_labels_again place ((a ∷ b ∷ c ∷ []) ∷ before) label labels four_before four = absurd (let short = four_before.0 in omega arith)
grouped_labels_again place ((a ∷ b ∷ c ∷ d ∷ e ∷ rest) ∷ before) label labels four_before four = absurd (let long = four_before.0 in omega arith)

-- ---- array descriptors

four_parts : (xs ys : List (List ℕ)) → AllByRecursion IsFour (xs ++ ys) → AllByRecursion IsFour xs × AllByRecursion IsFour ys
four_parts [] ys p = (tt, p)
four_parts (x ∷ xs) ys p = let rest = four_parts xs ys p.1 in ((p.0, rest.0), rest.1)

four_append : (xs ys : List (List ℕ)) → AllByRecursion IsFour xs → AllByRecursion IsFour ys → AllByRecursion IsFour (xs ++ ys)
four_append [] ys p q = q
four_append (x ∷ xs) ys p q = (p.0, four_append xs ys p.1 q)

-- a list parted at one of its elements
parted : (k : ℕ) (labels : List (List ℕ)) → k < length labels → (before : List (List ℕ)) × (label : List ℕ) × (rest : List (List ℕ)) × (labels ≡ before ++ label ∷ rest) × (length before ≡ k)
parted k [] lt = absurd (omega arith)
parted zero (label ∷ labels) lt = ([], label, labels, refl, refl)
parted (suc k) (first ∷ labels) lt =
    let p = parted k labels (omega arith) in
    (first ∷ p.0, p.1, p.2, ap (λ (ls : List (List ℕ)). first ∷ ls) p.3, omega (arith, p.4))

-- the place of one of the labels, where there is a group
abbrev pub BeginsWithin : Option ℕ → List (List ℕ) → Type 0
BeginsWithin group labels = IfSome group (λ place. (1 ≤ place) × (place ≤ length labels))

pub record IsArray (text : List ℕ) (labels : List (List ℕ)) (group : Option ℕ) : Type 0 where
  pub four : AllByRecursion IsFour labels
  pub present : 1 ≤ length labels
  pub begins : BeginsWithin group labels
  pub whole : text ≡ array_descriptor group labels

plain_is_array : (text : List ℕ) (labels : List (List ℕ)) → plain_labels text ≡ Some labels → IsArray text labels None
plain_is_array text labels e =
    let f = plain_labels_found text labels e in
    record { four = f.1; present = f.2; begins = tt; whole = f.0 ∙ ap (join_with_byte 33) (sym (marked_labels-unmarked None 1 labels tt)) }

parted_is_array : (text : List ℕ) (labels : List (List ℕ)) (first : ℕ) (before group : List (List ℕ)) → labels ≡ before ++ group → first ≡ 1 + length before → text ≡ grouped before group → AllByRecursion IsFour before → AllByRecursion IsFour group → 1 ≤ length group → IsArray text labels (Some first)
parted_is_array text labels first before [] parts begins whole four_before four_group present = absurd (omega arith)
parted_is_array text labels first before (label ∷ rest) parts begins whole four_before four_group present =
    let count = ap length parts in
    let four = subst (λ (ls : List (List ℕ)). AllByRecursion IsFour ls) (sym parts) (four_append before (label ∷ rest) four_before four_group) in
    let same = whole ∙ sym (array-grouped first 1 before label rest begins) ∙ ap (λ (ls : List (List ℕ)). array_descriptor (Some first) ls) (sym parts) in
    record { four = four; present = omega (arith, count, length-append before (label ∷ rest)); begins = (omega (arith, begins), omega (arith, begins, count, length-append before (label ∷ rest))); whole = same }

pub labels_of_found : (text : List ℕ) (found : List (List ℕ) × Option ℕ) → labels_of text ≡ Some found → IsArray text found.0 found.1
unfolding labels_of
labels_of_found text found e =
    let P : List (List ℕ) × Option ℕ → Type 0 = λ q. IsArray text q.0 q.1 in
    elim (or_some (option_map (λ (ls : List (List ℕ)). (ls, None)) (plain_labels text)) (option_map (λ (q : List (List ℕ) × ℕ). (q.0, Some q.1)) (grouped_labels 1 text)) found e) [
      | inl h ↦
          let m = map_some (λ (ls : List (List ℕ)). (ls, None)) (plain_labels text) found h in
          subst P m.2 (plain_is_array text m.0 m.1)
      | inr h ↦
          let m = map_some (λ (q : List (List ℕ) × ℕ). (q.0, Some q.1)) (grouped_labels 1 text) found h in
          let r = grouped_labels_found 1 text m.0 m.1 in
          subst P m.2 (parted_is_array text m.0.0 m.0.1 r.before r.group r.parts r.begins r.whole r.four_before r.four_group r.present)
    ]

five_a_label : (text : List ℕ) (labels : List (List ℕ)) → plain_labels text ≡ Some labels → length text + 1 ≡ 5 * length labels
five_a_label text labels e = let f = plain_labels_found text labels e in rest_of labels f.0 f.1 f.2
  where
    rest_of : (ls : List (List ℕ)) → text ≡ plain ls → AllByRecursion IsFour ls → 1 ≤ length ls → length text + 1 ≡ 5 * length ls
    rest_of [] whole four present = absurd (omega arith)
    rest_of (label ∷ rest) whole four present = omega (arith, ap length whole, length-plain label rest four)

-- a text with a mark has five bytes a label, and so isn't one without
plain_labels-grouped : (before : List (List ℕ)) (label : List ℕ) (labels : List (List ℕ)) → AllByRecursion IsFour before → AllByRecursion IsFour (label ∷ labels) → plain_labels (grouped before (label ∷ labels)) ≡ None
plain_labels-grouped before label labels four_before four =
    none_unless (plain_labels (grouped before (label ∷ labels))) (λ found e. omega (arith, five_a_label (grouped before (label ∷ labels)) found e, length-append (closed before) (42 ∷ plain (label ∷ labels)), length-closed before four_before, length-plain label labels four))

again_parted : (group : ℕ) (before : List (List ℕ)) (label : List ℕ) (rest : List (List ℕ)) → group ≡ 1 + length before → AllByRecursion IsFour before → AllByRecursion IsFour (label ∷ rest) → labels_of (array_descriptor (Some group) (before ++ label ∷ rest)) ≡ Some (before ++ label ∷ rest, Some group)
unfolding labels_of
again_parted group before label rest begins four_before four =
    rw (array-grouped group 1 before label rest begins, plain_labels-grouped before label rest four_before four, grouped_labels_again 1 before label rest four_before four) (ap (λ (n : ℕ). Some (before ++ label ∷ rest, Some n)) (sym begins))

again_plain : (label : List ℕ) (labels : List (List ℕ)) → AllByRecursion IsFour (label ∷ labels) → labels_of (plain (label ∷ labels)) ≡ Some (label ∷ labels, None)
unfolding labels_of
again_plain label labels four = rw (plain_labels_again label labels four) refl

pub labels_of_again : (labels : List (List ℕ)) (group : Option ℕ) → AllByRecursion IsFour labels → 1 ≤ length labels → BeginsWithin group labels → labels_of (array_descriptor group labels) ≡ Some (labels, group)
labels_of_again [] group four present begins = absurd (omega arith)
labels_of_again (label ∷ labels) None four present begins =
    ap (λ (ls : List (List ℕ)). labels_of (join_with_byte 33 ls)) (marked_labels-unmarked None 1 (label ∷ labels) tt) ∙ again_plain label labels four
labels_of_again (label ∷ labels) (Some group) four present begins =
    let p = parted (group - 1) (label ∷ labels) (omega (arith, begins.0, begins.1)) in
    let fours = four_parts p.0 (p.1 ∷ p.2) (subst (λ (ls : List (List ℕ)). AllByRecursion IsFour ls) p.3 four) in
    subst (λ (ls : List (List ℕ)). labels_of (array_descriptor (Some group) ls) ≡ Some (ls, Some group)) (sym p.3)
    (again_parted group p.0 p.1 p.2 (omega (arith, p.4, begins.0)) fours.0 fours.1)

-- ---- unit terminators

lacks_parts : (byte : ℕ) (xs ys : List ℕ) → Lacks byte (xs ++ ys) → Lacks byte xs × Lacks byte ys
lacks_parts byte [] ys p = (tt, p)
lacks_parts byte (x ∷ xs) ys p = let rest = lacks_parts byte xs ys p.1 in ((p.0, rest.0), rest.1)

lacks_join : (pieces : List (List ℕ)) → Lacks 31 (join_with_byte 33 pieces) → AllByRecursion (λ piece. Lacks 31 piece) pieces
lacks_join [] p = tt
lacks_join (piece ∷ []) p = (p, tt)
lacks_join (piece ∷ next ∷ pieces) p =
    let parts = lacks_parts 31 piece (33 ∷ join_with_byte 33 (next ∷ pieces)) p in
    (parts.0, lacks_join (next ∷ pieces) parts.1.1)

join_lacks : (pieces : List (List ℕ)) → AllByRecursion (λ piece. Lacks 31 piece) pieces → Lacks 31 (join_with_byte 33 pieces)
join_lacks [] p = tt
join_lacks (piece ∷ []) p = p.0
join_lacks (piece ∷ next ∷ pieces) p = Lacks-append 31 piece (33 ∷ join_with_byte 33 (next ∷ pieces)) p.0 (refl, join_lacks (next ∷ pieces) p.1)

-- of a label, with or without a mark
lacks_marked : (test : Bool) (label : List ℕ) → Lacks 31 (cond test (42 ∷ label) label) → Lacks 31 label
lacks_marked true label p = p.1
lacks_marked false label p = p

marked_lacks : (test : Bool) (label : List ℕ) → Lacks 31 label → Lacks 31 (cond test (42 ∷ label) label)
marked_lacks true label p = (refl, p)
marked_lacks false label p = p

labels_lack : (group : Option ℕ) (place : ℕ) (labels : List (List ℕ)) → AllByRecursion IsFour labels → AllByRecursion (λ piece. Lacks 31 piece) (marked_labels group place labels) → AllByRecursion IsLabel labels
labels_lack group place [] four p = tt
labels_lack group place (label ∷ labels) four p =
    ((four.0, lacks_marked (begins_at group place) label p.0), labels_lack group (suc place) labels four.1 p.1)

marked_labels_lack : (group : Option ℕ) (place : ℕ) (labels : List (List ℕ)) → AllByRecursion IsLabel labels → AllByRecursion (λ piece. Lacks 31 piece) (marked_labels group place labels)
marked_labels_lack group place [] p = tt
marked_labels_lack group place (label ∷ labels) p =
    (marked_lacks (begins_at group place) label p.0.1, marked_labels_lack group (suc place) labels p.1)

pub AreLabels-from_array : (group : Option ℕ) (labels : List (List ℕ)) → AllByRecursion IsFour labels → Lacks 31 (array_descriptor group labels) → AllByRecursion IsLabel labels
AreLabels-from_array group labels four lacks = labels_lack group 1 labels four (lacks_join (marked_labels group 1 labels) lacks)

pub Lacks-array : (group : Option ℕ) (labels : List (List ℕ)) → AllByRecursion IsLabel labels → Lacks 31 (array_descriptor group labels)
Lacks-array group labels are = join_lacks (marked_labels group 1 labels) (marked_labels_lack group 1 labels are)

pub AreFour-from_labels : (labels : List (List ℕ)) → AllByRecursion IsLabel labels → AllByRecursion IsFour labels
AreFour-from_labels [] are = tt
AreFour-from_labels (label ∷ labels) are = (are.0.0, AreFour-from_labels labels are.1)

-- ---- how long an array descriptor is

length-grouped : (before group : List (List ℕ)) → AllByRecursion IsFour before → AllByRecursion IsFour group → 1 ≤ length group → length (grouped before group) ≡ 5 * (length before + length group)
length-grouped before [] four_before four present = absurd (omega arith)
length-grouped before (label ∷ labels) four_before four present =
    omega (arith, length-append (closed before) (42 ∷ plain (label ∷ labels)), length-closed before four_before, length-plain label labels four)

pub length-labels_of : (text : List ℕ) (found : List (List ℕ) × Option ℕ) → labels_of text ≡ Some found → length text ≤ 5 * length found.0
unfolding labels_of
length-labels_of text found e =
    let P : List (List ℕ) × Option ℕ → Type 0 = λ q. length text ≤ 5 * length q.0 in
    elim (or_some (option_map (λ (ls : List (List ℕ)). (ls, None)) (plain_labels text)) (option_map (λ (q : List (List ℕ) × ℕ). (q.0, Some q.1)) (grouped_labels 1 text)) found e) [
      | inl h ↦
          let m = map_some (λ (ls : List (List ℕ)). (ls, None)) (plain_labels text) found h in
          subst P m.2 (omega (arith, five_a_label text m.0 m.1))
      | inr h ↦
          let m = map_some (λ (q : List (List ℕ) × ℕ). (q.0, Some q.1)) (grouped_labels 1 text) found h in
          let r = grouped_labels_found 1 text m.0 m.1 in
          subst P m.2 (omega (arith, ap length r.whole, length-grouped r.before r.group r.four_before r.four_group r.present, ap length r.parts, length-append r.before r.group))
    ]
