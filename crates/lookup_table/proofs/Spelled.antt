-- A line of a table is read as it is spelled.
use Rattle.std.proofs.Common.{◌≡◌, ◌≢◌, ℕ, ◌+◌, ◌-◌, ◌≤◌, Bool, true, false, cond, ◌&&◌, ◌||◌, eqb, List, [], ◌∷◌, ◌++◌, length, Option, Some, None, refl, sym, ap, ◌∙◌, subst, arith, inl, inr, ⊎_elim, length-append}
use Rattle.std.specs.Bool.{Decides}
use Rattle.std.specs.Prelude.{codes, nat_le, not}
use Rattle.std.specs.Prelude as list
use Rattle.std.specs.List.{All, list_all, join_with_byte}
use Rattle.std.specs.Str.{bytes_eq}
use Rattle.std.proofs.lemmas.Bool.{leb-true, le-leb, and_parts, true≢false, false_from_ne_true}
use Rattle.std.proofs.lemmas.Bool.Decides.{Decides-eqb, Decides-and, Decides-or, Decides-not, Decides-like, Decides-by_and}
use Rattle.std.proofs.lemmas.List.Elements.{All-nil, All-cons, All-head, All-tail, All-weaker, All-append}
use Rattle.std.proofs.lemmas.List.Splits.{join_with_byte-slice_split, length-slice_split}
use Rattle.std.proofs.lemmas.Slice.Eq.{bytes_eq-Decides}
use Rattle.chart_model.specs.declared.drawing.Geom.{Geom}
use Rattle.chart_model.specs.declared.drawing.Geom.TheVariants.{Area, Line, Point}
use Rattle.chart_model.proofs.KeyTests.{Decides-le}
use Rattle.text_lines.specs.Lines.{parts_at, Lacks}
use Rattle.object_catalogue.specs.Acronym.{IsAcronymByte, IsAcronym, is_acronym, acronym_of}
use Rattle.object_catalogue.proofs.Acronyms.{Decides-acronym, acronym_some, acronym_lacks}
use Rattle.lookup_table.specs.declared.condition.Test.{Test}
use Rattle.lookup_table.specs.declared.condition.Test.TheVariants.{Equals, Empty, Filled}
use Rattle.lookup_table.specs.declared.written.WrittenCondition.{WrittenCondition}
use Rattle.lookup_table.specs.declared.written.WrittenLine.{WrittenLine}
use Rattle.lookup_table.specs.Written.{IsTextByte, IsTest, test_text, IsCondition, condition_text, conditions_text, IsCapital, IsPlain, IsInstruction, instructions_text, geom_text, line_text, Spells, is_text_byte, is_capital, is_plain, is_closed, is_instruction}
use Rattle.lookup_table.specs.Reading.{behind, each, test_of, condition_with, condition_in, condition_of, conditions_of, instruction_of, instructions_of, geom_of, priority_of, written_with, written_in, written_of}
use Rattle.lookup_table.proofs.Each.{each-nil, each-cons}
use Rattle.lookup_table.proofs.Closed.{closed-by}
use Rattle.lookup_table.proofs.Words.{condition_cut, line_cut}
use Rattle.text_lines.proofs.Parting.{PartsAreFound}

some_is : {A : Type 0} (x y : A) → ◌≡◌ {A = Option A} (Some x) (Some y) → x ≡ y
some_is x y e = cc

-- what a test that decides a choice between a value and none tells
taken : {A : Type 0} (b : Bool) (x y : A) → cond b (Some x) None ≡ Some y → (b ≡ true) × (x ≡ y)
taken true x y e = (refl, some_is x y e)
taken false x y e = absurd cc

acronym_is : (text acronym : List ℕ) → acronym_of text ≡ Some acronym → (text ≡ acronym) × IsAcronym acronym
acronym_is text acronym e =
    let t = taken (is_acronym text) text acronym e in
    (t.1, subst IsAcronym t.1 ((Decides-acronym text).0 t.0))

-- ---- each part

module _ {X Y : Type 0} (f : X → Option Y) (spell : Y → X) (Is : Y → Type 0) where
  -- a reading that gives what is spelled
  abbrev pub Reads : Type 0
  Reads = (x : X) (y : Y) → f x ≡ Some y → Is y × (x ≡ spell y)

  -- and a spelling that is read
  abbrev pub IsRead : Type 0
  IsRead = (y : Y) → Is y → f (spell y) ≡ Some y

  behind-some : (o : Option Y) (p : Option (List Y)) (y : Y) (ys : List Y) → behind o p ≡ Some (y ∷ ys) → (o ≡ Some y) × (p ≡ Some ys)
  behind-some None p y ys e = absurd cc
  behind-some (Some x) None y ys e = absurd cc
  behind-some (Some x) (Some xs) y ys e =
      let same : ◌≡◌ {A = List Y} (x ∷ xs) (y ∷ ys) = some_is _ _ e in
      (cc, cc)

  behind-nil : (o : Option Y) (p : Option (List Y)) → behind o p ≡ Some [] → ⊥
  behind-nil None p e = cc
  behind-nil (Some x) None e = cc
  behind-nil (Some x) (Some xs) e = cc

  pub each-read : Reads → (xs : List X) (ys : List Y) → each f xs ≡ Some ys → All Is ys × (xs ≡ list.map spell ys)
  each-read reads [] [] e = (All-nil Is, refl)
  each-read reads [] (y ∷ ys) e = let n = each-nil f in absurd cc
  each-read reads (x ∷ xs) [] e = absurd (behind-nil (f x) (each f xs) (sym (each-cons f x xs) ∙ e))
  each-read reads (x ∷ xs) (y ∷ ys) e =
      let p = behind-some (f x) (each f xs) y ys (sym (each-cons f x xs) ∙ e) in
      let here = reads x y p.0 in
      let rest = each-read reads xs ys p.1 in
      (All-cons Is y ys here.0 rest.0, λ i. here.1 i ∷ rest.1 i)

  pub each-spelled : IsRead → (ys : List Y) → All Is ys → each f (list.map spell ys) ≡ Some ys
  each-spelled read [] h = each-nil f
  each-spelled read (y ∷ ys) h =
      each-cons f (spell y) (list.map spell ys)
      ∙ (λ i. behind (read y (All-head Is y ys h) i) (each-spelled read ys (All-tail Is y ys h) i))

-- ---- bytes

Decides-text_byte : (byte : ℕ) → Decides (is_text_byte byte) (IsTextByte byte)
Decides-text_byte byte =
    Decides-and (nat_le 33 byte && nat_le byte 126) (not (eqb byte 43))
    (Decides-and (nat_le 33 byte) (nat_le byte 126) (Decides-le 33 byte) (Decides-le byte 126))
    (Decides-not (eqb byte 43) (Decides-eqb byte 43))

Decides-text : (text : List ℕ) → Decides (list_all is_text_byte text) (All IsTextByte text)
Decides-text text = Decides-by_and is_text_byte IsTextByte (list_all is_text_byte) Decides-text_byte refl (λ _ _. refl) text

Decides-capital : (byte : ℕ) → Decides (is_capital byte) (IsCapital byte)
Decides-capital byte = Decides-and (nat_le 65 byte) (nat_le byte 90) (Decides-le 65 byte) (Decides-le byte 90)

none_of : (a b c : ℕ) (byte : ℕ) → Decides (not (eqb byte a || (eqb byte b || eqb byte c))) ((byte ≢ a) × ((byte ≢ b) × (byte ≢ c)))
none_of a b c byte =
    Decides-like (not (eqb byte a || (eqb byte b || eqb byte c)))
    (λ h. (λ e. h (inl e), (λ e. h (inr (inl e)), λ e. h (inr (inr e)))))
    (λ h e. ⊎_elim h.0 (⊎_elim h.1.0 h.1.1) e)
    (Decides-not (eqb byte a || (eqb byte b || eqb byte c))
    (Decides-or (eqb byte a) (eqb byte b || eqb byte c) (Decides-eqb byte a) (Decides-or (eqb byte b) (eqb byte c) (Decides-eqb byte b) (Decides-eqb byte c))))

Decides-plain : (byte : ℕ) → Decides (is_plain byte) (IsPlain byte)
Decides-plain byte =
    Decides-and (nat_le 32 byte && nat_le byte 126) (not (eqb byte 40 || (eqb byte 41 || eqb byte 59)))
    (Decides-and (nat_le 32 byte) (nat_le byte 126) (Decides-le 32 byte) (Decides-le byte 126)) (none_of 40 41 59 byte)

Decides-all_plain : (text : List ℕ) → Decides (list_all is_plain text) (All IsPlain text)
Decides-all_plain text = Decides-by_and is_plain IsPlain (list_all is_plain) Decides-plain refl (λ _ _. refl) text

-- ---- tests

other_text : (text word : List ℕ) → bytes_eq text word ≡ false → text ≢ word
other_text text word h e = true≢false (sym ((bytes_eq-Decides text word).1 e) ∙ h)

not_text : (text word : List ℕ) → text ≢ word → bytes_eq text word ≡ false
not_text text word h = false_from_ne_true (bytes_eq text word) (λ is. h ((bytes_eq-Decides text word).0 is))

test_is : (text : List ℕ) (test : Test) → test_of text ≡ Some test → IsTest test × (text ≡ test_text test)
test_is text test e = question (bytes_eq text (codes "?")) refl e
  where
    equal : (b : Bool) → (nat_le 1 (length text) && list_all is_text_byte text) ≡ b → bytes_eq text (codes "?") ≡ false → bytes_eq text (codes "*") ≡ false
        → cond b (Some (Equals text)) None ≡ Some test → IsTest test × (text ≡ test_text test)
    equal b h question star e =
        let t = taken b (Equals text) test e in
        let p = and_parts (nat_le 1 (length text)) (list_all is_text_byte text) (h ∙ t.0) in
        subst (λ (x : Test). IsTest x × (text ≡ test_text x)) t.1 (
          record {
            nonempty = leb-true 1 (length text) p.0;
            visible = (Decides-text text).0 p.1;
            no_question = other_text text (codes "?") question;
            no_star = other_text text (codes "*") star;
          },
          refl,
        )

    star : (b : Bool) → bytes_eq text (codes "*") ≡ b → bytes_eq text (codes "?") ≡ false
        → cond b (Some Filled) (cond (nat_le 1 (length text) && list_all is_text_byte text) (Some (Equals text)) None) ≡ Some test → IsTest test × (text ≡ test_text test)
    star true h question e = subst (λ (x : Test). IsTest x × (text ≡ test_text x)) (some_is Filled test e) (tt, (bytes_eq-Decides text (codes "*")).0 h)
    star false h question e = equal (nat_le 1 (length text) && list_all is_text_byte text) refl question h e

    question : (b : Bool) → bytes_eq text (codes "?") ≡ b
        → cond b (Some Empty) (cond (bytes_eq text (codes "*")) (Some Filled) (cond (nat_le 1 (length text) && list_all is_text_byte text) (Some (Equals text)) None)) ≡ Some test
        → IsTest test × (text ≡ test_text test)
    question true h e = subst (λ (x : Test). IsTest x × (text ≡ test_text x)) (some_is Empty test e) (tt, (bytes_eq-Decides text (codes "?")).0 h)
    question false h e = star (bytes_eq text (codes "*")) refl h e

test_told : (test : Test) → IsTest test → test_of (test_text test) ≡ Some test
test_told Empty h = refl
test_told Filled h = refl
test_told (Equals text) h = λ i.
    cond (not_text text (codes "?") h.no_question i) (Some Empty)
    (cond (not_text text (codes "*") h.no_star i) (Some Filled)
    (cond (le-leb 1 (length text) h.nonempty i && (Decides-text text).1 h.visible i) (Some (Equals text)) None))

-- ---- conditions

both_sides : (a : Option (List ℕ)) (t : Option Test) (c : WrittenCondition) → condition_with a t ≡ Some c → (a ≡ Some c.attribute) × (t ≡ Some c.test)
both_sides None t c e = absurd cc
both_sides (Some a) None c e = absurd cc
both_sides (Some a) (Some t) c e =
    let same : ◌≡◌ {A = WrittenCondition} (record { attribute = a; test = t }) c = some_is _ _ e in
    (ap (λ (x : WrittenCondition). Some x.attribute) same, ap (λ (x : WrittenCondition). Some x.test) same)

condition_by : (text : List ℕ) (parts : List (List ℕ)) (c : WrittenCondition) → text ≡ join_with_byte 61 parts → condition_in parts ≡ Some c → IsCondition c × (text ≡ condition_text c)
unfolding condition_in
condition_by text [] c parted e = absurd cc
condition_by text (a ∷ []) c parted e = absurd cc
condition_by text (a ∷ first ∷ more) c parted e =
    let p = both_sides (acronym_of a) (test_of (join_with_byte 61 (first ∷ more))) c e in
    let attribute = acronym_is a c.attribute p.0 in
    let test = test_is (join_with_byte 61 (first ∷ more)) c.test p.1 in
    (record { attribute = attribute.1; test = test.0 }, parted ∙ (λ i. attribute.0 i ++ 61 ∷ test.1 i))

condition_read : Reads condition_of condition_text IsCondition
condition_read text c e = condition_by text (parts_at 61 text) c (sym (join_with_byte-slice_split 61 text)) e

-- ---- bytes of conditions: no space and no `+`

abbrev IsConditionByte : ℕ → Type 0
IsConditionByte byte = (33 ≤ byte) × (byte ≢ 43)

acronym_byte : (byte : ℕ) → IsAcronymByte byte → IsConditionByte byte
acronym_byte byte h = (omega arith, λ e. omega arith)

no_equals : (byte : ℕ) → IsAcronymByte byte → byte ≢ 61
no_equals byte h = λ e. omega arith

text_byte : (byte : ℕ) → IsTextByte byte → IsConditionByte byte
text_byte byte h = (h.0.0, h.1)

test_bytes : (test : Test) → IsTest test → All IsConditionByte (test_text test)
test_bytes Empty h = All-cons IsConditionByte 63 [] (omega arith, λ e. omega arith) (All-nil IsConditionByte)
test_bytes Filled h = All-cons IsConditionByte 42 [] (omega arith, λ e. omega arith) (All-nil IsConditionByte)
test_bytes (Equals text) h = All-weaker IsTextByte IsConditionByte text_byte text h.visible

condition_bytes : (c : WrittenCondition) → IsCondition c → All IsConditionByte (condition_text c)
condition_bytes c h =
    All-append IsConditionByte c.attribute (61 ∷ test_text c.test)
    (All-weaker IsAcronymByte IsConditionByte acronym_byte c.attribute h.attribute.spelled)
    (All-cons IsConditionByte 61 (test_text c.test) (omega arith, λ e. omega arith) (test_bytes c.test h.test))

no_plus : (byte : ℕ) → IsConditionByte byte → byte ≢ 43
no_plus byte h = h.1

no_space : (byte : ℕ) → IsConditionByte byte → byte ≢ 32
no_space byte h = λ e. omega arith

-- joined texts have the bytes of theirs, and the one between them
joined_bytes : (P : ℕ → Type 0) (c : ℕ) → P c → (parts : List (List ℕ)) → All (All P) parts → All P (join_with_byte c parts)
joined_bytes P c here [] h = All-nil P
joined_bytes P c here (x ∷ []) h = All-head (All P) x [] h
joined_bytes P c here (x ∷ y ∷ more) h =
    All-append P x (c ∷ join_with_byte c (y ∷ more)) (All-head (All P) x (y ∷ more) h)
    (All-cons P c (join_with_byte c (y ∷ more)) here (joined_bytes P c here (y ∷ more) (All-tail (All P) x (y ∷ more) h)))

all_texts : (P : ℕ → Type 0) → ((c : WrittenCondition) → IsCondition c → All P (condition_text c)) → (cs : List WrittenCondition) → All IsCondition cs → All (All P) (list.map condition_text cs)
all_texts P each [] h = All-nil (All P)
all_texts P each (c ∷ cs) h =
    All-cons (All P) (condition_text c) (list.map condition_text cs) (each c (All-head IsCondition c cs h)) (all_texts P each cs (All-tail IsCondition c cs h))

lacks_plus : (c : WrittenCondition) → IsCondition c → Lacks 43 (condition_text c)
lacks_plus c h = All-weaker IsConditionByte (λ b. b ≢ 43) no_plus (condition_text c) (condition_bytes c h)

lacks_space : (c : WrittenCondition) → IsCondition c → Lacks 32 (condition_text c)
lacks_space c h = All-weaker IsConditionByte (λ b. b ≢ 32) no_space (condition_text c) (condition_bytes c h)

pub conditions_lack_space : (cs : List WrittenCondition) → All IsCondition cs → Lacks 32 (conditions_text cs)
conditions_lack_space [] h = All-cons (λ b. b ≢ 32) 45 [] (λ e. omega arith) (All-nil (λ b. b ≢ 32))
conditions_lack_space (c ∷ cs) h = joined_bytes (λ b. b ≢ 32) 43 (λ e. omega arith) (list.map condition_text (c ∷ cs)) (all_texts (λ b. b ≢ 32) lacks_space (c ∷ cs) h)

-- ---- what the law of parts says

abbrev pub FirstIsFound : Type 0
FirstIsFound = (parting : ℕ) (part rest : List ℕ) → Lacks parting part → parts_at parting (part ++ parting ∷ rest) ≡ part ∷ parts_at parting rest

condition_told : FirstIsFound → IsRead condition_of condition_text IsCondition
condition_told first c h =
    condition_cut (condition_text c) c.attribute (test_text c.test)
    (first 61 c.attribute (test_text c.test) (All-weaker IsAcronymByte (λ b. b ≢ 61) no_equals c.attribute h.attribute.spelled))
    ∙ (λ i. condition_with (acronym_some c.attribute h.attribute i) (test_told c.test h.test i))

no_part : (c : ℕ) (text : List ℕ) → parts_at c text ≡ [] → ⊥
no_part c text e = omega (arith, length-slice_split (λ b. eqb b c) text, ap length e)

pub conditions_read : (word : List ℕ) (cs : List WrittenCondition) → conditions_of word ≡ Some cs → All IsCondition cs × (word ≡ conditions_text cs)
conditions_read word cs e = by (bytes_eq word (codes "-")) refl cs e
  where
    by : (b : Bool) → bytes_eq word (codes "-") ≡ b → (cs : List WrittenCondition) → cond b (Some []) (each condition_of (parts_at 43 word)) ≡ Some cs → All IsCondition cs × (word ≡ conditions_text cs)
    by true h [] e = (All-nil IsCondition, (bytes_eq-Decides word (codes "-")).0 h)
    by true h (c ∷ cs) e = absurd cc
    by false h [] e =
        let r = each-read condition_of condition_text IsCondition condition_read (parts_at 43 word) [] e in
        absurd (no_part 43 word r.1)
    by false h (c ∷ cs) e =
        let r = each-read condition_of condition_text IsCondition condition_read (parts_at 43 word) (c ∷ cs) e in
        (r.0, sym (join_with_byte-slice_split 43 word) ∙ ap (join_with_byte 43) r.1)

long_condition : (c : WrittenCondition) → IsCondition c → condition_text c ≡ codes "-" → ⊥
long_condition c h e = omega (arith, ap length e, length-append c.attribute (61 ∷ test_text c.test), h.attribute.long)

same_head : (x y : List ℕ) (xs ys : List (List ℕ)) → ◌≡◌ {A = List (List ℕ)} (x ∷ xs) (y ∷ ys) → x ≡ y
same_head x y xs ys e = cc

pub conditions_told : PartsAreFound → FirstIsFound → (cs : List WrittenCondition) → All IsCondition cs → conditions_of (conditions_text cs) ≡ Some cs
conditions_told found first [] h = refl
conditions_told found first (c ∷ cs) h =
    let word = conditions_text (c ∷ cs) in
    let parts = found 43 (condition_text c) (list.map condition_text cs) (all_texts (λ b. b ≢ 43) lacks_plus (c ∷ cs) h) in
    let other : word ≢ codes "-" = λ e. long_condition c (All-head IsCondition c cs h)
    (same_head (condition_text c) (codes "-") (list.map condition_text cs) [] (sym parts ∙ ap (parts_at 43) e)) in
    ap (λ (b : Bool). cond b (Some []) (each condition_of (parts_at 43 word))) (not_text word (codes "-") other)
    ∙ ap (each condition_of) parts
    ∙ each-spelled condition_of condition_text IsCondition (condition_told first) (c ∷ cs) h

-- ---- instructions

closed_is : (text : List ℕ) → is_closed text ≡ true → (inner : List ℕ) × ((text ≡ inner ++ 41 ∷ []) × All IsPlain inner)
unfolding is_closed
closed_is [] e = absurd (true≢false (sym e))
closed_is (last ∷ []) e = ([], (ap (λ (b : ℕ). b ∷ []) ((Decides-eqb last 41).0 e), All-nil IsPlain))
closed_is (x ∷ y ∷ more) e =
    let p = and_parts (is_plain x) (is_closed (y ∷ more)) e in
    let rest = closed_is (y ∷ more) p.1 in
    (x ∷ rest.0, (ap (λ (l : List ℕ). x ∷ l) rest.1.0, All-cons IsPlain x rest.0 ((Decides-plain x).0 p.0) rest.1.1))

instruction_is : (text : List ℕ) → is_instruction text ≡ true → IsInstruction text
unfolding is_instruction
instruction_is [] e = absurd (true≢false (sym e))
instruction_is (a ∷ []) e = absurd (true≢false (sym e))
instruction_is (a ∷ b ∷ []) e = absurd (true≢false (sym e))
instruction_is (a ∷ b ∷ c ∷ rest) e =
    let p = and_parts (is_capital a) (is_capital b && (eqb c 40 && is_closed rest)) e in
    let q = and_parts (is_capital b) (eqb c 40 && is_closed rest) p.1 in
    let r = and_parts (eqb c 40) (is_closed rest) q.1 in
    let closed = closed_is rest r.1 in
    record {
      first = a;
      second = b;
      inner = closed.0;
      spelled = λ i. a ∷ b ∷ (Decides-eqb c 40).0 r.0 i ∷ closed.1.0 i;
      capitals = ((Decides-capital a).0 p.0, (Decides-capital b).0 q.0);
      plain = closed.1.1;
    }

closes : (inner : List ℕ) → All IsPlain inner → is_closed (inner ++ 41 ∷ []) ≡ true
closes inner h = closed-by inner 41 ∙ ap (λ (b : Bool). b && true) ((Decides-all_plain inner).1 h)

instruction_tested : (text : List ℕ) → IsInstruction text → is_instruction text ≡ true
unfolding is_instruction
instruction_tested text h =
    ap is_instruction h.spelled
    ∙ (λ i. (Decides-capital h.first).1 h.capitals.0 i && ((Decides-capital h.second).1 h.capitals.1 i && (true && closes h.inner h.plain i)))

abbrev itself : List ℕ → List ℕ
itself text = text

instruction_read : Reads instruction_of itself IsInstruction
instruction_read text i e =
    let t = taken (is_instruction text) text i e in
    (subst IsInstruction t.1 (instruction_is text t.0), t.1)

instruction_told : IsRead instruction_of itself IsInstruction
instruction_told text h = ap (λ (b : Bool). cond b (Some text) None) (instruction_tested text h)

map_itself : (texts : List (List ℕ)) → list.map itself texts ≡ texts
map_itself [] = refl
map_itself (text ∷ texts) = ap (λ (l : List (List ℕ)). text ∷ l) (map_itself texts)

instruction_lacks : (text : List ℕ) → IsInstruction text → Lacks 59 text
instruction_lacks text h =
    subst (Lacks 59) (sym h.spelled)
    (All-cons (λ b. b ≢ 59) h.first (h.second ∷ 40 ∷ (h.inner ++ 41 ∷ [])) (λ e. omega arith)
    (All-cons (λ b. b ≢ 59) h.second (40 ∷ (h.inner ++ 41 ∷ [])) (λ e. omega arith)
    (All-cons (λ b. b ≢ 59) 40 (h.inner ++ 41 ∷ []) (λ e. omega arith)
    (All-append (λ b. b ≢ 59) h.inner (41 ∷ []) (All-weaker IsPlain (λ b. b ≢ 59) (λ b p. p.1.1.1) h.inner h.plain)
    (All-cons (λ b. b ≢ 59) 41 [] (λ e. omega arith) (All-nil (λ b. b ≢ 59)))))))

pub instructions_read : (text : List ℕ) (is : List (List ℕ)) → instructions_of text ≡ Some is → All IsInstruction is × (text ≡ instructions_text is)
instructions_read text is e = by (bytes_eq text (codes "-")) refl is e
  where
    by : (b : Bool) → bytes_eq text (codes "-") ≡ b → (is : List (List ℕ)) → cond b (Some []) (each instruction_of (parts_at 59 text)) ≡ Some is → All IsInstruction is × (text ≡ instructions_text is)
    by true h [] e = (All-nil IsInstruction, (bytes_eq-Decides text (codes "-")).0 h)
    by true h (i ∷ is) e = absurd cc
    by false h [] e =
        let r = each-read instruction_of itself IsInstruction instruction_read (parts_at 59 text) [] e in
        absurd (no_part 59 text r.1)
    by false h (i ∷ is) e =
        let r = each-read instruction_of itself IsInstruction instruction_read (parts_at 59 text) (i ∷ is) e in
        (r.0, sym (join_with_byte-slice_split 59 text) ∙ ap (join_with_byte 59) (r.1 ∙ map_itself (i ∷ is)))

long_instruction : (text : List ℕ) → IsInstruction text → text ≡ codes "-" → ⊥
long_instruction text h e = let f : ◌≡◌ {A = List ℕ} (h.first ∷ h.second ∷ 40 ∷ (h.inner ++ 41 ∷ [])) (45 ∷ []) = sym h.spelled ∙ e in cc

all_lack : (is : List (List ℕ)) → All IsInstruction is → All (Lacks 59) is
all_lack is h = All-weaker IsInstruction (Lacks 59) instruction_lacks is h

pub instructions_told : PartsAreFound → (is : List (List ℕ)) → All IsInstruction is → instructions_of (instructions_text is) ≡ Some is
instructions_told found [] h = refl
instructions_told found (i ∷ is) h =
    let text = instructions_text (i ∷ is) in
    let parts = found 59 i is (all_lack (i ∷ is) h) in
    let other : text ≢ codes "-" = λ e. long_instruction i (All-head IsInstruction i is h) (same_head i (codes "-") is [] (sym parts ∙ ap (parts_at 59) e)) in
    ap (λ (b : Bool). cond b (Some []) (each instruction_of (parts_at 59 text))) (not_text text (codes "-") other)
    ∙ ap (each instruction_of) parts
    ∙ ap (each instruction_of) (sym (map_itself (i ∷ is)))
    ∙ each-spelled instruction_of itself IsInstruction instruction_told (i ∷ is) h

-- ---- geometries and priorities

geom_is : (word : List ℕ) (geom : Geom) → geom_of word ≡ Some geom → word ≡ geom_text geom
geom_is word geom e = area (bytes_eq word (codes "A")) refl e
  where
    point : (b : Bool) → bytes_eq word (codes "P") ≡ b → cond b (Some Point) None ≡ Some geom → word ≡ geom_text geom
    point true h e = (bytes_eq-Decides word (codes "P")).0 h ∙ ap geom_text (some_is Point geom e)
    point false h e = absurd cc

    line : (b : Bool) → bytes_eq word (codes "L") ≡ b → cond b (Some Line) (cond (bytes_eq word (codes "P")) (Some Point) None) ≡ Some geom → word ≡ geom_text geom
    line true h e = (bytes_eq-Decides word (codes "L")).0 h ∙ ap geom_text (some_is Line geom e)
    line false h e = point (bytes_eq word (codes "P")) refl e

    area : (b : Bool) → bytes_eq word (codes "A") ≡ b → cond b (Some Area) (cond (bytes_eq word (codes "L")) (Some Line) (cond (bytes_eq word (codes "P")) (Some Point) None)) ≡ Some geom → word ≡ geom_text geom
    area true h e = (bytes_eq-Decides word (codes "A")).0 h ∙ ap geom_text (some_is Area geom e)
    area false h e = line (bytes_eq word (codes "L")) refl e

geom_told : (geom : Geom) → geom_of (geom_text geom) ≡ Some geom
geom_told Area = refl
geom_told Line = refl
geom_told Point = refl

geom_lacks : (geom : Geom) → Lacks 32 (geom_text geom)
geom_lacks Area = All-cons (λ b. b ≢ 32) 65 [] (λ e. omega arith) (All-nil (λ b. b ≢ 32))
geom_lacks Line = All-cons (λ b. b ≢ 32) 76 [] (λ e. omega arith) (All-nil (λ b. b ≢ 32))
geom_lacks Point = All-cons (λ b. b ≢ 32) 80 [] (λ e. omega arith) (All-nil (λ b. b ≢ 32))

priority_is : (word : List ℕ) (p : ℕ) → priority_of word ≡ Some p → (p ≤ 9) × (word ≡ (48 + p) ∷ [])
priority_is [] p e = absurd cc
priority_is (digit ∷ []) p e =
    let t = taken (nat_le 48 digit && nat_le digit 57) (digit - 48) p e in
    let q = and_parts (nat_le 48 digit) (nat_le digit 57) t.0 in
    let low = leb-true 48 digit q.0 in
    let high = leb-true digit 57 q.1 in
    let value : digit ≡ 48 + p = omega (arith, t.1) in
    (omega (arith, t.1), ap (λ (n : ℕ). n ∷ []) value)
priority_is (digit ∷ other ∷ more) p e = absurd cc

priority_told : (p : ℕ) → p ≤ 9 → priority_of ((48 + p) ∷ []) ≡ Some p
priority_told p h =
    let low = le-leb 48 (48 + p) (omega arith) in
    let high = le-leb (48 + p) 57 (omega arith) in
    let value : (48 + p) - 48 ≡ p = omega arith in
    (λ i. cond (low i && high i) (Some (value i)) None)

priority_lacks : (p : ℕ) → Lacks 32 ((48 + p) ∷ [])
priority_lacks p = All-cons (λ b. b ≢ 32) (48 + p) [] (λ e. omega arith) (All-nil (λ b. b ≢ 32))

-- ---- lines

pub record IsMade (class geom priority conditions instructions : List ℕ) (w : WrittenLine) : Type 0 where
  pub class_is : acronym_of class ≡ Some w.class
  pub geom_is : geom_of geom ≡ Some w.geom
  pub priority_is : priority_of priority ≡ Some w.priority
  pub conditions_are : conditions_of conditions ≡ Some w.conditions
  pub instructions_are : instructions_of instructions ≡ Some w.instructions

made : (class geom priority conditions instructions : List ℕ) (w : WrittenLine)
    → written_with (acronym_of class) (geom_of geom) (priority_of priority) (conditions_of conditions) (instructions_of instructions) ≡ Some w
    → IsMade class geom priority conditions instructions w
made class geom priority conditions instructions w e =
    by (acronym_of class) refl (geom_of geom) refl (priority_of priority) refl (conditions_of conditions) refl (instructions_of instructions) refl e
  where
    by : (a : Option (List ℕ)) → acronym_of class ≡ a → (g : Option Geom) → geom_of geom ≡ g → (p : Option ℕ) → priority_of priority ≡ p
        → (cs : Option (List WrittenCondition)) → conditions_of conditions ≡ cs → (is : Option (List (List ℕ))) → instructions_of instructions ≡ is
        → written_with a g p cs is ≡ Some w → IsMade class geom priority conditions instructions w
    by None ea g eg p ep cs ec is ei e = absurd cc
    by (Some a) ea None eg p ep cs ec is ei e = absurd cc
    by (Some a) ea (Some g) eg None ep cs ec is ei e = absurd cc
    by (Some a) ea (Some g) eg (Some p) ep None ec is ei e = absurd cc
    by (Some a) ea (Some g) eg (Some p) ep (Some cs) ec None ei e = absurd cc
    by (Some a) ea (Some g) eg (Some p) ep (Some cs) ec (Some is) ei e =
        let same : ◌≡◌ {A = WrittenLine} (record { class = a; geom = g; priority = p; conditions = cs; instructions = is }) w = some_is _ _ e in
        record {
          class_is = ea ∙ ap (λ (x : WrittenLine). Some x.class) same;
          geom_is = eg ∙ ap (λ (x : WrittenLine). Some x.geom) same;
          priority_is = ep ∙ ap (λ (x : WrittenLine). Some x.priority) same;
          conditions_are = ec ∙ ap (λ (x : WrittenLine). Some x.conditions) same;
          instructions_are = ei ∙ ap (λ (x : WrittenLine). Some x.instructions) same;
        }

spelled_by : (text class geom priority conditions instructions : List ℕ) (w : WrittenLine)
    → text ≡ join_with_byte 32 (class ∷ geom ∷ priority ∷ conditions ∷ instructions ∷ []) → IsMade class geom priority conditions instructions w → Spells text w
spelled_by text class geom priority conditions instructions w parted m =
    let a = acronym_is class w.class m.class_is in
    let g = geom_is geom w.geom m.geom_is in
    let p = priority_is priority w.priority m.priority_is in
    let cs = conditions_read conditions w.conditions m.conditions_are in
    let is = instructions_read instructions w.instructions m.instructions_are in
    record {
      is_written = record { class = a.1; priority = p.0; conditions = cs.0; instructions = is.0 };
      spelled = parted ∙ (λ i. join_with_byte 32 (a.0 i ∷ g i ∷ p.1 i ∷ cs.1 i ∷ is.1 i ∷ []));
    }

in_parts : (text : List ℕ) (parts : List (List ℕ)) (w : WrittenLine) → text ≡ join_with_byte 32 parts → written_in parts ≡ Some w → Spells text w
unfolding written_in
in_parts text [] w parted e = absurd cc
in_parts text (a ∷ []) w parted e = absurd cc
in_parts text (a ∷ b ∷ []) w parted e = absurd cc
in_parts text (a ∷ b ∷ c ∷ []) w parted e = absurd cc
in_parts text (a ∷ b ∷ c ∷ d ∷ []) w parted e = absurd cc
in_parts text (a ∷ b ∷ c ∷ d ∷ first ∷ more) w parted e =
    spelled_by text a b c d (join_with_byte 32 (first ∷ more)) w parted (made a b c d (join_with_byte 32 (first ∷ more)) w e)

pub line_spelled : (text : List ℕ) (w : WrittenLine) → written_of text ≡ Some w → Spells text w
line_spelled text w e = in_parts text (parts_at 32 text) w (sym (join_with_byte-slice_split 32 text)) e

pub spelled_line : PartsAreFound → FirstIsFound → (text : List ℕ) (w : WrittenLine) → Spells text w → written_of text ≡ Some w
spelled_line found first text w s =
    let h = s.is_written in
    let geom = geom_text w.geom in
    let priority = (48 + w.priority) ∷ [] in
    let conditions = conditions_text w.conditions in
    let instructions = instructions_text w.instructions in
    let fourth = first 32 conditions instructions (conditions_lack_space w.conditions h.conditions) in
    let third = first 32 priority (conditions ++ 32 ∷ instructions) (priority_lacks w.priority) in
    let second = first 32 geom (priority ++ 32 ∷ (conditions ++ 32 ∷ instructions)) (geom_lacks w.geom) in
    let whole = first 32 w.class (geom ++ 32 ∷ (priority ++ 32 ∷ (conditions ++ 32 ∷ instructions))) (acronym_lacks w.class h.class) in
    ap written_of s.spelled
    ∙ line_cut (line_text w) w.class geom priority conditions instructions
    (whole ∙ ap (λ (l : List (List ℕ)). w.class ∷ l) (second ∙ ap (λ (l : List (List ℕ)). geom ∷ l) (third ∙ ap (λ (l : List (List ℕ)). priority ∷ l) fourth)))
    ∙ (λ i. written_with (acronym_some w.class h.class i) (geom_told w.geom i) (priority_told w.priority h.priority i)
    (conditions_told found first w.conditions h.conditions i) (instructions_told found w.instructions h.instructions i))
