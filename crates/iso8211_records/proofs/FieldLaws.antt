-- The values that are read from a field's text are spelled there, and those that are spelled are read.
use Rattle.std.proofs.Common.{◌≡◌, ℕ, zero, suc, ◌+◌, ◌≤◌, List, [], ◌∷◌, ◌++◌, length, Some, refl, sym, ap, ◌∙◌, subst, append_assoc, arith}
use Rattle.std.proofs.lemmas.List.{length-append}
use Rattle.iso8211_formats.specs.declared.format.Format.{Format}
use Rattle.iso8211_records.specs.declared.value.Value.{Value}
use Rattle.iso8211_records.specs.Spelling.{AreSpelled, FieldFormats, groups, IsFieldText}
use Rattle.iso8211_formats.specs.Reading.{◌>>=◌}
use Rattle.iso8211_records.specs.Values.{value_at, values_at, groups_at, values_of}
use Rattle.iso8211_formats.proofs.GivenValues.{bind_some}
use Rattle.iso8211_records.proofs.ValueLaws.{value_at-found, value_at-again, Spells-some}

-- ---- a list of values

pub values_at-found : (formats : List Format) (bytes : List ℕ) (values : List Value) (rest : List ℕ) → values_at formats bytes ≡ Some (values, rest) → (front : List ℕ) × (bytes ≡ front ++ rest) × AreSpelled formats values front
unfolding values_at
values_at-found [] bytes [] rest h = let left : bytes ≡ rest = grind arith in ([], left, refl)
values_at-found [] bytes (value ∷ values) rest h = absurd (grind arith)
values_at-found (format ∷ formats) bytes values rest h =
    let p = bind_some (value_at format bytes) (λ value. values_at formats value.1 >>= λ more. Some (value.0 ∷ more.0, more.1)) (values, rest) h in
    let q = bind_some (values_at formats p.0.1) (λ more. Some (p.0.0 ∷ more.0, more.1)) (values, rest) p.2 in
    let is : p.0.0 ∷ q.0.0 ≡ values = grind arith in
    let left : q.0.1 ≡ rest = grind arith in
    let first = value_at-found format bytes p.0.0 p.0.1 p.1 in
    let others = values_at-found formats p.0.1 q.0.0 q.0.1 q.1 in (
      first.0 ++ others.0,
      first.1 ∙ ap (λ (l : List ℕ). first.0 ++ l) (others.1 ∙ ap (λ (l : List ℕ). others.0 ++ l) left) ∙ sym (append_assoc first.0 others.0 rest),
      subst (λ (vs : List Value). AreSpelled (format ∷ formats) vs (first.0 ++ others.0)) is (first.0, others.0, refl, first.2, others.2),
    )

pub values_at-again : (formats : List Format) (values : List Value) (front rest : List ℕ) → AreSpelled formats values front → values_at formats (front ++ rest) ≡ Some (values, rest)
unfolding values_at
values_at-again [] [] front rest h = rw h refl
values_at-again [] (value ∷ values) front rest h = absurd h
values_at-again (format ∷ formats) [] front rest h = absurd h
values_at-again (format ∷ formats) (value ∷ values) front rest h =
    rw (h.2, append_assoc, value_at-again format value h.0 (h.1 ++ rest) h.3, values_at-again formats values h.1 rest h.4) refl

-- ---- spellings side by side

pub AreSpelled-append : (fs gs : List Format) (vs ws : List Value) (a b : List ℕ) → AreSpelled fs vs a → AreSpelled gs ws b → AreSpelled (fs ++ gs) (vs ++ ws) (a ++ b)
AreSpelled-append [] gs [] ws a b h k = rw h k
AreSpelled-append [] gs (v ∷ vs) ws a b h k = absurd h
AreSpelled-append (f ∷ fs) gs [] ws a b h k = absurd h
AreSpelled-append (f ∷ fs) gs (v ∷ vs) ws a b h k =
    (h.0, h.1 ++ b, rw (h.2, append_assoc) refl, h.3, AreSpelled-append fs gs vs ws h.1 b h.4 k)

-- values and bytes of a front of the formats, and of the others
pub record IsSplit (fs gs : List Format) (values : List Value) (text : List ℕ) : Type 0 where
  pub us : List Value
  pub ws : List Value
  pub a : List ℕ
  pub b : List ℕ
  pub values_are : values ≡ us ++ ws
  pub text_is : text ≡ a ++ b
  pub front : AreSpelled fs us a
  pub back : AreSpelled gs ws b

pub AreSpelled-split : (fs gs : List Format) (values : List Value) (text : List ℕ) → AreSpelled (fs ++ gs) values text → IsSplit fs gs values text
AreSpelled-split [] gs values text h = record { us = []; ws = values; a = []; b = text; values_are = refl; text_is = refl; front = refl; back = h }
AreSpelled-split (f ∷ fs) gs [] text h = absurd h
AreSpelled-split (f ∷ fs) gs (v ∷ vs) text h =
    let p = AreSpelled-split fs gs vs h.1 h.4 in
    record {
      us = v ∷ p.us;
      ws = p.ws;
      a = h.0 ++ p.a;
      b = p.b;
      values_are = ap (λ (l : List Value). v ∷ l) p.values_are;
      text_is = h.2 ∙ ap (λ (l : List ℕ). h.0 ++ l) p.text_is ∙ sym (append_assoc h.0 p.a p.b);
      front = (h.0, p.a, refl, h.3, p.front);
      back = p.back;
    }

pub AreSpelled-shorter : (fs : List Format) (vs : List Value) (text : List ℕ) → AreSpelled fs vs text → length fs ≤ length text
AreSpelled-shorter [] vs text h = omega arith
AreSpelled-shorter (f ∷ fs) [] text h = absurd h
AreSpelled-shorter (f ∷ fs) (v ∷ vs) text h =
    let some = Spells-some f v h.0 h.3 in
    let others = AreSpelled-shorter fs vs h.1 h.4 in
    let len : length text ≡ length h.0 + length h.1 = ap length h.2 ∙ length-append h.0 h.1 in
    omega arith

pub AreSpelled-none : (fs : List Format) (vs : List Value) → AreSpelled fs vs [] → vs ≡ []
AreSpelled-none [] [] h = refl
AreSpelled-none [] (v ∷ vs) h = absurd h
AreSpelled-none (f ∷ fs) vs h = absurd (let some = AreSpelled-shorter (f ∷ fs) vs [] h in omega arith)

AreSpelled-nil : (vs : List Value) (text : List ℕ) → AreSpelled [] vs text → text ≡ []
AreSpelled-nil [] text h = h
AreSpelled-nil (v ∷ vs) text h = absurd h

-- ---- groups

groups-nil : (count : ℕ) → groups count [] ≡ []
groups-nil zero = refl
groups-nil (suc count) = groups-nil count

pub groups_at-found : (bound : ℕ) (group : List Format) (bytes : List ℕ) (values : List Value) → groups_at bound group bytes ≡ Some values → (count : ℕ) × AreSpelled (groups count group) values bytes
unfolding groups_at
groups_at-found zero group [] values h = (0, let none : values ≡ [] = grind arith in rw none refl)
groups_at-found zero group (byte ∷ bytes) values h = absurd (grind arith)
groups_at-found (suc bound) group [] values h = (0, let none : values ≡ [] = grind arith in rw none refl)
groups_at-found (suc bound) group (byte ∷ bytes) values h =
    let p = bind_some (values_at group (byte ∷ bytes)) (λ first. groups_at bound group first.1 >>= λ more. Some (first.0 ++ more)) values h in
    let q = bind_some (groups_at bound group p.0.1) (λ more. Some (p.0.0 ++ more)) values p.2 in
    let is : p.0.0 ++ q.0 ≡ values = grind arith in
    let first = values_at-found group (byte ∷ bytes) p.0.0 p.0.1 p.1 in
    let others = groups_at-found bound group p.0.1 q.0 q.1 in (
      suc others.0,
      subst (λ (vs : List Value). AreSpelled (groups (suc others.0) group) vs (byte ∷ bytes)) is
          (subst (λ (l : List ℕ). AreSpelled (groups (suc others.0) group) (p.0.0 ++ q.0) l) (sym first.1)
          (AreSpelled-append group (groups others.0 group) p.0.0 q.0 first.0 p.0.1 first.2 others.1)),
    )

pub groups_at-nil : (bound : ℕ) (group : List Format) → groups_at bound group [] ≡ Some []
unfolding groups_at
groups_at-nil zero group = refl
groups_at-nil (suc bound) group = refl

pub groups_at-again : (count : ℕ) (group : List Format) (values : List Value) (bytes : List ℕ) (bound : ℕ) → length bytes ≤ bound → AreSpelled (groups count group) values bytes → groups_at bound group bytes ≡ Some values
unfolding groups_at
groups_at-again count group values [] bound enough h = rw (groups_at-nil bound group, AreSpelled-none (groups count group) values h) refl
groups_at-again count group values (byte ∷ bytes) zero enough h = absurd (omega arith)
groups_at-again count [] values (byte ∷ bytes) (suc bound) enough h = absurd (let none : byte ∷ bytes ≡ [] = AreSpelled-nil values (byte ∷ bytes) (subst (λ (fs : List Format). AreSpelled fs values (byte ∷ bytes)) (groups-nil count) h) in cc)
groups_at-again zero (f ∷ group) values (byte ∷ bytes) (suc bound) enough h = absurd (let none : byte ∷ bytes ≡ [] = AreSpelled-nil values (byte ∷ bytes) h in cc)
groups_at-again (suc count) (f ∷ group) values (byte ∷ bytes) (suc bound) enough h =
    let p = AreSpelled-split (f ∷ group) (groups count (f ∷ group)) values (byte ∷ bytes) h in
    let first : values_at (f ∷ group) (byte ∷ bytes) ≡ Some (p.us, p.b) = ap (values_at (f ∷ group)) p.text_is ∙ values_at-again (f ∷ group) p.us p.a p.b p.front in
    let some = AreSpelled-shorter (f ∷ group) p.us p.a p.front in
    let len : length (byte ∷ bytes) ≡ length p.a + length p.b = ap length p.text_is ∙ length-append p.a p.b in
    let others = groups_at-again count (f ∷ group) p.ws p.b bound (omega arith) p.back in
    rw (first, others) (ap (λ (vs : List Value). Some vs) (sym p.values_are))

-- ---- the text of a field

pub values_of-found : (formats : FieldFormats) (text : List ℕ) (values : List Value) → values_of formats text ≡ Some values → IsFieldText formats values text
unfolding values_of
values_of-found formats text values h =
    let p = bind_some (values_at formats.once text) (λ first. groups_at (length first.1) formats.group first.1 >>= λ more. Some (first.0 ++ more)) values h in
    let q = bind_some (groups_at (length p.0.1) formats.group p.0.1) (λ more. Some (p.0.0 ++ more)) values p.2 in
    let is : p.0.0 ++ q.0 ≡ values = grind arith in
    let first = values_at-found formats.once text p.0.0 p.0.1 p.1 in
    let others = groups_at-found (length p.0.1) formats.group p.0.1 q.0 q.1 in (
      others.0,
      subst (λ (vs : List Value). AreSpelled (formats.once ++ groups others.0 formats.group) vs text) is
          (subst (λ (l : List ℕ). AreSpelled (formats.once ++ groups others.0 formats.group) (p.0.0 ++ q.0) l) (sym first.1)
          (AreSpelled-append formats.once (groups others.0 formats.group) p.0.0 q.0 first.0 p.0.1 first.2 others.1)),
    )

pub values_of-again : (formats : FieldFormats) (values : List Value) (text : List ℕ) → IsFieldText formats values text → values_of formats text ≡ Some values
unfolding values_of
values_of-again formats values text h =
    let p = AreSpelled-split formats.once (groups h.0 formats.group) values text h.1 in
    let first : values_at formats.once text ≡ Some (p.us, p.b) = ap (values_at formats.once) p.text_is ∙ values_at-again formats.once p.us p.a p.b p.front in
    rw (first, groups_at-again h.0 formats.group p.ws p.b (length p.b) (omega arith) p.back) (ap (λ (vs : List Value). Some vs) (sym p.values_are))
