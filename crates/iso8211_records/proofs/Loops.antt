-- Reading one after the other, as a loop does.
use Rattle.std.proofs.Common.{◌≡◌, ℕ, zero, suc, ◌+◌, ◌≤◌, ◌<◌, List, [], ◌∷◌, ◌++◌, length, get_or, drop, Option, Some, None, refl, sym, ap, ◌∙◌, append_assoc, add-one, arith, drop-cons}
use Rattle.std.proofs.Math.ListN.{drop_of_length-le}
use Rattle.std.proofs.lemmas.List.{append-nil, length-append}
use Rattle.iso8211_formats.specs.declared.format.Format.{Format}
use Rattle.iso8211_records.specs.declared.value.Value.{Value}
use Rattle.iso8211_records.specs.declared.fault.ValuesFault.{ValuesFault}
use Rattle.iso8211_records.specs.declared.fault.ValuesFault.TheVariants.{Unspelled, NoMemory}
use Rattle.iso8211_formats.specs.Reading.{◌>>=◌}
use Rattle.iso8211_records.specs.Spelling.{FieldFormats}
use Rattle.iso8211_records.specs.Values.{Lacks, before, before_all, value_at, values_at, groups_at, values_of}
use Rattle.iso8211_formats.proofs.GivenValues.{bind_some}
use Rattle.iso8211_records.proofs.FieldLaws.{values_at-found, AreSpelled-shorter, groups_at-nil}

regroup : (front : List Value) (value : Value) (read : Option (List Value × List ℕ)) → before front (read >>= λ x. Some (value ∷ x.0, x.1)) ≡ before (front ++ value ∷ []) read
regroup front value (Some x) = ap (λ (values : List Value). Some (values, x.1)) (simp append_assoc)
regroup front value None = refl

-- values: one more
pub values-more : (front : List Value) (formats : List Format) (i : ℕ) (d : Format) (bytes : List ℕ) (value : Value) (after : List ℕ) (total : Option (List Value × List ℕ))
    → i < length formats → value_at (get_or formats i d) bytes ≡ Some (value, after)
    → before front (values_at (drop i formats) bytes) ≡ total → before (front ++ value ∷ []) (values_at (drop (i + 1) formats) after) ≡ total
unfolding values_at
values-more front formats i d bytes value after total inside one so_far =
    let step : before front (values_at (drop i formats) bytes) ≡ before (front ++ value ∷ []) (values_at (drop (suc i) formats) after) =
    rw (drop-cons formats i d inside, one) (regroup front value (values_at (drop (suc i) formats) after)) in
    rw add-one (sym step ∙ so_far)

-- or no value
pub values-fail : (fault : ValuesFault) (front : List Value) (formats : List Format) (i : ℕ) (d : Format) (bytes : List ℕ) (total : Option (List Value × List ℕ))
    → i < length formats → Lacks fault (value_at (get_or formats i d) bytes)
    → before front (values_at (drop i formats) bytes) ≡ total → Lacks fault total
unfolding values_at
values-fail NoMemory front formats i d bytes total inside none so_far = tt
values-fail Unspelled front formats i d bytes total inside none so_far =
    let step : before front (values_at (drop i formats) bytes) ≡ None = rw (drop-cons formats i d inside, none) refl in
    sym so_far ∙ step

-- and all of them
pub values-all : (front : List Value) (formats : List Format) (i : ℕ) (bytes : List ℕ) (total : Option (List Value × List ℕ))
    → length formats ≤ i → before front (values_at (drop i formats) bytes) ≡ total → total ≡ Some (front, bytes)
unfolding values_at
values-all front formats i bytes total all so_far =
    let step : before front (values_at (drop i formats) bytes) ≡ Some (front, bytes) =
    rw (drop_of_length-le formats all) (ap (λ (values : List Value). Some (values, bytes)) (append-nil front)) in
    sym so_far ∙ step

-- ---- groups

-- values take a byte each at least
pub values-shorter : (formats : List Format) (bytes : List ℕ) (values : List Value) (rest : List ℕ) → values_at formats bytes ≡ Some (values, rest) → length rest + length formats ≤ length bytes
values-shorter formats bytes values rest h =
    let p = values_at-found formats bytes values rest h in
    let some = AreSpelled-shorter formats values p.0 p.2 in
    let len : length bytes ≡ length p.0 + length rest = ap length p.1 ∙ length-append p.0 rest in
    omega arith

-- a bound on the groups is enough where it is the bytes' length
pub groups-bound : (bound other : ℕ) (group : List Format) (bytes : List ℕ) → length bytes ≤ bound → length bytes ≤ other → 0 < length group → groups_at bound group bytes ≡ groups_at other group bytes
unfolding groups_at
groups-bound bound other group [] enough enough_too some = groups_at-nil bound group ∙ sym (groups_at-nil other group)
groups-bound zero other group (byte ∷ bytes) enough enough_too some = absurd (omega arith)
groups-bound (suc bound) zero group (byte ∷ bytes) enough enough_too some = absurd (omega arith)
groups-bound (suc bound) (suc other) group (byte ∷ bytes) enough enough_too some =
    after-values bound other group (byte ∷ bytes) (values_at group (byte ∷ bytes)) (λ values rest h.
    let less = values-shorter group (byte ∷ bytes) values rest h in
    groups-bound bound other group rest (omega arith) (omega arith) some)
  where
    after-values : (bound other : ℕ) (group : List Format) (bytes : List ℕ) (read : Option (List Value × List ℕ))
        → ((values : List Value) (rest : List ℕ) → read ≡ Some (values, rest) → groups_at bound group rest ≡ groups_at other group rest)
        → (read >>= λ x. groups_at bound group x.1 >>= λ more. Some (x.0 ++ more)) ≡ (read >>= λ x. groups_at other group x.1 >>= λ more. Some (x.0 ++ more))
    after-values bound other group bytes None same = refl
    after-values bound other group bytes (Some x) same = rw (same x.0 x.1 refl) refl

-- values and then groups, at most so many by the bytes that are left
pub join_groups : (front : List Value) (read : Option (List Value × List ℕ)) (values : List Value) (after : List ℕ) (bound : List ℕ → ℕ) (group : List Format) → before front read ≡ Some (values, after)
    → before_all front (read >>= λ x. groups_at (bound x.1) group x.1 >>= λ more. Some (x.0 ++ more)) ≡ before_all values (groups_at (bound after) group after)
join_groups front None values after bound group h = absurd cc
join_groups front (Some x) values after bound group h =
    let is : front ++ x.0 ≡ values = grind arith in
    let left : x.1 ≡ after = grind arith in
    rw (← is, ← left) (append_front front x.0 (groups_at (bound x.1) group x.1))
  where
    append_front : (front values : List Value) (read : Option (List Value)) → before_all front (read >>= λ more. Some (values ++ more)) ≡ before_all (front ++ values) read
    append_front front values None = refl
    append_front front values (Some more) = ap (λ (vs : List Value). Some vs) (sym (append_assoc front values more))

pub no_groups : (front : List Value) (read : Option (List Value × List ℕ)) (bound : List ℕ → ℕ) (group : List Format) → before front read ≡ None
    → before_all front (read >>= λ x. groups_at (bound x.1) group x.1 >>= λ more. Some (x.0 ++ more)) ≡ None
no_groups front None bound group h = refl
no_groups front (Some x) bound group h = absurd cc

pub before-shorter : (front values : List Value) (group : List Format) (bytes after : List ℕ) → before front (values_at group bytes) ≡ Some (values, after) → length after + length group ≤ length bytes
before-shorter front values group bytes after h =
    let p = bind_some (values_at group bytes) (λ x. Some (front ++ x.0, x.1)) (values, after) h in
    let left : p.0.1 ≡ after = grind arith in
    let shorter = values-shorter group bytes p.0.0 p.0.1 p.1 in
    let len : length p.0.1 ≡ length after = ap length left in
    omega arith

-- one group more
pub groups-more : (front values : List Value) (group : List Format) (bytes after : List ℕ) (total : Option (List Value))
    → 0 < length group → 0 < length bytes → before front (values_at group bytes) ≡ Some (values, after)
    → before_all front (groups_at (length bytes) group bytes) ≡ total → before_all values (groups_at (length after) group after) ≡ total
unfolding groups_at
groups-more front values group [] after total some left one so_far = absurd (omega arith)
groups-more front values group (byte ∷ bytes) after total some left one so_far =
    let shorter : length after + length group ≤ length (byte ∷ bytes) = before-shorter front values group (byte ∷ bytes) after one in
    let less : length after ≤ length bytes = omega arith in
    let bound : groups_at (length bytes) group after ≡ groups_at (length after) group after = groups-bound (length bytes) (length after) group after less (omega arith) some in
    ap (before_all values) (sym bound) ∙ sym (join_groups front (values_at group (byte ∷ bytes)) values after (λ _. length bytes) group one) ∙ so_far

-- or none
pub groups-fail : (fault : ValuesFault) (front : List Value) (group : List Format) (bytes : List ℕ) (total : Option (List Value))
    → 0 < length bytes → Lacks fault (before front (values_at group bytes))
    → before_all front (groups_at (length bytes) group bytes) ≡ total → Lacks fault total
unfolding groups_at
groups-fail NoMemory front group bytes total left none so_far = tt
groups-fail Unspelled front group [] total left none so_far = absurd (omega arith)
groups-fail Unspelled front group (byte ∷ bytes) total left none so_far =
    sym so_far ∙ no_groups front (values_at group (byte ∷ bytes)) (λ _. length bytes) group none

-- and all of them
pub groups-all : (front : List Value) (group : List Format) (bytes : List ℕ) (total : Option (List Value))
    → length bytes ≡ 0 → before_all front (groups_at (length bytes) group bytes) ≡ total → total ≡ Some front
groups-all front group [] total all so_far = sym so_far ∙ rw (groups_at-nil 0 group) (ap (λ (vs : List Value). Some vs) (append-nil front))
groups-all front group (byte ∷ bytes) total all so_far = absurd (omega arith)

-- groups of nothing take no byte
pub groups-empty : (bound : ℕ) (bytes : List ℕ) → 0 < length bytes → groups_at bound [] bytes ≡ None
unfolding groups_at values_at
groups-empty bound [] left = absurd (omega arith)
groups-empty zero (byte ∷ bytes) left = refl
groups-empty (suc bound) (byte ∷ bytes) left = rw (groups-empty bound (byte ∷ bytes) left) refl

pub groups-none : (front : List Value) (group : List Format) (bytes : List ℕ) → length group ≡ 0 → 0 < length bytes → before_all front (groups_at (length bytes) group bytes) ≡ None
groups-none front [] bytes empty left = rw (groups-empty (length bytes) bytes left) refl
groups-none front (format ∷ group) bytes empty left = absurd (omega arith)

pub shorter-rest : (after rest group : ℕ) → 0 < group → after + group ≤ rest → after < rest
shorter-rest after rest group some less = omega arith

pub longer : (least : ℕ) (front more : List Value) → least ≤ length front → least ≤ length (front ++ more)
longer least front more long = omega (arith, length-append front more)

-- ---- the values of a text

pub values_of-joined : (front : List Value) (formats : FieldFormats) (text : List ℕ) (values : List Value) (after : List ℕ) → before front (values_at formats.once text) ≡ Some (values, after)
    → before_all values (groups_at (length after) formats.group after) ≡ before_all front (values_of formats text)
unfolding values_of
values_of-joined front formats text values after h = sym (join_groups front (values_at formats.once text) values after length formats.group h)

pub values_of-fails : (fault : ValuesFault) (front : List Value) (formats : FieldFormats) (text : List ℕ) → Lacks fault (before front (values_at formats.once text)) → Lacks fault (before_all front (values_of formats text))
unfolding values_of
values_of-fails NoMemory front formats text h = tt
values_of-fails Unspelled front formats text h = no_groups front (values_at formats.once text) length formats.group h
