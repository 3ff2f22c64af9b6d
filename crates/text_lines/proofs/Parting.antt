-- The parts of a text, split and joined.
use Rattle.std.proofs.Common.{◌≡◌, ◌≢◌, ℕ, ◌+◌, ◌-◌, ◌<◌, ◌≤◌, Bool, true, false, cond, ltb, eqb, List, [], ◌∷◌, ◌++◌, length, take, drop, position, Bor, Option, Some, None, refl, sym, ap, subst, ◌∙◌, arith}
use Rattle.std.specs.Prelude.{IfSome}
use Rattle.std.specs.List.{All, onto_first, position_or_len, join_with_byte}
use Rattle.std.specs.Char.{digit_value}
use Rattle.std.specs.Str.Parse.{AllDigits}
use Rattle.std.specs.Str.Lines.{lines, lines_of_parts, strip_carriage_return}
use Rattle.std.proofs.lemmas.Bool.{ltb-true, ltb-false}
use Rattle.std.proofs.lemmas.Bool.Decides.{nat_tests}
use Rattle.std.proofs.lemmas.List.{take_rest}
use Rattle.std.proofs.lemmas.List.Elements.{All-nil, All-cons, All-weaker, All-head, All-tail}
use Rattle.std.proofs.lemmas.List.Splits.{slice_split_at, slice_split_none, slice_split_first, length-slice_split}
use Rattle.std.proofs.lemmas.List.Sums.{fails_before_first}
use Rattle.std.proofs.lemmas.Str.Parse.{digit_from_value}
use Rattle.text_lines.specs.Lines.{parts_at, Lacks}

abbrev pub parts_by : ℕ → ℕ → Bool
parts_by parting byte = eqb byte parting

other : (parting byte : ℕ) → byte ≢ parting → parts_by parting byte ≡ false
other parting byte h = grind (arith, nat_tests)

lacking : (parting : ℕ) (text : List ℕ) → Lacks parting text → All (λ b. parts_by parting b ≡ false) text
lacking parting text h = All-weaker (λ b. b ≢ parting) (λ b. parts_by parting b ≡ false) (other parting) text h

pub first_part : (parting : ℕ) (part rest : List ℕ) → Lacks parting part → parts_at parting (part ++ parting ∷ rest) ≡ part ∷ parts_at parting rest
first_part parting part rest h = slice_split_at (parts_by parting) part parting rest (lacking parting part h) (grind (arith, nat_tests))

pub one_part : (parting : ℕ) (part : List ℕ) → Lacks parting part → parts_at parting part ≡ part ∷ []
one_part parting part h = slice_split_none (parts_by parting) part (lacking parting part h)

pub joined_parts : (parting : ℕ) (part : List ℕ) (parts : List (List ℕ)) → All (Lacks parting) (part ∷ parts) → parts_at parting (join_with_byte parting (part ∷ parts)) ≡ part ∷ parts
joined_parts parting part [] h = one_part parting part (All-head (Lacks parting) part [] h)
joined_parts parting part (next ∷ more) h =
    first_part parting part (join_with_byte parting (next ∷ more)) (All-head (Lacks parting) part (next ∷ more) h)
    ∙ ap (λ (l : List (List ℕ)). part ∷ l) (joined_parts parting next more (All-tail (Lacks parting) part (next ∷ more) h))

no_byte : (parting byte : ℕ) → parts_by parting byte ≡ false → byte ≢ parting
no_byte parting byte h = grind (arith, nat_tests)

onto_lacking : (parting byte : ℕ) (parts : List (List ℕ)) → byte ≢ parting → All (Lacks parting) parts → All (Lacks parting) (onto_first byte parts)
onto_lacking parting byte [] h all = All-cons (Lacks parting) (byte ∷ []) [] (All-cons (λ b. b ≢ parting) byte [] h (All-nil (λ b. b ≢ parting))) (All-nil (Lacks parting))
onto_lacking parting byte (part ∷ parts) h all =
    All-cons (Lacks parting) (byte ∷ part) parts
    (All-cons (λ b. b ≢ parting) byte part h (All-head (Lacks parting) part parts all)) (All-tail (Lacks parting) part parts all)

pub lacking_parts : (parting : ℕ) (text : List ℕ) → All (Lacks parting) (parts_at parting text)
lacking_parts parting [] = All-cons (Lacks parting) [] [] (All-nil (λ b. b ≢ parting)) (All-nil (Lacks parting))
lacking_parts parting (byte ∷ text) =
    elim (parts_by parting byte) as (λ b. parts_by parting byte ≡ b → All (Lacks parting) (cond b ([] ∷ parts_at parting text) (onto_first byte (parts_at parting text)))) [
      | true ↦ λ h. All-cons (Lacks parting) [] (parts_at parting text) (All-nil (λ b. b ≢ parting)) (lacking_parts parting text)
      | false ↦ λ h. onto_lacking parting byte (parts_at parting text) (no_byte parting byte h) (lacking_parts parting text)
    ] refl

-- ---- numbers

digit_no_space : (byte : ℕ) → digit_value byte < 10 → byte ≢ 32
digit_no_space byte h = let r = digit_from_value byte h in omega arith

-- digits have no space among them
pub digits_lack : (text : List ℕ) → AllDigits 10 text → Lacks 32 text
digits_lack [] h = All-nil (λ b. b ≢ 32)
digits_lack (c ∷ cs) h = All-cons (λ b. b ≢ 32) c cs (digit_no_space c h.0) (digits_lack cs h.1)

-- ---- cuts

place : (p : ℕ → Bool) (text : List ℕ) (at : ℕ) → position p text ≡ Some at → (position_or_len p text < length text) × (position_or_len p text ≡ at)
place p text at e =
    elim (ltb (position_or_len p text) (length text)) as (λ b. ltb (position_or_len p text) (length text) ≡ b → cond b (Some (position_or_len p text)) None ≡ Some at → (position_or_len p text < length text) × (position_or_len p text ≡ at)) [
      | true ↦ λ h f. (ltb-true _ _ h, cc)
      | false ↦ λ h f. absurd cc
    ] refl e

past : (p : ℕ → Bool) (text : List ℕ) → position p text ≡ None → length text ≤ position_or_len p text
past p text e =
    elim (ltb (position_or_len p text) (length text)) as (λ b. ltb (position_or_len p text) (length text) ≡ b → cond b (Some (position_or_len p text)) None ≡ None → length text ≤ position_or_len p text) [
      | true ↦ λ h f. absurd cc
      | false ↦ λ h f. ltb-false _ _ h
    ] refl e

-- where the byte stands first, a part ends
pub cut_some : (parting : ℕ) (text : List ℕ) (at : ℕ) → position (parts_by parting) text ≡ Some at
    → parts_at parting text ≡ take at text ∷ parts_at parting (take (length text - (at + 1)) (drop (at + 1) text))
cut_some parting text at e =
    let p = place (parts_by parting) text at e in
    slice_split_first (parts_by parting) text 0 (omega (arith, p.0))
    ∙ ap (λ (n : ℕ). take n text ∷ parts_at parting (drop (n + 1) text)) p.1
    ∙ ap (λ (l : List ℕ). take at text ∷ parts_at parting l) (sym (take_rest text (at + 1)))

pub cut_none : (parting : ℕ) (text : List ℕ) → position (parts_by parting) text ≡ None → parts_at parting text ≡ text ∷ []
cut_none parting text e =
    slice_split_none (parts_by parting) text (λ k d lt. fails_before_first (parts_by parting) text k d (omega (arith, past (parts_by parting) text e)))

pub place_within : (p : ℕ → Bool) (text : List ℕ) (at : ℕ) → position p text ≡ Some at → at < length text
place_within p text at e = let h = place p text at e in omega (arith, h.0, h.1)

-- what a cut says where there is a rest
pub cut_gives : (parting : ℕ) (o : Option (Bor (List ℕ))) (rest : Bor (List ℕ)) (text first : List ℕ) → o ≡ Some rest
    → IfSome o (λ r. parts_at parting text ≡ first ∷ parts_at parting r.now) → parts_at parting text ≡ first ∷ parts_at parting rest.now
cut_gives parting o rest text first e h = subst (λ (x : Option (Bor (List ℕ))). IfSome x (λ r. parts_at parting text ≡ first ∷ parts_at parting r.now)) e h

-- parts that stand behind the third
pub behind_the_third : (parting : ℕ) (parts : List (List ℕ)) (a b c rest : List ℕ) → parts ≡ a ∷ b ∷ c ∷ parts_at parting rest → 3 < length parts
behind_the_third parting parts a b c rest e =
    omega (arith, ap (λ (l : List (List ℕ)). length l) e, length-slice_split (parts_by parting) rest)

-- ---- lines

lines_more : (part : List ℕ) (parts : List (List ℕ)) → 1 ≤ length parts → lines_of_parts (part ∷ parts) ≡ strip_carriage_return part ∷ lines_of_parts parts
lines_more part [] h = absurd (omega (arith, h))
lines_more part (next ∷ more) h = refl

pub line_cut : (bytes : List ℕ) (at : ℕ) → position (parts_by 10) bytes ≡ Some at
    → lines bytes ≡ strip_carriage_return (take at bytes) ∷ lines (take (length bytes - (at + 1)) (drop (at + 1) bytes))
line_cut bytes at e =
    let rest = take (length bytes - (at + 1)) (drop (at + 1) bytes) in
    ap lines_of_parts (cut_some 10 bytes at e) ∙ lines_more (take at bytes) (parts_at 10 rest) (omega (arith, length-slice_split (parts_by 10) rest))

pub last_line : (bytes : List ℕ) → position (parts_by 10) bytes ≡ None → 1 ≤ length bytes → lines bytes ≡ bytes ∷ []
last_line bytes e h = ap lines_of_parts (cut_none 10 bytes e) ∙ alone bytes h
  where
    alone : (bytes : List ℕ) → 1 ≤ length bytes → lines_of_parts (bytes ∷ []) ≡ bytes ∷ []
    alone [] h = absurd (omega (arith, h))
    alone (x ∷ xs) h =
        let some : eqb (length (x ∷ xs)) 0 ≡ false = grind (arith, nat_tests) in
        ap (λ (b : Bool). cond b [] ((x ∷ xs) ∷ [])) some

-- ---- what the law of parts says, for the crates above

abbrev pub PartsAreJoined : Type 0
PartsAreJoined = (parting : ℕ) (text : List ℕ) → join_with_byte parting (parts_at parting text) ≡ text

abbrev pub PartsAreFound : Type 0
PartsAreFound = (parting : ℕ) (part : List ℕ) (parts : List (List ℕ)) → All (Lacks parting) (part ∷ parts) → parts_at parting (join_with_byte parting (part ∷ parts)) ≡ part ∷ parts
