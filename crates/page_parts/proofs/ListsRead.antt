-- Lists are read as they are spelled, and as a loop reads them.
use Rattle.std.proofs.Common.{◌≡◌, ℕ, zero, suc, ◌+◌, ◌-◌, ◌<◌, ◌≤◌, ◌^◌, List, [], ◌∷◌, ◌++◌, length, Option, Some, None, refl, sym, ap, subst, ◌∙◌, append_assoc, arith}
use Rattle.std.specs.List.{AllByRecursion, flat_map}
use Rattle.std.specs.Int.{w64}
use Rattle.std.proofs.lemmas.List.{append-nil}
use Rattle.page_parts.specs.declared.fault.PageFault.{PageFault}
use Rattle.page_parts.specs.declared.fault.PageFault.TheVariants.{Unspelled, NoMemory}
use Rattle.page_parts.specs.Reader.{Lacks, Reader, Reads, ◌>>=◌, then_by}
use Rattle.page_parts.specs.Numbers.{number, number_at}
use Rattle.page_parts.specs.Lists.{AreInRange, counted_list, counted_list_at, items_at}
use Rattle.page_parts.proofs.NumbersRead.{eight_read}
use Rattle.page_parts.proofs.ReadBehind.{bind_some, seen_reads, some_is, then_by_reads}

module _ {X : Type 0} (item : Reader X) (spelling : X → List ℕ) (P : X → Type 0) (reads : Reads item spelling P) where
  items_taken : (n : ℕ) (bytes : List ℕ) (xs : List X) (rest : List ℕ) → items_at item n bytes ≡ Some (xs, rest)
      → (bytes ≡ flat_map spelling xs ++ rest) × ((length xs ≡ n) × AllByRecursion P xs)
  unfolding items_at
  items_taken zero bytes xs rest e =
      subst (λ (y : List X × List ℕ). (bytes ≡ flat_map spelling y.0 ++ y.1) × ((length y.0 ≡ 0) × AllByRecursion P y.0)) (some_is ([], bytes) (xs, rest) e) (refl, (refl, tt))
  items_taken (suc n) bytes xs rest e =
      let a = bind_some (item bytes) (λ (a : X × List ℕ). items_at item n a.1 >>= λ more. Some (a.0 ∷ more.0, more.1)) (xs, rest) e in
      let b = bind_some (items_at item n a.0.1) (λ (more : List X × List ℕ). Some (a.0.0 ∷ more.0, more.1)) (xs, rest) a.2 in
      let h = items_taken n a.0.1 b.0.0 b.0.1 b.1 in
      let whole : bytes ≡ (spelling a.0.0 ++ flat_map spelling b.0.0) ++ b.0.1 =
      reads.spelled bytes a.0.0 a.0.1 a.1 ∙ ap (λ (l : List ℕ). spelling a.0.0 ++ l) h.0 ∙ sym (append_assoc (spelling a.0.0) (flat_map spelling b.0.0) b.0.1) in
      subst (λ (y : List X × List ℕ). (bytes ≡ flat_map spelling y.0 ++ y.1) × ((length y.0 ≡ suc n) × AllByRecursion P y.0))
      (some_is (a.0.0 ∷ b.0.0, b.0.1) (xs, rest) b.2)
      (whole, (ap (λ (m : ℕ). suc m) h.1.0, (reads.ranged bytes a.0.0 a.0.1 a.1, h.1.1)))

  items_again : (xs : List X) (rest : List ℕ) → AllByRecursion P xs → items_at item (length xs) (flat_map spelling xs ++ rest) ≡ Some (xs, rest)
  unfolding items_at
  items_again [] rest each = refl
  items_again (x ∷ xs) rest each =
      ap (λ (bytes : List ℕ). item bytes >>= λ a. items_at item (length xs) a.1 >>= λ more. Some (a.0 ∷ more.0, more.1)) (append_assoc (spelling x) (flat_map spelling xs) rest)
      ∙ ap (λ (found : Option (X × List ℕ)). found >>= λ a. items_at item (length xs) a.1 >>= λ more. Some (a.0 ∷ more.0, more.1)) (reads.again x (flat_map spelling xs ++ rest) each.0)
      ∙ ap (λ (found : Option (List X × List ℕ)). found >>= λ more. Some (x ∷ more.0, more.1)) (items_again xs rest each.1)

  pub items_reads : (n : ℕ) → Reads (items_at item n) (flat_map spelling) (λ xs. (length xs ≡ n) × AllByRecursion P xs)
  items_reads n = record {
    spelled = λ bytes xs rest e. (items_taken n bytes xs rest e).0;
    ranged = λ bytes xs rest e. (items_taken n bytes xs rest e).1;
    again = λ xs rest h. subst (λ (m : ℕ). items_at item m (flat_map spelling xs ++ rest) ≡ Some (xs, rest)) h.0 (items_again xs rest h.1);
  }

  pub counted_list_reads : Reads (counted_list_at item) (counted_list spelling) (AreInRange P)
  unfolding counted_list counted_list_at
  counted_list_reads =
      seen_reads (λ (x : ℕ × List X). x.1) (λ (xs : List X). (length xs, xs)) (then_by (number_at w64) (items_at item))
      (λ x. number w64 x.0 ++ flat_map spelling x.1) (λ x. (x.0 < 2 ^ 64) × ((length x.1 ≡ x.0) × AllByRecursion P x.1)) (AreInRange P)
      (then_by_reads (number_at w64) (items_at item) (number w64) (λ _. flat_map spelling) (λ n. n < 2 ^ 64) (λ n xs. (length xs ≡ n) × AllByRecursion P xs) eight_read (λ n _. items_reads n))
      (λ x h. (ap (λ (n : ℕ). (n, x.1)) h.1.0, record { count = subst (λ (n : ℕ). n < 2 ^ 64) (sym h.1.0) h.0; each = h.1.1 }))
      (λ xs h. (refl, (h.count, (refl, h.each))))

-- ---- one after the other, as a loop reads

-- what was read before, and what is still read
abbrev pub behind : {X : Type 0} → List X → Option (List X × List ℕ) → Option (List X × List ℕ)
behind front found = found >>= λ more. Some (front ++ more.0, more.1)

module _ {X : Type 0} (item : Reader X) where
  regroup : (front : List X) (x : X) (found : Option (List X × List ℕ)) → behind front (found >>= λ more. Some (x ∷ more.0, more.1)) ≡ behind (front ++ x ∷ []) found
  regroup front x (Some more) = ap (λ (xs : List X). Some (xs, more.1)) (sym (append_assoc front (x ∷ []) more.0))
  regroup front x None = refl

  pub items_more : (front : List X) (count i : ℕ) (bytes : List ℕ) (x : X) (after : List ℕ) (total : Option (List X × List ℕ)) → i < count → item bytes ≡ Some (x, after)
      → behind front (items_at item (count - i) bytes) ≡ total → behind (front ++ x ∷ []) (items_at item (count - (i + 1)) after) ≡ total
  unfolding items_at
  items_more front count i bytes x after total inside one so_far =
      let k : count - i ≡ suc (count - (i + 1)) = omega arith in
      let step : behind front (items_at item (count - i) bytes) ≡ behind (front ++ x ∷ []) (items_at item (count - (i + 1)) after) = rw (k, one) (regroup front x (items_at item (count - (i + 1)) after)) in
      sym step ∙ so_far

  pub items_fail : (fault : PageFault) (front : List X) (count i : ℕ) (bytes : List ℕ) (total : Option (List X × List ℕ)) → i < count → Lacks fault (item bytes)
      → behind front (items_at item (count - i) bytes) ≡ total → Lacks fault total
  unfolding items_at
  items_fail NoMemory front count i bytes total inside none so_far = tt
  items_fail Unspelled front count i bytes total inside none so_far =
      let k : count - i ≡ suc (count - (i + 1)) = omega arith in
      let step : behind front (items_at item (count - i) bytes) ≡ None = rw (k, none) refl in
      sym so_far ∙ step

  pub items_all : (front : List X) (count i : ℕ) (bytes : List ℕ) (total : Option (List X × List ℕ)) → count ≤ i
      → behind front (items_at item (count - i) bytes) ≡ total → total ≡ Some (front, bytes)
  unfolding items_at
  items_all front count i bytes total all so_far =
      let k : count - i ≡ 0 = omega arith in
      let step : behind front (items_at item (count - i) bytes) ≡ Some (front, bytes) = rw k (ap (λ (xs : List X). Some (xs, bytes)) (append-nil front)) in
      sym so_far ∙ step
