-- What a crash leaves in each of the two writes of an append, and what stands behind them.
use Rattle.std.proofs.Common.{◌≡◌, inl, inr, ⊎_elim, ℕ, ◌+◌, ◌<◌, ◌≤◌, List, [], ◌∷◌, ◌++◌, length, take, drop, Ok}
use Rattle.std.proofs.Common.{sym, ◌∙◌, ap, subst, arith, length-append}
use Rattle.std.proofs.lemmas.List.{append_assoc, length-take-le}
use Rattle.chart_ports.specs.declared.images.Images.{Images}
use Rattle.chart_ports.specs.Disk.{LeavesNoMoreOfOthers, Only, Torn, with_bytes}
use Rattle.chart_ports.specs.Moments.{LeavesOnly, image_of}
use Rattle.chart_ports.proofs.Moments.{and_then, weaker}
use Rattle.bank_journal.specs.Content.{Content}
use Rattle.bank_journal.specs.Bank.{frame_of, IsBodyLength, with_body, HasContent, gate_of}
use Rattle.bank_journal.specs.Moments.{IsBeforeOrAfter, IsInStep, LeavesFile}
use Rattle.bank_journal.specs.Reading.{bank_of}
use Rattle.bank_journal.proofs.Fronts.{kept, torn_gate, opened_gate, staged_inside, next_gate, reads_content}
use Rattle.bank_journal.proofs.BankRead.{given}

-- what has a content is read so
pub reads : (bytes : List ℕ) (content : Content) → HasContent bytes content → bank_of bytes ≡ Ok content
reads bytes content has = given bytes content (reads_content bytes content has)

-- a file reaches to where it was written from
pub reaches : (at : ℕ) (bytes old new : List ℕ) → at ≤ length old → new ≡ with_bytes at bytes old → at ≤ length new
reaches at bytes old new within is =
    let rest = drop (at + length bytes) old in
    let past : at ≤ length ((take at old ++ bytes) ++ rest) =
    omega (arith, length-append (take at old ++ bytes) rest, length-append (take at old) bytes, length-take-le at old within) in
    subst (λ (l : List ℕ). at ≤ length l) (sym is) past

module _ (bytes : List ℕ) (content : Content) (has : HasContent bytes content) (place : ℕ)
    (place_is : place ≡ gate_of content) (body framed : List ℕ) (fits : IsBodyLength (length body))
    (framed_is : framed ≡ frame_of body) where
  -- the first write leaves the closed gate and what stands before it
  pub behind_gate : (image : List ℕ) → Torn (place + 1) (length framed) bytes image → IsBeforeOrAfter content body image
  behind_gate image torn = inl (reads image content (kept bytes content has place place_is image torn.before))

  abbrev pub staged : List ℕ
  staged = with_bytes (place + 1) framed bytes

  tail : List ℕ
  tail = drop (place + 1 + length framed) bytes

  staged_is : staged ≡ take (place + 1) bytes ++ (frame_of body ++ tail)
  unfolding tail
  staged_is =
      append_assoc (take (place + 1) bytes) framed (drop (place + 1 + length framed) bytes)
      ∙ ap (λ (l : List ℕ). take (place + 1) bytes ++ (l ++ drop (place + 1 + length framed) bytes)) framed_is

  -- the second opens the gate or leaves it
  pub at_gate : (image : List ℕ) → Torn place 1 staged image → IsBeforeOrAfter content body image
  at_gate image torn =
      let long : place < length image = omega
      (arith, staged_inside bytes content has place place_is body tail staged fits staged_is, torn.no_shorter) in
      ⊎_elim (λ shut. inl (reads image content shut)) (λ opened. inr (reads image (with_body content body) opened))
      (torn_gate bytes content has place place_is body tail staged fits staged_is image long torn.before torn.after)

  pub gate_is_open : HasContent (with_bytes place (1 ∷ []) staged) (with_body content body)
  gate_is_open =
      opened_gate bytes content has place place_is body tail staged fits staged_is (with_bytes place (1 ∷ []) staged)
      (append_assoc (take place staged) (1 ∷ []) (drop (place + 1) staged))

  -- in step again behind both
  pub in_step_after : (may_leave : List ℕ → Type 0) (now next : List ℕ) → next ≡ with_bytes place (1 ∷ []) now
      → now ≡ staged → Only next may_leave → IsInStep next may_leave (place + length framed) (with_body content body)
  in_step_after may_leave now next next_is now_is settled =
      let is : next ≡ with_bytes place (1 ∷ []) staged =
      next_is ∙ ap (λ (l : List ℕ). with_bytes place (1 ∷ []) l) now_is in
      let has_next = subst (λ (l : List ℕ). HasContent l (with_body content body)) (sym is) gate_is_open in
      record {
        has = has_next;
        reads = reads next (with_body content body) has_next;
        gate = ap (λ (l : List ℕ). place + length l) framed_is
            ∙ next_gate bytes content has place place_is body tail staged fits staged_is;
        settled = settled;
      }

-- ---- by moments

abbrev pub Leaving : Type 1
Leaving = ℕ → List ℕ → Type 0

this_weaker : (file : ℕ) (may_leave : Leaving) (said : List ℕ) (P Q : List ℕ → Type 0)
    → ((image : List ℕ) → P image → Q image) → (images : Images) (so_far : List ℕ)
    → LeavesFile file may_leave said P images so_far → LeavesFile file may_leave said Q images so_far
this_weaker file may_leave said P Q leads images so_far leaves =
    record { silent = leaves.silent; others = leaves.others; this = leads (image_of images file) leaves.this }

pub file_weaker : {D : Type 0} (clock : D → ℕ) (might : D → ℕ → Images → List ℕ
    → Type 0) (old new : D) (file : ℕ) (may_leave : Leaving) (said : List ℕ) (P Q : List ℕ → Type 0)
    → ((image : List ℕ) → P image → Q image)
    → LeavesOnly clock might old new (LeavesFile file may_leave said P)
    → LeavesOnly clock might old new (LeavesFile file may_leave said Q)
file_weaker clock might old new file may_leave said P Q leads run =
    weaker clock might old new (LeavesFile file may_leave said P) (LeavesFile file may_leave said Q)
    (this_weaker file may_leave said P Q leads) run

earlier : (file : ℕ) (first then_may : Leaving) (said then_said : List ℕ) (P Q : List ℕ → Type 0) → then_said ≡ said
    → LeavesNoMoreOfOthers file first then_may → ((image : List ℕ) → P image → Q image)
    → (images : Images) (so_far : List ℕ) → LeavesFile file then_may then_said P images so_far
    → LeavesFile file first said Q images so_far
earlier file first then_may said then_said P Q silent others leads images so_far leaves = record {
  silent = leaves.silent ∙ silent;
  others = λ other apart. others other apart (image_of images other) (leaves.others other apart);
  this = leads (image_of images file) leaves.this;
}

-- a run behind another that leaves the other files alone
pub file_then : {D : Type 0} (clock : D → ℕ) (might : D → ℕ → Images → List ℕ
    → Type 0) (old mid new : D) (file : ℕ) (first then_may : Leaving) (said then_said : List ℕ) (P Q : List ℕ → Type 0)
    → LeavesOnly clock might old mid (LeavesFile file first said Q)
    → then_said ≡ said → LeavesNoMoreOfOthers file first then_may → ((image : List ℕ) → P image → Q image)
    → LeavesOnly clock might mid new (LeavesFile file then_may then_said P)
    → LeavesOnly clock might old new (LeavesFile file first said Q)
file_then clock might old mid new file first then_may said then_said P Q so_far silent others leads run =
    and_then clock might old mid new (LeavesFile file first said Q) so_far
    (weaker clock might mid new (LeavesFile file then_may then_said P) (LeavesFile file first said Q)
    (earlier file first then_may said then_said P Q silent others leads) run)

-- ---- both writes

module _ {D : Type 0} {clock : D → ℕ} {might : D → ℕ → Images → List ℕ
    → Type 0} {old mid : D} {file : ℕ} {may_leave : Leaving} {said : List ℕ}
    {bytes : List ℕ} {content : Content} {place : ℕ} {settled : List ℕ
    → Type 0} (step : IsInStep bytes settled place content) (body : List ℕ) {framed : List ℕ}
    (fits : IsBodyLength (length body)) (framed_is : framed ≡ frame_of body)
    (first : LeavesOnly clock might old mid (LeavesFile file may_leave said (Torn (place + 1) (length framed) bytes)))
  where
    pub first_write : LeavesOnly clock might old mid (LeavesFile file may_leave said (IsBeforeOrAfter content body))
    first_write =
        file_weaker clock might old mid file may_leave said (Torn (place + 1) (length framed) bytes)
        (IsBeforeOrAfter content body)
        (behind_gate bytes content step.has place step.gate body framed fits framed_is) first

    pub both_writes : {new : D} {then_may : Leaving} {then_said between : List ℕ} → then_said ≡ said
        → LeavesNoMoreOfOthers file may_leave then_may → between ≡ with_bytes (place + 1) framed bytes
        → LeavesOnly clock might mid new (LeavesFile file then_may then_said (Torn place 1 between))
        → LeavesOnly clock might old new (LeavesFile file may_leave said (IsBeforeOrAfter content body))
    both_writes {new} {then_may} {then_said} {between} silent others between_is second =
        file_then clock might old mid new file may_leave then_may said then_said (Torn place 1 between)
        (IsBeforeOrAfter content body) first_write silent others
        (λ image torn. at_gate bytes content step.has place step.gate body framed fits framed_is image
        (subst (λ (l : List ℕ). Torn place 1 l image) between_is torn))
        second
