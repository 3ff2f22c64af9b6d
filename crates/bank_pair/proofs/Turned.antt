-- The other bank is whole, and the head names it.
use Rattle.std.proofs.Common.{◌≡◌, ◌≢◌, ℕ, ◌+◌, ◌-◌, ◌*◌, ◌%◌, ◌<◌, List, [], ◌∷◌, ◌++◌, length, take, Some, None, Ok}
use Rattle.std.proofs.Common.{refl, sym, ◌∙◌, ap, subst, arith}
use Rattle.std.specs.Prelude.{option_map}
use Rattle.chart_ports.specs.Disk.{LeavesNoMoreOfOthers, Only, SameOthers, with_bytes}
use Rattle.bank_journal.specs.Content.{Content}
use Rattle.bank_journal.specs.Bank.{HasContent}
use Rattle.bank_journal.specs.Reading.{bank_of}
use Rattle.bank_journal.proofs.Appending.{reads}
use Rattle.bank_pair.specs.declared.pair.Pair.{Pair}
use Rattle.bank_pair.specs.declared.pair.Save.{Save}
use Rattle.bank_pair.specs.Copying.{records_of}
use Rattle.bank_pair.specs.Handle.{save_with, value_of}
use Rattle.bank_pair.specs.Head.{bank_named, other_than}
use Rattle.bank_pair.specs.Pair.{AreFramed, HasSlices, IsPairInStep, IsWritten, PairValue, Saves, saved_content}
use Rattle.bank_pair.specs.Saving.{AreSlicesOf, SaveValue, gate_of_save, with_header}
use Rattle.bank_pair.proofs.Ended.{has_saved, saved_gate}
use Rattle.bank_pair.proofs.Named.{Leaving, high, low}
use Rattle.bank_pair.proofs.Written.{all_slices, length-with_header, some_slice}

-- a pair has one save at most
pub one_save : (pair : PairValue) (a b : SaveValue) → Saves pair a → Saves pair b → a ≡ b
one_save pair a b is_a is_b = cc

-- a save whose slices are all written, with the frames since it began and the place where its gate will stand
pub record IsReady (frames : List (List ℕ)) (gate : ℕ) (save : SaveValue) : Type 0 where
  pub written : save.written ≡ save.slices
  pub sliced : AreSlicesOf save.checkpoint save.slices
  pub since : save.since ≡ frames
  pub gate_is : gate ≡ gate_of_save save
  pub gate_in : gate < 268435456

-- the pair's save is one
pub ready : (pair : Pair) (kept : Save) → pair.save ≡ Some kept → IsWritten (value_of pair) → (save : SaveValue)
    → Saves (value_of pair) save → IsReady pair.since.items pair.gate save
ready pair kept kept_is whole save saves =
    let own = save_with pair.since.items kept in
    let own_saves : Saves (value_of pair) own = ap (option_map (save_with pair.since.items)) kept_is in
    let same = one_save (value_of pair) own whole.0 own_saves whole.1 in
    let own_ready : IsReady pair.since.items pair.gate own = record {
      written = ap (λ (v : SaveValue). v.written) same ∙ whole.2 ∙ ap (λ (v : SaveValue). v.slices) (sym same);
      sliced = kept.sliced;
      since = refl;
      gate_is = pair.gated kept kept_is;
      gate_in = pair.gate_in;
    } in
    subst (IsReady pair.since.items pair.gate) (one_save (value_of pair) own save own_saves saves) own_ready

module _ (contents : ℕ → List ℕ) (may_leave : Leaving) (pair : PairValue) (content : Content)
    (step : IsPairInStep contents may_leave pair content) (other : ℕ) (other_is : other ≡ other_than pair.file)
    (save : SaveValue) (saves : Saves pair save) (frames : List (List ℕ)) (gate : ℕ)
    (is_ready : IsReady frames gate save) where
  -- the header and the whole checkpoint are written
  pub whole : contents other ≡ with_header save.checkpoint
  whole =
      let slices = subst (HasSlices (contents (other_than pair.file))) saves step.slices in
      let some : save.written ≢ 0 = λ none. omega
      (arith, none, is_ready.written, some_slice save.checkpoint save.slices is_ready.sliced) in
      ap contents other_is ∙ slices some
      ∙ ap (λ (n : ℕ). take (n * 65536) (with_header save.checkpoint)) is_ready.written
      ∙ all_slices save.checkpoint save.slices is_ready.sliced

  pub length-whole : length (contents other) ≡ 8 + length save.checkpoint
  length-whole = ap length whole ∙ length-with_header save.checkpoint

  module _ (bodies : List (List ℕ)) (are : AreFramed save.since bodies) (ended : List ℕ)
      (copied : AreFramed frames bodies → ended ≡ contents other ++ (records_of bodies ++ 0 ∷ [])) where
    ended_is : ended ≡ contents other ++ (records_of bodies ++ 0 ∷ [])
    ended_is = copied (subst (λ (l : List (List ℕ)). AreFramed l bodies) is_ready.since are)

    ended_has : HasContent ended (saved_content save bodies)
    ended_has =
        subst (λ (l : List ℕ). HasContent l (saved_content save bodies))
        (sym (ended_is ∙ ap (λ (l : List ℕ). l ++ (records_of bodies ++ 0 ∷ [])) whole))
        (has_saved save.checkpoint bodies (omega (arith, is_ready.gate_is, is_ready.gate_in)) are.lengths)

    pub ended_reads : bank_of ended ≡ Ok (saved_content save bodies)
    ended_reads = reads ended (saved_content save bodies) ended_has

    -- the head has a byte in front that names the bank
    pub turned_in_step : (mid next : ℕ → List ℕ) (mid_may then_may : Leaving) (file place : ℕ)
        → ended ≡ mid other → Only (mid other) (mid_may other)
        → SameOthers 0 mid next → LeavesNoMoreOfOthers 0 mid_may then_may
        → next 0 ≡ with_bytes 0 ((other - 1) ∷ []) (mid 0) → Only (next 0) (then_may 0)
        → file ≡ other → place ≡ gate
        → IsPairInStep next then_may (record { file = file; gate = place; save = None }) (saved_content save bodies)
    turned_in_step mid next mid_may then_may file place ended_at settled same no_more head head_is file_is place_is =
        let least = low contents may_leave pair content step other other_is in
        let most = high contents may_leave pair content step other other_is in
        let named : 1 + (other - 1) % 2 ≡ other = omega (arith, least, most, other_is) in
        let apart : other ≢ 0 = λ none. omega (arith, none, most, other_is) in
        let next_is : next other ≡ ended = same other apart ∙ sym ended_at in
        let turned : IsPairInStep next then_may (record { file = other; gate = place; save = None })
        (saved_content save bodies) = record {
          named = ap bank_named head ∙ named;
          head = head_is;
          bank = record {
            has = subst (λ (l : List ℕ). HasContent l (saved_content save bodies)) (sym next_is) ended_has;
            reads = ap bank_of next_is ∙ ended_reads;
            gate = place_is ∙ is_ready.gate_is ∙ saved_gate save.checkpoint save.since bodies are;
            settled = λ image left. settled image (no_more other apart image left) ∙ sym (same other apart);
          };
          slices = tt;
        } in
        subst (λ (n : ℕ). IsPairInStep next then_may (record { file = n; gate = place; save = None })
        (saved_content save bodies)) (sym file_is) turned
