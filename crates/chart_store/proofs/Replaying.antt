-- One record of a bank carried out again, and the records behind it.
use Rattle.std.proofs.Common.{◌≡◌, ℕ, ◌+◌, ◌<◌, ◌≤◌, List, [], ◌∷◌, length, drop, get_or, sum_by, Option, None}
use Rattle.std.proofs.Common.{Result, Ok, Err, sym, ◌∙◌, ap}
use Rattle.std.proofs.lemmas.List.{drop_all, drop_more}
use Rattle.std.proofs.lemmas.List.Sums.{sum_by-cons}
use Rattle.chart_model.specs.Answers.{◌>>=◌, or_fault}
use Rattle.chart_model.specs.State.{StateValue}
use Rattle.command_codec.specs.Reading.{command_in}
use Rattle.chart_store.specs.declared.open_fault.OpenFault.{OpenFault}
use Rattle.chart_store.specs.Images.{Place, most_steps_by, most_steps_of, state_after_record, state_after_records}
use Rattle.chart_store.specs.Images.{state_or_same}
use Rattle.chart_store.specs.Opened.{ForeignHas}
use Rattle.chart_store.proofs.Reading.{foreign_leads}

module _ (live : StateValue) (gate : ℕ) (bodies : List (List ℕ)) (number : ℕ) (inside : number < length bodies)
    (body : List ℕ) (body_is : body ≡ get_or bodies number []) where
  more : drop number bodies ≡ body ∷ drop (number + 1) bodies
  more = drop_more bodies number [] inside ∙ ap (λ (b : List ℕ). b ∷ drop (number + 1) bodies) (sym body_is)

  abbrev pub state_by : Option StateValue → Result StateValue ℕ
  state_by after =
      or_fault gate after
      >>= λ next. state_after_records next (gate + (5 + length body)) (drop (number + 1) bodies)

  pub replayed-state : (after : Option StateValue) → state_after_record live body ≡ after
      → state_after_records live gate (drop number bodies) ≡ state_by after
  replayed-state after recorded = ap (state_after_records live gate) more ∙ ap state_by recorded

  pub replayed-steps : (after : Option StateValue) → state_after_record live body ≡ after
      → most_steps_by live (drop number bodies)
      ≡ most_steps_of live (command_in body)
      + most_steps_by (state_or_same live after) (drop (number + 1) bodies)
  replayed-steps after recorded =
      ap (most_steps_by live) more
      ∙ ap (λ (o : Option StateValue). most_steps_of live (command_in body)
      + most_steps_by (state_or_same live o) (drop (number + 1) bodies)) recorded

  pub replayed-bytes : sum_by (λ body. 5 + length body) (drop number bodies)
      ≡ 5 + length body + sum_by (λ body. 5 + length body) (drop (number + 1) bodies)
  replayed-bytes =
      ap (sum_by (λ body. 5 + length body)) more
      ∙ sum_by-cons (λ (b : List ℕ). 5 + length b) body (drop (number + 1) bodies)

-- a fault of the record is the first of all of them
pub replayed-foreign : (live : StateValue) (gate bank number : ℕ) (bodies : List (List ℕ)) (body : List ℕ)
    → number < length bodies → body ≡ get_or bodies number [] → (all : Result StateValue ℕ)
    → all ≡ state_after_records live gate (drop number bodies) → (fault : OpenFault)
    → ForeignHas (λ place. (place ≡ record { bank = bank; at = gate }) × (state_after_record live body ≡ None)) fault
    → ForeignHas (λ place. (place.bank ≡ bank) × (all ≡ Err place.at)) fault
replayed-foreign live gate bank number bodies body inside body_is all walk =
    foreign_leads (λ place. (place ≡ record { bank = bank; at = gate }) × (state_after_record live body ≡ None))
    (λ place. (place.bank ≡ bank) × (all ≡ Err place.at))
    (λ place fault. (
      ap (λ (p : Place). p.bank) fault.0,
      walk ∙ replayed-state live gate bodies number inside body body_is None fault.1
          ∙ ap (λ (p : Place). Err p.at) (sym fault.0),
    ))

-- no record is left
pub replayed-all : (live : StateValue) (gate : ℕ) (bodies : List (List ℕ)) (number : ℕ) → length bodies ≤ number
    → state_after_records live gate (drop number bodies) ≡ Ok live
replayed-all live gate bodies number all = ap (state_after_records live gate) (drop_all number bodies all)
