-- What is read of a store's files, and what they stand for.
use Rattle.std.proofs.Common.{◌≡◌, ℕ, ◌+◌, List, [], ◌∷◌, length, Option, Some, None, Result, Ok, Err}
use Rattle.std.proofs.Common.{refl, sym, ◌∙◌, ap, subst}
use Rattle.std.specs.Option.{option_and_then}
use Rattle.std.specs.Prelude.{◌↔◌, IfErr}
use Rattle.std.proofs.lemmas.Result.{IfErr-weaker}
use Rattle.chart_model.specs.Answers.{◌>>=◌, or_fault, or_fault_as}
use Rattle.chart_model.specs.State.{StateValue}
use Rattle.chart_model.specs.declared.command.Command.{Command}
use Rattle.chart_ports.specs.declared.images.Images.{Images}
use Rattle.command_codec.specs.Reading.{command_in}
use Rattle.command_codec.specs.Spelling.{Spells}
use Rattle.bank_journal.specs.Content.{Content}
use Rattle.bank_journal.specs.Bank.{empty_content, gate_of}
use Rattle.bank_journal.specs.Reading.{bank_of}
use Rattle.bank_pair.specs.Head.{content_named, current_of}
use Rattle.bank_pair.specs.Pair.{SaysAsRead}
use Rattle.chart_store.specs.declared.open_fault.OpenFault.{OpenFault}
use Rattle.chart_store.specs.declared.open_fault.OpenFault.TheVariants.{DeskFault, Foreign, NoMemory}
use Rattle.chart_store.specs.declared.refusal.Refusal.{Refusal}
use Rattle.chart_store.specs.Checkpoint.{checkpoint_in}
use Rattle.chart_store.specs.Images.{Place, Reading, AreAccepted, AreSpelled, Holds, Lead, StandFor, first_gate, in_bank}
use Rattle.chart_store.specs.Images.{left_by_outcome, read_of, reading_by, state_after_record, state_after_records, state_by}
use Rattle.chart_store.specs.Loaded.{Outcome, nothing_held}
use Rattle.chart_store.specs.Opened.{ForeignHas}
use Rattle.chart_store.specs.Outcome.{outcome}

-- ---- by the parts

-- what is read of what the bank of a file says
abbrev reading_named : ℕ → Result Content ℕ → Result Reading Place
reading_named file found = or_fault_as (in_bank file) (found >>= reading_by)

-- what is read behind the checkpoint
abbrev reading_with : ℕ → Content → Result StateValue ℕ → Result Reading Place
reading_with file content held =
    or_fault_as (in_bank file) (held >>= λ state. Ok (record { state = state; used = gate_of content + 1 }))

read_by_content : (images : Images) → read_of images ≡ reading_named (current_of images) (content_named images)
unfolding read_of
read_by_content images = refl

-- files that name the same bank, which says the same, are read the same
pub same_reading : (a b : Images) → SaysAsRead a b → read_of a ≡ read_of b
same_reading a b same =
    read_by_content a ∙ ap (λ (file : ℕ). reading_named file (content_named a)) same.file
    ∙ ap (reading_named (current_of b)) same.content ∙ sym (read_by_content b)

pub state_in : (images : Images) (content : Content) (state : StateValue) → content_named images ≡ Ok content
    → state_by content ≡ Ok state → read_of images ≡ Ok (record { state = state; used = gate_of content + 1 })
state_in images content state says holds =
    read_by_content images ∙ ap (reading_named (current_of images)) says
    ∙ ap (reading_with (current_of images) content) holds

-- ---- the first fault

pub no_content : (images : Images) (at : ℕ) → content_named images ≡ Err at
    → read_of images ≡ Err (in_bank (current_of images) at)
no_content images at none = read_by_content images ∙ ap (reading_named (current_of images)) none

pub not_held : (images : Images) (content : Content) (at : ℕ) → content_named images ≡ Ok content
    → state_by content ≡ Err at → read_of images ≡ Err (in_bank (current_of images) at)
not_held images content at says none =
    read_by_content images ∙ ap (reading_named (current_of images)) says
    ∙ ap (reading_with (current_of images) content) none

-- ---- what the content of a bank holds

-- what is held after the records, where the checkpoint says so much
abbrev state_behind : Content → Option StateValue → Result StateValue ℕ
state_behind content first =
    or_fault 8 first >>= λ state. state_after_records state (first_gate content) content.bodies

by_checkpoint : (content : Content) → state_by content ≡ state_behind content (checkpoint_in content.checkpoint)
unfolding state_by
by_checkpoint content = refl

pub not_begun : (content : Content) → checkpoint_in content.checkpoint ≡ None → state_by content ≡ Err 8
not_begun content none = by_checkpoint content ∙ ap (state_behind content) none

pub carried_from : (content : Content) (first : StateValue) → checkpoint_in content.checkpoint ≡ Some first
    → state_by content ≡ state_after_records first (first_gate content) content.bodies
carried_from content first starts = by_checkpoint content ∙ ap (state_behind content) starts

-- what holds of the place of a fault
pub foreign_leads : (P Q : Place → Type 0) → ((place : Place) → P place → Q place) → (fault : OpenFault)
    → ForeignHas P fault → ForeignHas Q fault
foreign_leads P Q leads DeskFault has = tt
foreign_leads P Q leads (Foreign bank at) has = leads (record { bank = bank; at = at }) has
foreign_leads P Q leads NoMemory has = tt

-- where a call answers a foreign place, more is known
pub foreign_more : {A : Type 0} {P Q : Place → Type 0} (result : Result A OpenFault) → ((place : Place) → P place → Q place)
    → IfErr result (ForeignHas P) → IfErr result (ForeignHas Q)
foreign_more {P = P} {Q = Q} result leads has = IfErr-weaker result (ForeignHas P) (ForeignHas Q) (foreign_leads P Q leads) has

-- ---- records and commands

-- the law of commands and their bytes
abbrev pub SpelledLaw : Type 0
SpelledLaw = (bytes : List ℕ) (command : Command) → (command_in bytes ≡ Some command) ↔ Spells bytes command

-- a record whose command is accepted
record Carried (state : StateValue) (body : List ℕ) (next : StateValue) : Type 0 where
  command : Command
  done : Outcome
  spelled : command_in body ≡ Some command
  accepted : outcome state command ≡ Ok done
  leaves : done.state ≡ next

carries : (state next : StateValue) (body : List ℕ) → Carried state body next
    → state_after_record state body ≡ Some next
carries state next body h =
    ap (λ (o : Option Command). option_and_then (λ command. left_by_outcome (outcome state command)) o) h.spelled
    ∙ ap left_by_outcome h.accepted ∙ ap Some h.leaves

carried_by : (state next : StateValue) (body : List ℕ) (command : Command) (r : Result Outcome Refusal)
    → command_in body ≡ Some command → outcome state command ≡ r → left_by_outcome r ≡ Some next
    → Carried state body next
carried_by state next body command (Err refusal) spelled gives e = absurd cc
carried_by state next body command (Ok done) spelled gives e =
    record { command = command; done = done; spelled = spelled; accepted = gives; leaves = cc }

spelled_by : (state next : StateValue) (body : List ℕ) (o : Option Command) → command_in body ≡ o
    → option_and_then (λ command. left_by_outcome (outcome state command)) o ≡ Some next → Carried state body next
spelled_by state next body None spelled e = absurd cc
spelled_by state next body (Some command) spelled e =
    carried_by state next body command (outcome state command) spelled refl e

is_carried : (state next : StateValue) (body : List ℕ) → state_after_record state body ≡ Some next
    → Carried state body next
is_carried state next body e = spelled_by state next body (command_in body) refl e

-- a list of records begins with one that is carried out
pub record GoesOn (state : StateValue) (gate : ℕ) (body : List ℕ) (bodies : List (List ℕ)) (last : StateValue)
    : Type 0 where
  pub next : StateValue
  pub carried : state_after_record state body ≡ Some next
  pub rest : state_after_records next (gate + (5 + length body)) bodies ≡ Ok last

pub goes_on_by : (state : StateValue) (gate : ℕ) (body : List ℕ) (bodies : List (List ℕ)) (last : StateValue)
    (o : Option StateValue) → state_after_record state body ≡ o
    → (or_fault gate o >>= λ next. state_after_records next (gate + (5 + length body)) bodies) ≡ Ok last
    → GoesOn state gate body bodies last
goes_on_by state gate body bodies last None carried e = absurd cc
goes_on_by state gate body bodies last (Some next) carried e = record { next = next; carried = carried; rest = e }

-- commands that are spelled and accepted are carried out
pub records-accepted : SpelledLaw → (state : StateValue) (gate : ℕ) (bodies : List (List ℕ)) (commands : List Command)
    (last : StateValue) → AreSpelled bodies commands → AreAccepted state commands last
    → state_after_records state gate bodies ≡ Ok last
records-accepted law state gate [] [] last spelled accepted = ap Ok accepted
records-accepted law state gate [] (command ∷ commands) last spelled accepted = absurd spelled
records-accepted law state gate (body ∷ bodies) [] last spelled accepted = absurd spelled
records-accepted law state gate (body ∷ bodies) (command ∷ commands) last spelled accepted =
    let carried = carries state accepted.0.state body (record {
      command = command;
      done = accepted.0;
      spelled = (law body command).1 spelled.0;
      accepted = accepted.1;
      leaves = refl;
    }) in
    ap (λ (o : Option StateValue).
    or_fault gate o >>= λ next. state_after_records next (gate + (5 + length body)) bodies) carried
    ∙ records-accepted law accepted.0.state (gate + (5 + length body)) bodies commands last spelled.1 accepted.2

-- records that are carried out have commands
record Commands (state : StateValue) (bodies : List (List ℕ)) (last : StateValue) : Type 0 where
  commands : List Command
  spelled : AreSpelled bodies commands
  accepted : AreAccepted state commands last

one_more : SpelledLaw → (state next last : StateValue) (body : List ℕ) (bodies : List (List ℕ))
    → Carried state body next → Commands next bodies last → Commands state (body ∷ bodies) last
one_more law state next last body bodies one more = record {
  commands = one.command ∷ more.commands;
  spelled = ((law body one.command).0 one.spelled, more.spelled);
  accepted = (
    one.done,
    one.accepted,
    subst (λ (s : StateValue). AreAccepted s more.commands last) (sym one.leaves) more.accepted,
  );
}

accepted-records : SpelledLaw → (state : StateValue) (gate : ℕ) (bodies : List (List ℕ)) (last : StateValue)
    → state_after_records state gate bodies ≡ Ok last → Commands state bodies last
accepted-records law state gate [] last e = record { commands = []; spelled = tt; accepted = cc }
accepted-records law state gate (body ∷ bodies) last e =
    let more = goes_on_by state gate body bodies last (state_after_record state body) refl e in
    one_more law state more.next last body bodies (is_carried state more.next body more.carried)
    (accepted-records law more.next (gate + (5 + length body)) bodies last more.rest)

-- ---- what a bank holds, by its commands

pub leads-held : SpelledLaw → (first : StateValue) (gate : ℕ) (bodies : List (List ℕ)) (last : StateValue)
    → Lead first bodies last → state_after_records first gate bodies ≡ Ok last
leads-held law first gate bodies last leads =
    records-accepted law first gate bodies leads.commands last leads.spelled leads.accepted

pub held-leads : SpelledLaw → (first : StateValue) (gate : ℕ) (bodies : List (List ℕ)) (last : StateValue)
    → state_after_records first gate bodies ≡ Ok last → Lead first bodies last
held-leads law first gate bodies last replays =
    let found = accepted-records law first gate bodies last replays in
    record { commands = found.commands; spelled = found.spelled; accepted = found.accepted }

pub holds-state : SpelledLaw → (content : Content) (state : StateValue) → Holds content state
    → state_by content ≡ Ok state
holds-state law content state h =
    carried_from content h.first h.starts
    ∙ leads-held law h.first (first_gate content) content.bodies state h.leads

state-held : SpelledLaw → (content : Content) (state : StateValue) (first : Option StateValue)
    → checkpoint_in content.checkpoint ≡ first → state_behind content first ≡ Ok state → Holds content state
state-held law content state None starts e = absurd cc
state-held law content state (Some first) starts e =
    record { first = first; starts = starts; leads = held-leads law first (first_gate content) content.bodies state e }

pub state-holds : SpelledLaw → (content : Content) (state : StateValue) → state_by content ≡ Ok state
    → Holds content state
state-holds law content state e =
    state-held law content state (checkpoint_in content.checkpoint) refl (sym (by_checkpoint content) ∙ e)

-- ---- files that stand for what is held

pub holds-read : SpelledLaw → (images : Images) (content : Content) (state : StateValue)
    → content_named images ≡ Ok content → Holds content state
    → read_of images ≡ Ok (record { state = state; used = gate_of content + 1 })
holds-read law images content state says holds =
    state_in images content state says (holds-state law content state holds)

pub stands-read : SpelledLaw → (images : Images) (state : StateValue) → StandFor images state
    → (used : ℕ) × (read_of images ≡ Ok (record { state = state; used = used }))
stands-read law images state h = (gate_of h.content + 1, holds-read law images h.content state h.says h.holds)

-- the bank that the head names holds a state
abbrev pub HoldsNamed : Images → StateValue → Type 0
HoldsNamed images state = (content : Content) × (content_named images ≡ Ok content) × Holds content state

by_state : SpelledLaw → (images : Images) (content : Content) (state : StateValue) (used : ℕ)
    → content_named images ≡ Ok content → (held : Result StateValue ℕ) → state_by content ≡ held
    → reading_with (current_of images) content held ≡ Ok (record { state = state; used = used })
    → HoldsNamed images state
by_state law images content state used says (Err at) held e = absurd cc
by_state law images content state used says (Ok last) held e =
    let same : last ≡ state = ap (λ (r : Reading). r.state) (ok_is e) in
    (content, says, state-holds law content state (held ∙ ap Ok same))
  where
    ok_is : {A E : Type 0} {x y : A} → ◌≡◌ {A = Result A E} (Ok x) (Ok y) → x ≡ y
    ok_is e = cc

by_content : SpelledLaw → (images : Images) (found : Result Content ℕ) (state : StateValue) (used : ℕ)
    → content_named images ≡ found
    → reading_named (current_of images) found ≡ Ok (record { state = state; used = used }) → HoldsNamed images state
by_content law images (Err at) state used says e = absurd cc
by_content law images (Ok content) state used says e =
    by_state law images content state used says (state_by content) refl e

pub read-holds : SpelledLaw → (images : Images) (state : StateValue) (used : ℕ)
    → read_of images ≡ Ok (record { state = state; used = used }) → HoldsNamed images state
read-holds law images state used e =
    by_content law images (content_named images) state used refl (sym (read_by_content images) ∙ e)

-- three empty files
abbrev pub empty_files : Images
empty_files = record { head = []; bank1 = []; bank2 = [] }

pub empty-stands : StandFor empty_files nothing_held
unfolding content_named bank_of checkpoint_in
empty-stands = record {
  content = empty_content;
  says = refl;
  holds = record {
    first = nothing_held;
    starts = refl;
    leads = record { commands = []; spelled = tt; accepted = refl };
  };
  reached = ([], refl);
}
