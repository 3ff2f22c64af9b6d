-- A held chart that is re-issued.
use Rattle.std.proofs.Common.{◌≡◌, ◌⊎◌, inl, inr, ℕ, ◌+◌, ◌≤◌, Bool, true, false, cond, ltb, leb, List, [], ◌∷◌, ◌++◌, length, arith, Option, Some, None, Result, Ok, Err, refl, sym, ◌∙◌, ap, subst}
use Rattle.std.specs.Prelude.{IsErrAnd, option_and_then}
use Rattle.std.proofs.lemmas.Bool.Decides.{nat_tests}
use Rattle.std.specs.Cmp.{tied_itself}
use Rattle.std.specs.FinMap as map
use Rattle.std.specs.Ordering.{is_eq, eq_by_cmp}
use Rattle.chart_model.specs.Answers.{◌>>=◌, first_of, or_fault, unless, when}
use Rattle.chart_model.specs.Cell.{CellValue}
use Rattle.chart_model.specs.Keys.{key_cmp}
use Rattle.chart_model.proofs.Keys.{key_cmp-total}
use Rattle.chart_model.specs.State.{IsState, StateValue}
use Rattle.chart_model.specs.declared.command.Command.TheVariants.{Load}
use Rattle.chart_model.specs.declared.state.Holding.{Holding}
use Rattle.cell_bytes.specs.Written.{feature_faults, file_of, length_fault, vector_faults, write_fault, base_file_of}
use Rattle.cell_bytes.specs.declared.fault.WriteFault.{WriteFault}
use Rattle.cell_bytes.specs.declared.fault.WriteFault.TheVariants as of_write
use Rattle.cell_writer.specs.ReadBack.{IsBaseFileOf}
use Rattle.chart_store.specs.Loaded.{HoldingsByKey, Outcome, STORE_LIMIT, held_with, live_bytes, loaded, store_within}
use Rattle.chart_store.specs.Outcome.{BANK_LIMIT, Room, accepted, bank_within, record_size, other_within, outcome, room_within}
use Rattle.chart_store.specs.Reissued.{IsReissueOf, held_by_file}
use Rattle.chart_store.specs.declared.refusal.Refusal as of_store
use Rattle.chart_store.specs.declared.refusal.Refusal.TheVariants.{BankFull, NoCell, StoreFull}
use Rattle.script_reader.specs.declared.event.Event.{Event}
use Rattle.script_reader.specs.declared.event.Event.TheVariants as asks
use Rattle.script_reader.specs.declared.reply.Reply.{Reply}
use Rattle.session_core.specs.declared.changes.order.Success.TheVariants as orders
use Rattle.session_core.specs.declared.fault.EventFault.{EventFault}
use Rattle.session_core.specs.declared.refusal.LineRefusal.{LineRefusal}
use Rattle.session_core.specs.declared.refusal.LineRefusal.TheVariants.{CellLong, RecordLong, Store}
use Rattle.session_core.specs.Held.{chart_of}
use Rattle.session_core.specs.Model.{Model}
use Rattle.session_core.specs.Order.{decision_turn, order_of_file, order_turn, reply_to}
use Rattle.session_core.specs.Reissue.{KeepsChart, LacksRoom, ReadsBack, ReissueKeepsChart}
use Rattle.session_core.specs.Replied.{Turn, refusal_turn}
use Rattle.session_core.specs.Turn.{turn_of}
use Rattle.session_core.specs.Written.{or_refused, reissue_file}
use Rattle.session_core.proofs.Fetching.{passed-is}

-- what the law of the store says of each re-issue
abbrev pub Reissues : Type 0
Reissues = (state : StateValue) (key : List ℕ) (here : Holding) (chart : CellValue) (file : List ℕ)
    → IsState state → map.get state.cells key ≡ Some here → here.chart ≡ Some chart → IsReissueOf chart file
    → loaded state file ≡ held_with state key (held_by_file here file)

-- ---- the file that is written

-- no fault among all is none at the end
last-none : {E : Type 0} (faults : List (Option E)) (last : Option E) → first_of (faults ++ last ∷ []) ≡ None → last ≡ None
last-none [] None e = refl
last-none [] (Some fault) e = absurd cc
last-none (None ∷ more) last e = last-none more last e
last-none (Some fault ∷ more) last e = absurd cc

-- a file that is written has no fault
whole-none : {E A : Type 0} (fault : Option E) (x y : A) → unless fault x ≡ Ok y → (fault ≡ None) × (x ≡ y)
whole-none None x y e = let same : x ≡ y = cc in (refl, same)
whole-none (Some fault) x y e = absurd cc

flag-none : {E : Type 0} (flag : Bool) (fault : E) → when flag fault ≡ None → flag ≡ false
flag-none true fault e = absurd cc
flag-none false fault e = refl

not-over : (most n : ℕ) → ltb most n ≡ false → n ≤ most
not-over most n e = grind (arith, nat_tests)

pub file-short : (cell : CellValue) (file : List ℕ) → base_file_of cell ≡ Ok file → length file ≤ 8388608
unfolding base_file_of write_fault
file-short cell file e =
    let whole = whole-none (write_fault cell) (file_of cell) file e in
    let short = flag-none (ltb 8388608 (length (file_of cell))) (of_write.CellLong (length (file_of cell)))
    (last-none (feature_faults cell ++ vector_faults cell) (length_fault (file_of cell)) whole.0) in
    subst (λ (bytes : List ℕ). length bytes ≤ 8388608) whole.1 (not-over 8388608 (length (file_of cell)) short)

-- ---- room

-- the live files have no more bytes than may be, or it is refused for them
in-store : (cells : HoldingsByKey) → (store_within cells ≡ Ok (record { cells = cells })) ⊎ (store_within cells ≡ Err (StoreFull (live_bytes cells)))
in-store cells = either (leb (live_bytes cells) STORE_LIMIT)
  where
    found : Bool → Result StateValue of_store.Refusal
    found fits = cond fits (Ok (record { cells = cells })) (Err (StoreFull (live_bytes cells)))

    either : (fits : Bool) → (found fits ≡ Ok (record { cells = cells })) ⊎ (found fits ≡ Err (StoreFull (live_bytes cells)))
    either true = inl refl
    either false = inr refl

abbrev Fit : Type 0
Fit = Result (Unit {0}) of_store.Refusal

-- one bank has room, or it is refused for that
in-bank : (used more : ℕ) → (bank_within used more ≡ Ok tt) ⊎ (bank_within used more ≡ Err (BankFull used more))
in-bank used more = either (ltb BANK_LIMIT (used + more))
  where
    either : (full : Bool) → (◌≡◌ {A = Fit} (cond full (Err (BankFull used more)) (Ok tt)) (Ok tt))
        ⊎ (◌≡◌ {A = Fit} (cond full (Err (BankFull used more)) (Ok tt)) (Err (BankFull used more)))
    either true = inr refl
    either false = inl refl

abbrev HasRoom : Fit → ℕ → Type 0
HasRoom fit more = (fit ≡ Ok tt) ⊎ ((used : ℕ) × (fit ≡ Err (BankFull used more)))

in-other : (other : Option ℕ) (more : ℕ) → HasRoom (other_within other more) more
in-other None more = inl refl
in-other (Some used) more = elim (in-bank used more) as (λ _. HasRoom (bank_within used more) more) [
  | inl e ↦ inl e
  | inr e ↦ inr (used, e)
]

-- both have
in-banks : (room : Room) (more : ℕ) → HasRoom (room_within room more) more
in-banks room more = elim (in-bank room.used more) as (λ _. HasRoom (room_within room more) more) [
  | inl e ↦ subst (λ (fit : Fit). HasRoom (fit >>= λ fits. other_within room.other more) more) (sym e) (in-other room.other more)
  | inr e ↦ inr (room.used, ap (λ (fit : Fit). fit >>= λ fits. other_within room.other more) e)
]

-- ---- the turn

same_key : (key : List ℕ) → eq_by_cmp key_cmp key key ≡ true
same_key key = ap is_eq (tied_itself key_cmp-total key)

get-put : (cells : HoldingsByKey) (key : List ℕ) (here : Holding) → map.get (map.insert cells key here) key ≡ Some here
get-put cells key here = map.get-insert key_cmp-total cells key here key
    ∙ ap (λ (b : Bool). cond b (Some here) (map.get cells key)) (same_key key)

chart-of : (cells : HoldingsByKey) (key : List ℕ) (here : Holding) (chart : CellValue) → map.get cells key ≡ Some here → here.chart ≡ Some chart
    → chart_of cells key ≡ Some chart
chart-of cells key here chart found is =
    ap (λ (o : Option Holding). option_and_then (λ (held : Holding). held.chart) o) found ∙ is

module _ (model : Model) (key : List ℕ) (here : Holding) (chart : CellValue)
    (found : map.get model.state.cells key ≡ Some here) (is : here.chart ≡ Some chart) where
  abbrev Keeps : Turn → Type 0
  Keeps turn = KeepsChart model key here chart turn

  refused-keeps : (refusal : LineRefusal) → LacksRoom model key here chart refusal → Keeps (refusal_turn model refusal)
  refused-keeps refusal lacks = record {
    reply = inr (refusal, lacks, refl);
    stays = chart-of model.state.cells key here chart found is;
  }

  -- the cells with the file alone
  abbrev cells-by : List ℕ → HoldingsByKey
  cells-by file = map.insert model.state.cells key (held_by_file here file)

  abbrev reply-by : Outcome → Reply
  reply-by done = reply_to orders.Reissue done.key done.held

  abbrev outcome-by : StateValue → Outcome
  outcome-by left = record { key = key; held = here.held; state = left }

  -- the turn by the room for the live files and in the bank
  abbrev turn-by : List ℕ → Result StateValue of_store.Refusal → Fit → Turn
  turn-by file stored banked = decision_turn model (Load file) reply-by
      ((stored >>= λ left. Ok (outcome-by left)) >>= λ done. banked >>= λ fits. Ok done)

  file-keeps : (file : List ℕ) → base_file_of chart ≡ Ok file
      → (store_within (cells-by file) ≡ Ok (record { cells = cells-by file })) ⊎ (store_within (cells-by file) ≡ Err (StoreFull (live_bytes (cells-by file))))
      → HasRoom (room_within model.room (record_size (Load file))) (record_size (Load file))
      → Keeps (turn-by file (store_within (cells-by file)) (room_within model.room (record_size (Load file))))
  file-keeps file wrote (inr e) room =
      subst (λ (stored : Result StateValue of_store.Refusal). Keeps (turn-by file stored (room_within model.room (record_size (Load file)))))
      (sym e) (refused-keeps (Store (StoreFull (live_bytes (cells-by file)))) (file, wrote, e))
  file-keeps file wrote (inl e) (inr (used, f)) =
      subst (λ (stored : Result StateValue of_store.Refusal). Keeps (turn-by file stored (room_within model.room (record_size (Load file))))) (sym e)
      (subst (λ (banked : Fit). Keeps (turn-by file (Ok (record { cells = cells-by file })) banked))
      (sym f) (refused-keeps (Store (BankFull used (record_size (Load file)))) (file, wrote, f)))
  file-keeps file wrote (inl e) (inl f) =
      subst (λ (stored : Result StateValue of_store.Refusal). Keeps (turn-by file stored (room_within model.room (record_size (Load file))))) (sym e)
      (subst (λ (banked : Fit). Keeps (turn-by file (Ok (record { cells = cells-by file })) banked)) (sym f) (record {
        reply = inl refl;
        stays = ap (λ (o : Option Holding). option_and_then (λ (held : Holding). held.chart) o)
            (get-put model.state.cells key (held_by_file here file)) ∙ is;
      }))

  order-keeps : Reissues → IsState model.state → (file : List ℕ) → base_file_of chart ≡ Ok file → IsReissueOf chart file
      → Keeps (order_turn model (Ok (order_of_file orders.Reissue file)))
  unfolding accepted outcome
  order-keeps law live file wrote again =
      subst (λ (r : Result Outcome of_store.Refusal). Keeps (decision_turn model (Load file) reply-by (r >>= λ done. room_within model.room (record_size (Load file)) >>= λ fits. Ok done)))
      (sym (law model.state key here chart file live found is again))
      (file-keeps file wrote (in-store (cells-by file)) (in-banks model.room (record_size (Load file))))

  again-by : (file : List ℕ) → IsBaseFileOf chart file → length file ≤ 8388608 → IsReissueOf chart file
  again-by file base short = record {
    dataset = base.dataset;
    short = short;
    reads = base.reads;
    base = base.base;
    header = base.header;
    builds = base.builds;
  }

  written-keeps : Reissues → IsState model.state → ReadsBack model.state.cells key → (r : Result (List ℕ) WriteFault) → base_file_of chart ≡ r
      → Keeps (order_turn model (or_refused r >>= λ file. Ok (order_of_file orders.Reissue file)))
  written-keeps law live back (Ok file) e =
      order-keeps law live file e (again-by file (back chart file (chart-of model.state.cells key here chart found is) e) (file-short chart file e))
  written-keeps law live back (Err (of_write.RecordLong name bytes)) e = refused-keeps (RecordLong name bytes) (ap (λ (found : Result (List ℕ) WriteFault). or_refused found) e)
  written-keeps law live back (Err (of_write.CellLong bytes)) e = refused-keeps (CellLong bytes) (ap (λ (found : Result (List ℕ) WriteFault). or_refused found) e)
  written-keeps law live back (Err of_write.NoMemory) e = refused-keeps (CellLong 0) (ap (λ (found : Result (List ℕ) WriteFault). or_refused found) e)

-- a held chart is kept, where what is written of it is a base file of it
pub reissue-keeps : Reissues → (model : Model) (key : List ℕ) → IsState model.state → ReadsBack model.state.cells key → ReissueKeepsChart model key
unfolding turn_of reissue_file
reissue-keeps law model key live back outside here chart found is =
    subst (λ (o : Option CellValue). KeepsChart model key here chart (order_turn model
    ((or_fault (Store (NoCell key)) o >>= λ held. or_refused (base_file_of held)) >>= λ file. Ok (order_of_file orders.Reissue file))))
    (sym (chart-of model.state.cells key here chart found is))
    (written-keeps model key here chart found is law live back (base_file_of chart) refl)

-- ---- the turn of the event

pub event-keeps : (model : Model) (cells : HoldingsByKey) (key other : List ℕ) (event : Event) → ((m : Model) → m.state.cells ≡ cells → ReissueKeepsChart m key)
    → model.state.cells ≡ cells → event ≡ asks.Reissue key → event ≡ asks.Reissue other → ReissueKeepsChart model other
event-keeps model cells key other event keeps same is also =
    let keys : key ≡ other = let e : asks.Reissue key ≡ asks.Reissue other = sym is ∙ also in cc in
    subst (ReissueKeepsChart model) keys (keeps model same)

-- the same over the cells of a model
pub same-cells : Reissues → (cells : HoldingsByKey) (key : List ℕ) → IsState (record { cells = cells }) → ReadsBack cells key → (model : Model) → model.state.cells ≡ cells
    → ReissueKeepsChart model key
same-cells law cells key live back model same =
    reissue-keeps law model key (subst (λ (held : HoldingsByKey). IsState (record { cells = held })) (sym same) live) (subst (λ (held : HoldingsByKey). ReadsBack held key) (sym same) back)

-- a fault that is passed up as another is another
pub not-passed : {A B : Type 0} (r : Result B EventFault) (fault unlike : EventFault) → IsErrAnd r (λ passed. passed ≡ fault) → (r ≡ Err unlike → ⊥)
    → ◌≡◌ {A = Result A EventFault} (Err fault) (Err unlike) → ⊥
not-passed r fault unlike passed other e =
    let same : fault ≡ unlike = cc in
    other (passed-is r fault passed ∙ ap Err same)
