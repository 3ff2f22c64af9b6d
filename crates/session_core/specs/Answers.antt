-- What an event answers: a value, or why it is refused. Want of memory is free, and so is a fault of the desk.
use Rattle.std.specs.Prelude.{Option, Some, None, Result}
use Rattle.chart_model.specs.Answers as answers
use Rattle.chart_ports.specs.declared.shelf.ShelfError.{ShelfError}
use Rattle.chart_ports.specs.declared.shelf.ShelfError.TheVariants as of_shelf
use Rattle.update_sequence.specs.declared.fault.ReadFault.{ReadFault}
use Rattle.chart_store.specs.Refusal.{refusal_of_read}
use Rattle.chart_store.specs.declared.submit_fault.SubmitFault.{SubmitFault}
use Rattle.chart_store.specs.declared.submit_fault.SubmitFault.TheVariants as of_submit
use Rattle.chart_store.specs.declared.refusal.Refusal as of_store
use Rattle.session_core.specs.declared.refusal.LineRefusal.{LineRefusal}
use Rattle.session_core.specs.declared.refusal.LineRefusal.TheVariants.{ShelfFault, Store}
use Rattle.session_core.specs.declared.fault.EventFault.{EventFault}
use Rattle.session_core.specs.declared.fault.EventFault.TheVariants.{Refused, DeskFault, NoMemory}

-- the refusal that a fault tells
abbrev pub refusal_of_event : EventFault → Option LineRefusal
refusal_of_event (Refused refusal) = Some refusal
refusal_of_event DeskFault = None
refusal_of_event NoMemory = None

-- the answer is what was to be answered, unless memory ran out or the desk failed
abbrev pub Gives : {A : Type 0} → Result A EventFault → Result A LineRefusal → Type 0
Gives answer wanted = answers.Gives refusal_of_event answer wanted

-- the faults below, as those of an event

abbrev pub fault_of_shelf : ShelfError → EventFault
fault_of_shelf of_shelf.Failed = Refused ShelfFault
fault_of_shelf of_shelf.NoMemory = NoMemory

abbrev pub fault_of_submit : SubmitFault → EventFault
fault_of_submit (of_submit.Refused refusal) = Refused (Store refusal)
fault_of_submit of_submit.DeskFault = DeskFault
fault_of_submit of_submit.NoMemory = NoMemory

abbrev pub refused_or_none : Option of_store.Refusal → EventFault
refused_or_none (Some refusal) = Refused (Store refusal)
refused_or_none None = NoMemory

abbrev pub fault_of_read : ReadFault → EventFault
fault_of_read fault = refused_or_none (refusal_of_read fault)
