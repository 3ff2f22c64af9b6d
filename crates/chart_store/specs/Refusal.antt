-- The faults of a file, as the rows of the table of refusals. Want of memory is no row.
use Rattle.std.specs.Prelude.{Option, Some, None}
use Rattle.iso8211_records.specs.declared.fault.FileFault.{FileFault}
use Rattle.iso8211_records.specs.declared.fault.FileFault.TheVariants as of_file
use Rattle.s57_records.specs.declared.fault.DatasetFault.{DatasetFault}
use Rattle.s57_records.specs.declared.fault.DatasetFault.TheVariants as of_records
use Rattle.update_apply.specs.declared.fault.ChangeFault.{ChangeFault}
use Rattle.update_apply.specs.declared.fault.ChangeFault.TheVariants as of_change
use Rattle.chart_closure.specs.declared.fault.ClosureFault.{ClosureFault}
use Rattle.chart_closure.specs.declared.fault.ClosureFault.TheVariants as of_closure
use Rattle.update_sequence.specs.declared.fault.ReadFault.{ReadFault}
use Rattle.update_sequence.specs.declared.fault.ReadFault.TheVariants as of_read
use Rattle.update_sequence.specs.declared.fault.SequenceFault.{SequenceFault}
use Rattle.update_sequence.specs.declared.fault.SequenceFault.TheVariants as of_sequence
use Rattle.update_sequence.specs.declared.fault.BuildFault.{BuildFault}
use Rattle.update_sequence.specs.declared.fault.BuildFault.TheVariants as of_build
use Rattle.chart_store.specs.declared.refusal.Refusal.{Refusal}
use Rattle.chart_store.specs.declared.refusal.Refusal.TheVariants as refuses

abbrev pub refusal_of_file : FileFault → Option Refusal
refusal_of_file (of_file.Leader at) = Some (refuses.Leader at)
refusal_of_file (of_file.Directory at) = Some (refuses.Directory at)
refusal_of_file (of_file.Span at) = Some (refuses.Span at)
refusal_of_file (of_file.Terminator at) = Some (refuses.Terminator at)
refusal_of_file (of_file.Descriptor tag) = Some (refuses.Descriptor tag)
refusal_of_file (of_file.Subfield number tag) = Some (refuses.Subfield number tag)
refusal_of_file of_file.NoMemory = None

abbrev pub refusal_of_records : DatasetFault → Option Refusal
refusal_of_records of_records.NoGeneral = Some refuses.NoGeneral
refusal_of_records (of_records.MissingField number tag) = Some (refuses.MissingField number tag)
refusal_of_records (of_records.Value number label) = Some (refuses.Value number label)
refusal_of_records (of_records.Profile label) = Some (refuses.Profile label)
refusal_of_records of_records.NoMemory = None

abbrev pub refusal_of_read : ReadFault → Option Refusal
refusal_of_read (of_read.File fault) = refusal_of_file fault
refusal_of_read (of_read.Dataset fault) = refusal_of_records fault
refusal_of_read of_read.NoMemory = None

abbrev pub refusal_of_sequence : SequenceFault → Refusal
refusal_of_sequence (of_sequence.NoBase key) = refuses.NoBase key
refusal_of_sequence (of_sequence.StaleBase held_edition held_update edition update) =
    refuses.StaleBase held_edition held_update edition update
refusal_of_sequence (of_sequence.Edition held given) = refuses.Edition held given
refusal_of_sequence (of_sequence.Gap wanted given) = refuses.Gap wanted given
refusal_of_sequence (of_sequence.Cancelled key) = refuses.Cancelled key

abbrev pub refusal_of_change : ChangeFault → Option Refusal
refusal_of_change (of_change.Present name) = Some (refuses.Present name)
refusal_of_change (of_change.Absent name) = Some (refuses.Absent name)
refusal_of_change (of_change.Version name kept given) = Some (refuses.Version name kept given)
refusal_of_change (of_change.Foid name kept given) = Some (refuses.Foid name kept given)
refusal_of_change (of_change.Index name length index) = Some (refuses.Index name length index)
refusal_of_change (of_change.Count name stated found) = Some (refuses.Count name stated found)
refusal_of_change (of_change.NoControl name) = Some (refuses.NoControl name)
refusal_of_change (of_change.Mixed name) = Some (refuses.Mixed name)
refusal_of_change of_change.NoMemory = None

abbrev pub refusal_of_closure : ClosureFault → Refusal
refusal_of_closure (of_closure.Dangling name target) = refuses.Dangling name target
refusal_of_closure (of_closure.EdgeNodes name) = refuses.EdgeNodes name
refusal_of_closure (of_closure.RingOpen name) = refuses.RingOpen name
refusal_of_closure (of_closure.WrongPointer name) = refuses.WrongPointer name

abbrev pub refusal_of_build : BuildFault → Option Refusal
refusal_of_build (of_build.Change fault) = refusal_of_change fault
refusal_of_build (of_build.Closure fault) = Some (refusal_of_closure fault)
refusal_of_build of_build.NoMemory = None
