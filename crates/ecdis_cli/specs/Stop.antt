-- How a run ends in which a line was not answered.
use Rattle.ecdis_cli.specs.declared.run.status.Status.{Status}
use Rattle.ecdis_cli.specs.declared.run.status.Status.TheVariants as status
use Rattle.chart_store.specs.declared.open_fault.OpenFault.{OpenFault}
use Rattle.chart_store.specs.declared.open_fault.OpenFault.TheVariants as of_opening
use Rattle.session_core.specs.declared.fault.TurnFault.{TurnFault}
use Rattle.session_core.specs.declared.fault.TurnFault.TheVariants as of_turn
use Rattle.ecdis_cli.specs.declared.run.stop.Stop.{Stop}
use Rattle.ecdis_cli.specs.declared.run.stop.Stop.TheVariants.{DeskFault, NoMemory}

-- the status of the run
abbrev pub status_of : Stop → Status
status_of DeskFault = status.DeskFault
status_of NoMemory = status.NoMemory

-- the same of a store that is not opened
abbrev pub status_of_opening : OpenFault → Status
status_of_opening of_opening.DeskFault = status.DeskFault
status_of_opening (of_opening.Foreign bank at) = status.Foreign bank at
status_of_opening of_opening.NoMemory = status.NoMemory

-- the fault of a turn ends the run
abbrev pub stop_of : TurnFault → Stop
stop_of of_turn.DeskFault = DeskFault
stop_of of_turn.NoMemory = NoMemory
