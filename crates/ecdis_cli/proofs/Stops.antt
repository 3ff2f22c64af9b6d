-- A run that stops at a line ends as one whose desk failed, or that found no memory, and in no other way.
use Rattle.std.proofs.Common.{◌≡◌, ◌≢◌, ◌≤◌, ℕ, false, refl, sym, ◌∙◌, ap, arith, inl, inr}
use Rattle.chart_ports.specs.Count.{Rose}
use Rattle.ecdis_cli.specs.declared.run.status.Status.{Status}
use Rattle.ecdis_cli.specs.declared.run.status.Status.TheVariants as status
use Rattle.ecdis_cli.specs.declared.run.stop.Stop.{Stop}
use Rattle.ecdis_cli.specs.declared.run.stop.Stop.TheVariants.{DeskFault, NoMemory}
use Rattle.ecdis_cli.specs.Status.{is_early}
use Rattle.ecdis_cli.specs.Stop.{status_of}

done : (stop : Stop) → status_of stop ≢ status.Done
done DeskFault h = cc
done NoMemory h = cc

pub not-done : (stop : Stop) (ended : Status) → ended ≡ status_of stop → ended ≢ status.Done
not-done stop ended h e = done stop (sym h ∙ e)

foreign : (stop : Stop) (bank at : ℕ) → status_of stop ≢ status.Foreign bank at
foreign DeskFault bank at h = cc
foreign NoMemory bank at h = cc

pub not-foreign : (stop : Stop) (ended : Status) (bank at : ℕ) → ended ≡ status_of stop → ended ≢ status.Foreign bank at
not-foreign stop ended bank at h e = foreign stop bank at (sym h ∙ e)

script-fault : (stop : Stop) → status_of stop ≢ status.ScriptFault
script-fault DeskFault h = cc
script-fault NoMemory h = cc

pub not-script-fault : (stop : Stop) (ended : Status) → ended ≡ status_of stop → ended ≢ status.ScriptFault
not-script-fault stop ended h e = script-fault stop (sym h ∙ e)

script-long : (stop : Stop) → status_of stop ≢ status.ScriptLong
script-long DeskFault h = cc
script-long NoMemory h = cc

pub not-script-long : (stop : Stop) (ended : Status) → ended ≡ status_of stop → ended ≢ status.ScriptLong
not-script-long stop ended h e = script-long stop (sym h ∙ e)

early : (stop : Stop) → is_early (status_of stop) ≡ false
early DeskFault = refl
early NoMemory = refl

pub not-early : (stop : Stop) (ended : Status) → ended ≡ status_of stop → is_early ended ≡ false
not-early stop ended h = ap is_early h ∙ early stop

failed : (stop : Stop) → status_of stop ≡ status.DeskFault → stop ≡ DeskFault
failed DeskFault h = refl
failed NoMemory h = absurd cc

pub desk-failed : (stop : Stop) (ended : Status) → ended ≡ status_of stop → ended ≡ status.DeskFault → stop ≡ DeskFault
desk-failed stop ended h e = failed stop (sym h ∙ e)

pub rose-since : (a b c : ℕ) → a ≤ b → Rose b c → Rose a c
rose-since a b c h (inl x) = inl (omega arith)
rose-since a b c h (inr x) = inr x
