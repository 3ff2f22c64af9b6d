-- A run whose words are refused, or whose catalogue or table isn't taken, does nothing; any other is the run over the store.
use Rattle.std.proofs.Common.{ap, arith, refl, rules}
use Rattle.std.specs.Prelude.{Err, map, string_bytes}
use Rattle.command_words.specs.Reading.{value_of, words_of}
use Rattle.ecdis_cli.specs.declared.run.status.Status.TheVariants as status
use Rattle.ecdis_cli.specs.Devices.{panels_in}
use Rattle.ecdis_cli.proofs.Days.{goes-alike}
use Rattle.ecdis_cli.proofs.Early.{begun-not, early-not, file-complete, file-either, file-ends, file-fault, file-status, not-file, read-is, read-not}
use Rattle.ecdis_cli.proofs.Opening.{complete, or_early, other-status, ran-later, ran-lent, ran-untouched, reading-none, refused-words, steady-lent, words-status}
use Rattle.ecdis_cli.proofs.Panels.{values-many}
use Rattle.ecdis_cli.proofs.run.run_ecdis.Goals as goal

-- ---- the words

pub returns-in-Err-Refused-clause-ran : goal.returns-in-Err-Refused-clause-ran
returns-in-Err-Refused-clause-ran g c =
    λ s d opening read.
    let desk = c.args.desk.now in
    ran-untouched g.D.Desk.clock g.D.Desk.might desk (g.D.Desk.contents desk)
    (g.D.Desk.may_leave desk) (g.D.Desk.said desk) opening c.turns_follow_their_commands.ensures.failed
    (λ images so_far left. g.met.D.Desk.only_now desk images so_far d left) _ _ _ _ _ _ _ _ _ _ _
    (values-many (λ panel. goal.Panel-dyn g (panel.vtable, panel.value)) c.args.panels.now) words-status (omega arith)
    (omega arith)

pub returns-in-Err-Refused-clause-refused_tables : goal.returns-in-Err-Refused-clause-refused_tables
returns-in-Err-Refused-clause-refused_tables g c =
    λ said there t is. refused-words _ said is (c.in-Err-Refused.ensures.refused (ap Err c.in-Err-Refused.field-0-is))

pub returns-in-Err-Refused-clause-complete : goal.returns-in-Err-Refused-clause-complete
returns-in-Err-Refused-clause-complete g c =
    λ said lines opening s l d is. refused-words _ said is (c.in-Err-Refused.ensures.refused (ap Err c.in-Err-Refused.field-0-is))

pub returns-in-Err-NoMemory-clause-ran : goal.returns-in-Err-NoMemory-clause-ran
returns-in-Err-NoMemory-clause-ran g c =
    λ s d opening read.
    let desk = c.args.desk.now in
    ran-untouched g.D.Desk.clock g.D.Desk.might desk (g.D.Desk.contents desk)
    (g.D.Desk.may_leave desk) (g.D.Desk.said desk) opening c.turns_follow_their_commands.ensures.failed
    (λ images so_far left. g.met.D.Desk.only_now desk images so_far d left) _ _ _ _ _ _ _ _ _ _ _
    (values-many (λ panel. goal.Panel-dyn g (panel.vtable, panel.value)) c.args.panels.now) other-status (omega arith)
    (omega arith)

-- ---- the catalogue and the table

pub returns-in-Err-clause-words : goal.returns-in-Err-clause-words
returns-in-Err-clause-words g c =
    λ is. not-file _ status.Words c.in-Err.ensures.ends refl is

pub returns-in-Err-clause-wordless : goal.returns-in-Err-clause-wordless
returns-in-Err-clause-wordless g c =
    λ none. refused-words _ _ c.in-Ok.ensures.said none

pub returns-in-Err-clause-untouched : goal.returns-in-Err-clause-untouched
returns-in-Err-clause-untouched g c =
    λ none. refused-words _ _ c.in-Ok.ensures.said none

pub returns-in-Err-clause-tables : goal.returns-in-Err-clause-tables
returns-in-Err-clause-tables g c =
    λ which fault t is. file-fault (g.L.Shelf.files c.args.shelf.now) (words_of (map string_bytes c.args.words.now)) (value_of c.in-Ok.words) c.in-Err.status which fault c.in-Ok.ensures.said (c.in-Err.ensures.found t) is

pub returns-in-Err-clause-refused_tables : goal.returns-in-Err-clause-refused_tables
returns-in-Err-clause-refused_tables g c =
    λ said there t is fault. file-ends (g.L.Shelf.files c.args.shelf.now) (words_of (map string_bytes c.args.words.now)) (value_of c.in-Ok.words) said c.in-Err.status there c.in-Ok.ensures.said is c.in-Err.ensures.ends (c.in-Err.ensures.found t) fault

pub returns-in-Err-clause-ran : goal.returns-in-Err-clause-ran
returns-in-Err-clause-ran g c =
    λ s d opening read.
    let desk = c.args.desk.now in
    ran-untouched g.D.Desk.clock g.D.Desk.might desk (g.D.Desk.contents desk)
    (g.D.Desk.may_leave desk) (g.D.Desk.said desk) opening c.turns_follow_their_commands.ensures.failed
    (λ images so_far left. g.met.D.Desk.only_now desk images so_far d left) _ _ _ _ _ _ _ _ _ _ _
    (values-many (λ panel. goal.Panel-dyn g (panel.vtable, panel.value)) c.args.panels.now)
    (file-status _ c.in-Err.ensures.ends) c.fetch_tables.ensures.keeps.later (omega arith)

pub returns-in-Err-clause-done : goal.returns-in-Err-clause-done
returns-in-Err-clause-done g c =
    λ is. not-file _ status.Done c.in-Err.ensures.ends refl is

pub returns-in-Err-clause-read : goal.returns-in-Err-clause-read
returns-in-Err-clause-read g c =
    λ s is. not-file _ status.Done c.in-Err.ensures.ends refl is

pub returns-in-Err-clause-short : goal.returns-in-Err-clause-short
returns-in-Err-clause-short g c =
    λ s is. not-file _ status.Done c.in-Err.ensures.ends refl is

pub returns-in-Err-clause-foreign : goal.returns-in-Err-clause-foreign
returns-in-Err-clause-foreign g c =
    λ bank at d is. not-file _ (status.Foreign bank at) c.in-Err.ensures.ends refl is

pub returns-in-Err-clause-script_failed : goal.returns-in-Err-clause-script_failed
returns-in-Err-clause-script_failed g c =
    λ is. not-file _ status.ScriptFault c.in-Err.ensures.ends refl is

pub returns-in-Err-clause-script_long : goal.returns-in-Err-clause-script_long
returns-in-Err-clause-script_long g c =
    λ is. not-file _ status.ScriptLong c.in-Err.ensures.ends refl is

pub returns-in-Err-clause-script_over : goal.returns-in-Err-clause-script_over
returns-in-Err-clause-script_over g c =
    λ s is. not-file _ status.ScriptLong c.in-Err.ensures.ends refl is

pub returns-in-Err-clause-desk_failed : goal.returns-in-Err-clause-desk_failed
returns-in-Err-clause-desk_failed g c =
    λ is. not-file _ status.DeskFault c.in-Err.ensures.ends refl is

pub returns-in-Err-clause-shelf_failed : goal.returns-in-Err-clause-shelf_failed
returns-in-Err-clause-shelf_failed g c =
    λ is. c.in-Err.ensures.failed (ap Err is)

pub returns-in-Err-clause-complete : goal.returns-in-Err-clause-complete
returns-in-Err-clause-complete g c =
    λ said lines opening s l d is table read short source desk.
    file-complete (g.L.Shelf.files c.args.shelf.now) (words_of (map string_bytes c.args.words.now)) (value_of c.in-Ok.words) said c.in-Err.status lines c.in-Ok.ensures.said is c.in-Err.ensures.ends (c.in-Err.ensures.found l) table

-- ---- the script

pub returns-clause-words : goal.returns-clause-words
returns-clause-words g c =
    λ is. begun-not _ status.Words c.run_opened.ensures.begun refl is

pub returns-clause-wordless : goal.returns-clause-wordless
returns-clause-wordless g c =
    λ none. refused-words _ _ c.in-Ok.ensures.said none

pub returns-clause-untouched : goal.returns-clause-untouched
returns-clause-untouched g c =
    λ none. refused-words _ _ c.in-Ok.ensures.said none

pub returns-clause-tables : goal.returns-clause-tables
returns-clause-tables g c =
    λ which fault t is. begun-not _ (status.Tables which fault) c.run_opened.ensures.begun refl is

pub returns-clause-refused_tables : goal.returns-clause-refused_tables
returns-clause-refused_tables g c =
    λ said there t is fault. read-not (g.L.Shelf.files c.args.shelf.now) (words_of (map string_bytes c.args.words.now)) (value_of c.in-Ok.words) said _ there c.in-Ok.ensures.said is (c.in-Ok-fetch_tables.ensures.found t) fault

pub returns-in-Err-Refused-clause-tableless : goal.returns-in-Err-Refused-clause-tableless
returns-in-Err-Refused-clause-tableless g c =
    λ said there t is. refused-words _ said is (c.in-Err-Refused.ensures.refused (ap Err c.in-Err-Refused.field-0-is))

pub returns-clause-tableless : goal.returns-clause-tableless
returns-clause-tableless g c =
    λ said there t is fault. read-not (g.L.Shelf.files c.args.shelf.now) (words_of (map string_bytes c.args.words.now)) (value_of c.in-Ok.words) said _ there c.in-Ok.ensures.said is (c.in-Ok-fetch_tables.ensures.found t) fault

pub returns-clause-untabled : goal.returns-clause-untabled
returns-clause-untabled g c =
    early-not _ c.run_opened.ensures.begun

pub returns-clause-ran : goal.returns-clause-ran
returns-clause-ran g c =
    λ s d opening read. (
      _,
      read-is g.L.Shelf.tells (g.L.Shelf.files c.args.shelf.now) (words_of (map string_bytes c.args.words.now)) (value_of c.in-Ok.words) _ c.in-Ok.ensures.said c.in-Ok-fetch_tables.ensures.found,
      ran-lent g.L.Shelf.faults g.D.Desk.said g.D.Desk.may_leave g.D.Desk.clock g.D.Desk.might _ _ _ _ _ _ _ _ _
          c.run_opened.new.devices.desk.now _ c.run_opened.new.devices.shelf.now _ c.run_opened.new.devices.steps.now _
          (panels_in (λ panel. goal.Panel-dyn g (panel.vtable, panel.value)) c.run_opened.new.devices) _
          (search rules) (search rules) (search rules) (search rules)
          (ran-later _ _ _ _ _ _ _ _ _ _ _ _ _ _ _ _ c.fetch_tables.ensures.keeps.files_stay
          c.fetch_tables.ensures.keeps.later (c.run_opened.ensures.ran s d opening read)),
    )

pub returns-clause-shelf_failed : goal.returns-clause-shelf_failed
returns-clause-shelf_failed g c =
    λ is. begun-not _ status.ShelfFault c.run_opened.ensures.begun refl is

pub returns-clause-complete : goal.returns-clause-complete
returns-clause-complete g c =
    λ said lines opening s l d is table read short source desk.
    complete _ opening _ _ _ _ _ _ _ read c.run_opened.ensures.begun (λ bank at foreign. c.run_opened.ensures.foreign bank at d foreign)
    c.run_opened.ensures.script_failed (c.run_opened.ensures.script_over s) c.run_opened.ensures.desk_failed short source
    (steady-lent g.D.Desk.faults _ _ c.run_opened.new.devices.desk.now (search rules) desk)

pub returns-in-Err-clause-refused_files : goal.returns-in-Err-clause-refused_files
returns-in-Err-clause-refused_files g c =
    λ bank at d read. file-either _ c.in-Err.ensures.ends

pub returns-clause-refused_files : goal.returns-clause-refused_files
returns-clause-refused_files g c =
    λ bank at d read. or_early _ bank at (c.run_opened.ensures.refused_files bank at d read)

-- ---- files that are no store's

pub returns-in-Err-Refused-clause-refused_moments : goal.returns-in-Err-Refused-clause-refused_moments
returns-in-Err-Refused-clause-refused_moments g c =
    λ bank at d read.
    let desk = c.args.desk.now in
    reading-none g.D.Desk.clock g.D.Desk.might desk _ _ _ (λ images so_far left. g.met.D.Desk.only_now desk images so_far d left)

pub returns-in-Err-NoMemory-clause-refused_moments : goal.returns-in-Err-NoMemory-clause-refused_moments
returns-in-Err-NoMemory-clause-refused_moments g c =
    λ bank at d read.
    let desk = c.args.desk.now in
    reading-none g.D.Desk.clock g.D.Desk.might desk _ _ _ (λ images so_far left. g.met.D.Desk.only_now desk images so_far d left)

pub returns-in-Err-clause-refused_moments : goal.returns-in-Err-clause-refused_moments
returns-in-Err-clause-refused_moments g c =
    λ bank at d read.
    let desk = c.args.desk.now in
    reading-none g.D.Desk.clock g.D.Desk.might desk _ _ _ (λ images so_far left. g.met.D.Desk.only_now desk images so_far d left)

-- ---- days

pub returns-in-Err-Refused-clause-days : goal.returns-in-Err-Refused-clause-days
returns-in-Err-Refused-clause-days g c =
    λ portrayal count opening script answers others fetched. goes-alike c.days_leave_charts.ensures script _ _ answers others refl fetched

pub returns-in-Err-NoMemory-clause-days : goal.returns-in-Err-NoMemory-clause-days
returns-in-Err-NoMemory-clause-days g c =
    λ portrayal count opening script answers others fetched. goes-alike c.days_leave_charts.ensures script _ _ answers others refl fetched

pub returns-in-Err-clause-days : goal.returns-in-Err-clause-days
returns-in-Err-clause-days g c =
    λ portrayal count opening script answers others fetched. goes-alike c.days_leave_charts.ensures script _ _ answers others refl fetched

pub returns-clause-days : goal.returns-clause-days
returns-clause-days g c =
    λ portrayal count opening script answers others fetched. goes-alike c.days_leave_charts.ensures script _ _ answers others refl fetched
