use Rattle.clap.specs.Words.{found_of, rows_of}
use Rattle.command_words.proofs.Ranges.{settings_in_range}
use Rattle.command_words.proofs.values.settings.Goals as goal

pub returns-clause-ranges : goal.returns-clause-ranges
returns-clause-ranges c = settings_in_range (rows_of (found_of c.args.matches.now)) c.settings_in.result c.settings_in.ensures
