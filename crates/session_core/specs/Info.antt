-- What the line `info` answers.
use Rattle.std.specs.Prelude.{ℕ, List, Result, Ok, Option}
use Rattle.chart_model.specs.Answers.{◌>>=◌, or_fault_as}
use Rattle.chart_ports.specs.declared.shelf.Fetched.{Fetched}
use Rattle.chart_store.specs.Fault.{or_refused}
use Rattle.chart_store.specs.Loaded.{FILE_LIMIT}
use Rattle.chart_store.specs.Refusal.{refusal_of_read}
use Rattle.update_sequence.specs.Info.{info_in}
use Rattle.update_sequence.specs.declared.info.FileInfo.{FileInfo}
use Rattle.script_reader.specs.declared.reply.Reply.{Reply}
use Rattle.script_reader.specs.declared.reply.Reply.TheVariants as replies
use Rattle.session_core.specs.declared.refusal.LineRefusal.{LineRefusal}
use Rattle.session_core.specs.declared.refusal.LineRefusal.TheVariants.{Store}
use Rattle.session_core.specs.Fetch.{file_in}

-- what a file says of itself, as a reply
abbrev pub info_reply : FileInfo → Reply
info_reply info = replies.Info info.key info.edition info.update info.records

-- what the file of a name says of itself
unfoldable pub info_of : List ℕ → Option Fetched → Result Reply LineRefusal
info_of name fetched = do
  bytes ← file_in FILE_LIMIT name fetched
  info ← or_fault_as Store (or_refused refusal_of_read (info_in bytes))
  Ok (info_reply info)
