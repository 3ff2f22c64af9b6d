-- By what a run draws.
use Rattle.std.specs.Prelude.{◌≡◌, Bool, IsTrue, List, Option, Some, Ok}
use Rattle.command_words.specs.Reading.{WordsValue}
use Rattle.lookup_table.specs.declared.line.TableLine.{TableLine}
use Rattle.session_core.specs.Fetch.{Files}
use Rattle.session_core.specs.Model.{Portrayal}
use Rattle.ecdis_cli.specs.Tables.{table_in}

-- The settings and the day are those of the words, where they are taken. The table is the one that the files are which they name,
-- where the shelf tells them and they read.
pub record IsPortrayal (tells : Bool) (files : Files) (words : Option WordsValue) (portrayal : Portrayal) : Type 0 where
  pub settings : (said : WordsValue) → words ≡ Some said → portrayal.settings ≡ said.settings
  pub day : (said : WordsValue) → words ≡ Some said → portrayal.day ≡ said.day
  pub table : (said : WordsValue) (lines : List TableLine) → words ≡ Some said → IsTrue tells
      → table_in files said ≡ Ok lines → portrayal.table ≡ lines
