use Rattle.std.proofs.Common.{ℕ, List}
use Rattle.std.specs.BTreeMap.{get}
use Rattle.chart_model.specs.Keys.{key_cmp}
use Rattle.exchange_catalogue.proofs.Noted.{AreNoted, AreFaultless}
use Rattle.exchange_catalogue.proofs.firsts.first_ranks.Given as goal

abbrev pub invariant-loop-place : goal.invariant-loop-place
invariant-loop-place l = AreNoted (get key_cmp l.files) l.place l.entries × AreFaultless l.place l.entries
