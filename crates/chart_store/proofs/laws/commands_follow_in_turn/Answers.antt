use Rattle.chart_store.proofs.Commanding.{after-none, after-push}
use Rattle.chart_store.proofs.laws.commands_follow_in_turn.Goals as goal

pub returns-clause-none : goal.returns-clause-none
returns-clause-none c = after-none

pub returns-clause-more : goal.returns-clause-more
returns-clause-more c = after-push
