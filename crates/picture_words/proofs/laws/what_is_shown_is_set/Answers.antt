use Rattle.picture_words.proofs.Walks.{route, width, view}
use Rattle.picture_words.proofs.laws.what_is_shown_is_set.Goals as goal

pub returns-clause-route : goal.returns-clause-route
returns-clause-route c = route

pub returns-clause-width : goal.returns-clause-width
returns-clause-width c = width

pub returns-clause-view : goal.returns-clause-view
returns-clause-view c = view
