use Rattle.exchange_catalogue.proofs.firsts.first_files.Goals as goal

pub returns-clause-files : goal.returns-clause-files
returns-clause-files c = record {
  ranks = c.in_ok-ranks.ranks;
  ordered = c.in_ok-files_of.ensures.ordered;
  first = c.in_ok-ranks.ensures.ranks;
  listed = c.in_ok-files_of.ensures.files;
}
