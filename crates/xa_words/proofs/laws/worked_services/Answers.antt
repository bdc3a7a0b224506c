use Rattle.xa_words.proofs.Worked.{by_itself, counted_twice, with_audit, with_history, with_workers, workers_and_more}
use Rattle.xa_words.proofs.laws.worked_services.Goals as goal

pub returns : goal.returns
returns c = record {
  itself = by_itself;
  audit = with_audit;
  history = with_history;
  workers = with_workers;
  more = workers_and_more;
  twice = counted_twice;
}
