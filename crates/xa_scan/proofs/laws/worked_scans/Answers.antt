use Rattle.xa_scan.proofs.Rows.{prepared, held, based, known, others, empty, prepared_objects, held_objects, based_objects, other_objects}
use Rattle.xa_scan.proofs.laws.worked_scans.Goals as goal

pub returns : goal.returns
returns c = record {
  prepared = prepared;
  held = held;
  based = based;
  known = known;
  others = others;
  empty = empty;
  prepared_objects = prepared_objects;
  held_objects = held_objects;
  based_objects = based_objects;
  other_objects = other_objects;
}
