use Rattle.std.proofs.Common.{[], ◌∷◌, refl}
use Rattle.xa_model.specs.Phases.{prepared}
use Rattle.xa_assoc.proofs.Follows.{unmoved}
use Rattle.xa_manager.specs.Stands.{ending}
use Rattle.xa_manager.specs.View.{view_of}
use Rattle.xa_manager.proofs.Finishing.{moved_rooms, other_rooms, without_rooms}
use Rattle.xa_manager.proofs.Histories.{prepared_records}
use Rattle.xa_manager.proofs.tables.Tables.take_prepared.Goals as goal

pub returns-in-Kept-clause-first_kept : goal.returns-in-Kept-clause-first_kept
returns-in-Kept-clause-first_kept c = λ is xids s end apart st recoverable. record {
  name = st.name;
  log_bytes = st.log_bytes;
  up = st.up;
  sessions = unmoved c.args.self.now.sessions s (ending (prepared s c.args.xid.now) end) refl refl st.sessions;
  branches = moved_rooms xids c.prepare.new.self (prepared s c.args.xid.now) end (c.prepare.ensures.beside [] xids s apart st.recoverable.sound st.branches);
  records = prepared_records c.args.xid.now s c.args.self.now.records st.records;
  recoverable = recoverable;
}

pub returns-in-Kept-clause-kept : goal.returns-in-Kept-clause-kept
returns-in-Kept-clause-kept c = λ is s end st recoverable. without_rooms _ (ending (prepared s c.args.xid.now) end) (returns-in-Kept-clause-first_kept c is [] s end tt st recoverable)

pub returns-in-Refused-clause-first_left : goal.returns-in-Refused-clause-first_left
returns-in-Refused-clause-first_left c = λ not xids s apart st.
    other_rooms (c.args.xid.now ∷ xids) xids (view_of c.args.self.now) c.give_back.new.self s (c.give_back.ensures.beside [] xids s apart st.branches) st
