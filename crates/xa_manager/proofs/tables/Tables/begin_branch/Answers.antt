use Rattle.std.proofs.Common.{sym, subst}
use Rattle.xa_xid.specs.Triple.{Triple}
use Rattle.xa_assoc.specs.Sessions.{SessionsStandFor}
use Rattle.xa_model.specs.Associations.{begun}
use Rattle.xa_model.proofs.ChangedWaters.{begun_water, begun_floor}
use Rattle.xa_manager.specs.View.{view_of}
use Rattle.mv_rules.specs.Ties.{history_of, low_of}
use Rattle.mv_rules.proofs.Remade.{low_rises}
use Rattle.xa_manager.proofs.Beginning.{begun_sound, undone_follows}
use Rattle.xa_manager.proofs.Lows.{rises_with}
use Rattle.xa_manager.proofs.tables.Tables.begin_branch.Goals as goal

pub returns-in-Ok-clause-ok : goal.returns-in-Ok-clause-ok
returns-in-Ok-clause-ok c = λ s st recoverable.
    let there = subst (λ (x : Triple). SessionsStandFor c.begin.new.self (begun s c.args.session x).after) c.copied.ensures (c.in_ok-begin.ensures.ok s st.recoverable.sound st.sessions) in record {
      name = st.name;
      log_bytes = st.log_bytes;
      up = st.up;
      sessions = there;
      branches = c.in-Ok.ensures.ok s c.args.session st.recoverable.sound st.branches (sym (c.timeout-limit.ensures.state (begun s c.args.session c.args.xid.now).after there));
      records =
          low_rises (history_of s) c.args.self.now.records (low_of (begun s c.args.session c.args.xid.now).after) st.records
          (rises_with s (begun s c.args.session c.args.xid.now).after (begun_floor s c.args.session c.args.xid.now) (begun_water s c.args.session c.args.xid.now st.recoverable.sound));
      recoverable = recoverable;
    }

pub returns-in-Err-clause-err : goal.returns-in-Err-clause-err
returns-in-Err-clause-err c = λ s st.
    let n = c.args.session in
    let there = subst (λ (x : Triple). SessionsStandFor c.begin.new.self (begun s n x).after) c.copied.ensures (c.in_ok-begin.ensures.ok s st.recoverable.sound st.sessions) in
    let sound = begun_sound (view_of c.args.self.now) s n c.args.xid.now st c.requires.connected (c.requires.free s st) in record {
      name = st.name;
      log_bytes = st.log_bytes;
      up = st.up;
      sessions = undone_follows c.begin.new.self c.leave.new.self s n c.args.xid.now sound there c.leave.ensures.ended;
      branches = c.in-Err.ensures.err s st.branches;
      records = st.records;
      recoverable = st.recoverable;
    }
