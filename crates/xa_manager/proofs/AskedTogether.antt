-- What a call appends that is asked with others.
use Rattle.std.proofs.Common.{◌≡◌, ℕ, true, false, Option, Some, None, refl, ap, ◌∙◌, subst}
use Rattle.xa_disk.specs.declared.disk.Disk.{Ghosts}
use Rattle.xa_frame.specs.declared.request.Request.{Request}
use Rattle.xa_frame.specs.declared.request.Request.TheVariants as request
use Rattle.xa_xid.specs.Triple.{Triple, IsWithinLimits}
use Rattle.xa_model.specs.declared.event.Event.TheVariants.{Call}
use Rattle.xa_model.specs.State.{State}
use Rattle.xa_model.specs.Early.{call_of, passes_down, early_refusal}
use Rattle.xa_model.specs.Events.{IsAsked}
use Rattle.xa_model.specs.Laws.Together.{xid_of}
use Rattle.xa_model.specs.Step.{row as row_of}
use Rattle.xa_model.specs.Turn.{Turn, Nobody}
use Rattle.xa_model.proofs.Further.{turns_up}
use Rattle.xa_manager.specs.declared.manager.Manager.{Manager}
use Rattle.xa_manager.specs.declared.plan.Logging.{Logging}
use Rattle.xa_manager.specs.declared.plan.Plan.TheVariants.{Logs}
use Rattle.xa_manager.specs.declared.row.Row.{Row}
use Rattle.xa_manager.specs.Managed.{view}
use Rattle.xa_manager.specs.Plans.{bytes_of, IsPlan}
use Rattle.xa_manager.specs.Rows.{asked_row, row_turn}
use Rattle.xa_manager.specs.Stands.{StandsFor}
use Rattle.xa_manager.specs.Believed.Together.{AppendsAlone}
use Rattle.xa_manager.specs.View.{context_at}
use Rattle.xa_manager.proofs.Calling.{passed_row, up_by}
use Rattle.xa_manager.proofs.Plans.{commits_by}
use Rattle.xa_manager.proofs.Taking.{tables_up}

-- the row of a request that logs

abbrev xid_in : Option (Row × Triple) → Option Triple
xid_in (Some pair) = Some pair.1
xid_in None = None

abbrev turn_in : State → Option (Row × Triple) → Turn
turn_in s (Some pair) = row_turn pair.0 pair.1 s
turn_in s None = Nobody

pub row_xid : (request : Request) (row : Row) (xid : Triple) → asked_row request ≡ Some (row, xid) → xid_of request ≡ Some xid
row_xid (request.Prepare flags x) row xid e = ap xid_in e
row_xid (request.Commit flags x) row xid e = ap xid_in e
row_xid (request.Rollback flags x) row xid e = ap xid_in e
row_xid (request.Forget flags x) row xid e = ap xid_in e
row_xid (request.Decide direction x) row xid e = ap xid_in e
row_xid r row xid e = absurd (cc e)

row_down : (request : Request) (row : Row) (xid : Triple) → asked_row request ≡ Some (row, xid) → passes_down (call_of request) ≡ false
row_down (request.Prepare flags x) row xid e = refl
row_down (request.Commit flags x) row xid e = refl
row_down (request.Rollback flags x) row xid e = refl
row_down (request.Forget flags x) row xid e = refl
row_down (request.Decide direction x) row xid e = refl
row_down r row xid e = absurd (cc e)

row_is : (s : State) (n : ℕ) (request : Request) (row : Row) (xid : Triple) → asked_row request ≡ Some (row, xid) → row_of s n request ≡ row_turn row xid s
row_is s n (request.Prepare flags x) row xid e = ap (turn_in s) e
row_is s n (request.Commit flags x) row xid e = commits_by flags x s ∙ ap (turn_in s) e
row_is s n (request.Rollback flags x) row xid e = ap (turn_in s) e
row_is s n (request.Forget flags x) row xid e = ap (turn_in s) e
row_is s n (request.Decide direction x) row xid e = ap (turn_in s) e
row_is s n r row xid e = absurd (cc e)

within_by : (x xid : Triple) → Some x ≡ Some xid → IsWithinLimits x → IsWithinLimits xid
within_by x xid e h = let same : x ≡ xid = cc e in subst IsWithinLimits same h

-- its XID is within limits
pub row_within : (request : Request) (row : Row) (xid : Triple) → asked_row request ≡ Some (row, xid) → IsAsked request → IsWithinLimits xid
row_within (request.Prepare flags x) row xid e asked = within_by x xid (row_xid (request.Prepare flags x) row xid e) asked.held.1
row_within (request.Commit flags x) row xid e asked = within_by x xid (row_xid (request.Commit flags x) row xid e) asked.held.1
row_within (request.Rollback flags x) row xid e asked = within_by x xid (row_xid (request.Rollback flags x) row xid e) asked.held.1
row_within (request.Forget flags x) row xid e asked = within_by x xid (row_xid (request.Forget flags x) row xid e) asked.held.1
row_within (request.Decide direction x) row xid e asked = within_by x xid (row_xid (request.Decide direction x) row xid e) asked.held
row_within r row xid e asked = absurd (cc e)

module _ {D : Type 0} (disks : Ghosts D) where
  pub appends_alone : (m : Manager D) (n : ℕ) (request : Request) (row : Row) (xid : Triple) (l : Logging) → IsAsked request → asked_row request ≡ Some (row, xid)
      → None ≡ early_refusal (context_at m.up (view m) n) request → (m.up ≡ false → passes_down (call_of request) ≡ true) → IsPlan disks m row xid (Logs l)
      → AppendsAlone disks m (record { session = n; request = request; row = l.row; xid = l.xid }) (bytes_of l.body)
  appends_alone m n request row xid l asked is free passes p =
      let is_up : m.up ≡ true = up_by m.up (passes_down (call_of request)) (row_down request row xid is) passes in
      let own : asked_row request ≡ Some (l.row, l.xid) = rw (p.0, p.1) is in
      record {
        up = is_up;
        asked = own;
        size = p.2.size;
        appends = λ s st.
            let stands : StandsFor (view m) s = tables_up disks m s is_up st in
            let x = p.2.appends s st is_up in (
              record {
                of_xid = row_xid request l.row l.xid own;
                event = asked;
                after = _;
                appends = turns_up s (Call n request) stands.up ∙ (passed_row disks m s n request free st ∙ (row_is s n request l.row l.xid own ∙ x.turn_is));
              },
              x,
            );
      }
