-- A recovery lists XIDs.
use Rattle.std.proofs.Common.{◌≡◌, ℕ, ◌≤◌, false, List, Option, length, take, refl, ap, sym, subst, ◌∙◌, arith}
use Rattle.std.specs.Prelude.{min, filter}
use Rattle.std.proofs.lemmas.List.{length-take}
use Rattle.xa_limits.specs.declared.TheConstants.{MOST_XIDS}
use Rattle.xa_frame.specs.declared.reply.Reply.{Reply}
use Rattle.xa_xid.specs.Triple.{Triple}
use Rattle.xa_model.specs.State.{State}
use Rattle.xa_model.specs.Durable.{durable}
use Rattle.xa_model.specs.Listed.{list_after, listed, is_above}
use Rattle.xa_model.specs.Recovering.{listing, recovered, recover_by, scanning, scan_after}
use Rattle.xa_assoc.specs.Sessions.{SessionsStandFor}
use Rattle.xa_branch.proofs.Elsewhere.{stands_elsewhere}
use Rattle.xa_assoc.specs.Refusals.{is_memory}
use Rattle.xa_manager.specs.View.{View}
use Rattle.xa_manager.specs.Stands.{StandsFor, Follows}
use Rattle.xa_manager.proofs.Rows.{follows_by}

-- the sessions' scans moved, and nothing else
pub record Moves (m : View) (n flags : ℕ) (cursor : Option Triple) (xids : List Triple) (m' : View) : Type 0 where
  pub name : m'.name ≡ m.name
  pub log_bytes : m'.log_bytes ≡ m.log_bytes
  pub branches : m'.branches ≡ m.branches
  pub records : m'.records ≡ m.records
  pub sessions : (s : State) → SessionsStandFor m.sessions s → SessionsStandFor m'.sessions (scanning s n (scan_after flags cursor xids))

few_listed : (all : List Triple) (count : ℕ) (xids : List Triple) → xids ≡ take count all → count ≤ MOST_XIDS → length xids ≤ MOST_XIDS
few_listed all count xids same few =
    let short : length xids ≡ min count (length all) = ap length same ∙ length-take count all in
    omega arith

pub recover_follows : (m m' : View) (n flags count : ℕ) (cursor : Option Triple) (xids : List Triple) (reply : Reply) → count ≤ MOST_XIDS
    → ((s : State) → SessionsStandFor m.sessions s → recover_by s n flags count ≡ recovered s n flags count cursor)
    → ((s : State) → StandsFor m s → xids ≡ list_after cursor count (durable s)) → (length xids ≤ MOST_XIDS → reply ≡ listing xids) → Moves m n flags cursor xids m' → is_memory reply.detail ≡ false
    → Follows m (λ s. recover_by s n flags count) reply m'
recover_follows m m' n flags count cursor xids reply few goes lists says moves served =
    follows_by m m' (λ s. recover_by s n flags count) reply served
    (λ s st.
    let same = lists s st in
    let short : length xids ≤ MOST_XIDS = few_listed (filter (is_above cursor) (listed (durable s))) count xids same few in (
      recovered s n flags count cursor,
      goes s st.sessions,
      ap listing (sym same) ∙ sym (says short),
      λ recoverable. record {
        name = moves.name ∙ st.name;
        log_bytes = moves.log_bytes ∙ st.log_bytes;
        up = st.up;
        sessions = subst (λ (ys : List Triple). SessionsStandFor m'.sessions (scanning s n (scan_after flags cursor ys))) same (moves.sessions s st.sessions);
        branches = rw moves.branches (stands_elsewhere m.branches s (scanning s n (scan_after flags cursor (list_after cursor count (durable s)))) refl refl refl refl refl refl st.branches);
        records = rw moves.records st.records;
        recoverable = recoverable;
      },
    ))
