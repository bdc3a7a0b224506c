-- Gets and puts of records, by the branch that the session works for.
use Rattle.std.specs.Prelude.{◌≡◌, ℕ, Bool, true, false, not, ◌&&◌, Option, Some, None, List, [], ◌∷◌, is_some, nat_lt}
use Rattle.std.specs.Prelude.{bytes_eq, if◌then◌else◌}
use Rattle.xa_codes.specs.declared.codes.TheConstants.{XAER_PROTO, XAER_INVAL, XA_RETRY, XA_RBTRANSIENT}
use Rattle.xa_codes.specs.declared.detail.Detail.TheVariants as detail
use Rattle.xa_limits.specs.declared.TheConstants.{MOST_WRITES}
use Rattle.xa_xid.specs.Triple.{Triple}
use Rattle.xa_frame.specs.declared.body.Body.{Body}
use Rattle.xa_frame.specs.declared.body.Body.TheVariants as body
use Rattle.xa_frame.specs.declared.reply.Reply.{Reply}
use Rattle.xa_model.specs.Ranges.{Range, holds}
use Rattle.xa_model.specs.State.{State, Branch, Operation, Got, Walked, Wrote, Key, Keys, is_known_as, mark_of, change}
use Rattle.xa_model.specs.Source.{Version, write_of, written_keys, source, source_among, is_busy, is_late}
use Rattle.xa_model.specs.Answer.{Answer, plain, detailed, carrying, answer, ok, first, unless, marked}
use Rattle.xa_model.specs.Associations.{with_mark}

abbrev pub having_done : Operation → Branch → Branch
having_done op b = record b { operations = op ∷ b.operations }

abbrev pub did : Triple → Operation → List Branch → List Branch
did xid op branches = change (is_known_as xid) (having_done op) branches

-- Get

abbrev pub value_body : Option (List ℕ) → Body
value_body (Some value) = body.Value value
value_body None = body.Absent

abbrev pub busy_refusal : ℕ → Version → Option Reply
busy_refusal t v = first ((is_busy t v, detailed XA_RETRY detail.Busy) ∷ [])

abbrev pub got : State → List ℕ → Triple → Branch → Version → Answer
got s key xid b v = answer (carrying (value_body v.value)) (record s {
  branches = did xid (Got key v.value v.timestamp) s.branches;
  reads = record { reader = b.timestamp; over = Key key v.timestamp } ∷ s.reads;
})

abbrev pub get_from : State → List ℕ → Triple → Branch → Version → Answer
get_from s key xid b v = unless (busy_refusal b.timestamp v) s (got s key xid b v)

abbrev pub get_by : State → List ℕ → Option (Triple × Branch) → Answer
get_by s key None = answer (plain XAER_PROTO) s
get_by s key (Some (xid, b)) = marked (mark_of b.phase) s (get_from s key xid b (source key b.timestamp s.branches))

-- A walk over a range

-- the value of a key among the records that were found; None if it isn't among them
abbrev pub value_among : List ℕ → List (List ℕ × List ℕ) → Option (List ℕ)
value_among key [] = None
value_among key (r ∷ rest) = if bytes_eq r.0 key then Some r.1 else value_among key rest

-- a timestamp reads just these records of the range, from these sources, none of them another's that is undecided
pub record Sees (range : Range) (found : List (List ℕ × List ℕ)) (sources : List (List ℕ × ℕ)) (t : ℕ)
    (branches : List Branch) : Type 0 where
  pub free : (key : List ℕ) → holds range key ≡ true → is_busy t (source key t branches) ≡ false
  pub values : (key : List ℕ) → holds range key ≡ true
      → (source key t branches).value ≡ value_among key found
  pub stamps : (key : List ℕ) → holds range key ≡ true
      → (source key t branches).timestamp ≡ source_among key sources

-- the state once a branch has walked a range, and found these records, from these sources
abbrev pub walked : State → Range → List (List ℕ × List ℕ) → List (List ℕ × ℕ) → Triple → Branch → State
walked s range found sources xid b = record s {
  branches = did xid (Walked range found) s.branches;
  reads = record { reader = b.timestamp; over = Keys range sources } ∷ s.reads;
}

-- Put, and Delete, which writes no value

-- a further key, if there are as many as there may be
abbrev pub is_full : List ℕ → List Operation → Bool
is_full key ops = not (is_some (write_of key ops)) && not (nat_lt (written_keys ops) MOST_WRITES)

abbrev pub limit_refusal : Bool → Option Reply
limit_refusal full = first ((full, detailed XAER_INVAL detail.Limit) ∷ [])

-- only an unmarked branch writes
abbrev pub came_late : State → Triple → Answer
came_late s xid =
    answer (detailed XA_RBTRANSIENT detail.Late)
    (record s { branches = change (is_known_as xid) (with_mark XA_RBTRANSIENT) s.branches })

abbrev pub written : State → List ℕ → Option (List ℕ) → Triple → Answer
written s key value xid = ok (record s { branches = did xid (Wrote key value) s.branches })

abbrev pub if_late : Bool → Answer → Answer → Answer
if_late true late go_on = late
if_late false late go_on = go_on

abbrev pub put_from : State → List ℕ → Option (List ℕ) → Triple → Branch → Answer
put_from s key value xid b =
    unless (limit_refusal (is_full key b.operations)) s
    (if_late (is_late key b.timestamp s.reads) (came_late s xid) (written s key value xid))

abbrev pub put_by : State → List ℕ → Option (List ℕ) → Option (Triple × Branch) → Answer
put_by s key value None = answer (plain XAER_PROTO) s
put_by s key value (Some (xid, b)) = marked (mark_of b.phase) s (put_from s key value xid b)
