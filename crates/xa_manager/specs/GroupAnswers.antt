-- What becomes of a group by the device's answer, and what its calls are replied.
use Rattle.std.specs.Prelude.{ℕ, ◌≡◌, ◌≢◌, ◌<◌, Some, List, [], ◌∷◌, length}
use Rattle.std.specs.List.{AllByRecursion}
use Rattle.xa_frame.specs.declared.reply.Reply.{Reply}
use Rattle.xa_xid.specs.Triple.{Triple}
use Rattle.xa_model.specs.declared.outcome.Appending.{Appending}
use Rattle.xa_model.specs.declared.outcome.Appending.TheVariants.{Kept, Refused, Lost}
use Rattle.xa_model.specs.State.{State}
use Rattle.xa_model.specs.Logging.{applied_all, down}
use Rattle.xa_model.specs.Laws.Together.{Part, MayStandTogether, left_by_all, records_of, replied}
use Rattle.xa_manager.specs.declared.row.Row.{Row}
use Rattle.xa_manager.specs.declared.row.Row.TheVariants.{Writes}
use Rattle.xa_manager.specs.declared.row.Writing.TheVariants.{Prepare}
use Rattle.xa_manager.specs.declared.tables.Tables.{Tables}
use Rattle.xa_manager.specs.declared.together.Asked.{Asked}
use Rattle.xa_manager.specs.declared.together.Joining.{Joining}
use Rattle.xa_manager.specs.Acts.{GivesFirstRoomBack, TakesFirstPrepared}
use Rattle.xa_manager.specs.Rows.{asked_row, refused_code}
use Rattle.xa_manager.specs.Stands.{StandsFor, StandsWithRooms}
use Rattle.xa_manager.specs.Believed.Together.{Member, PreparesFirst, asked_at, members_of, parts_of, prepares_of}
use Rattle.xa_manager.specs.Turns.{reply_to}
use Rattle.xa_manager.specs.View.{view_of}

-- the state to which a group leads if this became of its records
abbrev pub group_after : Appending → State → List Part → State
group_after Kept s ps = applied_all (records_of ps) s
group_after Refused s ps = left_by_all ps s
group_after Lost s ps = record (down s) { open_records = records_of ps }

-- Of a state: they may stand together, each is of the row that was asked, and the prepares stand first.
pub record AreTogether (s : State) (cs : List Member) : Type 0 where
  pub may : MayStandTogether s (parts_of s cs)
  pub rows : AllByRecursion (λ c. asked_row c.request ≡ Some (c.row, c.xid)) cs
  pub first : PreparesFirst cs

-- what the device's answer makes of a branch that has its room beside others
abbrev pub TakesFirst : Tables → Row → Triple → Appending → Tables → Type 0
TakesFirst t (Writes Prepare) xid Kept t' = TakesFirstPrepared t xid t'
TakesFirst t (Writes Prepare) xid Refused t' = GivesFirstRoomBack t xid t'
TakesFirst t (Writes Prepare) xid Lost t' = GivesFirstRoomBack t xid t'
TakesFirst t _ xid a t' = Unit {0}

-- what it makes of all of them, if they aren't lost
abbrev pub TakeAnswers : Tables → List Joining → Appending → Tables → Type 0
TakeAnswers t js a t' =
    (calls : List Asked) (s : State) → a ≢ Lost → AreTogether s (members_of calls js)
    → StandsWithRooms (prepares_of (members_of calls js)) (view_of t) s
    → StandsFor (view_of t') (group_after a s (parts_of s (members_of calls js)))

-- what a call of a group is told, by its place among those that were asked
abbrev pub told : Appending → Joining → ℕ × Reply
told a j = (j.at, reply_to (refused_code j.row) a)

-- the reply to a call of a group, with the call's place among those that were asked
pub record IsReplyTo (calls : List Asked) (a : Appending) (c : Member) (told : ℕ × Reply) : Type 0 where
  pub within : told.0 < length calls
  pub session : (asked_at calls told.0).session ≡ c.session
  pub request : (asked_at calls told.0).request ≡ c.request
  pub reply : told.1 ≡ replied a c.request

abbrev pub AreReplies : List Asked → Appending → List Member → List (ℕ × Reply) → Type 0
AreReplies calls a [] [] = Unit {0}
AreReplies calls a (c ∷ cs) (r ∷ rs) = IsReplyTo calls a c r × AreReplies calls a cs rs
AreReplies calls a _ _ = ⊥
