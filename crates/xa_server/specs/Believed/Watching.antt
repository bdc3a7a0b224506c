-- Whether the manager of a server is down, by its history.
use Rattle.std.specs.Prelude.{ℕ, ◌≡◌, ◌⊎◌, ◌<◌, ◌&&◌, ◌==◌, Bool, true, false, not, nat_lt, List, [], ◌∷◌, Option, Some, None, sum_by, if◌then◌else◌}
use Rattle.xa_frame.specs.declared.reply.Reply.{Reply}
use Rattle.xa_frame.specs.declared.request.Request.{Request}
use Rattle.xa_frame.specs.declared.request.Request.TheVariants.{Restart}
use Rattle.xa_history.specs.declared.receipt.Receipt as entry
use Rattle.xa_model.specs.declared.event.Event.{Event}
use Rattle.xa_model.specs.declared.event.Event.TheVariants.{Call}
use Rattle.xa_reactor.specs.Believed.Down.{after_told, tells_down, unseen}
use Rattle.xa_reactor.specs.declared.seen.Seen.{Seen}
use Rattle.xa_tokens.specs.declared.receipt.Receipt.{Receipt}

abbrev pub is_restart : Request → Bool
is_restart Restart = true
is_restart request = false

-- whether the manager is down by the reply to an event, if that tells: a connect's and a hang-up's don't
abbrev pub tells : Event → Reply → Option Bool
tells (Call session request) reply = tells_down (is_restart request) reply
tells event reply = None

abbrev pub down_by : Bool → Option Bool → Bool
down_by was None = was
down_by was (Some is_down) = is_down

-- Whether the manager is down after these entries, by whether it was before: it is from a reply on that says so, until a
-- Restart succeeds.
abbrev pub is_down_after : Bool → List entry.Receipt → Bool
is_down_after was [] = was
is_down_after was (r ∷ rs) = is_down_after (down_by was (tells r.event r.reply)) rs

-- ---- what a loop has seen of that

abbrev pub told_in : Receipt → Option Bool
told_in r = tells r.ask.event r.reply

abbrev pub after_entry : Seen → Receipt → Seen
after_entry s r = after_told s r.reply.place (told_in r)

-- by all that it was told
abbrev pub seen_from : Seen → List Receipt → Seen
seen_from s [] = s
seen_from s (r ∷ rs) = seen_from (after_entry s r) rs

abbrev pub seen_of : List Receipt → Seen
seen_of told = seen_from unseen told

abbrev pub same_bool : Bool → Bool → Bool
same_bool true b = b
same_bool false b = not b

-- what an entry at a place weighs that tells something, and stands after another place; and one that tells this, at one
abbrev pub behind_weight : ℕ → Option Bool → ℕ → ℕ
behind_weight other None place = 0
behind_weight other (Some is_down) place = if nat_lt other place then 1 else 0

abbrev pub at_weight : Seen → Option Bool → ℕ → ℕ
at_weight s None place = 0
at_weight s (Some is_down) place = if (s.place == place) && same_bool s.is_down is_down then 1 else 0

-- No entry that tells something stands after the one that was seen last; and that one is among them, if any was seen.
pub record IsSeenLast (s : Seen) (told : List Receipt) : Type 0 where
  pub none : sum_by (λ r. behind_weight s.place (told_in r) r.reply.place) told ≡ 0
  pub one : (s ≡ unseen) ⊎ (0 < sum_by (λ r. at_weight s (told_in r) r.reply.place) told)
