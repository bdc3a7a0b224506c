-- A part of a login, by the table of what is served.
use Rattle.std.proofs.Common.{◌≡◌, ◌∙◌, ◌⊎◌, ℕ, List, Option, Some, None, ap, inl, inr, subst, sym}
use Rattle.std.specs.Option.{option_map}
use Rattle.slab.specs.Slab.{Slab, get, with_value}
use Rattle.xa_control.specs.declared.answer.Answer.{Answer}
use Rattle.xa_control.specs.declared.answer.Answer.TheVariants.{Challenge, Refused, Welcome, Done, Hello, Metrics, Sessions}
use Rattle.xa_users.specs.declared.users.Users.{Users}
use Rattle.xa_reactor.specs.Believed.Tending.{LogsIn, Puts, Seat, Table, seat_of, sessions_of}
use Rattle.xa_reactor.specs.Users.{LogsAt, Passes, PassesIf}
use Rattle.xa_reactor.specs.declared.logging_in.Passed.{Passed}
use Rattle.xa_reactor.specs.declared.logging_in.Passed.TheVariants.{Nothing, Answers, Fails}
use Rattle.xa_reactor.specs.declared.peer.Peer.{Peer}
use Rattle.xa_reactor.proofs.Doing.{puts_value, same_sessions}

module _ (all : Slab Peer) (key : ℕ) (old new last : Peer) (there : get all key ≡ Some old) (same : seat_of last ≡ seat_of new) where
  -- what the table has under the key, before and after
  has : sessions_of all key ≡ Some (seat_of old)
  has = ap (λ slot. option_map seat_of slot) there

  puts_seat : (seat : Seat) → seat_of new ≡ seat → Puts (sessions_of all) (sessions_of (with_value all key last)) key (Some seat)
  puts_seat seat is =
      subst (λ (s : Seat). Puts (sessions_of all) (sessions_of (with_value all key last)) key (Some s)) (same ∙ is)
      (puts_value all key old last there)

  stays : new ≡ old → sessions_of all ≡ sessions_of (with_value all key last)
  stays is = same_sessions all key old last there (same ∙ ap seat_of is)

  denied : (users : Users) → seat_of new ≡ record (seat_of old) { login = None } → LogsAt (Some users) (sessions_of all) (sessions_of (with_value all key last))
  denied users is = inr (inr (inr (record { key = key; seat = seat_of old; has = has; puts = puts_seat (record (seat_of old) { login = None }) is })))

  passes : (users : Users) (passed : Passed) → Passes users old passed new
      → LogsAt (Some users) (sessions_of all) (sessions_of (with_value all key last))
  passes users Nothing is = inl (stays is)
  passes users (Answers (Challenge text)) h =
      inr (inl (record {
        key = key;
        seat = seat_of old;
        has = has;
        opening = h.opening;
        own = h.own;
        secret = h.secret;
        puts = puts_seat _ (ap seat_of h.changed);
      }))
  passes users (Answers (Welcome text)) h =
      inr (inr (inl (record {
        key = key;
        seat = seat_of old;
        has = has;
        login = h.login;
        began = h.began;
        message = h.message;
        role = h.role;
        shows = h.shows;
        puts = puts_seat _ (ap seat_of h.changed);
      })))
  passes users (Answers (Refused code detail)) is = denied users (ap seat_of is)
  passes users (Answers Done) h = absurd h
  passes users (Answers (Hello hello)) h = absurd h
  passes users (Answers (Metrics numbers)) h = absurd h
  passes users (Answers (Sessions numbers)) h = absurd h
  passes users Fails h = denied users (ap seat_of h.1)

-- the peer under a key had a part of a login, and then kept its seat
pub logs_at : (users : Option Users) (all : Slab Peer) (key : ℕ) (old new last : Peer) (passed : Passed) → get all key ≡ Some old
    → seat_of last ≡ seat_of new → PassesIf users old passed new
    → LogsAt users (sessions_of all) (sessions_of (with_value all key last))
logs_at (Some users) all key old new last passed there same h = passes all key old new last there same users passed h
logs_at None all key old new last passed there same is = inl (stays all key old new last there same is)
