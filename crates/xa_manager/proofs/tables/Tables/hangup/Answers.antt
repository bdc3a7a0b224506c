use Rattle.std.proofs.Common.{◌≡◌, Option, None, refl, ap, ◌∙◌, rules}
use Rattle.std.specs.Prelude.{option_and_then, option_copied}
use Rattle.xa_assoc.specs.declared.seat.Seat.{Seat}
use Rattle.xa_assoc.specs.Seats.{seat_at, holds}
use Rattle.xa_manager.specs.View.{view_of}
use Rattle.xa_manager.proofs.HangingUp.{nobody_stands, hangs_up, hangs_up_down}
use Rattle.xa_manager.proofs.tables.Tables.hangup.Goals as goal

pub returns-in-Some : goal.returns-in-Some
returns-in-Some c =
    let m = view_of c.args.self.now in
    let n = c.args.session in
    let copied : option_copied c.as_ref.result ≡ c.in-Some.seat.active = search rules in record {
      up = hangs_up m c.hangup.new.self c.hang_up.new.self n c.in-Some.ensures.after
          (λ s st. c.hang_up.ensures.follows s n st.recoverable.sound (λ q. ap (holds q) c.in-Some.ensures.seat ∙ st.sessions.own n q)
          (copied ∙ ap (λ (o : Option Seat). option_and_then (λ x. x.active) o) c.in-Some.ensures.seat ∙ st.sessions.active n) st.branches);
      down = hangs_up_down m c.hangup.new.self c.hang_up.new.self n c.in-Some.ensures.after c.hang_up.ensures.moment;
      gone = c.in-Some.ensures.gone;
      rooms = c.hang_up.ensures.rooms;
    }

pub returns-in_default : goal.returns-in_default
returns-in_default c =
    let m = view_of c.args.self.now in
    let n = c.args.session in
    let none : seat_at c.args.self.now.sessions n ≡ None = search rules in record {
      up = hangs_up m c.hangup.new.self m.branches n c.hangup.ensures.after (λ s st. nobody_stands m s n st none);
      down = hangs_up_down m c.hangup.new.self m.branches n c.hangup.ensures.after refl;
      gone = c.hangup.ensures.gone;
      rooms = refl;
    }
