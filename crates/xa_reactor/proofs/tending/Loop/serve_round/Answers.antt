use Rattle.xa_reactor.specs.Believed.Tending.{Table, sessions_of}
use Rattle.xa_reactor.proofs.Aside.{tends_aside, tends_timed}
use Rattle.xa_reactor.proofs.Doing.{posting_tended, posting_thrice, tends_thrice, tends_twice}
use Rattle.xa_reactor.proofs.Settled.{still_settled}
use Rattle.xa_reactor.specs.Users.{users_of}
use Rattle.xa_reactor.proofs.tending.Loop.serve_round.Goals as goal

pub returns-clause-tends : goal.returns-clause-tends
returns-clause-tends g c =
    let before : Table = sessions_of c.args.peers.now.all in
    let noticed : Table = sessions_of c.notice_all-noticed.new.peers.all in
    let given : Table = sessions_of c.give_turns-gathered.new.peers.all in
    let attended : Table = sessions_of c.attend.new.peers.all in
    let after : Table = sessions_of c.take_in.new.peers.all in
    posting_thrice g.D.Reception.posts (users_of c.args.common.now) g.D.Reception.connected g.D.Door.called g.D.Door.left before noticed given after
    c.args.door.now c.keep_time-self.new.door c.give_turns-gathered.new.door c.stop.new.door
    (posting_tended g.D.Reception.posts (users_of c.args.common.now) g.D.Reception.connected g.D.Door.called g.D.Door.left before noticed
    c.args.door.now c.keep_time-self.new.door
    (tends_twice (users_of c.args.common.now) g.D.Reception.connected g.D.Door.called g.D.Door.left before noticed noticed
    c.args.door.now c.notice_all-noticed.new.door c.keep_time-self.new.door (c.notice_all-noticed.ensures.tends (users_of c.args.common.now))
    (tends_timed (users_of c.args.common.now) g.D.Reception.connected g.D.Door.called g.D.Door.left c.notice_all-noticed.new.peers.all
    c.notice_all-noticed.new.door c.keep_time-self.new.door c.keep_time-self.ensures.timed)))
    (c.give_turns-gathered.ensures.tends (users_of c.args.common.now))
    (posting_tended g.D.Reception.posts (users_of c.args.common.now) g.D.Reception.connected g.D.Door.called g.D.Door.left given after c.give_turns-gathered.new.door c.stop.new.door
    (tends_thrice (users_of c.args.common.now) g.D.Reception.connected g.D.Door.called g.D.Door.left given attended after after
    c.give_turns-gathered.new.door c.attend.new.door c.take_in.new.door c.stop.new.door
    (tends_twice (users_of c.args.common.now) g.D.Reception.connected g.D.Door.called g.D.Door.left given (sessions_of c.look.new.peers.all) attended
    c.give_turns-gathered.new.door c.look.new.door c.attend.new.door (c.look.ensures.tends (users_of c.args.common.now)) c.attend.ensures)
    c.take_in.ensures
    (tends_aside (users_of c.args.common.now) g.D.Reception.connected g.D.Door.called g.D.Door.left c.take_in.new.peers.all c.take_in.new.door c.stop.new.door c.stop.ensures.aside)))

pub returns-clause-settled : goal.returns-clause-settled
returns-clause-settled g c was =
    let still = still_settled (users_of c.args.common.now) g.D.Reception.connected g.D.Door.called g.D.Door.left g.D.Reception.is_settled g.met.D.Reception.keeps_settled in
    still _ _ c.take_in.new.door c.stop.new.door
    (tends_aside (users_of c.args.common.now) g.D.Reception.connected g.D.Door.called g.D.Door.left c.take_in.new.peers.all c.take_in.new.door c.stop.new.door c.stop.ensures.aside)
    (still _ _ c.attend.new.door c.take_in.new.door c.take_in.ensures
    (still _ _ c.look.new.door c.attend.new.door c.attend.ensures
    (still _ _ c.give_turns-gathered.new.door c.look.new.door (c.look.ensures.tends (users_of c.args.common.now))
    (c.give_turns-gathered.ensures.settled
    (still _ _ c.notice_all-noticed.new.door c.keep_time-self.new.door
    (tends_timed (users_of c.args.common.now) g.D.Reception.connected g.D.Door.called g.D.Door.left c.notice_all-noticed.new.peers.all
    c.notice_all-noticed.new.door c.keep_time-self.new.door c.keep_time-self.ensures.timed)
    (still _ _ c.args.door.now c.notice_all-noticed.new.door (c.notice_all-noticed.ensures.tends (users_of c.args.common.now)) was))))))
