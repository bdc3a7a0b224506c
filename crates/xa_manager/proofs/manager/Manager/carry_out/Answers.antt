use Rattle.std.proofs.Common.{refl, sym, subst, List, [], ◌∷◌, ℕ, arith}
use Rattle.xa_model.specs.declared.outcome.Outcome.TheVariants.{Appended}
use Rattle.xa_log.specs.Buffer.{Holds}
use Rattle.xa_manager.specs.Plans.{bytes_of}
use Rattle.xa_manager.specs.Rows.{refused_code}
use Rattle.xa_manager.specs.Turns.{HasJournaled, reply_to}
use Rattle.xa_manager.proofs.Appending.{alone}
use Rattle.xa_manager.proofs.Plans.{refused_kept, takes_planned}
use Rattle.xa_manager.proofs.Taking.{appended_bare}
use Rattle.xa_manager.proofs.manager.Manager.carry_out.Goals as goal

pub append-answer-requires : goal.append-answer-requires
append-answer-requires g c = rw c.as_slice.ensures (record { some = omega arith; sizes = (c.requires.size, tt); holds = subst (λ (n : ℕ). Holds c.args.self.now.log n) (sym (alone (bytes_of c.args.logging.now.body))) c.requires.holds })

pub returns-clause-takes : goal.returns-clause-takes
returns-clause-takes g c = λ m can ready.
    let l = c.args.logging.now in
    let mid' = c.append-answer.new.self in
    let m' = record mid' { tables = c.take_answer.new.self } in
    let a = c.append-answer.result in
    rw (c.appended.ensures, c.refused_code.ensures, refused_kept l.row)
    (takes_planned g.D.Disk m c.args.self.now mid' m' l a (reply_to (refused_code l.row) a) (Appended a) refl refl can ready
    (subst (λ (b : List ℕ). HasJournaled g.D.Disk (b ∷ []) a c.args.self.now mid') c.as_slice.ensures c.append-answer.ensures) refl refl refl c.take_answer.ensures.takes)

pub returns-clause-bare : goal.returns-clause-bare
returns-clause-bare g c = appended_bare _ _ _ c.appended.ensures
