use Rattle.std.proofs.Common.{Result, Ok, Err, arith, sym, subst}
use Rattle.std.specs.Prelude.{IfOk, slice_index_or}
use Rattle.std.proofs.lemmas.Result.{IfOk-weaker}
use Rattle.xa_reactor.specs.declared.loops.Seed.{Seed}
use Rattle.xa_reactor.specs.Believed.Tending.{HasTended}
use Rattle.xa_reactor.specs.Users.{users_of}
use Rattle.xa_reactor.proofs.loops.run_all.Goals as goal

both_ok : {T E : Type 0} (r : Result T E) (P Q : T → Type 0) → IfOk r P → IfOk r Q → IfOk r (λ x. P x × Q x)
both_ok (Ok x) P Q h k = (h, k)
both_ok (Err e) P Q h k = tt

-- each job was a seed, and what came of it is at the seed's place
pub returns-clause-tended : goal.returns-clause-tended
returns-clause-tended g c =
    IfOk-weaker c.map_vec.result _ _
    (λ ended gives i s e lt.
    let job = (gives i e lt).1 in
    subst (λ (x : Seed g.row.D.Denot). HasTended g.D.Reception.posts (users_of c.args.common.now) g.D.Reception.connected g.D.Door.called g.D.Door.left g.D.Reception.is_settled x.door (slice_index_or ended.items i e).door)
    (sym (job.job_is s)) job.call.met.0)
    c.map_vec.ensures.each

pub returns-clause-asked : goal.returns-clause-asked
returns-clause-asked g c =
    IfOk-weaker c.map_vec.result _ _
    (λ ended both i e lt. (both.1 i e (omega (arith, lt, both.0))).1.call.met.1)
    (both_ok c.map_vec.result _ _ c.map_vec.ensures.len c.map_vec.ensures.each)
