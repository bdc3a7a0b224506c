use Rattle.std.proofs.Common.{◌≡◌, true, false, not, ◌&&◌, Bool, nat_lt, sym, ◌∙◌, ap, arith}
use Rattle.std.proofs.lemmas.Bool.Decides.{nat_tests}
use Rattle.xa_log.specs.Believed.Damage.{is_snapshot}
use Rattle.xa_log.specs.Believed.Generation.{generation}
use Rattle.xa_log.specs.Reading.{bodies_of}
use Rattle.xa_log.proofs.Snapshot.{broken_by, few_whole, appended_whole}
use Rattle.xa_log.proofs.damage.is_short.Goals as goal
use Rattle.xa_log.proofs.damage.is_short.Goals.{then-generation_of_bodies-lt2-via-then-generation_of_bodies-lt2, then-generation_of_bodies-lt2-via-else-generation_of_bodies-lt2+then-not-are_snapshot}

pub returns-then-generation_of_bodies-lt2 : goal.returns-then-generation_of_bodies-lt2
returns-then-generation_of_bodies-lt2 c file behind =
    let bodies = bodies_of c.args.bodies.now in
    elim c.then-generation_of_bodies-lt2.branch [
      | then-generation_of_bodies-lt2-via-then-generation_of_bodies-lt2 w ↦
          let few : nat_lt 1 (generation bodies) ≡ false = grind (arith, nat_tests, w.if-generation_of_bodies-lt2.true, c.generation_of_bodies.ensures) in
          few_whole bodies file few
      | then-generation_of_bodies-lt2-via-else-generation_of_bodies-lt2+then-not-are_snapshot w ↦ appended_whole bodies file (sym w.if-not-are_snapshot.ensures)
    ]

pub returns : goal.returns
returns c file behind =
    let bodies = bodies_of c.args.bodies.now in
    let later : nat_lt 1 (generation bodies) ≡ true = grind (arith, nat_tests) in
    ap (λ (t : Bool). t && not c.may_follow.result) c.if-not-are_snapshot.ensures
    ∙ ap (λ (t : Bool). t && (is_snapshot bodies && not c.may_follow.result)) (sym later)
    ∙ broken_by bodies file c.args.behind c.may_follow.result behind c.may_follow.ensures
