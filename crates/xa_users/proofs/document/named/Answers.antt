use Rattle.std.proofs.Common.{subst, ◌∙◌}
use Rattle.std.specs.Map.Iter.{deref_pair}
use Rattle.std.proofs.lemmas.Map.Iter.{rest_more}
use Rattle.toml.specs.View.{view}
use Rattle.xa_users.specs.Faults.{Misfits}
use Rattle.xa_users.proofs.Reading.{misread, one_read}
use Rattle.xa_users.proofs.document.named.Goals as goal

pub loop-key-preserved : goal.loop-key-preserved
loop-key-preserved c =
    one_read c.args.document.now.entries c.loop-key.key-iterator c.next.new.self (c.in-Some.key.now, c.in-Some.value.now)
    c.loop-key.by_name.entries _ c.in-Ok.name c.in-Ok.user c.loop-key.invariant
    (rest_more deref_pair c.loop-key.key-iterator c.next.new.self c.next.result (c.in-Some.key, c.in-Some.value) c.in-Some.is c.next.ensures.steps)
    c.iter-key-items.ensures.ordered (c.in-Ok.ensures.name ∙ c.as_str.ensures.value) c.in-Ok.ensures.user
    c.in-Ok.ensures.valid c.in_ok-insert-in-Ok.ensures.entries

pub returns-in-Err-clause-fault : goal.returns-in-Err-clause-fault
returns-in-Err-clause-fault c =
    misread c.args.document.now.entries c.loop-key.key-iterator c.next.new.self (c.in-Some.key.now, c.in-Some.value.now) c.loop-key.by_name.entries
    c.in_ok-from_str-in-Err.field-0 c.in-Err.misfit c.at.result c.loop-key.invariant
    (rest_more deref_pair c.loop-key.key-iterator c.next.new.self c.next.result (c.in-Some.key, c.in-Some.value) c.in-Some.is c.next.ensures.steps)
    (c.in_ok-from_str-in-Err.ensures.ok ∙ c.as_str-in-Err.ensures.value)
    (subst (λ k. Misfits k (view c.in-Some.value.now) c.in-Err.misfit) c.as_str.ensures.value c.in-Err.ensures.misfit)
    c.at.ensures
