use Rattle.std.proofs.Common.{◌∙◌, [], refl, sym, subst, List, ℕ}
use Rattle.xa_log.specs.Believed.Chain.{text}
use Rattle.xa_copy.specs.Gathers.{Gathers}
use Rattle.xa_copy.specs.Heads.{Heads}
use Rattle.xa_copy.proofs.Finishing.{copies_by, stands_first}
use Rattle.xa_copy.proofs.copy.copy_file.Goals as goal

pub returns-clause-copies : goal.returns-clause-copies
returns-clause-copies g c h k tells is_head =
    let begin = g.S.Source.state c.args.source.now in
    let mid = g.S.Source.state c.copy_records-copied.new.source in
    let end = g.S.Source.state c.ensure_same.new.source in
    let head = c.in-Some.head in
    let heads : Heads begin.file head = rw c.in-Some.is at is_head in
    let made = c.in_ok-copying.ensures in
    let copying = c.copy_records-copied.new.self in
    let stands = stands_first g.S.Source.honest g.D.Disk.honest begin (g.D.Disk.seen c.ensure_empty.new.disk) head c.in_ok-copying.copying made.format made.has made.gathers
    c.in_ok-ensure_empty.ensures.empty (λ _. heads) in
    let ends = c.in_ok-copied.ensures.ends begin [] stands in
    let to_is = c.in_ok-close.ensures.closed k (text copying.format ends.bodies) (ends.stands.gathers k) in
    let gathers : Gathers head.front.items (g.D.Disk.seen c.ensure_empty-2.new.disk) c.in_ok-new.field-0 =
    subst (λ (l : List ℕ). Gathers head.front.items l c.in_ok-new.field-0) (sym (c.in_ok-ensure_empty-2.ensures.empty k))
    (subst (λ (l : List ℕ). Gathers l [] c.in_ok-new.field-0) c.deref.ensures.value c.in_ok-new.ensures.gathers) in
    copies_by c.args.log_bytes head copying.format ends.bodies begin mid end (g.D.Disk.seen c.close.new.to) (g.D.Disk.seen c.close-2.new.to) _ copying
    (c.copy_records-copied.ensures.format ∙ made.format) heads (ends.stands.follows h) (c.ensure_same.ensures.goes h) (c.in_ok-ensure_same.ensures.same h begin tells heads)
    (ends.closes h) refl ends.stands.has c.in_ok-copied.ensures.within.within to_is (c.in_ok-close-2.ensures.closed k head.front.items gathers) refl c.end.ensures refl refl refl refl tells
