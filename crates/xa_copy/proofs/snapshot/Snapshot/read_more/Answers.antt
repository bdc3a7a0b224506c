use Rattle.std.proofs.Common.{◌∷◌, ◌++◌, ◌∙◌, [], ap, max, subst, sym, List, ℕ}
use Rattle.std.specs.Prelude.{slice_index}
use Rattle.xa_log.specs.Believed.Damage.{is_appended}
use Rattle.xa_copy.specs.Moving.{HasLog}
use Rattle.xa_copy.proofs.Appends.{only_closed, only_next}
use Rattle.xa_copy.proofs.Renewing.{held_more, snapshot_more}
use Rattle.xa_copy.proofs.snapshot.Snapshot.read_more.Goals as goal

pub returns-clause-snapshot : goal.returns-clause-snapshot
returns-clause-snapshot g c h begin s =
    let old = c.args.self.now in
    let n = rw c.in-Some.is at (c.in_ok-next.ensures.next begin old.bodies.items s.marks (λ _. s.follows)) in
    snapshot_more begin (g.S.Source.state c.read_next.new.source) old _ c.in-Some.next.body.items
    (c.in_ok-push.ensures.items ∙ ap (λ (b : List ℕ). old.bodies.items ++ b ∷ []) c.in_ok-body.ensures) n.0 (n.1 h)

pub returns-clause-held : goal.returns-clause-held
returns-clause-held g c held =
    let old = c.args.self.now in
    held_more old _ c.in-Some.next.body.items held
    (c.in_ok-push.ensures.items ∙ ap (λ (b : List ℕ). old.bodies.items ++ b ∷ []) c.in_ok-body.ensures)
    (rw c.in-Some.is at c.in_ok-next.ensures.format) (rw c.in-Some.is at c.in_ok-next.ensures.body) (c.max-longest.ensures ∙ ap (λ (n : ℕ). max old.longest n) (c.len.ensures ∙ c.in-Some.next.body.ok.0))

pub returns-in_default-clause-whole : goal.returns-in_default-clause-whole
returns-in_default-clause-whole g c h begin s done life =
    let old = c.args.self.now in
    let n = rw c.in_default.is at (c.in_ok-next.ensures.next begin old.bodies.items s.marks (λ _. s.follows)) in
    only_closed old.at.format old.bodies.items (g.S.Source.state c.read_next.new.source).file ((n h).1 life)

pub returns-then-begins_appended-clause-whole : goal.returns-then-begins_appended-clause-whole
returns-then-begins_appended-clause-whole g c h begin s done life =
    let old = c.args.self.now in
    let now = g.S.Source.state c.read_next.new.source in
    let n = rw c.in-Some.is at (c.in_ok-next.ensures.next begin old.bodies.items s.marks (λ _. s.follows)) in
    let format = rw c.in-Some.is at c.in_ok-next.ensures.format in
    only_next old.at.format old.bodies.items c.in-Some.next.body.items now.file
    (subst (λ f. HasLog f (old.bodies.items ++ c.in-Some.next.body.items ∷ []) now.file) format ((n.1 h).holds life))
    (ap (λ (l : List ℕ). is_appended (slice_index l 0)) (sym c.deref.ensures.value) ∙ sym c.begins_appended.ensures ∙ c.if-begins_appended.true)
