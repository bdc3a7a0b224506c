use Rattle.std.proofs.Common.{◌≡◌, ◌∙◌, ◌∷◌, ◌++◌, [], Some, None, sym, ap}
use Rattle.std.specs.BTreeMap.{get_by}
use Rattle.std.specs.Ordering.{nat_cmp}
use Rattle.mv_rules.specs.declared.own.Notes.{Notes}
use Rattle.mv_rules.proofs.Noted.{noted_over, own_noted, lists_there, lists_nowhere}
use Rattle.mv_rules.proofs.own.note.Goals as goal

pub returns-in-Some-clause-noted : goal.returns-in-Some-clause-noted
returns-in-Some-clause-noted c =
    let left : Notes = record { written = c.push.new.self; decided = c.in-Some.noted.now.decided; read = c.in-Some.noted.now.read } in
    let here : get_by (nat_cmp c.args.ts) c.args.notes.now ≡ Some c.in-Some.noted.now = sym c.in-Some.ensures.value in
    let lists = lists_there c.args.ts c.args.notes.now c.in-Some.noted.now here in
    noted_over c.args.ts _ _ _ c.args.notes.now (c.get_mut.follows.lender left) c.in-Some.noted.now left here c.in-Some.ensures.ordered (c.get_mut.follows.holds left).0
    (c.in_ok-push.ensures.items ∙ ap (λ xs. xs ++ c.args.own ∷ []) (sym lists.0)) (sym lists.1) (sym lists.2)

pub returns-clause-noted : goal.returns-clause-noted
returns-clause-noted c =
    let none : get_by (nat_cmp c.args.ts) c.args.notes.now ≡ None = sym c.in_default.ensures.value in
    let lists = lists_nowhere c.args.ts c.args.notes.now none in
    record {
      noted = record { written = c.push-2.new.self; decided = c.new.result; read = c.new-2.result };
      written_is = c.in_ok-push-2.ensures.items ∙ ap (λ xs. xs ++ c.args.own ∷ []) (c.new-written.ensures.items ∙ sym lists.0);
      decided_is = c.new.ensures.items ∙ sym lists.1;
      read_is = c.new-2.ensures.items ∙ sym lists.2;
      entries = rw c.get_mut.follows.holds-at-none at c.in_ok-insert.ensures.entries;
      ordered = c.in_default.ensures.ordered;
    }

-- what each branch has written then
pub returns-in-Some-clause-ok : goal.returns-in-Some-clause-ok
returns-in-Some-clause-ok c = λ t. own_noted t c.args.ts _ _ _ c.args.notes.now _ (returns-in-Some-clause-noted c)

pub returns-clause-ok : goal.returns-clause-ok
returns-clause-ok c = λ t. own_noted t c.args.ts _ _ _ c.args.notes.now _ (returns-clause-noted c)
