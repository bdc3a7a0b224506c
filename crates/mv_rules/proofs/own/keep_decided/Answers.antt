use Rattle.std.proofs.Common.{◌≡◌, ◌∙◌, Some, sym, ap}
use Rattle.std.specs.BTreeMap.{get_by}
use Rattle.std.specs.Ordering.{nat_cmp}
use Rattle.std.specs.Prelude.{Vec}
use Rattle.std.specs.declared.alloc.Global.{Global}
use Rattle.mv_rules.specs.declared.own.Own.{Own}
use Rattle.mv_rules.specs.declared.own.Notes.{Notes}
use Rattle.mv_rules.proofs.Noted.{noted_over, lists_there}
use Rattle.mv_rules.proofs.own.keep_decided.Goals as goal

pub returns-in-Some-clause-noted : goal.returns-in-Some-clause-noted
returns-in-Some-clause-noted c =
    λ more.
    let left : Notes = record { written = c.replace.new.dest; decided = c.replace.result; read = c.in-Some.noted.now.read } in
    let here : get_by (nat_cmp c.args.ts) c.args.notes.now ≡ Some c.in-Some.noted.now = sym c.in-Some.ensures.value in
    let lists = lists_there c.args.ts c.args.notes.now c.in-Some.noted.now here in
    noted_over c.args.ts _ _ _ c.args.notes.now (c.get_mut.follows.lender left) c.in-Some.noted.now left here c.in-Some.ensures.ordered (c.get_mut.follows.holds left).0
    (ap (λ (v : Vec Own Global). v.items) c.replace.ensures.after ∙ c.new.ensures.items) (ap (λ (v : Vec Own Global). v.items) c.replace.ensures.value ∙ sym lists.0) (sym lists.2)
