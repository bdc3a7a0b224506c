use Rattle.std.proofs.Common.{[], ◌-◌, ◌∙◌, sym, ap, arith, length, drop, length-drop, List, ℕ}
use Rattle.std.proofs.lemmas.List.{take_all}
use Rattle.xa_disk.specs.declared.call.Call.{Call}
use Rattle.xa_disk.specs.Keeping.{unsynced, put_fronts}
use Rattle.xa_disk.proofs.call.kept.Goals as goal

pub returns : goal.returns
returns c =
    let end : ℕ = c.stable_end-end.result in
    let calls : List Call = c.args.calls.now in
    c.in_ok-write_fronts.ensures
    ∙ ap (λ (l : List Call). put_fronts c.args.k c.in_ok-bytes.bytes.items l) (take_all (length calls - end) (drop end calls) (omega (arith, length-drop end calls)))
    ∙ ap (λ (l : List Call). put_fronts c.args.k c.in_ok-bytes.bytes.items l) (sym c.stable_end-end.ensures.behind)
    ∙ ap (λ (b : List ℕ). put_fronts c.args.k b (unsynced [] calls)) (c.in_ok-bytes.ensures ∙ sym (c.stable_end-end.ensures.stable c.args.first.now))
