-- What the records of two files come to.
use Rattle.std.proofs.Common.{◌≡◌, Ok, List, ap, sym, ◌∙◌}
use Rattle.std.specs.Prelude.{Contains}
use Rattle.xa_record.specs.declared.record.Record.{Record}
use Rattle.xa_model.specs.State.{State}
use Rattle.xa_model.specs.Durable.{Durable, durable}
use Rattle.xa_model.specs.Fold.{fold}
use Rattle.xa_model.specs.Restarting.{fates}
use Rattle.xa_model.proofs.LeftMeanwhile.{leaves_found}
use Rattle.xa_manager.specs.Believed.Files.{Settles}
use Rattle.xa_manager.specs.Believed.CrashLaws.{FilesLast, FilesLastAsFated}
use Rattle.xa_manager.proofs.Survivors.{none_found}

fated : (rs : List Record) (s : State) → Settles rs s → (d : Durable) × (fold rs ≡ Ok d) × Contains (fates s) d
fated rs s (k, t, found, backs) = (durable t, backs.lasts, leaves_found s k t found)

pub files_fated : FilesLastAsFated
files_fated most first second s f = let it = fated f.records s f.settles in (f.records, it.0, f.logged, it.1, it.2)

pub files_settled : FilesLast
files_settled most first second s f none =
    let (k, t, found, backs) = f.settles in
    let same : durable t ≡ durable s = ap durable (sym (none_found s.open_records s t k none found)) in
    (f.records, f.logged, backs.lasts ∙ ap (λ (d : Durable). Ok d) same)
