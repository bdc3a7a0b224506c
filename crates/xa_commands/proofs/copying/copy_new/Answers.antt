use Rattle.std.proofs.Common.{◌∙◌, List, ℕ, subst}
use Rattle.xa_commands.specs.Copying.{WasCopied}
use Rattle.xa_commands.proofs.copying.copy_new.Goals as goal

pub returns-in-Ok-copy_to : goal.returns-in-Ok-copy_to
returns-in-Ok-copy_to g c = record {
  first = c.in-Ok.source;
  second = c.in-Ok-open_source.source;
  first_found = c.in-Ok.ensures;
  second_found = subst (λ (path : List ℕ). g.R.Sources.found c.in-Ok-open_source.source path) (c.as_str.ensures.value ∙ c.in_ok-beside.ensures) c.in-Ok-open_source.ensures;
  first' = c.copy_to.new.first;
  second' = c.copy_to.new.second;
  was = subst
      (λ (to_second : List ℕ).
      WasCopied g.R.Source.Source.honest g.R.Source.Source.state g.R.Disk.Disk.honest g.R.Disk.Disk.seen g.R.Disk.Disk.may_leave g.R.Opens.opened
      c.args.to.now to_second c.args.log_bytes c.in-Ok.source c.copy_to.new.first c.in-Ok-open_source.source c.copy_to.new.second)
      (c.as_str-3.ensures.value ∙ c.in_ok-to_beside.ensures) c.in-Ok-copy_to.ensures;
}
