use Rattle.std.proofs.Common.{◌≡◌, ◌≢◌, ◌∙◌, ◌∷◌, [], ℕ, Option, Some, rules, ap, sym, subst}
use Rattle.xa_record.specs.declared.record.Record.TheVariants as logged
use Rattle.xa_manager.specs.declared.doubt.Doubt.{Doubt}
use Rattle.xa_manager.specs.declared.doubt.Doubt.TheVariants.{Boot}
use Rattle.xa_manager.specs.Managed.{Doubts}
use Rattle.xa_manager.proofs.Survivors.{boot_survives}
use Rattle.xa_manager.proofs.manager.Manager.survivors.Goals as goal

pub returns-then-boot-last : goal.returns-then-boot-last
returns-then-boot-last g c = λ s bodies f doubts h boot counted.
    let last : ℕ = c.in-Some-Boot.last in
    let same : c.args.boot ≡ last = search rules in
    let kind : c.in-Some-Boot.field-0 ≡ Boot last = rw c.in-Some-Boot.is at c.in-Some-Boot.field-0-is in
    let open_is : s.open_records ≡ logged.Opened last ∷ [] = subst (λ (o : Option Doubt). Doubts o s) (c.in-Some-Boot.is ∙ ap (λ (d : Doubt). Some d) kind) doubts in
    sym ((boot_survives f.many s f.state last h open_is f.fate).found (sym boot ∙ same))

pub returns-else-boot-last : goal.returns-else-boot-last
returns-else-boot-last g c = λ s bodies f doubts h boot counted.
    let last : ℕ = c.in-Some-Boot.last in
    let other : c.args.boot ≢ last = search rules in
    let kind : c.in-Some-Boot.field-0 ≡ Boot last = rw c.in-Some-Boot.is at c.in-Some-Boot.field-0-is in
    let open_is : s.open_records ≡ logged.Opened last ∷ [] = subst (λ (o : Option Doubt). Doubts o s) (c.in-Some-Boot.is ∙ ap (λ (d : Doubt). Some d) kind) doubts in
    sym ((boot_survives f.many s f.state last h open_is f.fate).missed (λ is. other (boot ∙ is)))
