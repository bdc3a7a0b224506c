-- What the next boot begins with, of the log that was read.
use Rattle.std.proofs.Common.{◌≡◌, ◌+◌, ◌<◌, ◌≤◌, ℕ, Bool, true, List, [], map, length, Option, Some, None, refl, ap, sym, ◌∙◌, subst}
use Rattle.std.specs.Prelude.{Ok, IfSome}
use Rattle.std.specs.List.{AllByRecursion}
use Rattle.std.proofs.lemmas.List.{length-map}
use Rattle.xa_disk.specs.declared.disk.Disk.{Ghosts}
use Rattle.xa_record.specs.Limits.{IsRecord}
use Rattle.xa_record.specs.Spelling.{spelled}
use Rattle.xa_log.specs.Believed.Chain.{IsBody, newest, text}
use Rattle.xa_log.specs.Believed.Pair.{generation}
use Rattle.xa_log.specs.declared.appending.Appended.{Appended}
use Rattle.xa_log.specs.Believed.LogView.{LogView}
use Rattle.xa_model.specs.Durable.{Durable, IsDurable}
use Rattle.xa_model.specs.Fold.{snapshot, sizes}
use Rattle.xa_model.specs.Logging.{log_room}
use Rattle.xa_limits.specs.declared.TheConstants.{MOST_BOOTS}
use Rattle.xa_model.proofs.Readings.{fold_is_durable}
use Rattle.xa_recovery.specs.Log.{LogRebuilt}
use Rattle.xa_manager.specs.declared.boots.NextBoot.{NextBoot}
use Rattle.xa_manager.specs.declared.boots.Planned.{Planned}
use Rattle.xa_manager.specs.Believed.Opening.{ComeTo, has_boot_room}
use Rattle.xa_manager.specs.Believed.Refused.{LogsFirst, LogsBoot}
use Rattle.xa_manager.specs.Rereading.{IsReady, IsNext}
use Rattle.xa_manager.proofs.Generations.{first_number, newer}
use Rattle.xa_manager.proofs.LogLengths.{text_size}
use Rattle.xa_manager.proofs.NextBoots.{are_bodies}

-- a plan, taken apart
pub record IsPlanned (bodies : List (List ℕ)) (d : Durable) (moment : ℕ) (next : NextBoot) : Type 0 where
  pub comes : ComeTo bodies d
  pub form : IsDurable d
  pub boots : d.boot < MOST_BOOTS
  pub ready : IsReady d (d.boot + 1) moment next
  pub limits : AllByRecursion IsRecord (snapshot d (d.boot + 1))

comes_to : (bodies : List (List ℕ)) (d : Durable) → LogRebuilt bodies (Ok d) → ComeTo bodies d
comes_to bodies d (rs, are, folds) = record { records = rs; bodies_are = are; folded = folds }

pub planned : (moment : ℕ) (bodies : List (List ℕ)) (p : Planned) (next : NextBoot) → LogRebuilt bodies (Ok p.durable.value) → IsNext p.durable.value moment p.next → p.next ≡ Some next → IsPlanned bodies p.durable.value moment next
planned moment bodies p next rebuilt is_next e =
    let n : IsNext p.durable.value moment (Some next) = subst (λ (x : Option NextBoot). IsNext p.durable.value moment x) e is_next in
    let c : ComeTo bodies p.durable.value = comes_to bodies p.durable.value rebuilt in
    record { comes = c; form = fold_is_durable c.records p.durable.value c.folded; boots = n.1; ready = n.2; limits = n.3 }

-- its bodies
pub first_bodies : (moment : ℕ) (bodies : List (List ℕ)) (d : Durable) (next : NextBoot) (xs : List (List ℕ)) → IsPlanned bodies d moment next → xs ≡ next.bodies.items
    → xs ≡ map spelled (snapshot d (d.boot + 1))
first_bodies moment bodies d next xs it e = e ∙ it.ready.bodies

pub first_sizes : (moment : ℕ) (bodies : List (List ℕ)) (d : Durable) (next : NextBoot) (xs : List (List ℕ)) → IsPlanned bodies d moment next → xs ≡ next.bodies.items → AllByRecursion (IsBody newest) xs
first_sizes moment bodies d next xs it e =
    subst (λ (l : List (List ℕ)). AllByRecursion (IsBody newest) l) (sym (first_bodies moment bodies d next xs it e)) (are_bodies (snapshot d (d.boot + 1)) it.limits)

-- the room that they leave
pub first_room : (moment : ℕ) (bodies : List (List ℕ)) (d : Durable) (next : NextBoot) (xs : List (List ℕ)) (log_bytes p c : ℕ) (b : Bool) → IsPlanned bodies d moment next → xs ≡ next.bodies.items
    → p ≡ length d.prepared → c ≡ length d.decided → b ≡ log_room log_bytes (length (text newest xs)) p c → has_boot_room log_bytes d (d.boot + 1) ≡ b
first_room moment bodies d next xs log_bytes p c b it e ep ec room =
    sym (room
    ∙ ap (λ (n : ℕ). log_room log_bytes n p c) (ap (λ (l : List (List ℕ)). length (text newest l)) (first_bodies moment bodies d next xs it e) ∙ text_size newest (snapshot d (d.boot + 1)))
    ∙ ap (λ (n : ℕ). log_room log_bytes (8 + sizes (snapshot d (d.boot + 1))) n c) ep ∙ ap (λ (n : ℕ). log_room log_bytes (8 + sizes (snapshot d (d.boot + 1))) (length d.prepared) n) ec)

-- how many of a map's entries there are
pub count_of : {K V B : Type 0} (f : K × V → B) (xs : List (K × V)) (bs cs : List B) (n : ℕ) → n ≡ length xs → map f xs ≡ bs → cs ≡ bs → n ≡ length cs
count_of f xs bs cs n e m same = e ∙ sym (length-map xs f) ∙ ap length m ∙ ap length (sym same)

-- they come before those that were read
pub first_newer : (moment : ℕ) (bodies : List (List ℕ)) (d : Durable) (next : NextBoot) (xs : List (List ℕ)) → IsPlanned bodies d moment next → xs ≡ next.bodies.items
    → generation bodies < generation xs
first_newer moment bodies d next xs it e =
    subst (λ (l : List (List ℕ)). generation l < generation xs) it.comes.bodies_are.spelling
    (subst (λ (l : List (List ℕ)). generation (map spelled it.comes.records) < generation l) (sym (first_bodies moment bodies d next xs it e)) (newer it.comes.records d it.comes.folded it.boots))

-- those of a log without records begin the first generation
pub first_few : (moment : ℕ) (bodies : List (List ℕ)) (d : Durable) (next : NextBoot) (xs : List (List ℕ)) → IsPlanned bodies d moment next → xs ≡ next.bodies.items
    → bodies ≡ [] → generation xs ≤ 1
first_few moment bodies d next xs it e none =
    subst (λ (l : List (List ℕ)). generation l ≤ 1) (sym (first_bodies moment bodies d next xs it e))
    (first_number it.comes.records d (it.comes.bodies_are.spelling ∙ none) it.comes.folded)

-- so do those of each boot that is planned
pub next_newer : (moment : ℕ) (bodies : List (List ℕ)) (d : Durable) (o : Option NextBoot) → LogRebuilt bodies (Ok d) → IsNext d moment o
    → IfSome o (λ next. generation bodies < generation next.bodies.items)
next_newer moment bodies d None rebuilt n = tt
next_newer moment bodies d (Some next) rebuilt n =
    let c : ComeTo bodies d = comes_to bodies d rebuilt in
    first_newer moment bodies d next next.bodies.items (record { comes = c; form = fold_is_durable c.records d c.folded; boots = n.1; ready = n.2; limits = n.3 }) refl

-- of a log of this generation
pub next_above : (g : ℕ) (bodies : List (List ℕ)) (o : Option NextBoot) → g ≡ generation bodies
    → IfSome o (λ next. generation bodies < generation next.bodies.items)
    → IfSome o (λ next. g < generation next.bodies.items)
next_above g bodies o is above = subst (λ (n : ℕ). IfSome o (λ next. n < generation next.bodies.items)) (sym is) above

-- what became of its first records
pub logs_boot : {D : Type 0} (disks : Ghosts D) (moment : ℕ) (is_new : Bool) (bodies : List (List ℕ)) (log_bytes : ℕ) (a : Appended) (old new : LogView D) (d : Durable) (next : NextBoot) (xs : List (List ℕ))
    → IsPlanned bodies d moment next → xs ≡ next.bodies.items → has_boot_room log_bytes d (d.boot + 1) ≡ true → LogsFirst disks is_new a xs old new
    → LogsBoot disks is_new bodies log_bytes a old new
logs_boot disks moment is_new bodies log_bytes a old new d next xs it e room logs = record {
  durable = d;
  comes = it.comes;
  boots = it.boots;
  room = room;
  logs = subst (λ (l : List (List ℕ)). LogsFirst disks is_new a l old new) (first_bodies moment bodies d next xs it e) logs;
}
