-- A boot that is planned, for the state that the log came to.
use Rattle.std.proofs.Common.{◌≡◌, ◌<◌, ◌≤◌, ◌+◌, ℕ, true, false, List, Option, Some, None, Ok, refl, ap, sym, ◌∙◌, subst, arith}
use Rattle.std.specs.Prelude.{nat_lt, IfSome}
use Rattle.std.specs.List.{AllByRecursion}
use Rattle.std.proofs.lemmas.Bool.Decides.{nat_tests}
use Rattle.xa_disk.specs.declared.disk.Disk.{Ghosts}
use Rattle.xa_limits.specs.declared.TheConstants.{MOST_BOOTS, MOST_VALUE}
use Rattle.mv_rules.specs.Within.{IsWithin, HasKeys}
use Rattle.xa_log.specs.Believed.Chain.{IsBody, newest}
use Rattle.xa_model.specs.State.{State}
use Rattle.xa_model.specs.Durable.{Durable, durable}
use Rattle.xa_model.specs.Fold.{snapshot}
use Rattle.xa_model.specs.Invariants.Loggable.{IsRecoverable}
use Rattle.xa_recovery.specs.Log.{LogRebuilt}
use Rattle.xa_manager.specs.declared.boots.NextBoot.{NextBoot}
use Rattle.xa_manager.specs.declared.boots.Planned.{Planned}
use Rattle.xa_manager.specs.declared.manager.Manager.{Manager}
use Rattle.xa_manager.specs.Managed.{view, ManagerStandsFor}
use Rattle.xa_manager.specs.Rereading.{Found, IsFate, IsNext, IsReady}
use Rattle.xa_manager.proofs.Generations.{rebuilt_is}
use Rattle.xa_manager.proofs.NextBoots.{are_bodies}
use Rattle.xa_manager.proofs.Standing.{outside}

pub next_sizes : (moment : ℕ) (d : Durable) (o : Option NextBoot) (next : NextBoot) → o ≡ Some next → IsNext d moment o → AllByRecursion (IsBody newest) next.bodies.items
next_sizes moment d None next e h = absurd (cc e)
next_sizes moment d (Some n) next e h =
    let same : n ≡ next = cc e in
    let all : AllByRecursion (IsBody newest) n.bodies.items = subst (λ (b : List (List ℕ)). AllByRecursion (IsBody newest) b) (sym h.2.bodies) (are_bodies (snapshot d (d.boot + 1)) h.3) in
    subst (λ (x : NextBoot). AllByRecursion (IsBody newest) x.bodies.items) same all

pub all_sizes : (moment : ℕ) (d : Durable) (o : Option NextBoot) → IsNext d moment o → IfSome o (λ next. AllByRecursion (IsBody newest) next.bodies.items)
all_sizes moment d None h = tt
all_sizes moment d (Some n) h = next_sizes moment d (Some n) n refl h

pub next_short : (moment : ℕ) (d : Durable) (o : Option NextBoot) (next : NextBoot) → o ≡ Some next → IsNext d moment o → IsWithin MOST_VALUE next.records
next_short moment d None next e h = absurd (cc e)
next_short moment d (Some n) next e h = let same : n ≡ next = cc e in subst (λ (x : NextBoot). IsWithin MOST_VALUE x.records) same h.4

pub next_keys : (moment : ℕ) (d : Durable) (o : Option NextBoot) (next : NextBoot) → o ≡ Some next → IsNext d moment o → HasKeys next.records
next_keys moment d None next e h = absurd (cc e)
next_keys moment d (Some n) next e h = let same : n ≡ next = cc e in subst (λ (x : NextBoot). HasKeys x.records) same h.5

pub record IsNextOf (d : Durable) (moment : ℕ) (next : NextBoot) : Type 0 where
  pub less : nat_lt d.boot MOST_BOOTS ≡ true
  pub number : next.boot ≡ d.boot + 1
  pub ready : IsReady d (d.boot + 1) moment next

is_less : (a b : ℕ) → a < b → nat_lt a b ≡ true
is_less a b h = grind (arith, nat_tests)

isnt_less : (a b : ℕ) → b ≤ a → nat_lt a b ≡ false
isnt_less a b h = grind (arith, nat_tests)

pub next_is : (moment : ℕ) (d : Durable) (o : Option NextBoot) (next : NextBoot) → o ≡ Some next → IsNext d moment o → IsNextOf d moment next
next_is moment d None next e h = absurd (cc e)
next_is moment d (Some n) next e h = let same : n ≡ next = cc e in subst (λ (x : NextBoot). IsNextOf d moment x) same (record { less = is_less d.boot MOST_BOOTS h.1; number = h.0; ready = h.2 })

pub none_next : (moment : ℕ) (d : Durable) (o : Option NextBoot) → o ≡ None → IsNext d moment o → nat_lt d.boot MOST_BOOTS ≡ false
none_next moment d None e h = isnt_less d.boot MOST_BOOTS h
none_next moment d (Some n) e h = absurd (cc e)

-- a boot that was planned follows the state that was found, which is the one after this many survivors
pub planned_fate : {D : Type 0} (disks : Ghosts D) (m : Manager D) (s : State) (bodies : List (List ℕ)) (planned : Planned) (survivors : ℕ) → ManagerStandsFor disks m s → (f : Found disks bodies m.log s)
    → LogRebuilt bodies (Ok planned.durable.value) → IsNext planned.durable.value m.tables.branches.moment planned.next → planned.boot ≡ planned.durable.value.boot
    → (IsRecoverable s → planned.boot ≡ f.state.logged_boot → survivors ≡ f.many)
    → IsNext (durable f.state) m.tables.branches.moment planned.next × IsFate survivors s f.state
planned_fate disks m s bodies planned survivors st f rebuilt next boot many =
    let is : planned.durable.value ≡ durable f.state = rebuilt_is bodies f.records planned.durable.value (durable f.state) rebuilt f.spelled_as f.backs.records f.backs.lasts in
    let recoverable = (outside m.up (view m) s st.tables).recoverable in (
      subst (λ (d : Durable). IsNext d m.tables.branches.moment planned.next) is next,
      subst (λ (k : ℕ). IsFate k s f.state) (sym (many recoverable (boot ∙ ap (λ (d : Durable). d.boot) is))) f.fate,
    )
