use Rattle.std.proofs.Common.{◌≡◌, ⊎_elim, true, false, refl, sym, subst}
use Rattle.std.specs.List.{AllByRecursion}
use Rattle.xa_frame.specs.declared.request.Request.{Request}
use Rattle.xa_model.specs.Laws.Together.{logs_nothing}
use Rattle.xa_xid.specs.Triple.{xid_eq}
use Rattle.xa_manager.specs.declared.together.Joining.{Joining}
use Rattle.xa_manager.specs.Believed.Pending.{AsksNoneOf, CallsApartFrom}
use Rattle.xa_manager.proofs.Besides.{asks_none, none_asks}
use Rattle.xa_manager.proofs.Grouping.{are_apart, found_apart}
use Rattle.xa_manager.proofs.manager.Manager.is_apart.Goals as goal

pub returns-in-Start-clause-is : goal.returns-in-Start-clause-is
returns-in-Start-clause-is g c = λ e.
    let f = c.args.group.now in
    let apart = are_apart f.together.members.items c.in-Start.xid c.is_apart.result c.is_apart.ensures e in
    let P : Request → Type 0 = λ q. (logs_nothing q ≡ true) × CallsApartFrom c.args.self.now c.args.session q f in
    ⊎_elim (λ x. subst P (sym x.1) (refl, apart)) (⊎_elim (λ x. subst P (sym x.1) (refl, apart)) (λ x. subst P (sym x) (refl, apart))) c.in-Start.is

pub returns-in-Start-clause-all : goal.returns-in-Start-clause-all
returns-in-Start-clause-all g c = λ quiet apart.
    let f = c.args.group.now in
    let P : Request → Type 0 = λ q. CallsApartFrom c.args.self.now c.args.session q f in
    let A : Type 0 = AllByRecursion (λ (j : Joining). xid_eq j.xid c.in-Start.xid ≡ false) f.together.members.items in
    found_apart f.together.members.items c.in-Start.xid c.is_apart.result c.is_apart.ensures
    (⊎_elim {C = A} (λ x. subst P x.1 apart) (⊎_elim {C = A} (λ x. subst P x.1 apart) (λ x. subst P x apart)) c.in-Start.is)

pub returns-in-Open-clause-is : goal.returns-in-Open-clause-is
returns-in-Open-clause-is g c = λ e.
    let f = c.args.group.now in
    let apart = asks_none c.args.session f c.asks_none.result c.asks_none.ensures e in
    let P : Request → Type 0 = λ q. (logs_nothing q ≡ true) × CallsApartFrom c.args.self.now c.args.session q f in
    ⊎_elim (λ x. subst P (sym x.2) (refl, apart)) (λ x. subst P (sym x.1) (refl, apart)) c.in-Open.is

pub returns-in-Open-clause-all : goal.returns-in-Open-clause-all
returns-in-Open-clause-all g c = λ quiet apart.
    let f = c.args.group.now in
    let P : Request → Type 0 = λ q. CallsApartFrom c.args.self.now c.args.session q f in
    none_asks c.args.session f c.asks_none.result c.asks_none.ensures
    (⊎_elim {C = AsksNoneOf c.args.session f} (λ x. subst P x.2 apart) (λ x. subst P x.1 apart) c.in-Open.is)

pub returns-in-Recover-clause-all : goal.returns-in-Recover-clause-all
returns-in-Recover-clause-all g c = λ quiet apart.
    let f = c.args.group.now in
    let P : Request → Type 0 = λ q. CallsApartFrom c.args.self.now c.args.session q f in
    absurd (⊎_elim {C = ⊥} (λ x. subst P x.2 apart) (λ x. subst P x.2 apart) c.in-Recover.is)
