-- What the calls of a group are replied, once its append was carried out.
use Rattle.std.proofs.Common.{◌≡◌, ◌<◌, ◌≤◌, true, List, [], ◌∷◌, map, length, Some, refl, ap, sym, subst, arith}
use Rattle.std.specs.List.{AllByRecursion}
use Rattle.std.proofs.lemmas.List.{length-map}
use Rattle.xa_disk.specs.declared.disk.Disk.{Ghosts}
use Rattle.xa_log.specs.Reading.{bodies_of}
use Rattle.xa_xid.specs.Triple.{Triple}
use Rattle.xa_model.specs.declared.outcome.Appending.{Appending}
use Rattle.xa_model.specs.Laws.Together.{xid_of}
use Rattle.xa_manager.specs.declared.manager.Manager.{Manager}
use Rattle.xa_manager.specs.declared.together.Asked.{Asked}
use Rattle.xa_manager.specs.declared.together.Joining.{Joining}
use Rattle.xa_manager.specs.declared.together.Together.{Together}
use Rattle.xa_manager.specs.Acts.{AreDistinct}
use Rattle.xa_manager.specs.GroupAnswers.{AreReplies, told}
use Rattle.xa_manager.specs.Once.{AreOnce}
use Rattle.xa_manager.specs.Rows.{asked_row}
use Rattle.xa_manager.specs.Believed.Together.{IsGroup, Member, member_of, members_of}
use Rattle.xa_manager.proofs.AskedTogether.{row_xid}
use Rattle.xa_manager.proofs.GroupFacts.{as_many, reply_same}
use Rattle.xa_manager.proofs.Grouping.{alone_up}
use Rattle.xa_manager.proofs.Once.{AreNamedApart, are_once}

pub replies_are : (calls : List Asked) (a : Appending) (js : List Joining) → AllByRecursion (λ (j : Joining). j.at < length calls) js
    → AllByRecursion (λ (c : Member). asked_row c.request ≡ Some (c.row, c.xid)) (members_of calls js) → AreReplies calls a (members_of calls js) (map (told a) js)
replies_are calls a [] places rows = tt
replies_are calls a (j ∷ js) places rows = (
  record { within = places.0; session = refl; request = refl; reply = reply_same a (member_of calls j).request j.row j.xid rows.0 },
  replies_are calls a js places.1 rows.1,
)

-- those of distinct XIDs aren't replied twice

xids_of : (cs : List Member) → AllByRecursion (λ (c : Member). asked_row c.request ≡ Some (c.row, c.xid)) cs → AllByRecursion (λ (c : Member). xid_of c.request ≡ Some c.xid) cs
xids_of [] rows = tt
xids_of (c ∷ cs) rows = (row_xid c.request c.row c.xid rows.0, xids_of cs rows.1)

named_apart : (xids : List Triple) → AreDistinct xids → AreNamedApart xids
named_apart [] distinct = tt
named_apart (x ∷ xids) distinct = (distinct.0, named_apart xids distinct.1)

same_xids : (calls : List Asked) (js : List Joining) → map (λ (c : Member). c.xid) (members_of calls js) ≡ map (λ (j : Joining). j.xid) js
same_xids calls [] = refl
same_xids calls (j ∷ js) = ap (λ (l : List Triple). j.xid ∷ l) (same_xids calls js)

pub once_of : (calls : List Asked) (js : List Joining) (a : Appending) → AllByRecursion (λ (j : Joining). j.at < length calls) js
    → AllByRecursion (λ (c : Member). asked_row c.request ≡ Some (c.row, c.xid)) (members_of calls js) → AreDistinct (map (λ (j : Joining). j.xid) js) → AreOnce (map (told a) js)
once_of calls js a places rows distinct =
    are_once xid_of calls a (members_of calls js) (map (told a) js) (replies_are calls a js places rows) (xids_of (members_of calls js) rows)
    (subst AreNamedApart (sym (same_xids calls js)) (named_apart (map (λ (j : Joining). j.xid) js) distinct))

module _ {D : Type 0} (disks : Ghosts D) where
  -- as many bodies as calls
  pub some_bodies : (m : Manager D) (calls : List Asked) (t : Together) → IsGroup disks m calls t → 1 ≤ length t.members.items → 1 ≤ length t.bodies.items
  some_bodies m calls t g some =
      let many = as_many disks m (members_of calls t.members.items) (bodies_of t.bodies.items) g.appends in
      let calls_long = length-map t.members.items (member_of calls) in
      let bodies_long = length-map t.bodies.items (λ (b : _). b.items) in
      omega (arith, many, calls_long, bodies_long, some)

  -- a manager that has a group is up
  pub group_up : (m : Manager D) (calls : List Asked) (t : Together) → IsGroup disks m calls t → 1 ≤ length t.members.items → m.up ≡ true
  group_up m calls t g some =
      let bodies_long = length-map t.bodies.items (λ (b : _). b.items) in
      let many = some_bodies m calls t g some in
      alone_up disks m (members_of calls t.members.items) (bodies_of t.bodies.items) (omega (arith, bodies_long, many)) g.appends
