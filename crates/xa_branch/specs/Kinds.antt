-- The associations of a branch, by kind.
use Rattle.std.specs.Prelude.{ℕ, Bool, true, false, ◌&&◌, Option, Some, None, List, if◌then◌else◌}
use Rattle.std.specs.List.{list_any}
use Rattle.xa_xid.specs.Triple.{Triple, xid_eq}
use Rattle.xa_model.specs.State.{Association, Holder, Active, Suspended, Loose, count, is_with, works_in, suspends, is_loose_with}
use Rattle.xa_branch.specs.declared.kind.Kind.{Kind}
use Rattle.xa_branch.specs.declared.kind.Kind.TheVariants as kind

abbrev pub kind_of : Holder → Kind
kind_of (Active n) = kind.Active
kind_of (Suspended n) = kind.Suspended
kind_of Loose = kind.Loose

abbrev pub same_kind : Kind → Kind → Bool
same_kind kind.Active kind.Active = true
same_kind kind.Suspended kind.Suspended = true
same_kind kind.Loose kind.Loose = true
same_kind _ _ = false

-- an association of this kind with the XID
abbrev pub is_as : Kind → Triple → Association → Bool
is_as k xid a = same_kind (kind_of a.holder) k && xid_eq a.xid xid

-- how many associations of this kind a branch has
abbrev pub held_as : Kind → List Association → Triple → ℕ
held_as k held xid = count (is_as k xid) held

-- The kind of the association that an end of the session's work for a branch takes away: the session's own, active or
-- suspended, or else a loose one.
abbrev pub ended_kind : List Association → ℕ → Triple → Option Kind
ended_kind held n xid =
    if list_any (works_in n xid) held then Some kind.Active
    else if list_any (suspends n xid) held then Some kind.Suspended
    else if list_any (is_loose_with xid) held then Some kind.Loose
    else None

-- of the association that a resumption takes: the session's own suspended one, or else a loose one
abbrev pub resumed_kind : List Association → ℕ → Triple → Option Kind
resumed_kind held n xid =
    if list_any (suspends n xid) held then Some kind.Suspended
    else if list_any (is_loose_with xid) held then Some kind.Loose
    else None

-- of a session's own association with an XID, by the XID that the session is at work for
abbrev pub own_kind : Option Triple → Triple → Kind
own_kind active xid = if is_with xid active then kind.Active else kind.Suspended
