-- Known branches that stand for a state, after room is made for what will last of branches, and after each is prepared.
use Rattle.std.proofs.Common.{◌≡◌, ℕ, ◌+◌, ◌-◌, ◌^◌, Bool, true, false, cond, min, Option, Some, None, List, [], ◌∷◌, ◌++◌, refl, ap, sym, ◌∙◌, subst, arith}
use Rattle.std.specs.Prelude.{is_some, option_map, option_and_then}
use Rattle.std.specs.BTreeMap.{BTreeMap, get}
use Rattle.std.specs.BTreeSet.{BTreeSet}
use Rattle.xa_xid.specs.Triple.{Triple, xid_cmp, xid_eq}
use Rattle.xa_xid.proofs.Same.{xid_same, xid_eq_itself}
use Rattle.xa_model.specs.State.{State, Branch, Phase, Prepared, name_of, is_known_as, known_of, known_count, decided_of, change}
use Rattle.xa_model.specs.Logging.{is_in_doubt}
use Rattle.xa_model.specs.Phases.{prepared_phase, as_prepared, prepared}
use Rattle.xa_model.specs.Invariants.LowWater.{is_known_at}
use Rattle.xa_model.specs.Invariants.Sound.{IsSound}
use Rattle.xa_model.proofs.Counts.{count_same}
use Rattle.xa_model.proofs.Doubts.{prepared_name, prepared_known}
use Rattle.xa_model.proofs.Leaving.{change_none}
use Rattle.xa_model.proofs.Lists.{find_change_same, find_change_other}
use Rattle.xa_model.proofs.Names.{called_apart}
use Rattle.xa_model.proofs.Xids.{cmp_is_eq}
use Rattle.xa_branch.specs.declared.branches.Branches.{Branches}
use Rattle.xa_branch.specs.declared.lasting.Lasting.{Lasting}
use Rattle.xa_branch.specs.declared.lasting.Lasting.TheVariants as lasts
use Rattle.xa_branch.specs.declared.working.Working.{Working as Kept}
use Rattle.xa_branch.specs.Branches.{BranchesStandFor, working_at, working_in, working_known, lasting_at, lasting_among, lasting_known, prepared_among, unless_working}
use Rattle.xa_branch.specs.Changes.{Sets}
use Rattle.xa_branch.specs.Room.{HaveRooms, IsApart, has_room}
use Rattle.xa_branch.specs.Due.{due_of, due_in, due_named, work_of, is_then, LosesDue}
use Rattle.xa_branch.proofs.Dues.{lost_stands, working_due}
use Rattle.xa_branch.proofs.Beginning.{prepared_known as prepared_are_known}
use Rattle.xa_branch.proofs.Finding.{found_turned, found_fixed}
use Rattle.xa_branch.proofs.Listing.{flipped}
use Rattle.xa_branch.proofs.Looks.{IsWorking, Seen, Nowhere, There, Doubtful, Done, seen, works, idle}
use Rattle.xa_branch.proofs.Rooms.{each_room, left_look, others_rooms, own_room, room_among, room_last, room_less, room_look, set_room}
use Rattle.xa_branch.proofs.Timed.{times_change}

-- the branches after it

abbrev after_of : State → Triple → List Branch
after_of s xid = change (is_known_as xid) as_prepared s.branches

here : (s : State) (xid : Triple) (w : Kept) → (is : IsWorking s xid w) → known_of (after_of s xid) xid ≡ Some (as_prepared is.branch)
here s xid w is = find_change_same (is_known_as xid) as_prepared (λ b named. prepared_known xid b ∙ named) s.branches ∙ ap (option_map as_prepared) is.found

there : (s : State) (xid q : Triple) → xid_eq xid q ≡ false → known_of (after_of s xid) q ≡ known_of s.branches q
there s xid q e =
    find_change_other (is_known_as xid) (is_known_as q) as_prepared (λ b named. (called_apart xid q b e named, prepared_known q b ∙ called_apart xid q b e named)) s.branches

-- where no branch is at work, nothing is prepared, and nothing lasts of one at work

same_phase : (b : Branch) (x : Triple) → b.phase ≡ Prepared x → as_prepared b ≡ b
same_phase b x e =
    let same : prepared_phase b.phase ≡ b.phase = rw e refl in
    ap (λ (p : Phase). record b { phase = p }) same

unprepared : (s : State) (xid : Triple) (l : Option Lasting) → Seen s xid None l → after_of s xid ≡ s.branches
unprepared s xid None (Nowhere none nor) = change_none (is_known_as xid) as_prepared s.branches none
unprepared s xid (Some l) (Doubtful t is) = found_fixed (is_known_as xid) as_prepared is.branch s.branches (same_phase is.branch is.named is.phase) is.found
unprepared s xid (Some l) (Done direction none was) = change_none (is_known_as xid) as_prepared s.branches none

unlasting : (s : State) (xid : Triple) (w : Kept) (l : Option Lasting) → Seen s xid (Some w) l → l ≡ None
unlasting s xid w None (There v is) = refl
unlasting s xid w (Some l) x = elim x [ ]

there_none : (s : State) (xid : Triple) → working_known s xid ≡ None → after_of s xid ≡ s.branches
there_none s xid e = unprepared s xid (lasting_known s xid) (subst (λ (o : Option Kept). Seen s xid o (lasting_known s xid)) e (seen s xid))

works_of : (s : State) (xid : Triple) (w : Kept) → working_known s xid ≡ Some w → IsWorking s xid w
works_of s xid w e = works s xid w (lasting_known s xid) (subst (λ (o : Option Kept). Seen s xid o (lasting_known s xid)) e (seen s xid))

nor_lasting : (s : State) (xid : Triple) (w : Kept) → working_known s xid ≡ Some w → lasting_known s xid ≡ None
nor_lasting s xid w e = unlasting s xid w (lasting_known s xid) (subst (λ (o : Option Kept). Seen s xid o (lasting_known s xid)) e (seen s xid))

-- at the branch's XID, and elsewhere

prepared_look : (m : Branches) (s : State) (xid q : Triple) (w : Kept) (c : Bool) → xid_eq xid q ≡ c → ((q : Triple) → working_at m q ≡ working_known s q) → (is : IsWorking s xid w)
    → cond c None (working_at m q) ≡ option_and_then (working_in s.associations q) (known_of (after_of s xid) q)
prepared_look m s xid q w true e same is =
    let found : known_of (after_of s xid) q ≡ Some (as_prepared is.branch) = subst (λ (x : Triple). known_of (after_of s xid) x ≡ Some (as_prepared is.branch)) (xid_same xid q e) (here s xid w is) in
    rw (found, is.phase) refl
prepared_look m s xid q w false e same is = same q ∙ sym (ap (option_and_then (working_in s.associations q)) (there s xid q e))

prepared_lasting : (s : State) (xid q : Triple) (w : Kept) (o : Option Lasting) (c : Bool) → xid_eq xid q ≡ c → (is : IsWorking s xid w)
    → cond c (Some (lasts.Prepared w.timestamp)) o ≡ cond c (lasting_known (prepared s xid) q) o
prepared_lasting s xid q w o true e is =
    let found : known_of (after_of s xid) q ≡ Some (as_prepared is.branch) = subst (λ (x : Triple). known_of (after_of s xid) x ≡ Some (as_prepared is.branch)) (xid_same xid q e) (here s xid w is) in
    let time : w.timestamp ≡ is.branch.timestamp = ap (λ (k : Kept). k.timestamp) is.kept in
    rw (found, is.phase) (ap (λ (t : ℕ). Some (lasts.Prepared t)) time)
prepared_lasting s xid q w o false e is = refl

-- it doesn't run out of time any more
prepared_named : (s : State) (xid q : Triple) (w : Kept) (c : Bool) → xid_eq xid q ≡ c → IsWorking s xid w → due_named (after_of s xid) q ≡ cond c None (due_named s.branches q)
prepared_named s xid q w true e is =
    let found : known_of (after_of s xid) q ≡ Some (as_prepared is.branch) = subst (λ (x : Triple). known_of (after_of s xid) x ≡ Some (as_prepared is.branch)) (xid_same xid q e) (here s xid w is) in
    rw (found, is.phase) refl
prepared_named s xid q w false e is = ap (option_and_then due_in) (there s xid q e)

-- one more is prepared
one_more : (s : State) (xid : Triple) (w : Kept) → (is : IsWorking s xid w) → prepared_among (after_of s xid) ≡ prepared_among s.branches + 1
one_more s xid w is =
    let turned = found_turned (is_known_as xid) (λ b. is_in_doubt b.phase) as_prepared is.branch s.branches is.found in
    let counted = rw is.phase at turned in omega (arith, counted)

as_many : (s : State) (xid : Triple) → known_count (after_of s xid) ≡ known_count s.branches
as_many s xid = count_same (is_known_as xid) as_prepared (λ b. is_some (name_of b.phase)) (λ b. ap (λ (o : Option Triple). is_some o) (prepared_name b.phase)) s.branches

-- it keeps its timestamp
same_times : (s : State) (xid : Triple) (t : ℕ) → is_known_at t (after_of s xid) ≡ is_known_at t s.branches
same_times s xid t = times_change (is_known_as xid) as_prepared (λ b. prepared_name b.phase) (λ b. refl) t s.branches

-- what lasts elsewhere is the same
lasting_after : (s : State) (xid q : Triple) (c : Bool) → xid_eq xid q ≡ c → cond c (lasting_known (prepared s xid) q) (lasting_known s q) ≡ lasting_known (prepared s xid) q
lasting_after s xid q true e = refl
lasting_after s xid q false e = sym (ap (λ (o : Option Branch). lasting_among o (decided_of s.decided q)) (there s xid q e))

-- its lasting ones may be kept otherwise
kept_else : (m : Branches) (lasting : BTreeMap Triple Lasting) (s : State) → ((q : Triple) → unless_working (working_at m q) (get xid_cmp lasting q) ≡ lasting_at m q) → BranchesStandFor m s
    → BranchesStandFor (record m { lasting = lasting }) s
kept_else m lasting s same st = record {
  boot = st.boot;
  given = st.given;
  moment = st.moment;
  working = st.working;
  lasting = λ q. same q ∙ st.lasting q;
  times = st.times;
  due = st.due;
  known = st.known;
  prepared = st.prepared;
  completed = st.completed;
}

-- room is made

pub room_made : (m : Branches) (lasting : BTreeMap Triple Lasting) (xids : List Triple) (s : State) (xid : Triple) (w : Kept) (l : Lasting) → HaveRooms xids m s → working_at m xid ≡ Some w
    → Sets m.lasting xid (Some l) lasting → HaveRooms (xids ++ xid ∷ []) (record m { lasting = lasting }) s
room_made m lasting xids s xid w l st e adds = record {
  stand = kept_else m lasting s (room_look m lasting xid w (Some l) e adds) st.stand;
  rooms = room_last xids xid lasting (each_room xids m.lasting lasting (set_room m.lasting lasting xid l adds) st.rooms) (own_room m.lasting lasting xid l adds);
}

pub rooms_kept : (m : Branches) (lasting : BTreeMap Triple Lasting) (xids : List Triple) (s : State) → lasting.entries ≡ m.lasting.entries
    → HaveRooms xids m s → HaveRooms xids (record m { lasting = lasting }) s
rooms_kept m lasting xids s same st =
    let kept : (q : Triple) → get xid_cmp lasting q ≡ get xid_cmp m.lasting q = λ q. rw same refl in
    record {
      stand = kept_else m lasting s (λ q. ap (unless_working (working_at m q)) (kept q)) st.stand;
      rooms = each_room xids m.lasting lasting (λ x h. ap (λ (o : Option Lasting). is_some o) (kept x) ∙ h) st.rooms;
    }

-- the branch is prepared

there_set : (m : Branches) (lasting : BTreeMap Triple Lasting) (xid : Triple) (l : Lasting) → has_room m.lasting xid ≡ true → Sets m.lasting xid (option_map (λ _. l) (get xid_cmp m.lasting xid)) lasting → Sets m.lasting xid (Some l) lasting
there_set m lasting xid l h sets = subst (λ (o : Option Lasting). Sets m.lasting xid o lasting) (by (get xid_cmp m.lasting xid) h) sets
  where
    by : (o : Option Lasting) → is_some o ≡ true → option_map (λ _. l) o ≡ Some l
    by None e = absurd (cc e)
    by (Some x) e = refl

pub prepared_stands : (m : Branches) (working : BTreeMap Triple Kept) (lasting : BTreeMap Triple Lasting) (due : BTreeSet (ℕ × Triple)) (n : ℕ) (before after : List Triple) (s : State) (xid : Triple) (w : Kept) → IsSound s → HaveRooms (before ++ xid ∷ after) m s → working_at m xid ≡ Some w
    → Sets m.working xid None working → Sets m.lasting xid (option_map (λ _. lasts.Prepared w.timestamp) (get xid_cmp m.lasting xid)) lasting → LosesDue m.due xid (due_of (work_of w)) due → n ≡ min (m.prepared + 1) (2 ^ 64 - 1)
    → HaveRooms (before ++ after) (record m { working = working; lasting = lasting; due = due; prepared = n }) (prepared s xid)
prepared_stands m working lasting due n before after s xid w h rooms e takes fills loses more =
    let st = rooms.stand in
    let sets = there_set m lasting xid (lasts.Prepared w.timestamp) (room_among before after xid m.lasting rooms.rooms) fills in
    let is : IsWorking s xid w = works_of s xid w (sym (st.working xid) ∙ e) in
    record {
      stand = record {
        boot = st.boot;
        given = st.given;
        moment = st.moment;
        working = λ q. takes.at q ∙ rw (cmp_is_eq xid q) (prepared_look m s xid q w (xid_eq xid q) refl st.working is);
        lasting = λ q.
            rw (takes.at q, sets.at q, cmp_is_eq xid q)
            (left_look (working_at m q) (get xid_cmp m.lasting q) (Some (lasts.Prepared w.timestamp)) (xid_eq xid q)
            ∙ prepared_lasting s xid q w (lasting_at m q) (xid_eq xid q) refl is
            ∙ ap (λ (o : Option Lasting). cond (xid_eq xid q) (lasting_known (prepared s xid) q) o) (st.lasting q)
            ∙ lasting_after s xid q (xid_eq xid q) refl);
        times = λ t. st.times t ∙ sym (same_times s xid t);
        due = lost_stands m.due due s.branches (after_of s xid) xid (due_of (work_of w)) st.due (working_due m s xid w (st.working xid) e) loses (λ q. prepared_named s xid q w (xid_eq xid q) refl is);
        known = let less = rw e at takes.number in omega (arith, less, more, as_many s xid, st.known, st.prepared, h.known, prepared_are_known s.branches);
        prepared = omega (arith, more, st.prepared, one_more s xid w is, h.known, prepared_are_known s.branches);
        completed = st.completed;
      };
      rooms = each_room (before ++ after) m.lasting lasting (set_room m.lasting lasting xid (lasts.Prepared w.timestamp) sets) (room_less before after xid m.lasting rooms.rooms);
    }

pub unprepared_stands : (m : Branches) (before after : List Triple) (s : State) (xid : Triple) → HaveRooms (before ++ xid ∷ after) m s → working_at m xid ≡ None → HaveRooms (before ++ after) m (prepared s xid)
unprepared_stands m before after s xid rooms e =
    let st = rooms.stand in
    let none : working_known s xid ≡ None = sym (st.working xid) ∙ e in
    let same : after_of s xid ≡ s.branches = there_none s xid none in
    record {
      stand = record {
        boot = st.boot;
        given = st.given;
        moment = st.moment;
        working = λ q. st.working q ∙ sym (ap (λ (bs : List Branch). option_and_then (working_in s.associations q) (known_of bs q)) same);
        lasting = λ q. st.lasting q ∙ sym (ap (λ (bs : List Branch). lasting_among (known_of bs q) (decided_of s.decided q)) same);
        times = λ t. st.times t ∙ sym (same_times s xid t);
        due = λ t q. st.due t q ∙ sym (ap (λ (bs : List Branch). is_then (due_named bs q) t) same);
        known = omega (arith, st.known, as_many s xid);
        prepared = st.prepared ∙ sym (ap prepared_among same);
        completed = st.completed;
      };
      rooms = room_less before after xid m.lasting rooms.rooms;
    }

-- the room is given back

pub given_back : (m : Branches) (lasting : BTreeMap Triple Lasting) (before after : List Triple) (s : State) (xid : Triple) (w : Kept) → IsApart xid (before ++ after) → HaveRooms (before ++ xid ∷ after) m s → working_at m xid ≡ Some w → Sets m.lasting xid None lasting
    → HaveRooms (before ++ after) (record m { lasting = lasting }) s
given_back m lasting before after s xid w apart st e takes = record {
  stand = kept_else m lasting s (room_look m lasting xid w None e takes) st.stand;
  rooms = others_rooms (before ++ after) m.lasting lasting xid takes apart (room_less before after xid m.lasting st.rooms);
}

pub nothing_back : (m : Branches) (before after : List Triple) (s : State) (xid : Triple) → HaveRooms (before ++ xid ∷ after) m s → HaveRooms (before ++ after) m s
nothing_back m before after s xid st = record { stand = st.stand; rooms = room_less before after xid m.lasting st.rooms }
