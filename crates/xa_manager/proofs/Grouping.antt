-- How a group grows by one call.
use Rattle.std.proofs.Common.{◌≡◌, ◌⊎◌, ◌+◌, ◌<◌, ◌≤◌, ℕ, Bool, true, false, not, cond, List, [], ◌∷◌, ◌++◌, length, Option, Some, None, inl, inr, refl, ap, sym, ◌∙◌, subst, arith}
use Rattle.std.specs.Prelude.{map}
use Rattle.std.specs.List.{AllByRecursion, list_all}
use Rattle.std.proofs.Math.Bool.{beq}
use Rattle.std.proofs.lemmas.List.{append_assoc, append-nil, length-append, length-map, map-append}
use Rattle.xa_codes.specs.Flags.{has}
use Rattle.xa_codes.specs.declared.flags.TheConstants.{TMONEPHASE}
use Rattle.xa_disk.specs.declared.disk.Disk.{Ghosts}
use Rattle.xa_frame.specs.declared.request.Request.{Request}
use Rattle.xa_frame.specs.declared.request.Request.TheVariants as request
use Rattle.xa_log.specs.Believed.Group.{group_bytes}
use Rattle.xa_log.specs.Reading.{bodies_of}
use Rattle.xa_record.specs.Spelling.{spelled}
use Rattle.xa_record.specs.declared.record.Record.{Record}
use Rattle.xa_xid.specs.Triple.{Triple, xid_eq}
use Rattle.xa_model.specs.State.{State, count}
use Rattle.xa_model.specs.Fold.{sizes}
use Rattle.xa_model.specs.Logging.{log_room, prepared_count}
use Rattle.xa_model.specs.Laws.Together.{Part, HaveRoom, has_room_after, is_preparing, records_of}
use Rattle.xa_model.proofs.Inserts.{all_pass}
use Rattle.xa_model.proofs.Tests.{all_passed}
use Rattle.xa_manager.specs.declared.manager.Manager.{Manager}
use Rattle.xa_manager.specs.declared.row.Row.{Row}
use Rattle.xa_manager.specs.declared.row.Row.TheVariants.{Writes, CommitTwoPhase, Rollback, Decide, Forget}
use Rattle.xa_manager.specs.declared.row.Writing.{Writing}
use Rattle.xa_manager.specs.declared.row.Writing.TheVariants.{Prepare, CommitOnePhase}
use Rattle.xa_manager.specs.declared.together.Asked.{Asked}
use Rattle.xa_manager.specs.declared.together.Joining.{Joining}
use Rattle.xa_manager.specs.declared.tables.Tables.{Tables}
use Rattle.xa_manager.specs.declared.together.Together.{Together}
use Rattle.xa_manager.specs.Acts.{AreDistinct, GiveRoomsBack, StaysIfDistinct}
use Rattle.xa_manager.specs.Believed.Answered.{StaysFor}
use Rattle.xa_manager.specs.Managed.{ManagerStandsFor}
use Rattle.xa_manager.specs.Stands.{StandsFor, TablesStandFor}
use Rattle.xa_manager.specs.View.{view_of}
use Rattle.xa_manager.specs.Rows.{asked_row, more_of, record_of, takes_memory}
use Rattle.xa_manager.specs.Believed.Together.{Member, part_of, parts_of, asked_at, member_of, members_of, is_prepare, prepares_of, PreparesFirst}
use Rattle.xa_manager.specs.Believed.Together.{AppendsAlone, AppendAlone, AreReady, IsBounded, IsGroup, asks_prepare, has_room_behind, HasJoined}
use Rattle.xa_log.specs.declared.left_out.TheConstants.{MOST_GROUP}
use Rattle.xa_manager.proofs.GroupFacts.{prepares_distinct}
use Rattle.xa_manager.proofs.Taking.{stays_up, tables_up}

-- ---- lists, and one more after them

all_more : {A : Type 0} (P : A → Type 0) (xs : List A) (x : A) → AllByRecursion P xs → P x → AllByRecursion P (xs ++ x ∷ [])
all_more P [] x h last = (last, tt)
all_more P (y ∷ xs) x h last = (h.0, all_more P xs x h.1 last)

distinct_more : (xids : List Triple) (x : Triple) → AreDistinct xids → AllByRecursion (λ q. xid_eq q x ≡ false) xids → AreDistinct (xids ++ x ∷ [])
distinct_more [] x distinct apart = (tt, tt)
distinct_more (q ∷ xids) x distinct apart =
    (all_more (λ y. xid_eq q y ≡ false) xids x distinct.0 apart.0, distinct_more xids x distinct.1 apart.1)

named_apart : (js : List Joining) (x : Triple) → AllByRecursion (λ j. xid_eq j.xid x ≡ false) js → AllByRecursion (λ q. xid_eq q x ≡ false) (map (λ j. j.xid) js)
named_apart [] x h = tt
named_apart (j ∷ js) x h = (h.0, named_apart js x h.1)

group_more : (bodies : List (List ℕ)) (body : List ℕ) → group_bytes (bodies ++ body ∷ []) ≡ group_bytes bodies + (36 + length body)
group_more [] body = omega arith
group_more (b ∷ bodies) body = let rest = group_more bodies body in omega (arith, rest)

-- two tests that are found equal
pub beq_same : (a b : Bool) → beq a b ≡ true → a ≡ b
beq_same true true e = refl
beq_same true false e = absurd (cc e)
beq_same false true e = absurd (cc e)
beq_same false false e = refl

-- ---- the prepares

abbrev prepares_in : Option (Row × Triple) → Bool
prepares_in (Some pair) = is_prepare pair.0
prepares_in None = false

no_commit_prepares : (b : Bool) → is_prepare (cond b (Writes CommitOnePhase) CommitTwoPhase) ≡ false
no_commit_prepares true = refl
no_commit_prepares false = refl

-- a row prepares where the request does
pub prepare_row : (r : Request) (row : Row) (xid : Triple) → asked_row r ≡ Some (row, xid) → is_prepare row ≡ asks_prepare r
prepare_row (request.Prepare flags x) row xid e = sym (ap prepares_in e)
prepare_row (request.Commit flags x) row xid e = sym (ap prepares_in e) ∙ no_commit_prepares (has flags TMONEPHASE)
prepare_row (request.Rollback flags x) row xid e = sym (ap prepares_in e)
prepare_row (request.Forget flags x) row xid e = sym (ap prepares_in e)
prepare_row (request.Decide direction x) row xid e = sym (ap prepares_in e)
prepare_row r row xid e = absurd (cc e)

-- and so does its record
prepared_by : (row : Row) (xid : Triple) (s : State) → is_preparing (record_of row xid s) ≡ is_prepare row
prepared_by (Writes Prepare) xid s = refl
prepared_by (Writes CommitOnePhase) xid s = refl
prepared_by CommitTwoPhase xid s = refl
prepared_by Rollback xid s = refl
prepared_by (Decide direction) xid s = refl
prepared_by Forget xid s = refl

counted_by : (b : Bool) (x : Triple) (xs : List Triple) (n : ℕ) → n ≡ length xs → cond b 1 0 + n ≡ length (cond b (x ∷ xs) xs)
counted_by true x xs n e = omega (arith, e)
counted_by false x xs n e = omega (arith, e)

counted : (s : State) (cs : List Member) → count is_preparing (records_of (parts_of s cs)) ≡ length (prepares_of cs)
counted s [] = refl
counted s (c ∷ cs) =
    rw (prepared_by c.row c.xid s) (counted_by (is_prepare c.row) c.xid (prepares_of cs) (count is_preparing (records_of (parts_of s cs))) (counted s cs))

more_by : (b : Bool) (x : Triple) (ys zs ws : List Triple) → ys ≡ zs ++ ws → cond b (x ∷ ys) ys ≡ cond b (x ∷ zs) zs ++ ws
more_by true x ys zs ws e = ap (λ l. x ∷ l) e
more_by false x ys zs ws e = e

abbrev own_prepare : Member → List Triple
own_prepare c = cond (is_prepare c.row) (c.xid ∷ []) []

prepares_more : (cs : List Member) (c : Member) → prepares_of (cs ++ c ∷ []) ≡ prepares_of cs ++ own_prepare c
prepares_more [] c = refl
prepares_more (q ∷ cs) c =
    more_by (is_prepare q.row) q.xid (prepares_of (cs ++ c ∷ [])) (prepares_of cs) (own_prepare c) (prepares_more cs c)

none_by : (b q : Bool) (x : Triple) → (b ≡ true → q ≡ true) → q ≡ false → cond b (x ∷ []) [] ≡ []
none_by true q x h e = let so : q ≡ true = h refl in absurd (cc (e, so))
none_by false q x h e = refl

first_more : (cs : List Member) (c : Member) → PreparesFirst cs → (is_prepare c.row ≡ true → AllByRecursion (λ q. is_prepare q.row ≡ true) cs) → PreparesFirst (cs ++ c ∷ [])
first_more [] c first all = (λ e. refl, tt)
first_more (q ∷ cs) c first all = (
  λ e.
      prepares_more cs c ∙ (ap (λ (l : List Triple). l ++ own_prepare c) (first.0 e)
      ∙ none_by (is_prepare c.row) (is_prepare q.row) c.xid (λ prepares. (all prepares).0) e),
  first_more cs c first.1 (λ prepares. (all prepares).1),
)

-- what is said of all that joined is said of the members
members_prepare : (calls : List Asked) (js : List Joining) → AllByRecursion (λ j. is_prepare j.row ≡ true) js → AllByRecursion (λ q. is_prepare q.row ≡ true) (members_of calls js)
members_prepare calls [] h = tt
members_prepare calls (j ∷ js) h = (h.0, members_prepare calls js h.1)

-- ---- the room

room_more : (s : State) (before : List Record) (ps : List Part) (p : Part) → HaveRoom s before ps → has_room_after (before ++ records_of ps) s p.appended ≡ true → HaveRoom s before (ps ++ p ∷ [])
room_more s before [] p rooms room = (subst (λ (rs : List Record). has_room_after rs s p.appended ≡ true) (append-nil before) room, tt)
room_more s before (q ∷ ps) p rooms room = (
  rooms.0,
  room_more s (before ++ q.appended ∷ []) ps p rooms.1
      (subst (λ (rs : List Record). has_room_after rs s p.appended ≡ true) (sym (append_assoc before (q.appended ∷ []) (records_of ps))) room),
)

room_by : (log_bytes end to kept more decided : ℕ) → end ≡ to → kept ≡ more → log_room log_bytes end kept decided ≡ true → log_room log_bytes to more decided ≡ true
room_by log_bytes end to kept more decided ends keeps room =
    subst (λ (n : ℕ). log_room log_bytes to n decided ≡ true) keeps (subst (λ (n : ℕ). log_room log_bytes n kept decided ≡ true) ends room)

ends_same : (end bytes len size long : ℕ) → size ≡ bytes → long ≡ len → end + (bytes + len + 36) ≡ end + size + (long + 36)
ends_same end bytes len size long e h = omega (arith, e, h)

one_kept : (kept prepares n : ℕ) → n ≡ prepares → kept + (1 + prepares) ≡ kept + n + 1
one_kept kept prepares n e = omega (arith, e)

none_kept : (kept prepares n : ℕ) → n ≡ prepares → kept + (0 + prepares) ≡ kept + n
none_kept kept prepares n e = omega (arith, e)

room_after : (s : State) (before : List Record) (row : Row) (xid : Triple) (bytes prepares len : ℕ) → sizes before ≡ bytes → count is_preparing before ≡ prepares → length (spelled (record_of row xid s)) ≡ len
    → has_room_behind s bytes prepares row len ≡ true → has_room_after before s (record_of row xid s) ≡ true
room_after s before (Writes Prepare) xid bytes prepares len size many long room =
    room_by s.log_bytes _ _ _ _ (length s.decided) (ends_same s.end bytes len (sizes before) (length (spelled (record_of (Writes Prepare) xid s))) size long) (one_kept (prepared_count s) prepares (count is_preparing before) many) room
room_after s before (Writes CommitOnePhase) xid bytes prepares len size many long room =
    room_by s.log_bytes _ _ _ _ (length s.decided) (ends_same s.end bytes len (sizes before) (length (spelled (record_of (Writes CommitOnePhase) xid s))) size long) (none_kept (prepared_count s) prepares (count is_preparing before) many) room
room_after s before CommitTwoPhase xid bytes prepares len size many long room = refl
room_after s before Rollback xid bytes prepares len size many long room = refl
room_after s before (Decide direction) xid bytes prepares len size many long room = refl
room_after s before Forget xid bytes prepares len size many long room = refl

-- a row without writes takes the room that is kept for it
pub kept_room : (s : State) (bytes prepares len : ℕ) (row : Row) → takes_memory row ≡ false → has_room_behind s bytes prepares row len ≡ true
kept_room s bytes prepares len (Writes w) e = absurd (cc e)
kept_room s bytes prepares len CommitTwoPhase e = refl
kept_room s bytes prepares len Rollback e = refl
kept_room s bytes prepares len (Decide direction) e = refl
kept_room s bytes prepares len Forget e = refl

pub found_room : (s : State) (bytes prepares len sum more : ℕ) (w : Writing) (row : Row) (found : Bool) → row ≡ Writes w → sum ≡ bytes + len → more ≡ more_of w + prepares
    → found ≡ log_room s.log_bytes (s.end + (sum + 36)) (prepared_count s + more) (length s.decided) → found ≡ true → has_room_behind s bytes prepares row len ≡ true
found_room s bytes prepares len sum more w row found is sums mores room e =
    subst (λ (r : Row). has_room_behind s bytes prepares r len ≡ true) (sym is)
    (room_by s.log_bytes _ _ _ _ (length s.decided) (ap (λ (n : ℕ). s.end + (n + 36)) sums) (ap (λ (n : ℕ). prepared_count s + n) mores) (sym room ∙ e))

-- it may have this many bytes with its others
pub bounded_by : (js : List Joining) (bytes len sum most : ℕ) → sum ≤ most → sum ≡ bytes + len → (js ≡ []) ⊎ (most + 40 ≤ MOST_GROUP) → (js ≡ []) ⊎ (bytes + len + 40 ≤ MOST_GROUP)
bounded_by js bytes len sum most few is (inl none) = inl none
bounded_by js bytes len sum most few is (inr short) = inr (omega (arith, few, is, short))

not_passed : (b : Bool) → not b ≡ true → b ≡ false
not_passed true e = absurd (cc e)
not_passed false e = refl

none_passed : (js : List Joining) (x : Triple) → AllByRecursion (λ j. not (xid_eq j.xid x) ≡ true) js → AllByRecursion (λ j. xid_eq j.xid x ≡ false) js
none_passed [] x h = tt
none_passed (j ∷ js) x h = (not_passed (xid_eq j.xid x) h.0, none_passed js x h.1)

-- an XID that is none of theirs
pub are_apart : (js : List Joining) (x : Triple) (found : Bool) → found ≡ list_all (λ j. not (xid_eq j.xid x)) js → found ≡ true → AllByRecursion (λ j. xid_eq j.xid x ≡ false) js
are_apart js x found is e = none_passed js x (all_passed (λ (j : Joining). not (xid_eq j.xid x)) js (sym is ∙ e))

all_other : (js : List Joining) (x : Triple) → AllByRecursion (λ j. xid_eq j.xid x ≡ false) js → AllByRecursion (λ j. not (xid_eq j.xid x) ≡ true) js
all_other [] x h = tt
all_other (j ∷ js) x h = (ap (λ (b : Bool). not b) h.0, all_other js x h.1)

pub found_apart : (js : List Joining) (x : Triple) (found : Bool) → found ≡ list_all (λ j. not (xid_eq j.xid x)) js → AllByRecursion (λ j. xid_eq j.xid x ≡ false) js → found ≡ true
found_apart js x found is apart = is ∙ all_pass (λ (j : Joining). not (xid_eq j.xid x)) js (all_other js x apart)

module _ {D : Type 0} (disks : Ghosts D) (m : Manager D) where
  alone_more : (cs : List Member) (bodies : List (List ℕ)) (c : Member) (body : List ℕ) → AppendAlone disks m cs bodies → AppendsAlone disks m c body → AppendAlone disks m (cs ++ c ∷ []) (bodies ++ body ∷ [])
  alone_more [] [] c body h last = (last, tt)
  alone_more (q ∷ cs) (b ∷ bodies) c body h last = (h.0, alone_more cs bodies c body h.1 last)
  alone_more [] (b ∷ bodies) c body h last = absurd h
  alone_more (q ∷ cs) [] c body h last = absurd h

  alone_many : (cs : List Member) (bodies : List (List ℕ)) → AppendAlone disks m cs bodies → length cs ≡ length bodies
  alone_many [] [] h = refl
  alone_many (c ∷ cs) (b ∷ bodies) h = let rest = alone_many cs bodies h.1 in omega (arith, rest)
  alone_many [] (b ∷ bodies) h = absurd h
  alone_many (c ∷ cs) [] h = absurd h

  -- the records of a group have the bodies' bytes
  bytes_are : (s : State) → ManagerStandsFor disks m s → (cs : List Member) (bodies : List (List ℕ)) → AppendAlone disks m cs bodies → sizes (records_of (parts_of s cs)) ≡ group_bytes bodies
  bytes_are s st [] [] h = refl
  bytes_are s st (c ∷ cs) (body ∷ bodies) h =
      let here : length (spelled (record_of c.row c.xid s)) ≡ length body = ap length (h.0.appends s st).1.body_is in
      sum_same (length (spelled (record_of c.row c.xid s))) (length body) (sizes (records_of (parts_of s cs))) (group_bytes bodies) here (bytes_are s st cs bodies h.1)
    where
      sum_same : (a b k n : ℕ) → a ≡ b → k ≡ n → a + 36 + k ≡ 36 + b + n
      sum_same a b k n e h = omega (arith, e, h)
  bytes_are s st [] (b ∷ bodies) h = absurd h
  bytes_are s st (c ∷ cs) [] h = absurd h

  -- it doesn't become too long
  bounded_more : (js : List Joining) (cs : List Member) (bodies : List (List ℕ)) (body : List ℕ) (bytes : ℕ) (more : List (List ℕ)) → length cs ≡ length js → AppendAlone disks m cs bodies → bytes ≡ group_bytes bodies → more ≡ bodies ++ body ∷ []
      → (js ≡ []) ⊎ (bytes + length body + 40 ≤ MOST_GROUP) → IsBounded more
  bounded_more js cs bodies body bytes more many alone are is (inl none) =
      let few : length js ≡ 0 = ap (λ (l : List Joining). length l) none in
      let one = alone_many cs bodies alone in
      let all = length-append bodies (body ∷ []) in
      inl (subst (λ (l : List (List ℕ)). length l ≤ 1) (sym is) (omega (arith, few, many, one, all)))
  bounded_more js cs bodies body bytes more many alone are is (inr short) =
      let all = group_more bodies body in
      inr (subst (λ (l : List (List ℕ)). group_bytes l + 4 ≤ MOST_GROUP) (sym is) (omega (arith, all, are, short)))

  -- a group that a call joined
  pub joined : (calls : List Asked) (at : ℕ) (call : Asked) (t t' : Together) → at < length calls → asked_at calls at ≡ call → HasJoined disks m at call t t'
      → (asks_prepare call.request ≡ true → AllByRecursion (λ j. is_prepare j.row ≡ true) t.members.items)
      → IsGroup disks m calls t → IsGroup disks m calls t'
  joined calls at call t t' less is h all g =
      let j : Joining = record { at = at; row = h.row; xid = h.xid } in
      let js = t.members.items in
      let cs = members_of calls js in
      let c = member_of calls j in
      let bodies = bodies_of t.bodies.items in
      let alone : AppendsAlone disks m c h.body =
      subst (λ (a : Asked). AppendsAlone disks m (record { session = a.session; request = a.request; row = h.row; xid = h.xid }) h.body) (sym is) h.alone in
      let more : members_of calls t'.members.items ≡ cs ++ c ∷ [] = ap (λ (l : List Joining). members_of calls l) h.last.members ∙ map-append (member_of calls) js (j ∷ []) in
      let names : map (λ (x : Joining). x.xid) t'.members.items ≡ map (λ (x : Joining). x.xid) js ++ h.xid ∷ [] =
      ap (λ (l : List Joining). map (λ (x : Joining). x.xid) l) h.last.members ∙ map-append (λ (x : Joining). x.xid) js (j ∷ []) in
      let prepares : is_prepare h.row ≡ true → AllByRecursion (λ q. is_prepare q.row ≡ true) cs =
      λ e. members_prepare calls js (all (sym (prepare_row call.request h.row h.xid h.alone.asked) ∙ e)) in
      record {
        places = subst (λ (l : List Joining). AllByRecursion (λ x. x.at < length calls) l) (sym h.last.members) (all_more (λ (x : Joining). x.at < length calls) js j g.places less);
        appends = subst (λ (l : List Member). AppendAlone disks m l (bodies_of t'.bodies.items)) (sym more)
            (subst (λ (l : List (List ℕ)). AppendAlone disks m (cs ++ c ∷ []) l) (sym h.last.bodies) (alone_more cs bodies c h.body g.appends alone));
        distinct = subst AreDistinct (sym names) (distinct_more (map (λ (x : Joining). x.xid) js) h.xid g.distinct (named_apart js h.xid h.may.apart));
        room = λ s st.
            subst (λ (l : List Member). HaveRoom s [] (parts_of s l)) (sym more)
            (subst (λ (l : List Part). HaveRoom s [] l) (sym (map-append (part_of s) cs (c ∷ [])))
            (room_more s [] (parts_of s cs) (part_of s c) (g.room s st)
            (room_after s (records_of (parts_of s cs)) h.row h.xid t.bytes (length t.prepares.items) (length h.body) (bytes_are s st cs bodies g.appends ∙ sym g.bytes)
            (counted s cs ∙ ap length (sym g.prepares)) (ap length (h.alone.appends s st).1.body_is) (h.may.room s st h.alone.up))));
        prepares = h.last.prepares ∙ ap (λ (l : List Triple). l ++ own_prepare c) g.prepares ∙ sym (prepares_more cs c) ∙ ap prepares_of (sym more);
        first = subst PreparesFirst (sym more) (first_more cs c g.first prepares);
        bounded = bounded_more js cs bodies h.body t.bytes (bodies_of t'.bodies.items) (length-map js (member_of calls)) g.appends g.bytes h.last.bodies h.may.bounded;
        bytes = h.last.bytes ∙ ap (λ (n : ℕ). n + (36 + length h.body)) g.bytes ∙ sym (group_more bodies h.body) ∙ ap group_bytes (sym h.last.bodies);
      }

  -- A group that grew so far: where prepares are gathered, all of it prepare.
  pub record HasGrown (calls : List Asked) (prepares : Bool) (first now : Together) : Type 0 where
    pub group : IsGroup disks m calls first → IsGroup disks m calls now
    pub prepare : prepares ≡ true → AllByRecursion (λ j. is_prepare j.row ≡ true) now.members.items

  pub none_grown : (calls : List Asked) (prepares : Bool) (t : Together) → (prepares ≡ true → t.members.items ≡ []) → HasGrown calls prepares t t
  none_grown calls prepares t none = record {
    group = λ g. g;
    prepare = λ e. subst (λ (l : List Joining). AllByRecursion (λ j. is_prepare j.row ≡ true) l) (sym (none e)) tt;
  }

  -- a call was taken in, or left out
  pub one_grown : (calls : List Asked) (prepares : Bool) (first t t' : Together) (at : ℕ) (call : Asked) → at < length calls → asked_at calls at ≡ call → asks_prepare call.request ≡ prepares
      → (t' ≡ t) ⊎ HasJoined disks m at call t t' → HasGrown calls prepares first t → HasGrown calls prepares first t'
  one_grown calls prepares first t t' at call less is asks (inl same) h = subst (λ (x : Together). HasGrown calls prepares first x) (sym same) h
  one_grown calls prepares first t t' at call less is asks (inr x) h = record {
    group = λ g. joined calls at call t t' less is x (λ e. h.prepare (sym asks ∙ e)) (h.group g);
    prepare = λ e.
        let j : Joining = record { at = at; row = x.row; xid = x.xid } in
        subst (λ (l : List Joining). AllByRecursion (λ x. is_prepare x.row ≡ true) l) (sym x.last.members)
        (all_more (λ (x : Joining). is_prepare x.row ≡ true) t.members.items j (h.prepare e) (prepare_row call.request x.row x.xid x.alone.asked ∙ asks ∙ e));
  }

  -- a group of no calls
  pub empty_group : (calls : List Asked) (t : Together) → t.members.items ≡ [] → t.bodies.items ≡ [] → t.prepares.items ≡ [] → t.bytes ≡ 0 → IsGroup disks m calls t
  empty_group calls t members bodies prepares bytes = record {
    places = subst (λ (l : List Joining). AllByRecursion (λ x. x.at < length calls) l) (sym members) tt;
    appends = rw (members, bodies) tt;
    distinct = rw members tt;
    room = λ s st. rw members tt;
    prepares = rw members prepares;
    first = rw members tt;
    bytes = rw bodies bytes;
    bounded = rw bodies (inl (omega arith));
  }

-- ---- its memory

module _ {D : Type 0} (disks : Ghosts D) (m : Manager D) where
  -- a manager that has a group is up
  pub alone_up : (cs : List Member) (bodies : List (List ℕ)) → 1 ≤ length bodies → AppendAlone disks m cs bodies → m.up ≡ true
  alone_up [] [] some h = absurd (omega (arith, some))
  alone_up (c ∷ cs) (b ∷ bodies) some h = h.0.up
  alone_up [] (b ∷ bodies) some h = absurd h
  alone_up (c ∷ cs) [] some h = absurd h

  -- the rooms that it had are given back
  pub rooms_back : (m1 : Manager D) (calls : List Asked) (t : Together) (tables : Tables) → 1 ≤ length t.bodies.items → IsGroup disks m calls t → AreReady disks m t m1 → StaysFor disks m m1 → GiveRoomsBack m1.tables t.prepares.items tables
      → StaysFor disks m (record m1 { tables = tables })
  rooms_back m1 calls t tables some g ready stays given s st =
      let many : 1 ≤ length (bodies_of t.bodies.items) = subst (λ (n : ℕ). 1 ≤ n) (sym (length-map t.bodies.items _)) some in
      let is_up : m.up ≡ true = alone_up (members_of calls t.members.items) (bodies_of t.bodies.items) many g.appends in
      let distinct : AreDistinct t.prepares.items = subst AreDistinct (sym g.prepares) (prepares_distinct calls t.members.items g.distinct) in
      let st1 = stays s st in
      let stood : StandsFor (view_of tables) s = given s distinct (ready.tables s distinct (tables_up disks m s is_up st)) in
      record {
        tables = subst (λ (b : Bool). TablesStandFor b (view_of tables) s) (sym (ready.up ∙ is_up)) stood;
        roomy = st1.roomy;
        end = st1.end;
        alive = st1.alive;
        modern = st1.modern;
        log_bytes = st1.log_bytes;
        doubt = st1.doubt;
        backed = st1.backed;
        log = st1.log;
      }

  -- tables that made rooms for a group's prepares, or gave them back
  pub group_stays : (calls : List Asked) (t : Together) (tables : Tables) → 1 ≤ length t.bodies.items → IsGroup disks m calls t → StaysIfDistinct m.tables t.prepares.items tables
      → StaysFor disks m (record m { tables = tables })
  group_stays calls t tables some g stays =
      let many : 1 ≤ length (bodies_of t.bodies.items) = subst (λ (n : ℕ). 1 ≤ n) (sym (length-map t.bodies.items _)) some in
      let is_up : m.up ≡ true = alone_up (members_of calls t.members.items) (bodies_of t.bodies.items) many g.appends in
      let distinct : AreDistinct t.prepares.items = subst AreDistinct (sym g.prepares) (prepares_distinct calls t.members.items g.distinct) in
      stays_up disks m (record m { tables = tables }) is_up refl refl refl (λ s st. stays s distinct st)
