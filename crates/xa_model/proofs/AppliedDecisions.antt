-- What the operator decided, by XID: a decision more, and one that is forgotten; and what each record does.
use Rattle.std.proofs.Common.{◌≡◌, ℕ, ◌+◌, ◌≤◌, ◌⊎◌, Bool, true, false, cond, List, [], ◌∷◌, refl, ap, sym, ◌∙◌, subst, arith, rules}
use Rattle.std.specs.List.{AllByRecursion}
use Rattle.xa_codes.specs.declared.direction.Direction.{Direction}
use Rattle.xa_codes.specs.declared.direction.Direction.TheVariants as direction
use Rattle.xa_xid.specs.Triple.{Triple, xid_eq}
use Rattle.xa_record.specs.declared.record.Record.TheVariants as logged
use Rattle.xa_model.specs.State.{State, InDoubt, Decided, known_as, count, without}
use Rattle.xa_xid.proofs.Same.{xid_same}
use Rattle.xa_model.specs.Phases.{prepared, committed, completed, decided_by, forgotten, is_decision_of}
use Rattle.xa_model.specs.Invariants.Sound.{IsSound}
use Rattle.xa_model.specs.Durable.{Pairwise, insert, named_before, durable, by_name}
use Rattle.xa_model.specs.Fold.{apply, complete, decide}
use Rattle.xa_model.specs.Laws.Logging.{KeepsSoundApplied, AppliedLasts}
use Rattle.xa_model.proofs.Parts.{sound_beside}
use Rattle.xa_model.proofs.Inserts.{insert_all, insert_pairwise, all_imply}
use Rattle.xa_model.proofs.Names.{committed_sound}
use Rattle.xa_model.proofs.Doubts.{prepared_sound, decided_sound, forgotten_sound, completed_sound, in_doubt}
use Rattle.xa_model.proofs.Splits.{insert_front, uncounted}
use Rattle.xa_model.proofs.Tests.{either_name, names_transitive}
use Rattle.xa_model.proofs.Applied.{prepared_lasts, committed_lasts, completed_lasts}

-- one leaves a list in order, into which another takes its place

commute_by : (p : Decided → Bool) (x y : Decided) (ys rest : List Decided) (c d : Bool) → p x ≡ false → named_before y x ≡ c → p y ≡ d → AllByRecursion (λ z. named_before y z ≡ true) ys
    → without p (insert named_before x ys) ≡ insert named_before x (without p ys)
    → without p (cond c (y ∷ insert named_before x ys) (x ∷ y ∷ ys)) ≡ insert named_before x (cond d ys (y ∷ without p ys))
commute_by p x y ys rest true true out before here all ih = rw here refl
commute_by p x y ys rest true false out before here all ih = rw (here, before) (ap (λ l. y ∷ l) ih)
commute_by p x y ys rest false true out before here all ih =
    let none : AllByRecursion (λ z. named_before z x ≡ false) ys = all_imply (λ z. named_before y z ≡ true) (λ z. named_before z x ≡ false) (λ z less. behind z (named_before z x) refl less) ys all in
    rw (out, here) (sym (insert_front named_before x ys none))
  where
    behind : (z : Decided) (e : Bool) → named_before z x ≡ e → named_before y z ≡ true → e ≡ false
    behind z false k less = refl
    behind z true k less = let through : named_before y x ≡ true = names_transitive.trans y z x less k in absurd (cc (before, through))
commute_by p x y ys rest false false out before here all ih = rw (out, here, before) refl

commute : (p : Decided → Bool) (x : Decided) (ys : List Decided) → p x ≡ false → Pairwise named_before ys → without p (insert named_before x ys) ≡ insert named_before x (without p ys)
commute p x [] out h = rw out refl
commute p x (y ∷ ys) out h = commute_by p x y ys [] (named_before y x) (p y) out refl refl h.0 (commute p x ys out h.1)

leaves_by : (p : Decided → Bool) (x y : Decided) (ys : List Decided) (c : Bool) → p x ≡ true → p y ≡ false → without p (insert named_before x ys) ≡ ys
    → without p (cond c (y ∷ insert named_before x ys) (x ∷ y ∷ ys)) ≡ y ∷ ys
leaves_by p x y ys true passes other ih = rw other (ap (λ l. y ∷ l) ih)
leaves_by p x y ys false passes other ih = rw passes refl

leaves : (p : Decided → Bool) (x : Decided) (ys : List Decided) → p x ≡ true → AllByRecursion (λ y. p y ≡ false) ys → without p (insert named_before x ys) ≡ ys
leaves p x [] passes none = rw passes refl
leaves p x (y ∷ ys) passes none = leaves_by p x y ys (named_before y x) passes none.0 (leaves p x ys passes none.1)

-- distinct names

abbrev AreDistinct : List Decided → Type 0
AreDistinct ds = (q : Triple) → count (λ d. xid_eq d.xid q) ds ≤ 1

fewer_names : (d : Decided) (ds : List Decided) → AreDistinct (d ∷ ds) → AreDistinct ds
fewer_names d ds h = λ q. omega (arith, h q)

known_same : (x : Triple) → xid_eq x x ≡ true
known_same x = search rules depth 6

others_by : (d : Decided) (ds : List Decided) (c : Bool) → xid_eq d.xid d.xid ≡ c → c ≡ true → cond c 1 0 + count (λ e. xid_eq e.xid d.xid) ds ≤ 1 → count (λ e. xid_eq e.xid d.xid) ds ≡ 0
others_by d ds true e is most = omega (arith, most)
others_by d ds false e is most = absurd (cc is)

others : (d : Decided) (ds : List Decided) → AreDistinct (d ∷ ds) → AllByRecursion (λ e. xid_eq e.xid d.xid ≡ false) ds
others d ds h = uncounted (λ e. xid_eq e.xid d.xid) ds (others_by d ds (xid_eq d.xid d.xid) refl (known_same d.xid) (h d.xid))

pub all_by_name : (P : Decided → Type 0) (ds : List Decided) → AllByRecursion P ds → AllByRecursion P (by_name ds)
all_by_name P [] h = tt
all_by_name P (d ∷ ds) h = insert_all P named_before d (by_name ds) h.0 (all_by_name P ds h.1)

pub names_ascend : (ds : List Decided) → AreDistinct ds → Pairwise named_before (by_name ds)
names_ascend [] h = tt
names_ascend (d ∷ ds) h =
    insert_pairwise named_before names_transitive d (by_name ds)
    (all_by_name (λ e. (named_before e d ≡ true) ⊎ (named_before d e ≡ true)) ds (all_imply (λ e. xid_eq e.xid d.xid ≡ false) (λ e. (named_before e d ≡ true) ⊎ (named_before d e ≡ true))
    (λ e other. either_name e.xid d.xid other) ds (others d ds h))) (names_ascend ds (fewer_names d ds h))

forgets_by : (xid : Triple) (d : Decided) (ds : List Decided) (c : Bool) → xid_eq d.xid xid ≡ c → AreDistinct (d ∷ ds) → without (is_decision_of xid) (by_name ds) ≡ by_name (without (is_decision_of xid) ds)
    → without (is_decision_of xid) (insert named_before d (by_name ds)) ≡ by_name (cond c ds (d ∷ without (is_decision_of xid) ds))
forgets_by xid d ds true e h ih =
    leaves (is_decision_of xid) d (by_name ds) e (all_by_name (λ f. is_decision_of xid f ≡ false) ds (subst (λ (x : Triple). AllByRecursion (λ f. xid_eq f.xid x ≡ false) ds) (xid_same d.xid xid e) (others d ds h)))
forgets_by xid d ds false e h ih = commute (is_decision_of xid) d (by_name ds) e (names_ascend ds (fewer_names d ds h)) ∙ ap (insert named_before d) ih

forgets : (xid : Triple) (ds : List Decided) → AreDistinct ds → without (is_decision_of xid) (by_name ds) ≡ by_name (without (is_decision_of xid) ds)
forgets xid [] h = refl
forgets xid (d ∷ ds) h = forgets_by xid d ds (xid_eq d.xid xid) refl h (forgets xid ds (fewer_names d ds h))

-- What each record does

decided_lasts : (s : State) (direction : Direction) (xid : Triple) → IsSound s → known_as s xid ≡ InDoubt → durable (decided_by s direction xid) ≡ decide xid direction (complete xid direction (durable s))
decided_lasts s direction.Commit xid h doubt = ap (decide xid direction.Commit) (completed_lasts s direction.Commit xid h doubt)
decided_lasts s direction.Rollback xid h doubt = ap (decide xid direction.Rollback) (completed_lasts s direction.Rollback xid h doubt)

forgotten_lasts : (s : State) (xid : Triple) → IsSound s → durable (forgotten s xid) ≡ apply (logged.Forgotten xid) (durable s)
forgotten_lasts s xid h = ap (λ (ds : List Decided). record (durable s) { decided = ds }) (sym (forgets xid s.decided (λ q. omega (arith, h.distinct q))))

pub applied_lasts : AppliedLasts
applied_lasts s (logged.Opened boot) h may = refl
applied_lasts s (logged.Prepared xid t ws) h may = prepared_lasts s xid t ws h may
applied_lasts s (logged.Committed xid t ws) h may = committed_lasts s xid t ws h may
applied_lasts s (logged.Completed xid direction.Commit) h may = completed_lasts s direction.Commit xid h may
applied_lasts s (logged.Completed xid direction.Rollback) h may = completed_lasts s direction.Rollback xid h may
applied_lasts s (logged.Decided xid direction.Commit) h may = decided_lasts s direction.Commit xid h may
applied_lasts s (logged.Decided xid direction.Rollback) h may = decided_lasts s direction.Rollback xid h may
applied_lasts s (logged.Forgotten xid) h may = forgotten_lasts s xid h
applied_lasts s (logged.Base t ws) h may = absurd may
applied_lasts s (logged.Held xid t ws) h may = absurd may
applied_lasts s (logged.Known xid direction) h may = absurd may

-- neither the log's end nor its boot is a part of what is sound
elsewhere : (s : State) (boot end : ℕ) → IsSound s → IsSound (record s { logged_boot = boot; end = end })
elsewhere s boot end h = sound_beside s s.reads boot end s.standing s.open_records s.moment h

pub applied_sound : KeepsSoundApplied
applied_sound s (logged.Opened boot) h may = elsewhere s boot _ h
applied_sound s (logged.Prepared xid t ws) h may = elsewhere (prepared s xid) s.logged_boot _ (prepared_sound s xid h may.free)
applied_sound s (logged.Committed xid t ws) h may = elsewhere (committed s xid) s.logged_boot _ (committed_sound s xid h may.free)
applied_sound s (logged.Completed xid direction.Commit) h may = elsewhere (completed s direction.Commit xid) s.logged_boot _ (completed_sound s direction.Commit xid h (h.bound xid (in_doubt s xid may).1))
applied_sound s (logged.Completed xid direction.Rollback) h may = elsewhere (completed s direction.Rollback xid) s.logged_boot _ (completed_sound s direction.Rollback xid h (h.bound xid (in_doubt s xid may).1))
applied_sound s (logged.Decided xid direction.Commit) h may = elsewhere (decided_by s direction.Commit xid) s.logged_boot _ (decided_sound s direction.Commit xid h may)
applied_sound s (logged.Decided xid direction.Rollback) h may = elsewhere (decided_by s direction.Rollback xid) s.logged_boot _ (decided_sound s direction.Rollback xid h may)
applied_sound s (logged.Forgotten xid) h may = elsewhere (forgotten s xid) s.logged_boot _ (forgotten_sound s xid h)
applied_sound s (logged.Base t ws) h may = absurd may
applied_sound s (logged.Held xid t ws) h may = absurd may
applied_sound s (logged.Known xid direction) h may = absurd may
