-- A record that may be logged of a state fits after records that come to what the state would leave.
use Rattle.std.proofs.Common.{◌≡◌, ℕ, ◌≤◌, Bool, true, false, ◌||◌, cond, Ok, Err, List, [], ◌∷◌, length, Option, Some, None, refl, ap, sym, ◌∙◌, arith}
use Rattle.std.specs.Prelude.{find, nat_lt, option_map}
use Rattle.std.specs.List.{list_any}
use Rattle.xa_codes.specs.declared.direction.Direction.{Direction}
use Rattle.xa_xid.specs.Triple.{Triple, xid_eq}
use Rattle.xa_record.specs.declared.record.Record.{Record}
use Rattle.xa_record.specs.declared.record.Record.TheVariants as logged
use Rattle.xa_model.specs.State.{State, Branch, Phase, Working, Prepared, Committed, InDoubt, Decided, count, is_known_as, known_of, known_by, known_as, known_among, decided_of, or_completed, is_working, is_at_work}
use Rattle.xa_model.specs.Invariants.Sound.{IsSound}
use Rattle.xa_model.specs.Durable.{Durable, durable, writes_of, insert, named_before, by_name, is_prepared, is_decided}
use Rattle.xa_model.specs.Fold.{Reading, apply, fits, reading, unread, is_new, is_timely, is_unknown, prepared_as}
use Rattle.xa_model.specs.Completions.{is_completed}
use Rattle.xa_model.specs.Invariants.MayLog.{MayLog}
use Rattle.xa_model.specs.Laws.Logging.{is_in_time, AppliedFits}
use Rattle.xa_model.proofs.Counts.{found_none}
use Rattle.xa_model.proofs.Inserts.{none_passes}
use Rattle.xa_model.proofs.Ascending.{parts, is_less, absent, found_in}
use Rattle.xa_model.proofs.Folds.{fold_reads, one_more}
use Rattle.xa_model.proofs.Splits.{uncounted}
use Rattle.xa_model.proofs.AppliedDecisions.{all_by_name, applied_lasts}
use Rattle.xa_model.proofs.Leaving.{found_any}
use Rattle.xa_model.proofs.Remains.{held_of, held_as, held_named, working_held, in_doubt, once}

-- which branch is logged

record IsOfWorking (s : State) (xid : Triple) : Type 0 where
  branch : Branch
  known : known_of s.branches xid ≡ Some branch
  working : is_working branch.phase ≡ true

working_by : (s : State) (xid : Triple) (o : Option Branch) → known_of s.branches xid ≡ o → is_at_work o ≡ true → IsOfWorking s xid
working_by s xid None e works = absurd (cc works)
working_by s xid (Some b) e works = record { branch = b; known = e; working = works }

record IsOfPrepared (s : State) (xid : Triple) : Type 0 where
  branch : Branch
  known : known_of s.branches xid ≡ Some branch
  prepared : is_working branch.phase ≡ false

no_doubt : (o : Option Direction) → or_completed o ≡ InDoubt → ⊥
no_doubt None e = cc e
no_doubt (Some direction) e = cc e

not_working : (p : Phase) → known_by p ≡ InDoubt → is_working p ≡ false
not_working (Working x work) e = absurd (cc e)
not_working (Prepared x) e = refl
not_working Committed e = refl

prepared_by : (s : State) (xid : Triple) (o : Option Branch) → known_of s.branches xid ≡ o → known_among o (decided_of s.decided xid) ≡ InDoubt → IsOfPrepared s xid
prepared_by s xid None e doubt = absurd (no_doubt (decided_of s.decided xid) doubt)
prepared_by s xid (Some b) e doubt = record { branch = b; known = e; prepared = not_working b.phase doubt }

of_prepared : (s : State) (xid : Triple) → known_as s xid ≡ InDoubt → IsOfPrepared s xid
of_prepared s xid doubt = prepared_by s xid (known_of s.branches xid) refl doubt

at_most_known : (p : Phase) → is_completed (known_by p) ≡ true → ⊥
at_most_known (Working x work) e = cc e
at_most_known (Prepared x) e = cc e
at_most_known Committed e = cc e

found_decided : (xid : Triple) (ds : List Decided) (o : Option Decided) → find (λ d. xid_eq d.xid xid) ds ≡ o → is_completed (or_completed (option_map (λ (d : Decided). d.direction) o)) ≡ true → is_decided xid ds ≡ true
found_decided xid ds None e done = absurd (cc done)
found_decided xid ds (Some d) e done = found_any (λ f. xid_eq f.xid xid) d ds e

decided_among : (s : State) (xid : Triple) (o : Option Branch) → is_completed (known_among o (decided_of s.decided xid)) ≡ true → is_decided xid s.decided ≡ true
decided_among s xid None done = found_decided xid s.decided (find (λ d. xid_eq d.xid xid) s.decided) refl done
decided_among s xid (Some b) done = absurd (at_most_known b.phase done)

of_decided : (s : State) (xid : Triple) → is_completed (known_as s xid) ≡ true → is_decided xid s.decided ≡ true
of_decided s xid done = decided_among s xid (known_of s.branches xid) done

-- XIDs that the operator completed

inserted_by : (p : Decided → Bool) (d e : Decided) (es fs : List Decided) (c : Bool) → list_any p fs ≡ (p d || list_any p es) → list_any p (cond c (e ∷ fs) (d ∷ e ∷ es)) ≡ (p d || (p e || list_any p es))
inserted_by p d e es fs true h = ap (λ q. p e || q) h ∙ swapped (p e) (p d) (list_any p es)
  where
    swapped : (a b c : Bool) → (a || (b || c)) ≡ (b || (a || c))
    swapped true true c = refl
    swapped true false c = refl
    swapped false true c = refl
    swapped false false c = refl
inserted_by p d e es fs false h = refl

any_inserted : (p : Decided → Bool) (d : Decided) (es : List Decided) → list_any p (insert named_before d es) ≡ (p d || list_any p es)
any_inserted p d [] = refl
any_inserted p d (e ∷ es) = inserted_by p d e es (insert named_before d es) (named_before e d) (any_inserted p d es)

pub any_named : (p : Decided → Bool) (ds : List Decided) → list_any p (by_name ds) ≡ list_any p ds
any_named p [] = refl
any_named p (d ∷ ds) = any_inserted p d (by_name ds) ∙ ap (λ q. p d || q) (any_named p ds)

-- of a known branch there is one, and the operator didn't complete it

some_counted : (xid : Triple) (b : Branch) (bs : List Branch) → known_of bs xid ≡ Some b → 1 ≤ count (is_known_as xid) bs
some_counted xid b bs known =
    let not_none : count (is_known_as xid) bs ≡ 0 → ⊥ = λ zero_. let none : find (is_known_as xid) bs ≡ None = found_none (is_known_as xid) bs zero_ in absurd (cc (none, known)) in
    omega arith

undecided : (s : State) (xid : Triple) (b : Branch) → IsSound s → known_of s.branches xid ≡ Some b → is_decided xid (by_name s.decided) ≡ false
undecided s xid b h known =
    let none : count (λ d. xid_eq d.xid xid) s.decided ≡ 0 = omega (arith, h.distinct xid, some_counted xid b s.branches known) in
    none_passes (λ d. xid_eq d.xid xid) (by_name s.decided) (all_by_name (λ d. xid_eq d.xid xid ≡ false) s.decided (uncounted (λ d. xid_eq d.xid xid) s.decided none))

unprepared : (s : State) (xid : Triple) (b : Branch) → IsSound s → known_of s.branches xid ≡ Some b → is_working b.phase ≡ true → is_prepared xid (durable s).prepared ≡ false
unprepared s xid b h known e =
    none_passes (prepared_as xid) (parts held_of s.branches)
    (absent held_of (is_known_as xid) (prepared_as xid) (held_named xid) b s.branches (working_held b.timestamp (writes_of b.operations) b.phase e) (once s xid h) known)

unknown : (s : State) (xid : Triple) (b : Branch) → IsSound s → known_of s.branches xid ≡ Some b → is_working b.phase ≡ true → is_unknown xid (durable s) ≡ true
unknown s xid b h known e = rw (unprepared s xid b h known e, undecided s xid b h known) refl

prepared_in : (s : State) (xid : Triple) → IsSound s → IsOfPrepared s xid → is_prepared xid (durable s).prepared ≡ true
prepared_in s xid h k =
    found_any (prepared_as xid) (held_as xid k.branch) (parts held_of s.branches)
    (found_in held_of (is_known_as xid) (prepared_as xid) (held_named xid) k.branch (held_as xid k.branch) s.branches (in_doubt xid k.branch s.branches k.known k.prepared) (once s xid h) k.known)

pub doubt_prepared : (s : State) (xid : Triple) → IsSound s → known_as s xid ≡ InDoubt → is_prepared xid (durable s).prepared ≡ true
doubt_prepared s xid h doubt = prepared_in s xid h (of_prepared s xid doubt)

pub done_decided : (s : State) (xid : Triple) → is_completed (known_as s xid) ≡ true → is_decided xid (durable s).decided ≡ true
done_decided s xid done = any_named (λ f. xid_eq f.xid xid) s.decided ∙ of_decided s xid done

-- a branch at work is neither prepared nor completed
pub work_unknown : (s : State) (xid : Triple) → IsSound s → is_at_work (known_of s.branches xid) ≡ true → is_unknown xid (durable s) ≡ true
work_unknown s xid h works = let k = working_by s xid (known_of s.branches xid) refl works in unknown s xid k.branch h k.known k.working

-- so the record fits

fits_working : (s : State) (xid : Triple) (t : ℕ) (x : Reading) → IsSound s → IsOfWorking s xid → x.durable ≡ durable s → is_timely t x ≡ true → is_new xid t x ≡ true
fits_working s xid t x h k e timely =
    let all : is_unknown xid x.durable ≡ true = ap (is_unknown xid) e ∙ unknown s xid k.branch h k.known k.working in
    rw (timely, all) refl

fits_behind : (s : State) (r : Record) (x : Reading) → IsSound s → MayLog s r → x.durable ≡ durable s → is_in_time r x ≡ true → fits r x ≡ true
fits_behind s (logged.Opened boot) x h k e timely = ap (λ (d : Durable). nat_lt d.boot boot) e ∙ is_less s.logged_boot boot k
fits_behind s (logged.Prepared xid t ws) x h k e timely = fits_working s xid t x h (working_by s xid (known_of s.branches xid) refl k.working) e timely
fits_behind s (logged.Committed xid t ws) x h k e timely = fits_working s xid t x h (working_by s xid (known_of s.branches xid) refl k.working) e timely
fits_behind s (logged.Completed xid direction) x h k e timely = ap (λ (d : Durable). is_prepared xid d.prepared) e ∙ doubt_prepared s xid h k
fits_behind s (logged.Decided xid direction) x h k e timely = ap (λ (d : Durable). is_prepared xid d.prepared) e ∙ doubt_prepared s xid h k
fits_behind s (logged.Forgotten xid) x h k e timely = ap (λ (d : Durable). is_decided xid d.decided) e ∙ done_decided s xid k
fits_behind s (logged.Base t ws) x h k e timely = absurd k
fits_behind s (logged.Held xid t ws) x h k e timely = absurd k
fits_behind s (logged.Known xid direction) x h k e timely = absurd k

pub applied_fits : AppliedFits
applied_fits s rs r h e k timely =
    let fit : fits r (reading unread rs) ≡ true = fits_behind s r (reading unread rs) h k (fold_reads rs (durable s) e) timely in
    one_more rs r (durable s) e
    ∙ ap (λ c. cond c (Ok (apply r (durable s))) (Err (length rs))) fit
    ∙ ap (λ (d : Durable). Ok d) (sym (applied_lasts s r h k))
