-- The tables of a new boot, made branch by branch.
use Rattle.std.proofs.Common.{◌≡◌, ◌<◌, ◌≤◌, ◌+◌, ◌++◌, ◌==◌, ◌&&◌, ◌||◌, ℕ, zero, suc, Bool, true, false, List, [], ◌∷◌, map, length, max, min, bytes_eq, Option, Some, None, refl, ap, sym, ◌∙◌, subst, arith}
use Rattle.std.proofs.lemmas.Bool.Decides.{nat_tests}
use Rattle.std.specs.Prelude.{fold, nat_lt, slice_get}
use Rattle.std.specs.List.{AllByRecursion}
use Rattle.xa_codes.specs.declared.write.Write.{Write}
use Rattle.xa_xid.specs.Triple.{Triple, xid_eq}
use Rattle.mv_chain.specs.declared.fate.Fate.{Fate}
use Rattle.mv_chain.specs.declared.fate.Fate.TheVariants.{Committed as kept}
use Rattle.mv_chain.specs.Accesses.{Written, AreWhole, has_undecided}
use Rattle.mv_rules.specs.declared.records.Records.{Records}
use Rattle.mv_rules.specs.Accesses.{Accesses}
use Rattle.mv_rules.specs.Records.{StandsFor as RecordsStandFor}
use Rattle.mv_rules.proofs.Remade.{stands_restored}
use Rattle.mv_rules.specs.Ties.{history_of}
use Rattle.mv_rules.specs.Restoring.{with_write, with_branch, with_committed, with_prepared, IsRestorable}
use Rattle.xa_model.specs.State.{State, Decided, timestamp_of}
use Rattle.xa_model.specs.Durable.{Durable, CommittedBranch, PreparedBranch, Pairwise, IsDurable, commits_before, prepares_before, named_apart, named_before, is_prepared, is_decided, is_past}
use Rattle.xa_model.specs.Invariants.Restored.{IsRestored}
use Rattle.xa_model.proofs.Inserts.{pairwise_before}
use Rattle.xa_model.proofs.Recoveries.{recoverable_durable}
use Rattle.xa_model.proofs.Tests.{below_apart}
use Rattle.xa_branch.specs.declared.branches.Branches.{Branches}
use Rattle.xa_branch.specs.Branches.{BranchesStandFor}
use Rattle.xa_branch.specs.Restored.{HasRestored}
use Rattle.xa_branch.proofs.Returning.{restored_stand}
use Rattle.xa_recovery.specs.declared.durable.InDoubt.{InDoubt}
use Rattle.xa_recovery.specs.Durable.{as_prepared}
use Rattle.xa_manager.specs.Rebuilding.{AreNew, HaveWrites, HaveLow, AddedUpto, CommittedUpto, PreparedUpto, CompletedUpto}

branch_apart : (u t : ℕ) (fate : Option Fate) (ws : List Write) (older : List Written) → (u ≡ t → ⊥) → AllByRecursion (λ w. w.timestamp ≡ u → ⊥) older
    → AllByRecursion (λ w. w.timestamp ≡ u → ⊥) (with_branch t fate ws older)
branch_apart u t fate [] older h all = all
branch_apart u t fate (w ∷ ws) older h all = branch_apart u t fate ws (with_write t fate older w) h ((λ e. h (sym e)), all)

still_new : (t : ℕ) (fate : Option Fate) (ws : List Write) (us : List ℕ) (older : List Written) → AllByRecursion (λ u. u ≡ t → ⊥) us → AreNew us older → AreNew us (with_branch t fate ws older)
still_new t fate ws [] older apart h = tt
still_new t fate ws (u ∷ us) older apart h = (h.0, h.1, branch_apart u t fate ws older apart.0 h.2, still_new t fate ws us older apart.1 h.3)

-- one branch in doubt more is added
pub prepared_added : (low : ℕ) (older : List Written) (all rest left : List PreparedBranch) (b : PreparedBranch) (m m' : Records) → left ≡ b ∷ rest
    → ((h : Accesses) → RecordsStandFor h m → IsRestorable b.timestamp h → RecordsStandFor (record h { writes = with_branch b.timestamp None b.writes h.writes }) m')
    → AddedUpto low older all left m → AddedUpto low older all rest m'
prepared_added low older all rest left b m m' is restores upto =
    let here : AddedUpto low older all (b ∷ rest) m = subst (λ (bs : List PreparedBranch). AddedUpto low older all bs m) is upto in
    let h : Accesses = record { low = low; writes = here.writes; reads = [] } in
    record {
      writes = with_branch b.timestamp None b.writes here.writes;
      leads = here.leads;
      new = still_new b.timestamp None b.writes (map (λ p. p.timestamp) rest) here.writes here.new.1 here.new.3;
      above = here.above.1;
      stands = restores h here.stands (record { positive = here.new.0; above = here.above.0; unread = refl; unwritten = here.new.2 });
    }

pub prepared_whole : (low : ℕ) (older : List Written) (all left : List PreparedBranch) (m : Records) → left ≡ [] → AddedUpto low older all left m → HaveWrites low (fold with_prepared older all) m
prepared_whole low older all left m is upto =
    let e : upto.writes ≡ fold with_prepared older all = sym (ap (λ (bs : List PreparedBranch). fold with_prepared upto.writes bs) is) ∙ upto.leads in
    subst (λ (ws : List Written). HaveWrites low ws m) e upto.stands

-- one committed branch more is added, and the low water rises

off : (a b c : Bool) → c ≡ false → ((a && (b && false)) || c) ≡ false
off false b c e = e
off true false c e = e
off true true c e = e

still_decided : (t : ℕ) (ws : List Write) (older : List Written) → ((u : ℕ) (key : List ℕ) → has_undecided key u older ≡ false) → (u : ℕ) (key : List ℕ) → has_undecided key u (with_branch t (Some kept) ws older) ≡ false
still_decided t [] older h u key = h u key
still_decided t (w ∷ ws) older h u key = still_decided t ws (with_write t (Some kept) older w) (λ v k. off (bytes_eq k w.key) (t == v) (has_undecided k v older) (h v k)) u key

raised : (low given : ℕ) (b : CommittedBranch) (cs : List CommittedBranch) → given ≤ b.timestamp → AllByRecursion (λ c. low ≤ c.timestamp) cs → AllByRecursion (λ c. commits_before b c ≡ true) cs
    → AllByRecursion (λ c. max low given ≤ c.timestamp) cs
raised low given b [] le above later = tt
raised low given b (c ∷ cs) le above later =
    let below : b.timestamp < c.timestamp = grind (arith, nat_tests, later.0) in
    (omega (arith, le, above.0, below), raised low given b cs le above.1 later.1)

pub committed_added : (least given : ℕ) (all rest left : List CommittedBranch) (b : CommittedBranch) (m m' m'' : Records) → left ≡ b ∷ rest → given ≡ min b.timestamp least
    → ((h : Accesses) → RecordsStandFor h m → IsRestorable b.timestamp h → RecordsStandFor (record h { writes = with_branch b.timestamp (Some kept) b.writes h.writes }) m')
    → ((h : Accesses) → RecordsStandFor h m' → AreWhole h.writes → RecordsStandFor (record h { low = max h.low given }) m'')
    → CommittedUpto least all left m → CommittedUpto least all rest m''
committed_added least given all rest left b m m' m'' is given_is restores gives upto =
    let here : CommittedUpto least all (b ∷ rest) m = subst (λ (bs : List CommittedBranch). CommittedUpto least all bs m) is upto in
    let h : Accesses = record { low = here.low; writes = here.writes; reads = [] } in
    let writes : List Written = with_branch b.timestamp (Some kept) b.writes here.writes in
    let none = still_decided b.timestamp b.writes here.writes here.decided in
    let stands = restores h here.stands (record { positive = here.new.0; above = here.above.0; unread = refl; unwritten = here.new.2 }) in
    record {
      writes = writes;
      low = max here.low given;
      leads = here.leads;
      new = still_new b.timestamp (Some kept) b.writes (map (λ c. c.timestamp) rest) here.writes here.new.1 here.new.3;
      ordered = here.ordered.1;
      above = raised here.low given b rest (omega (arith, given_is)) here.above.1 here.ordered.0;
      under = omega (arith, given_is, here.under);
      decided = none;
      stands = gives (record h { writes = writes }) stands (λ t key yes. absurd (cc (none t key, yes)));
    }

pub committed_whole : (least : ℕ) (all left : List CommittedBranch) (m : Records) → left ≡ [] → CommittedUpto least all left m → HaveLow least (fold with_committed [] all) m
committed_whole least all left m is upto =
    let e : upto.writes ≡ fold with_committed [] all = sym (ap (λ (bs : List CommittedBranch). fold with_committed upto.writes bs) is) ∙ upto.leads in
    (upto.low, upto.under, subst (λ (ws : List Written). HaveWrites upto.low ws m) e upto.stands)

all_zero : (cs : List CommittedBranch) → AllByRecursion (λ c. 0 ≤ c.timestamp) cs
all_zero [] = tt
all_zero (c ∷ cs) = (omega arith, all_zero cs)

pub committed_first : (least : ℕ) (all : List CommittedBranch) (m : Records) → AreNew (map (λ c. c.timestamp) all) [] → Pairwise commits_before all → HaveWrites 0 [] m → CommittedUpto least all all m
committed_first least all m new ordered start =
    record { writes = []; low = 0; leads = refl; new = new; ordered = ordered; above = all_zero all; under = omega arith; decided = λ t key. refl; stands = start }

-- the least timestamp of the branches in doubt

later_above : (n k : ℕ) (p : PreparedBranch) (ps : List PreparedBranch) → n ≤ p.timestamp → AllByRecursion (λ q. prepares_before p q ≡ true) ps → AllByRecursion (λ q. n ≤ q.timestamp) ps
later_above n k p [] le h = tt
later_above n k p (q ∷ ps) le h =
    let below : p.timestamp < q.timestamp = grind (arith, nat_tests, h.0) in
    (omega (arith, le, below), later_above n k p ps le h.1)

pub least_below : (n : ℕ) (es : List (ℕ × InDoubt)) (first : ℕ × InDoubt) → slice_get es 0 ≡ Some first → n ≤ first.0 → Pairwise prepares_before (map as_prepared es) → AllByRecursion (λ p. n ≤ p.timestamp) (map as_prepared es)
least_below n [] first at le h = tt
least_below n (e ∷ es) first at le h =
    let same : e ≡ first = cc at in
    let here : n ≤ e.0 = subst (λ (x : ℕ × InDoubt). n ≤ x.0) (sym same) le in
    (here, later_above n e.0 (as_prepared e) (map as_prepared es) here h.0)

pub none_below : (n : ℕ) (es : List (ℕ × InDoubt)) → (0 < length es → ⊥) → AllByRecursion (λ p. n ≤ p.timestamp) (map as_prepared es)
none_below n [] none = tt
none_below n (e ∷ es) none = absurd (none (omega arith))

low_above : (low least : ℕ) (ps : List PreparedBranch) → low ≤ least → AllByRecursion (λ p. least ≤ p.timestamp) ps → AllByRecursion (λ p. low ≤ p.timestamp) ps
low_above low least [] le h = tt
low_above low least (p ∷ ps) le h = (omega (arith, le, h.0), low_above low least ps le h.1)

-- a member that is apart from each is none of them
none_named : (xid : Triple) (ps : List PreparedBranch) → AllByRecursion (λ p. xid_eq p.xid xid ≡ false) ps → is_prepared xid ps ≡ false
none_named xid [] h = refl
none_named xid (p ∷ ps) h = rw (h.0) (none_named xid ps h.1)

none_decided : (xid : Triple) (ds : List Decided) → AllByRecursion (λ d. xid_eq d.xid xid ≡ false) ds → is_decided xid ds ≡ false
none_decided xid [] h = refl
none_decided xid (d ∷ ds) h = rw (h.0) (none_decided xid ds h.1)

apart_by : (p q : PreparedBranch) (c : Bool) → xid_eq p.xid q.xid ≡ c → named_apart p q ≡ true → xid_eq p.xid q.xid ≡ false
apart_by p q false e h = e
apart_by p q true e h = absurd (cc)

each_apart : (q : PreparedBranch) (ps : List PreparedBranch) → AllByRecursion (λ p. named_apart p q ≡ true) ps → AllByRecursion (λ p. xid_eq p.xid q.xid ≡ false) ps
each_apart q [] h = tt
each_apart q (p ∷ ps) h = (apart_by p q (xid_eq p.xid q.xid) refl h.0, each_apart q ps h.1)

each_below : (q : Decided) (ds : List Decided) → AllByRecursion (λ d. named_before d q ≡ true) ds → AllByRecursion (λ d. xid_eq d.xid q.xid ≡ false) ds
each_below q [] h = tt
each_below q (d ∷ ds) h = (below_apart d.xid q.xid h.0, each_below q ds h.1)

joined : {A : Type 0} (xs ys zs : List A) → (xs ++ ys) ++ zs ≡ xs ++ (ys ++ zs)
joined [] ys zs = refl
joined (x ∷ xs) ys zs = ap (λ us. x ∷ us) (joined xs ys zs)

append_none : {A : Type 0} (xs : List A) → xs ++ [] ≡ xs
append_none [] = refl
append_none (x ∷ xs) = ap (λ ys. x ∷ ys) (append_none xs)

pub prepared_more : (boot moment : ℕ) (all rest left : List PreparedBranch) (p : PreparedBranch) (m m' : Branches) → left ≡ p ∷ rest → Pairwise named_apart all
    → ((ps : List PreparedBranch) → is_prepared p.xid ps ≡ false → is_decided p.xid [] ≡ false → HasRestored m boot moment ps [] → HasRestored m' boot moment (ps ++ p ∷ []) [])
    → PreparedUpto boot moment all left m → PreparedUpto boot moment all rest m'
prepared_more boot moment all rest left p m m' is apart adds upto =
    let split : upto.done ++ p ∷ rest ≡ all = sym (ap (λ (ps : List PreparedBranch). upto.done ++ ps) is) ∙ upto.split in
    let before = pairwise_before named_apart upto.done p rest (subst (λ (ps : List PreparedBranch). Pairwise named_apart ps) (sym split) apart) in
    record {
      done = upto.done ++ p ∷ [];
      split = joined upto.done (p ∷ []) rest ∙ split;
      stands = adds upto.done (none_named p.xid upto.done (each_apart p upto.done before)) refl upto.stands;
    }

pub prepared_all : (boot moment : ℕ) (all left : List PreparedBranch) (m : Branches) → left ≡ [] → PreparedUpto boot moment all left m → HasRestored m boot moment all []
prepared_all boot moment all left m is upto =
    let e : upto.done ≡ all = sym (append_none upto.done) ∙ (sym (ap (λ (ps : List PreparedBranch). upto.done ++ ps) is) ∙ upto.split) in
    subst (λ (ps : List PreparedBranch). HasRestored m boot moment ps []) e upto.stands

all_back : {A : Type 0} (P : A → Type 0) (xs ys : List A) → AllByRecursion P (xs ++ ys) → AllByRecursion P ys
all_back P [] ys h = h
all_back P (x ∷ xs) ys h = all_back P xs ys h.1

pub completed_more : (boot moment : ℕ) (ps : List PreparedBranch) (all rest left : List Decided) (d : Decided) (m m' : Branches) → left ≡ d ∷ rest → Pairwise named_before all
    → AllByRecursion (λ e. is_prepared e.xid ps ≡ false) all
    → ((ds : List Decided) → is_prepared d.xid ps ≡ false → is_decided d.xid ds ≡ false → HasRestored m boot moment ps ds → HasRestored m' boot moment ps (ds ++ d ∷ []))
    → CompletedUpto boot moment ps all left m → CompletedUpto boot moment ps all rest m'
completed_more boot moment ps all rest left d m m' is apart unknown adds upto =
    let split : upto.done ++ d ∷ rest ≡ all = sym (ap (λ (ds : List Decided). upto.done ++ ds) is) ∙ upto.split in
    let before = pairwise_before named_before upto.done d rest (subst (λ (ds : List Decided). Pairwise named_before ds) (sym split) apart) in
    let here = all_back (λ e. is_prepared e.xid ps ≡ false) upto.done (d ∷ rest) (subst (λ (ds : List Decided). AllByRecursion (λ e. is_prepared e.xid ps ≡ false) ds) (sym split) unknown) in
    record {
      done = upto.done ++ d ∷ [];
      split = joined upto.done (d ∷ []) rest ∙ split;
      stands = adds upto.done here.0 (none_decided d.xid upto.done (each_below d upto.done before)) upto.stands;
    }

pub completed_all : (boot moment : ℕ) (ps : List PreparedBranch) (all left : List Decided) (m : Branches) → left ≡ [] → CompletedUpto boot moment ps all left m → HasRestored m boot moment ps all
completed_all boot moment ps all left m is upto =
    let e : upto.done ≡ all = sym (append_none upto.done) ∙ (sym (ap (λ (ds : List Decided). upto.done ++ ds) is) ∙ upto.split) in
    subst (λ (ds : List Decided). HasRestored m boot moment ps ds) e upto.stands

-- what is restored is of the one form
pub restored_form : (d : Durable) (next : ℕ) (s : State) → IsRestored d next s → IsDurable (record d { boot = next })
restored_form d next s h = subst IsDurable h.lasts (recoverable_durable s h.recoverable)

-- the timestamps of what lasted

apart_time : (t u : ℕ) → nat_lt t u ≡ true → u ≡ t → ⊥
apart_time t u h e = grind (arith, nat_tests)

past_positive : (boot t : ℕ) → is_past boot t ≡ true → 0 < t
past_positive boot zero h = absurd (cc)
past_positive boot (suc t) h = omega arith

later_time : (c : CommittedBranch) (cs : List CommittedBranch) → AllByRecursion (λ e. commits_before c e ≡ true) cs → AllByRecursion (λ u. u ≡ c.timestamp → ⊥) (map (λ c. c.timestamp) cs)
later_time c [] h = tt
later_time c (e ∷ cs) h = (apart_time c.timestamp e.timestamp h.0, later_time c cs h.1)

pub committed_new : (boot : ℕ) (cs : List CommittedBranch) → Pairwise commits_before cs → AllByRecursion (λ c. is_past boot c.timestamp ≡ true) cs → AreNew (map (λ c. c.timestamp) cs) []
committed_new boot [] h past = tt
committed_new boot (c ∷ cs) h past = (past_positive boot c.timestamp past.0, later_time c cs h.0, tt, committed_new boot cs h.1 past.1)

later_prepared : (p : PreparedBranch) (ps : List PreparedBranch) → AllByRecursion (λ e. prepares_before p e ≡ true) ps → AllByRecursion (λ u. u ≡ p.timestamp → ⊥) (map (λ p. p.timestamp) ps)
later_prepared p [] h = tt
later_prepared p (e ∷ ps) h = (apart_time p.timestamp e.timestamp h.0, later_prepared p ps h.1)

-- none of the writes of these has this timestamp
unwritten : (t : ℕ) (cs : List CommittedBranch) (older : List Written) → AllByRecursion (λ c. c.timestamp ≡ t → ⊥) cs → AllByRecursion (λ w. w.timestamp ≡ t → ⊥) older
    → AllByRecursion (λ w. w.timestamp ≡ t → ⊥) (fold with_committed older cs)
unwritten t [] older h all = all
unwritten t (c ∷ cs) older h all = unwritten t cs (with_committed older c) h.1 (branch_apart t c.timestamp (Some kept) c.writes older (λ e. h.0 (sym e)) all)

not_same : (t u : ℕ) → (t == u) ≡ false → t ≡ u → ⊥
not_same t u h e = grind (arith, nat_tests)

-- each prepared branch's timestamp is none of the committed ones'
apart_from : (p : PreparedBranch) (cs : List CommittedBranch) (ps : List PreparedBranch) → AllByRecursion (λ c. AllByRecursion (λ p. (c.timestamp == p.timestamp) ≡ false) (p ∷ ps)) cs
    → AllByRecursion (λ c. c.timestamp ≡ p.timestamp → ⊥) cs × AllByRecursion (λ c. AllByRecursion (λ p. (c.timestamp == p.timestamp) ≡ false) ps) cs
apart_from p [] ps h = (tt, tt)
apart_from p (c ∷ cs) ps h = let rest = apart_from p cs ps h.1 in ((not_same c.timestamp p.timestamp h.0.0, rest.0), (h.0.1, rest.1))

pub prepared_new : (boot : ℕ) (cs : List CommittedBranch) (ps : List PreparedBranch) → Pairwise prepares_before ps → AllByRecursion (λ p. is_past boot p.timestamp ≡ true) ps
    → AllByRecursion (λ c. AllByRecursion (λ p. (c.timestamp == p.timestamp) ≡ false) ps) cs → AreNew (map (λ p. p.timestamp) ps) (fold with_committed [] cs)
prepared_new boot cs [] h past apart = tt
prepared_new boot cs (p ∷ ps) h past apart =
    let both = apart_from p cs ps apart in
    (past_positive boot p.timestamp past.0, later_prepared p ps h.0, unwritten p.timestamp cs [] both.0 tt, prepared_new boot cs ps h.1 past.1 both.1)

pub branches_stand : (d : Durable) (next moment : ℕ) (s : State) (ps : List PreparedBranch) (ds : List Decided) (m m' m'' : Branches) → ps ≡ d.prepared → ds ≡ d.decided → HasRestored m next moment [] []
    → ((boot moment : ℕ) → Pairwise named_apart ps → HasRestored m boot moment [] [] → HasRestored m' boot moment ps [])
    → ((boot moment : ℕ) (qs : List PreparedBranch) → Pairwise named_before ds → AllByRecursion (λ e. is_prepared e.xid qs ≡ false) ds → HasRestored m' boot moment qs [] → HasRestored m'' boot moment qs ds)
    → IsRestored d next s → s.moment ≡ moment → BranchesStandFor m'' s
branches_stand d next moment s ps ds m m' m'' p e start prepares completes h now =
    let form = restored_form d next s h in
    let first = prepares next moment (subst (λ (qs : List PreparedBranch). Pairwise named_apart qs) (sym p) form.distinct) start in
    let at : HasRestored m' next moment d.prepared [] = subst (λ (qs : List PreparedBranch). HasRestored m' next moment qs []) p first in
    let second = completes next moment d.prepared (subst (λ (es : List Decided). Pairwise named_before es) (sym e) form.decided)
    (subst (λ (es : List Decided). AllByRecursion (λ e. is_prepared e.xid d.prepared ≡ false) es) (sym e) form.unknown) at in
    let at_now : HasRestored m'' next moment d.prepared d.decided = subst (λ (es : List Decided). HasRestored m'' next moment d.prepared es) e second in
    restored_stand m'' d next s (subst (λ (n : ℕ). HasRestored m'' next n d.prepared d.decided) (sym now) at_now) h

pub records_stand : (d : Durable) (next least : ℕ) (s : State) (cs : List CommittedBranch) (ps : List PreparedBranch) (m m' m'' : Records) → cs ≡ d.committed → ps ≡ d.prepared → HaveWrites 0 [] m
    → (AreNew (map (λ c. c.timestamp) cs) [] → Pairwise commits_before cs → HaveWrites 0 [] m → HaveLow least (fold with_committed [] cs) m')
    → ((low : ℕ) (older : List Written) → AreNew (map (λ p. p.timestamp) ps) older → AllByRecursion (λ p. low ≤ p.timestamp) ps → HaveWrites low older m' → HaveWrites low (fold with_prepared older ps) m'')
    → (Pairwise prepares_before ps → AllByRecursion (λ p. least ≤ p.timestamp) ps) → least ≤ timestamp_of next 0
    → IsRestored d next s → RecordsStandFor (history_of s) m''
records_stand d next least s cs ps m m' m'' c p start commits prepares below past h =
    let form = restored_form d next s h in
    let first : HaveLow least (fold with_committed [] cs) m' =
    commits (subst (λ (bs : List CommittedBranch). AreNew (map (λ c. c.timestamp) bs) []) (sym c) (committed_new (next + 1) d.committed form.committed form.committed_past)) (subst (λ (bs : List CommittedBranch). Pairwise commits_before bs) (sym c) form.committed) start in
    let low : ℕ = first.0 in
    let at : HaveWrites low (fold with_committed [] d.committed) m' = subst (λ (bs : List CommittedBranch). HaveWrites low (fold with_committed [] bs) m') c first.2 in
    let second = prepares low (fold with_committed [] d.committed)
    (subst (λ (qs : List PreparedBranch). AreNew (map (λ p. p.timestamp) qs) (fold with_committed [] d.committed)) (sym p) (prepared_new (next + 1) d.committed d.prepared form.prepared form.prepared_past form.apart))
    (low_above low least ps first.1 (below (subst (λ (qs : List PreparedBranch). Pairwise prepares_before qs) (sym p) form.prepared))) at in
    stands_restored d next s m'' low h (omega (arith, first.1, past)) (subst (λ (qs : List PreparedBranch). HaveWrites low (fold with_prepared (fold with_committed [] d.committed) qs) m'') p second)
