-- The calls of a scan are answered the first of the XIDs that recovery lists.
use Rattle.std.proofs.Common.{◌≡◌, ℕ, zero, suc, ◌+◌, ◌≤◌, ◌==◌, Bool, true, false, not, ◌&&◌, cond, List, [], ◌∷◌, ◌++◌, length, map, take, drop, Option, Some, None, refl, ap, sym, ◌∙◌, subst, arith, take-add, take_all}
use Rattle.std.specs.Prelude.{filter, is_none, is_some, nat_lt, option_and_then, option_map}
use Rattle.std.specs.List.{AllByRecursion}
use Rattle.std.proofs.lemmas.Bool.Decides.{nat_tests}
use Rattle.std.proofs.lemmas.List.{append-nil, length-take}
use Rattle.std.proofs.lemmas.List.Sums.{sum_by-cons}
use Rattle.xa_codes.specs.Flags.{has, legal}
use Rattle.xa_codes.specs.declared.call.Call.TheVariants as call
use Rattle.xa_codes.specs.declared.codes.TheConstants.{XAER_PROTO, XAER_RMFAIL, XAER_ASYNC, XAER_INVAL}
use Rattle.xa_codes.specs.declared.flags.TheConstants.{TMNOFLAGS, TMSTARTRSCAN, TMENDRSCAN}
use Rattle.xa_frame.specs.declared.body.Body.TheVariants as body
use Rattle.xa_frame.specs.declared.reply.Reply.{Reply}
use Rattle.xa_frame.specs.declared.request.Request.{Request}
use Rattle.xa_frame.specs.declared.request.Request.TheVariants.{Recover}
use Rattle.xa_limits.specs.declared.TheConstants.{MOST_XIDS}
use Rattle.xa_xid.specs.Triple.{Triple}
use Rattle.xa_model.specs.declared.event.Event.TheVariants as event
use Rattle.xa_model.specs.declared.outcome.Outcome.TheVariants.{Quiet}
use Rattle.xa_model.specs.State.{State, Session, Up, session_of}
use Rattle.xa_codes.specs.declared.detail.Detail.TheVariants as detail
use Rattle.xa_model.specs.Answer.{Answer, plain, detailed, first}
use Rattle.xa_model.specs.Early.{early_refusal, passes_down, call_of, needs_open, is_opened, is_async, flags_of, is_invalid, Context}
use Rattle.xa_model.specs.Durable.{Durable, Pairwise, durable}
use Rattle.xa_model.specs.Listed.{is_above, lasting_names, listed, list_after}
use Rattle.xa_model.specs.Recovering.{scan_of, scan_from, moved, scan_after, with_scan, scanning, listing, recovered, recovered_from, recover_by}
use Rattle.xa_model.specs.Turn.{Turn, Asked, Now, taken, unless_now}
use Rattle.xa_model.specs.Step.{respond, asked, turn, step, opened_of, is_up, context_of, further_record}
use Rattle.xa_model.specs.History.{Steps, Leads}
use Rattle.xa_model.specs.ScanLaw.{Portion, recovers, asked_for, answered, ListedAscends, ScanListsFirst, ScanListsAll, ScanIsAnswered}
use Rattle.xa_model.proofs.InOrder.{below, below_transitive, below_strict, ordered_pairwise, above_more}
use Rattle.xa_model.proofs.Inserts.{all_imply, filter_all, filter_keeps}
use Rattle.xa_model.proofs.Lists.{find_change_same}
use Rattle.xa_model.proofs.Further.{turns_up}
use Rattle.xa_model.proofs.Replies.{AllOf, asked_all, joins_all, taken_all}
use Rattle.xa_model.proofs.Soundness.{reached}

pub listed_ascends : ListedAscends
listed_ascends d = ordered_pairwise (lasting_names d)

-- those above the first one that is above are the others after it

not_both : (x y : Triple) (c : Bool) → below x y ≡ c → below y x ≡ true → c ≡ false
not_both x y true e less = absurd (cc (below_transitive.trans x y x e less, below_strict.never x))
not_both x y false e less = refl

rest_above_by : (after : Option Triple) (x y : Triple) (rest ys : List Triple) (c : Bool) → is_above after y ≡ c → AllByRecursion (λ z. below y z ≡ true) ys
    → cond c (y ∷ filter (is_above after) ys) (filter (is_above after) ys) ≡ x ∷ rest
    → (filter (is_above after) ys ≡ x ∷ rest → filter (is_above (Some x)) ys ≡ rest)
    → filter (is_above (Some x)) (y ∷ ys) ≡ rest
rest_above_by after x y rest ys true e h is ih =
    let same : y ≡ x = cc is in
    let behind : filter (is_above after) ys ≡ rest = cc is in
    let all : filter (is_above after) ys ≡ ys
    = filter_all (is_above after) ys (all_imply (λ z. below y z ≡ true) (λ z. is_above after z ≡ true) (λ z less. above_more after y z e less) ys h) in
    let others : filter (is_above (Some y)) ys ≡ ys = filter_all (is_above (Some y)) ys h in
    subst (λ (z : Triple). filter (is_above (Some z)) (y ∷ ys) ≡ rest) same (rw (below_strict.never y) (others ∙ (sym all ∙ behind)))
rest_above_by after x y rest ys false e h is ih =
    let less : below y x ≡ true = (subst (AllByRecursion (λ z. below y z ≡ true)) is (filter_keeps (λ z. below y z ≡ true) (is_above after) ys h)).0 in
    let other : below x y ≡ false = not_both x y (below x y) refl less in
    rw other (ih is)

rest_above : (after : Option Triple) (x : Triple) (rest xs : List Triple) → Pairwise below xs → filter (is_above after) xs ≡ x ∷ rest
    → filter (is_above (Some x)) xs ≡ rest
rest_above after x rest [] h is = absurd (cc is)
rest_above after x rest (y ∷ ys) h is = rest_above_by after x y rest ys (is_above after y) refl h.0 is (rest_above after x rest ys h.1)

-- so a cursor that moved past the first of those above it has the rest above it
moved_above : (n : ℕ) (after : Option Triple) (xs fs : List Triple) → Pairwise below xs → filter (is_above after) xs ≡ fs
    → filter (is_above (moved after (take n fs))) xs ≡ drop n fs
moved_above zero after xs fs h is = is
moved_above (suc n) after xs [] h is = is
moved_above (suc n) after xs (x ∷ fs) h is = moved_above n (Some x) xs fs h (rest_above after x fs xs h is)

all_above : (xs : List Triple) → filter (is_above None) xs ≡ xs
all_above [] = refl
all_above (x ∷ xs) = ap (λ (ys : List Triple). x ∷ ys) (all_above xs)

-- a refusal lists nothing

refused_by : (P : Reply → Type 0) (c : Bool) (r reply : Reply) (rest : Option Reply) → P r → (rest ≡ Some reply → P reply) → cond c (Some r) rest ≡ Some reply
    → P reply
refused_by P true r reply rest p others e = let same : r ≡ reply = cc e in subst P same p
refused_by P false r reply rest p others e = others e

refused : (P : Reply → Type 0) (checks : List (Bool × Reply)) (reply : Reply) → AllByRecursion (λ c. P c.1) checks → first checks ≡ Some reply → P reply
refused P [] reply h e = absurd (cc e)
refused P (check ∷ checks) reply h e = refused_by P check.0 check.1 reply (first checks) h.0 (refused P checks reply h.1) e

early_bare : (c : Context) (request : Request) (reply : Reply) → early_refusal c request ≡ Some reply → reply.body ≡ body.Nothing
early_bare c request reply e =
    refused (λ r. r.body ≡ body.Nothing) (
    (not c.up && not (passes_down (call_of request)), plain XAER_RMFAIL)
    ∷ (is_none c.session, plain XAER_PROTO)
    ∷ (needs_open (call_of request) && not (is_opened c.session), plain XAER_PROTO)
    ∷ (is_async (call_of request) (flags_of request), plain XAER_ASYNC)
    ∷ (is_invalid c.name c.moment request, plain XAER_INVAL)
    ∷ []) reply (refl, (refl, (refl, (refl, (refl, tt))))) e

no_list : (reply : Reply) (xids : List Triple) → reply.body ≡ body.Nothing → reply ≡ listing xids → ⊥
no_list reply xids bare e = let same = ap (λ (r : Reply). r.body) e in cc (bare, same)

-- a call that is answered with XIDs goes on from a cursor
record Went (s : State) (n flags count : ℕ) (xids : List Triple) (t : State) : Type 0 where
  cursor : Option Triple
  connected : is_some (session_of s.sessions n) ≡ true
  from : scan_from flags (scan_of s.sessions n) ≡ Some cursor
  part : xids ≡ list_after cursor count (durable s)
  moves : t ≡ scanning s n (scan_after flags cursor xids)

abbrev Goes : State → ℕ → ℕ → ℕ → List Triple → Answer → Type 0
Goes s n flags count xids a = a.reply ≡ listing xids → Went s n flags count xids a.after

row_goes : (s : State) (n flags count : ℕ) (xids : List Triple) (o : Option (Option Triple)) → is_some (session_of s.sessions n) ≡ true
    → scan_from flags (scan_of s.sessions n) ≡ o
    → Goes s n flags count xids (recovered_from s n flags count o)
row_goes s n flags count xids None there e same = absurd (no_list (plain XAER_INVAL) xids refl same)
row_goes s n flags count xids (Some cursor) there e same =
    let bodies = ap (λ (r : Reply). r.body) same in
    let part : list_after cursor count (durable s) ≡ xids = cc in
    record {
      cursor = cursor;
      connected = there;
      from = e;
      part = sym part;
      moves = ap (λ (ys : List Triple). scanning s n (scan_after flags cursor ys)) part;
    }

call_goes : (s : State) (n flags count : ℕ) (xids : List Triple) (o : Option Reply)
    → early_refusal (context_of s n) (Recover flags count) ≡ o
    → AllOf (Goes s n flags count xids) (unless_now o s (Now (recover_by s n flags count)))
call_goes s n flags count xids (Some reply) e = λ same.
    absurd (no_list reply xids (early_bare (context_of s n) (Recover flags count) reply e) same)
call_goes s n flags count xids None e =
    row_goes s n flags count xids (scan_from flags (scan_of s.sessions n))
    (reached s n (Recover flags count) e) refl

went : (s t : State) (n : ℕ) (p : Portion) → Steps s (recovers n p) t → Went s n p.flags p.count p.xids t
went s t n p steps =
    let e = event.Call n (Recover p.flags p.count) in
    let a : Answer = record { reply = listing p.xids; after = t } in
    let Q = Goes s n p.flags p.count p.xids in
    taken_all Q (turn s (Asked e)) Quiet a
    (joins_all Q s (further_record s e) (asked s.standing (respond s e))
    (asked_all Q s.standing (respond s e)
    (call_goes s n p.flags p.count p.xids (early_refusal (context_of s n) (Recover p.flags p.count)) refl))
    (λ r found same. absurd (no_list (detailed XAER_RMFAIL detail.Device) p.xids refl same))) steps refl

-- where it leaves the scan

scan_stays : (s : State) (n : ℕ) (scan : Option (Option Triple)) → is_some (session_of s.sessions n) ≡ true → scan_of (scanning s n scan).sessions n ≡ scan
scan_stays s n scan there =
    ap (option_and_then (λ (x : Session). x.scan)) (find_change_same (λ (x : Session). x.number == n) (with_scan scan) (λ x e. e) s.sessions)
    ∙ by_session (session_of s.sessions n) there
  where
    by_session : (o : Option Session) → is_some o ≡ true → option_and_then (λ x. x.scan) (option_map (with_scan scan) o) ≡ scan
    by_session None e = absurd (cc e)
    by_session (Some x) e = refl

kept_scan : (c : Bool) (scan o : Option (Option Triple)) → c ≡ false → cond c (Some None) scan ≡ o → scan ≡ o
kept_scan true scan o e is = absurd (cc e)
kept_scan false scan o e is = is

begun_scan : (c : Bool) (scan : Option (Option Triple)) (cursor : Option Triple) → c ≡ true → cond c (Some None) scan ≡ Some cursor → cursor ≡ None
begun_scan true scan cursor e is = cc is
begun_scan false scan cursor e is = absurd (cc e)

-- The calls after one that leaves this scan: none is answered with XIDs where it is over. Else they are answered the first of those above
-- the cursor.
abbrev GoOn : Durable → List Portion → Option (Option Triple) → Type 0
GoOn d portions None = portions ≡ []
GoOn d portions (Some cursor) = answered portions ≡ take (asked_for portions) (filter (is_above cursor) (listed d))

none_go_on : (d : Durable) (scan : Option (Option Triple)) → GoOn d [] scan
none_go_on d None = refl
none_go_on d (Some cursor) = refl

joined : (d : Durable) (count : ℕ) (cursor : Option Triple) (xids : List Triple) (ps : List Portion) (c : Bool)
    → xids ≡ take count (filter (is_above cursor) (listed d)) → GoOn d ps (cond c None (Some (moved cursor xids)))
    → xids ++ answered ps ≡ take (count + asked_for ps) (filter (is_above cursor) (listed d))
joined d count cursor xids ps true part none =
    let all = filter (is_above cursor) (listed d) in
    let asked : asked_for ps ≡ 0 = ap asked_for none in
    let same : count + asked_for ps ≡ count = omega (arith, asked) in
    ap (λ (qs : List Portion). xids ++ answered qs) none ∙ (append-nil xids ∙ (part ∙ ap (λ (k : ℕ). take k all) (sym same)))
joined d count cursor xids ps false part rest =
    let all = filter (is_above cursor) (listed d) in
    let left : filter (is_above (moved cursor xids)) (listed d) ≡ drop count all
    = ap (λ (ys : List Triple). filter (is_above (moved cursor ys)) (listed d)) part ∙ moved_above count cursor (listed d) all (listed_ascends d) refl in
    ap (λ (ys : List Triple). ys ++ answered ps) part
    ∙ (ap (λ (ys : List Triple). take count all ++ ys) (rest ∙ ap (take (asked_for ps)) left) ∙ sym (take-add count (asked_for ps) all))

portion_lists : (s t : State) (n : ℕ) (p : Portion) (ps : List Portion) (w : Went s n p.flags p.count p.xids t) → GoOn (durable t) ps (scan_of t.sessions n)
    → answered (p ∷ ps) ≡ take (asked_for (p ∷ ps)) (filter (is_above w.cursor) (listed (durable s)))
portion_lists s t n p ps w rest =
    let scan = scan_after p.flags w.cursor p.xids in
    let after : GoOn (durable s) ps (scan_of (scanning s n scan).sessions n) = subst (λ (x : State). GoOn (durable x) ps (scan_of x.sessions n)) w.moves rest in
    let next : GoOn (durable s) ps scan = subst (GoOn (durable s) ps) (scan_stays s n scan w.connected) after in
    joined (durable s) p.count w.cursor p.xids ps (has p.flags TMENDRSCAN) w.part next
    ∙ ap (λ (k : ℕ). take k (filter (is_above w.cursor) (listed (durable s)))) (sym (sum_by-cons (λ (q : Portion). q.count) p ps))

go_on : (s last : State) (n : ℕ) (portions : List Portion) → AllByRecursion (λ p. has p.flags TMSTARTRSCAN ≡ false) portions
    → Leads s (map (recovers n) portions) last
    → GoOn (durable s) portions (scan_of s.sessions n)
go_on s last n [] others leads = none_go_on (durable s) (scan_of s.sessions n)
go_on s last n (p ∷ ps) others leads =
    let w = went s leads.0 n p leads.1 in
    let from : scan_of s.sessions n ≡ Some w.cursor = kept_scan (has p.flags TMSTARTRSCAN) (scan_of s.sessions n) (Some w.cursor) others.0 w.from in
    subst (GoOn (durable s) (p ∷ ps)) (sym from) (portion_lists s leads.0 n p ps w (go_on leads.0 last n ps others.1 leads.2))

pub scan_lists_first : ScanListsFirst
scan_lists_first s last n [] one leads = refl
scan_lists_first s last n (p ∷ ps) one leads =
    let w = went s leads.0 n p leads.1 in
    let start : w.cursor ≡ None = begun_scan (has p.flags TMSTARTRSCAN) (scan_of s.sessions n) w.cursor one.0 w.from in
    let all : filter (is_above w.cursor) (listed (durable s)) ≡ listed (durable s)
    = ap (λ (c : Option Triple). filter (is_above c) (listed (durable s))) start ∙ all_above (listed (durable s)) in
    portion_lists s leads.0 n p ps w (go_on leads.0 last n ps one.1 leads.2) ∙ ap (take (asked_for (p ∷ ps))) all

pub scan_lists_all : ScanListsAll
scan_lists_all s last n portions one leads fewer =
    let is = scan_lists_first s last n portions one leads in
    let short = ap length is ∙ length-take (asked_for portions) (listed (durable s)) in
    is ∙ take_all (asked_for portions) (listed (durable s)) (omega (arith, short, fewer))

-- a scan is answered, whatever its calls ask for

allowed : (c : Context) (flags count : ℕ) → c.up ≡ true → c.session ≡ Some true → legal call.Recover flags ≡ true → nat_lt MOST_XIDS count ≡ false
    → early_refusal c (Recover flags count) ≡ None
allowed c flags count e opened fine few = rw (e, opened, fine, few) refl

taken_up : (s : State) (a : Answer) (o : Option Reply) → o ≡ None → taken (unless_now o s (Now a)) Quiet ≡ Some a
taken_up s a None none = refl
taken_up s a (Some reply) none = absurd (cc none)

call_answered : (s : State) (n flags count : ℕ) (cursor : Option Triple) → s.standing ≡ Up → opened_of s n ≡ Some true → legal call.Recover flags ≡ true → count ≤ MOST_XIDS
    → scan_from flags (scan_of s.sessions n) ≡ Some cursor
    → step s (Asked (event.Call n (Recover flags count))) Quiet ≡ Some (recovered s n flags count cursor)
call_answered s n flags count cursor up opened fine few from =
    let within : nat_lt MOST_XIDS count ≡ false = grind (arith, nat_tests) in
    let passes = allowed (context_of s n) flags count (ap is_up up) opened fine within in
    ap (λ (t : Turn). taken t Quiet) (turns_up s (event.Call n (Recover flags count)) up)
    ∙ taken_up s (recover_by s n flags count) (early_refusal (context_of s n) (Recover flags count)) passes
    ∙ ap (λ (o : Option (Option Triple)). Some (recovered_from s n flags count o)) from

is_seated : (o : Option Session) → option_map (λ x. x.opened) o ≡ Some true → is_some o ≡ true
is_seated None e = absurd (cc e)
is_seated (Some x) e = refl

opened_stays : (s : State) (n : ℕ) (scan : Option (Option Triple)) → opened_of (scanning s n scan) n ≡ opened_of s n
opened_stays s n scan =
    ap (option_map (λ (x : Session). x.opened)) (find_change_same (λ (x : Session). x.number == n) (with_scan scan) (λ x e. e) s.sessions)
    ∙ by_session (session_of s.sessions n)
  where
    by_session : (o : Option Session) → option_map (λ x. x.opened) (option_map (with_scan scan) o) ≡ option_map (λ x. x.opened) o
    by_session None = refl
    by_session (Some x) = refl

answered_on : (s : State) (n : ℕ) (cursor : Option Triple) (counts : List ℕ) → s.standing ≡ Up → opened_of s n ≡ Some true → scan_of s.sessions n ≡ Some cursor
    → AllByRecursion (λ c. c ≤ MOST_XIDS) counts
    → (portions : List Portion) × (last : State) × (map (λ p. p.count) portions ≡ counts) × AllByRecursion (λ p. has p.flags TMSTARTRSCAN ≡ false) portions
    × Leads s (map (recovers n) portions) last
answered_on s n cursor [] up opened from few = ([], s, refl, tt, refl)
answered_on s n cursor (count ∷ counts) up opened from few =
    let xids = list_after cursor count (durable s) in
    let scan = Some (moved cursor xids) in
    let next = scanning s n scan in
    let rest = answered_on next n (moved cursor xids) counts up (opened_stays s n scan ∙ opened)
    (scan_stays s n scan (is_seated (session_of s.sessions n) opened)) few.1 in
    let p : Portion = record { flags = TMNOFLAGS; count = count; xids = xids } in
    (p ∷ rest.0, rest.1, ap (λ (cs : List ℕ). count ∷ cs) rest.2, (refl, rest.3), (next, call_answered s n TMNOFLAGS count cursor up opened refl few.0 from, rest.4))

pub scan_is_answered : ScanIsAnswered
scan_is_answered s n [] up opened few = ([], s, refl, tt, refl)
scan_is_answered s n (count ∷ counts) up opened few =
    let xids = list_after None count (durable s) in
    let scan = Some (moved None xids) in
    let next = scanning s n scan in
    let rest = answered_on next n (moved None xids) counts up (opened_stays s n scan ∙ opened)
    (scan_stays s n scan (is_seated (session_of s.sessions n) opened)) few.1 in
    let p : Portion = record { flags = TMSTARTRSCAN; count = count; xids = xids } in
    (p ∷ rest.0, rest.1, ap (λ (cs : List ℕ). count ∷ cs) rest.2, (refl, rest.3), (next, call_answered s n TMSTARTRSCAN count None up opened refl few.0 refl, rest.4))
