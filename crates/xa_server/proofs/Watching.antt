-- What loops have seen of whether the manager is down is what its history says.
use Rattle.std.proofs.Common.{◌≡◌, ◌∙◌, ℕ, ◌+◌, ◌<◌, ◌≤◌, zero, suc, arith, Bool, true, false, List, [], ◌∷◌, ◌++◌, Option, Some, None, map, refl, sym, ap, subst, inl, inr, append_assoc, append-nil}
use Rattle.std.specs.Prelude.{sum_by, nat_le, ◌==◌, if◌then◌else◌}
use Rattle.std.proofs.Props.{props}
use Rattle.std.proofs.lemmas.Bool.Decides.{nat_tests}
use Rattle.std.proofs.lemmas.List.Sums.{sum_by-append, sum_by-cons, sum_by_push}
use Rattle.xa_assoc.specs.Refusals.{is_memory}
use Rattle.xa_frame.specs.declared.reply.Reply.{Reply}
use Rattle.xa_frame.specs.declared.request.Request.{Request}
use Rattle.xa_handles.specs.Believed.Accounts.{AsksAtOnce, Ends, HasAsked}
use Rattle.xa_handles.specs.Owing.{owes_asked, owes_ended}
use Rattle.xa_handles.specs.Believed.Shared.{CalledBy}
use Rattle.xa_handles.specs.Believed.Standing.{shown}
use Rattle.xa_history.specs.Believed.Manages.{Behaviour}
use Rattle.xa_history.specs.declared.receipt.Receipt as entry
use Rattle.xa_model.specs.State.{State}
use Rattle.xa_model.specs.declared.event.Event.{Event}
use Rattle.xa_reactor.proofs.Telling.{memory_tells}
use Rattle.xa_reactor.specs.Believed.Down.{after_reply, after_told, last_of, seen_at, tells_down, unseen}
use Rattle.xa_reactor.specs.declared.seen.Seen.{Seen}
use Rattle.xa_server.specs.Believed.Watching.{IsSeenLast, after_entry, at_weight, behind_weight, down_by, is_down_after, is_restart, seen_from, seen_of, tells, told_in}
use Rattle.xa_tokens.specs.Believed.Account.{Account, Owes}
use Rattle.xa_tokens.specs.Believed.Receipts.{AreNumbered, AreSame, receipt_of}
use Rattle.xa_tokens.specs.declared.ask.Ask.{Ask}
use Rattle.xa_tokens.specs.declared.receipt.Receipt.{Receipt}

-- ---- one entry more

seen_more : (s : Seen) (rs : List Receipt) (r : Receipt) → seen_from s (rs ++ r ∷ []) ≡ after_entry (seen_from s rs) r
seen_more s [] r = refl
seen_more s (q ∷ rs) r = seen_more (after_entry s q) rs r

told_ended : (is_none : Bool) (before new : Account) (ask : Ask) (reply : Reply) → Ends is_none before ask reply new
    → (is_none ≡ true → tells ask.event reply ≡ None)
    → seen_of new.told ≡ after_told (seen_of before.told) reply.place (tells ask.event reply)
told_ended true before new ask reply h none =
    ap (λ (a : Account). seen_of a.told) h ∙ ap (λ (n : Option Bool). after_told (seen_of before.told) reply.place n) (sym (none refl))
told_ended false before new ask reply h none =
    ap (λ (a : Account). seen_of a.told) h.0 ∙ seen_more unseen before.told (receipt_of ask reply)

told_asked : (old before : Account) (ask : Ask) → HasAsked old ask before → seen_of before.told ≡ seen_of old.told
told_asked old before ask (inl h) = ap (λ (a : Account). seen_of a.told) h.1
told_asked old before ask (inr h) = ap (λ (a : Account). seen_of a.told) h.0

pub seen_called : {M : Type 0} (m : Behaviour M) (start : State → Type 0) (base : ℕ × ℕ) (session : ℕ) (old : Account) (request : Request)
    (reply : Reply) (new : Account) → CalledBy m start base session old request reply new
    → seen_of new.told ≡ after_reply (seen_of old.told) (is_restart request) reply
seen_called m start base session old request reply new h =
    let news : tells h.ask.event reply ≡ tells_down (is_restart request) reply = ap (λ (e : Event). tells e reply) h.event in
    told_ended (is_memory reply.detail) h.before new h.ask reply h.ends (λ h. news ∙ memory_tells (is_restart request) reply h)
    ∙ (ap (λ (s : Seen). after_told s reply.place (tells h.ask.event reply)) (told_asked old h.before h.ask h.asked)
    ∙ ap (λ (n : Option Bool). after_told (seen_of old.told) reply.place n) news)

-- what is asked and told at once
pub seen_at_once : (is_none : Bool) (old new : Account) (event : Event) (reply : Reply) → AsksAtOnce is_none old event reply new
    → tells event reply ≡ None → seen_of new.told ≡ seen_of old.told
seen_at_once true old new event reply h none = ap (λ (a : Account). seen_of a.told) h
seen_at_once false old new event reply h none =
    ap (λ (a : Account). seen_of a.told) h.0
    ∙ (seen_more unseen old.told _ ∙ ap (λ (n : Option Bool). after_told (seen_of old.told) reply.place n) none)

-- what a loop has seen once the reply is, by what it had seen before the call
pub seen_then : {M : Type 0} (m : Behaviour M) (start : State → Type 0) (base : ℕ × ℕ) (session : ℕ) (old : Account) (request : Request)
    (reply : Reply) (new : Account) (before after : Seen) (restarts : Bool) → CalledBy m start base session old request reply new
    → before ≡ seen_of old.told → restarts ≡ is_restart request → after ≡ after_reply before restarts reply → after ≡ seen_of new.told
seen_then m start base session old request reply new before after restarts called kept is saw =
    saw
    ∙ (ap (λ (s : Seen). after_reply s restarts reply) kept
    ∙ (ap (λ (b : Bool). after_reply (seen_of old.told) b reply) is
    ∙ sym (seen_called m start base session old request reply new called)))

-- who owed nothing owes nothing after a call
pub called_owes : {M : Type 0} (m : Behaviour M) (start : State → Type 0) (base : ℕ × ℕ) (session : ℕ) (old : Account) (request : Request)
    (reply : Reply) (new : Account) → CalledBy m start base session old request reply new → Owes old 0 → Owes new 0
called_owes m start base session old request reply new h owes =
    owes_ended (is_memory reply.detail) h.before new h.ask reply 0 h.ends (owes_asked old h.before h.ask h.asked owes)

seen_set : IsSet Seen
seen_set = hlevel props

pub one_proof : (x y : Seen) (p q : x ≡ y) → p ≡ q
one_proof x y p q = seen_set x y p q

-- ---- which one stands last

none_weaker : (f h : Receipt → ℕ) → ((r : Receipt) → f r ≡ 0 → h r ≡ 0) → (rs : List Receipt) → sum_by f rs ≡ 0 → sum_by h rs ≡ 0
none_weaker f h each [] none = refl
none_weaker f h each (r ∷ rs) none =
    let one = each r (omega (arith, none, sum_by-cons f r rs)) in
    let others = none_weaker f h each rs (omega (arith, none, sum_by-cons f r rs)) in
    omega (arith, one, others, sum_by-cons h r rs)

behind_more : (p q : ℕ) → p ≤ q → (news : Option Bool) (place : ℕ) → behind_weight p news place ≡ 0 → behind_weight q news place ≡ 0
behind_more p q le None place none = refl
behind_more p q le (Some news) place none = grind (arith, nat_tests, le, none)

abbrev Behind : ℕ → Receipt → ℕ
Behind p r = behind_weight p (told_in r) r.reply.place

abbrev At : Seen → Receipt → ℕ
At s r = at_weight s (told_in r) r.reply.place

behind_all : (p q : ℕ) (rs : List Receipt) → p ≤ q → sum_by (Behind p) rs ≡ 0 → sum_by (Behind q) rs ≡ 0
behind_all p q rs le none =
    none_weaker (Behind p) (Behind q) (λ (r : Receipt) h. behind_more p q le (told_in r) r.reply.place h) rs none

same_self : (b : Bool) (p : ℕ) → at_weight (seen_at p b) (Some b) p ≡ 1
same_self true p = grind (arith, nat_tests)
same_self false p = grind (arith, nat_tests)

one_more : (s : Seen) (rs : List Receipt) (r : Receipt) → IsSeenLast s rs → IsSeenLast (after_entry s r) (rs ++ r ∷ [])
one_more s rs r h = by (told_in r) refl
  where
    still : sum_by (Behind s.place) (rs ++ r ∷ []) ≡ Behind s.place r
    still = sum_by_push (Behind s.place) rs r ∙ omega (arith, h.none)

    kept : behind_weight s.place (told_in r) r.reply.place ≡ 0 → IsSeenLast s (rs ++ r ∷ [])
    kept none = record {
      none = still ∙ none;
      one = elim h.one [ inl is ↦ inl is | inr some ↦ inr (omega (arith, some, sum_by_push (At s) rs r)) ];
    }

    by_place : (news : Bool) → told_in r ≡ Some news → (le : Bool) → nat_le s.place r.reply.place ≡ le
        → IsSeenLast (if le then seen_at r.reply.place (news) else s) (rs ++ r ∷ [])
    by_place news is true le =
        let place = r.reply.place in
        let there : At (seen_at place (news)) r ≡ 1 =
        ap (λ (n : Option Bool). at_weight (seen_at place (news)) n place) is ∙ same_self news place in
        let own : Behind place r ≡ 0 = ap (λ (n : Option Bool). behind_weight place n place) is ∙ grind (arith, nat_tests) in
        let before = behind_all s.place place rs (grind (arith, nat_tests, le)) h.none in
        record {
          none = sum_by_push (Behind place) rs r ∙ omega (arith, own, before);
          one = inr (omega (arith, there, sum_by_push (At (seen_at place (news))) rs r));
        }
    by_place news is false le =
        kept (ap (λ (n : Option Bool). behind_weight s.place n r.reply.place) is ∙ grind (arith, nat_tests, le))

    by : (news : Option Bool) → told_in r ≡ news → IsSeenLast (after_told s r.reply.place (told_in r)) (rs ++ r ∷ [])
    by None is =
        subst (λ (n : Option Bool). IsSeenLast (after_told s r.reply.place n) (rs ++ r ∷ [])) (sym is)
        (kept (ap (λ (n : Option Bool). behind_weight s.place n r.reply.place) is))
    by (Some news) is =
        subst (λ (n : Option Bool). IsSeenLast (after_told s r.reply.place n) (rs ++ r ∷ [])) (sym is)
        (by_place news is (nat_le s.place r.reply.place) refl)

seen_all : (s : Seen) (before rs : List Receipt) → IsSeenLast s before → IsSeenLast (seen_from s rs) (before ++ rs)
seen_all s before [] h = subst (λ (xs : List Receipt). IsSeenLast s xs) (sym (append-nil before)) h
seen_all s before (r ∷ rs) h =
    subst (λ (xs : List Receipt). IsSeenLast (seen_from (after_entry s r) rs) xs) (append_assoc before (r ∷ []) rs)
    (seen_all (after_entry s r) (before ++ r ∷ []) rs (one_more s before r h))

pub seen_last : (told : List Receipt) → IsSeenLast (seen_of told) told
seen_last told = seen_all unseen [] told (record { none = refl; one = inl refl })

-- what two have seen
pub both_last : (s t : Seen) (xs ys : List Receipt) → IsSeenLast s xs → IsSeenLast t ys → IsSeenLast (last_of s t) (xs ++ ys)
both_last s t xs ys h k = by (nat_le s.place t.place) refl
  where
    by : (le : Bool) → nat_le s.place t.place ≡ le → IsSeenLast (if le then t else s) (xs ++ ys)
    by true le =
        let others = behind_all s.place t.place xs (grind (arith, nat_tests, le)) h.none in
        record {
          none = sum_by-append (Behind t.place) xs ys ∙ omega (arith, others, k.none);
          one = elim k.one [ inl is ↦ inl is | inr some ↦ inr (omega (arith, some, sum_by-append (At t) xs ys)) ];
        }
    by false le =
        let others = behind_all t.place s.place ys (grind (arith, nat_tests, le)) k.none in
        record {
          none = sum_by-append (Behind s.place) xs ys ∙ omega (arith, others, h.none);
          one = elim h.one [ inl is ↦ inl is | inr some ↦ inr (omega (arith, some, sum_by-append (At s) xs ys)) ];
        }

-- ---- by the history

abbrev IsDownAfter : Bool → List Receipt → Bool
IsDownAfter was rs = is_down_after was (map shown rs)

tells_none : (p place : ℕ) (news : Option Bool) → p < place → behind_weight p news place ≡ 0 → news ≡ None
tells_none p place None lt none = refl
tells_none p place (Some news) lt none = absurd (grind (arith, nat_tests, lt, none))

none_behind : (k p : ℕ) (was : Bool) (rs : List Receipt) → p ≤ k → AreNumbered k rs → sum_by (Behind p) rs ≡ 0 → IsDownAfter was rs ≡ was
none_behind k p was [] le numbered none = refl
none_behind k p was (r ∷ rs) le numbered none =
    let is : told_in r ≡ None = tells_none p r.reply.place (told_in r) (omega (arith, le, numbered.0)) (omega (arith, none, sum_by-cons (Behind p) r rs)) in
    ap (λ (n : Option Bool). is_down_after (down_by was n) (map shown rs)) is
    ∙ none_behind (k + 1) p was rs (omega (arith, le)) numbered.1 (omega (arith, none, sum_by-cons (Behind p) r rs))

tells_this : (s : Seen) (place : ℕ) (news : Option Bool) → 0 < at_weight s news place
    → (n : Bool) × (news ≡ Some n) × (s.place ≡ place) × (s.is_down ≡ n)
tells_this s place None some = absurd (omega (arith, some))
tells_this s place (Some n) some =
    let these = by (s.place == place) refl s.is_down refl n refl in
    (n, refl, these.0, these.1)
  where
    by : (same : Bool) → (s.place == place) ≡ same → (b : Bool) → s.is_down ≡ b → (c : Bool) → n ≡ c
        → (s.place ≡ place) × (s.is_down ≡ n)
    by true is true b true c = (grind (arith, nat_tests, is), b ∙ sym c)
    by true is false b false c = (grind (arith, nat_tests, is), b ∙ sym c)
    by same is x b y c = absurd (grind (arith, nat_tests, is, b, c, some))

one_tells : (k : ℕ) (s : Seen) (was : Bool) (rs : List Receipt) → AreNumbered k rs → sum_by (Behind s.place) rs ≡ 0 → 0 < sum_by (At s) rs
    → IsDownAfter was rs ≡ s.is_down
one_tells k s was [] numbered none some = absurd (omega (arith, some))
one_tells k s was (r ∷ rs) numbered none some =
    by (sum_by (At s) rs) refl
    (λ left. one_tells (k + 1) s (down_by was (told_in r)) rs numbered.1 (omega (arith, none, sum_by-cons (Behind s.place) r rs)) left)
  where
    rest : sum_by (Behind s.place) rs ≡ 0
    rest = omega (arith, none, sum_by-cons (Behind s.place) r rs)

    by : (n : ℕ) → sum_by (At s) rs ≡ n → (0 < sum_by (At s) rs → IsDownAfter (down_by was (told_in r)) rs ≡ s.is_down)
        → IsDownAfter was (r ∷ rs) ≡ s.is_down
    by zero is later =
        let this = tells_this s r.reply.place (told_in r) (omega (arith, some, is, sum_by-cons (At s) r rs)) in
        ap (λ (n : Option Bool). is_down_after (down_by was n) (map shown rs)) this.1
        ∙ (none_behind (k + 1) s.place this.0 rs (omega (arith, this.2, numbered.0)) numbered.1 rest ∙ sym this.3)
    by (suc n) is later = later (omega (arith, is))

numbered_down : (s : Seen) (rs : List Receipt) → AreNumbered 0 rs → IsSeenLast s rs → s.is_down ≡ IsDownAfter false rs
numbered_down s rs numbered h =
    elim h.one [
      | inl is ↦
          ap (λ (t : Seen). t.is_down) is
          ∙ sym (none_behind 0 0 false rs (omega arith) numbered (subst (λ (t : Seen). sum_by (Behind t.place) rs ≡ 0) is h.none))
      | inr some ↦ sym (one_tells 0 s false rs numbered h.none some)
    ]

-- what all loops have seen together is what the history's entries, which they were told, come to
pub history_down : (s : Seen) (history told : List Receipt) (entries : List entry.Receipt) → AreSame history told → AreNumbered 0 history
    → entries ≡ map shown history → IsSeenLast s told → s.is_down ≡ is_down_after false entries
history_down s history told entries same numbered are h =
    numbered_down s history numbered (record {
      none = same (Behind s.place) ∙ h.none;
      one = elim h.one [ inl is ↦ inl is | inr some ↦ inr (omega (arith, some, same (At s))) ];
    })
    ∙ ap (λ (es : List entry.Receipt). is_down_after false es) (sym are)
