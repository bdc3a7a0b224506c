-- Happenings and outcomes have at most one legal history.
use Rattle.std.proofs.Common.{◌≡◌, List, [], ◌∷◌, Option, Some, None, refl, ap, sym, ◌∙◌, subst}
use Rattle.xa_frame.specs.declared.reply.Reply.{Reply}
use Rattle.xa_model.specs.declared.outcome.Outcome.{Outcome}
use Rattle.xa_model.specs.State.{State}
use Rattle.xa_model.specs.Answer.{Answer}
use Rattle.xa_model.specs.Turn.{Happening}
use Rattle.xa_model.specs.Step.{step}
use Rattle.xa_model.specs.History.{Entry, Leads}
use Rattle.xa_model.specs.Laws.{happened}

-- over plain variables, since the tactics would compute the steps
heads : (e f : Happening) (o p : Outcome) (xs ys : List (Happening × Outcome)) → ◌≡◌ {A = List (Happening × Outcome)} ((e, o) ∷ xs) ((f, p) ∷ ys) → (e ≡ f) × (o ≡ p) × (xs ≡ ys)
heads e f o p xs ys h =
    let pair : ◌≡◌ {A = Happening × Outcome} (e, o) (f, p) = cc h in
    (ap (λ (q : Happening × Outcome). q.0) pair, ap (λ (q : Happening × Outcome). q.1) pair, cc h)

abbrev reply_or : Reply → Option Answer → Reply
reply_or r None = r
reply_or r (Some a) = a.reply

abbrev after_or : State → Option Answer → State
after_or m None = m
after_or m (Some a) = a.after

told : (o p : Option Answer) (r q : Reply) (m n : State) → o ≡ p → o ≡ Some (record { reply = r; after = m }) → p ≡ Some (record { reply = q; after = n }) → (r ≡ q) × (m ≡ n)
told o p r q m n e h k =
    let both : Some (record { reply = r; after = m }) ≡ Some (record { reply = q; after = n }) = sym h ∙ e ∙ k in
    (ap (λ (x : Option Answer). reply_or r x) both, ap (λ (x : Option Answer). after_or m x) both)

joined : (e f : Happening) (o p : Outcome) (r q : Reply) (es fs : List Entry) → e ≡ f → o ≡ p → r ≡ q → es ≡ fs
    → ◌≡◌ {A = List Entry} (record { happening = e; outcome = o; reply = r } ∷ es) (record { happening = f; outcome = p; reply = q } ∷ fs)
joined e f o p r q es fs a b c d = cc (a, b, c, d)

pub one_history_law : (first : State) (es fs : List Entry) (last end : State) → happened es ≡ happened fs → Leads first es last → Leads first fs end → (es ≡ fs) × (last ≡ end)
one_history_law first [] [] last end same h k = (refl, h ∙ sym k)
one_history_law first [] (f ∷ fs) last end same h k = absurd (cc same)
one_history_law first (e ∷ es) [] last end same h k = absurd (cc same)
one_history_law first (e ∷ es) (f ∷ fs) last end same h k =
    let p = heads e.happening f.happening e.outcome f.outcome (happened es) (happened fs) same in
    let both : step first e.happening e.outcome ≡ step first f.happening f.outcome = ap (λ (x : Happening). step first x e.outcome) p.0 ∙ ap (λ (o : Outcome). step first f.happening o) p.1 in
    let one = told (step first e.happening e.outcome) (step first f.happening f.outcome) e.reply f.reply h.0 k.0 both h.1 k.1 in
    let more = one_history_law h.0 es fs last end p.2 h.2 (subst (λ (s : State). Leads s fs end) (sym one.1) k.2) in
    (joined e.happening f.happening e.outcome f.outcome e.reply f.reply es fs p.0 p.1 one.0 more.0, more.1)
