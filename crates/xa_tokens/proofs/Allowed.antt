-- The steps, in the table's terms.
use Rattle.std.proofs.Common.{◌≡◌, ℕ, ◌+◌, ◌<◌, List, [], ◌∷◌, ◌++◌, length, true, refl, sym, subst}
use Rattle.atomic_table.proofs.Lists.{set_again}
use Rattle.atomic_table.specs.Table.{State, Me, Splits, Joins, Allows, keeps}
use Rattle.xa_tokens.specs.declared.ask.Ask.{Ask}
use Rattle.xa_tokens.specs.declared.receipt.Receipt.{Receipt}
use Rattle.xa_tokens.specs.declared.view.View.{View}
use Rattle.xa_tokens.specs.Believed.Account.{HasHistory, IsWithin, Owes, account_of}
use Rattle.xa_tokens.specs.Believed.Receipts.{IsInOrder, last_or}
use Rattle.xa_tokens.specs.Believed.Rule.{Kept}
use Rattle.xa_tokens.specs.Steps.{answering, asking, giving_up, joined, withdrawing}
use Rattle.xa_tokens.specs.Believed.View.{all_parts, no_view}
use Rattle.xa_tokens.proofs.Audited.{has_history, is_within}
use Rattle.xa_tokens.proofs.Keeps.{Cuts, answers, asked_before, asks, cuts, gives, joins, withdraws}

abbrev pub Rule : State (Unit {0}) View → Type 0
Rule s = Kept s.views

pub splits : (id : ℕ) (v left right : View) → Cuts v left right → Splits Rule id v left right
splits id v left right c s k at = cuts s.views id v left right c k at

pub merges : (id : ℕ) (v : View) (other : ℕ) (w : View) → Joins Rule id v other w (joined v w) no_view
merges id v other w s k at apart there = joins s.views id v other w apart k at there

pub may_ask : (slots id : ℕ) (me : Me (Unit {0}) View) (i : ℕ) (a : Ask) → 0 < me.0.parts → a.after ≡ last_or 0 me.0.told
    → Allows Rule slots id me i (λ n. n) (λ _ n. (n.0 ≡ asking a me.0) × (n.1 ≡ me.1))
may_ask slots id me i a some_part last s k homes at small =
    (asking a me.0, keeps, tt, asks s.views id me.0 a some_part last k at, (refl, refl))

pub may_give_up : (slots id : ℕ) (me : Me (Unit {0}) View) (i : ℕ) → 0 < me.0.parts
    → Allows Rule slots id me i (λ n. n) (λ _ n. (n.0 ≡ giving_up me.0) × (n.1 ≡ me.1))
may_give_up slots id me i some_part s k homes at small =
    (giving_up me.0, keeps, tt, gives s.views id me.0 some_part k at, (refl, refl))

pub may_withdraw : (slots id : ℕ) (me : Me (Unit {0}) View) (i : ℕ) (rest : List Ask) (a : Ask) → 0 < me.0.parts → me.0.asked ≡ rest ++ a ∷ [] → me.0.tickets ≡ a ∷ []
    → Allows Rule slots id me i (λ n. n) (λ _ n. (n.0 ≡ withdrawing me.0) × (n.1 ≡ me.1))
may_withdraw slots id me i rest a some_part last ticket s k homes at small =
    (withdrawing me.0, keeps, tt, withdraws s.views id me.0 rest a some_part last ticket k at, (refl, refl))

pub may_answer : (slots id : ℕ) (me : Me (Unit {0}) View) (i : ℕ) (r : Receipt) → me.0.keeps ≡ true → me.0.tickets ≡ r.ask ∷ [] → r.reply.place ≡ length me.0.history + 1
    → Allows Rule slots id me i (λ n. n) (λ _ n. (n.0 ≡ answering r me.0) × (n.1 ≡ me.1) × IsInOrder r)
may_answer slots id me i r kept ticket next s k homes at small =
    (answering r me.0, keeps, tt, answers s.views id me.0 r kept ticket next k at, (refl, refl, asked_before s.views id me.0 r kept ticket next k at))

pub may_audit : (slots id : ℕ) (me : Me (Unit {0}) View) (i : ℕ) → me.0.keeps ≡ true → me.0.parts ≡ all_parts
    → Allows Rule slots id me i (λ n. n) (λ _ n. (n.0 ≡ me.0) × (n.1 ≡ me.1) × (Owes (account_of me.0) 0 → HasHistory me.0.history (account_of me.0)))
may_audit slots id me i kept parts s k homes at small = (
  me.0,
  keeps,
  tt,
  subst Kept (sym (set_again s.views id me.0 at)) k,
  (refl, refl, λ owes. has_history s.views id me.0 kept parts owes k at),
)

pub may_look : (slots id : ℕ) (me : Me (Unit {0}) View) (i : ℕ) → me.0.keeps ≡ true
    → Allows Rule slots id me i (λ n. n) (λ _ n. (n.0 ≡ me.0) × (n.1 ≡ me.1) × IsWithin me.0.history (account_of me.0))
may_look slots id me i kept s k homes at small =
    (me.0, keeps, tt, subst Kept (sym (set_again s.views id me.0 at)) k, (refl, refl, is_within s.views id me.0 kept k at))
