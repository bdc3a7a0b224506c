-- What the rule comes to where one token has everything.
use Rattle.std.proofs.Common.{◌≡◌, ℕ, List, true, sym, ap, ◌∙◌, subst, arith}
use Rattle.std.specs.Prelude.{sum_by}
use mathlib.Core.Option.{some}
use lib.ListN.{get_elem?}
use Rattle.xa_tokens.specs.declared.ask.Ask.{Ask}
use Rattle.xa_tokens.specs.declared.receipt.Receipt.{Receipt}
use Rattle.xa_tokens.specs.declared.view.View.{View}
use Rattle.xa_tokens.specs.Believed.Account.{HasHistory, IsSettled, IsWithin, Owes, account_of}
use Rattle.xa_tokens.specs.Believed.Receipts.{AreNumbered, AreSame}
use Rattle.xa_tokens.specs.Believed.Rule.{Kept}
use Rattle.xa_tokens.specs.Believed.View.{all_parts}
use Rattle.xa_tokens.proofs.Sums.{at_most, has_all, none_else, ones, weigh_none}

-- The keeper that has all parts, and owes nothing, has what it was told as its history: no token but it asked or gave up
-- anything, so as many entries as the history has are its own, and no ticket is left.
pub has_history : (views : List View) (by : ℕ) (v : View) → v.keeps ≡ true → v.parts ≡ all_parts → Owes (account_of v) 0 → Kept views → get_elem? views by ≡ some v
    → HasHistory v.history (account_of v)
has_history views by v keeps parts owes k at = record { told = told; numbered = subst (AreNumbered 0) (sym history) k.numbered; settled = settled }
  where
    each_ask : Ask → ℕ
    each_ask _ = 1

    each : Receipt → ℕ
    each _ = 1

    history : v.history ≡ k.history
    history = (k.knows by v at keeps).1

    asked : (weigh : Ask → ℕ) → sum_by (λ (u : View). sum_by weigh u.asked) views ≡ sum_by weigh v.asked
    asked weigh = has_all (λ (u : View). u.parts) (λ (u : View). sum_by weigh u.asked) views by v at (λ j u e none. ap (λ l. sum_by weigh l) (k.idle j u e none).0) (k.parts ∙ sym parts)

    given_up : (weigh : Ask → ℕ) → sum_by (λ (u : View). sum_by weigh u.given_up) views ≡ sum_by weigh v.given_up
    given_up weigh = has_all (λ (u : View). u.parts) (λ (u : View). sum_by weigh u.given_up) views by v at (λ j u e none. ap (λ l. sum_by weigh l) (k.idle j u e none).1) (k.parts ∙ sym parts)

    counts : (sum_by (λ (u : View). sum_by each u.told) views ≡ sum_by each v.told) × (sum_by (λ (u : View). sum_by each_ask u.tickets) views ≡ 0)
    counts =
        let few = at_most (λ (u : View). sum_by each u.told) views by v at in
        let all_asked = asked each_ask in
        let all_given_up = given_up each_ask in
        let are_told = k.told each in
        let are_asked = k.asked each_ask in
        let n_asked = ones v.asked in
        let n_told = ones v.told in
        let n_given_up = ones v.given_up in (
          omega (arith, few, all_asked, all_given_up, are_told, are_asked, n_asked, n_told, n_given_up, owes),
          omega (arith, few, all_asked, all_given_up, are_told, are_asked, n_asked, n_told, n_given_up, owes),
        )

    told : AreSame v.history v.told
    told weigh =
        let own : sum_by (λ (u : View). sum_by weigh u.told) views ≡ sum_by weigh v.told =
        has_all (λ (u : View). sum_by each u.told) (λ (u : View). sum_by weigh u.told) views by v at (λ j u e none. weigh_none weigh u.told none) counts.0 in
        ap (λ l. sum_by weigh l) history ∙ (sym (k.told weigh) ∙ own)

    settled : IsSettled (account_of v)
    settled weigh =
        let tickets : sum_by (λ (u : View). sum_by weigh u.tickets) views ≡ 0 =
        none_else (λ (u : View). sum_by each_ask u.tickets) (λ (u : View). sum_by weigh u.tickets) views (λ j u e none. weigh_none weigh u.tickets none) counts.1 in
        let answered : sum_by (λ (r : Receipt). weigh r.ask) k.history ≡ sum_by (λ (r : Receipt). weigh r.ask) v.told = ap (λ l. sum_by (λ (r : Receipt). weigh r.ask) l) (sym history) ∙ told (λ r. weigh r.ask) in
        omega (arith, asked weigh, given_up weigh, tickets, answered, k.asked weigh)

-- What the keeper was told weighs no more than what all were told, which is its history.
pub is_within : (views : List View) (by : ℕ) (v : View) → v.keeps ≡ true → Kept views → get_elem? views by ≡ some v → IsWithin v.history (account_of v)
is_within views by v keeps k at =
    let history : v.history ≡ k.history = (k.knows by v at keeps).1 in
    record {
      told = λ weigh. omega (arith, at_most (λ (u : View). sum_by weigh u.told) views by v at, k.told weigh, ap (λ l. sum_by weigh l) history);
      numbered = subst (AreNumbered 0) (sym history) k.numbered;
    }
