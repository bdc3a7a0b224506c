-- What holds of all tokens, between any two steps.
use Rattle.std.specs.Prelude.{ℕ, ◌≡◌, ◌+◌, ◌≤◌, true, List, [], ◌∷◌, length, sum_by}
use mathlib.Core.Option.{some}
use lib.ListN.{get_elem?}
use Rattle.xa_tokens.specs.declared.ask.Ask.{Ask}
use Rattle.xa_tokens.specs.declared.receipt.Receipt.{Receipt}
use Rattle.xa_tokens.specs.declared.view.View.{View}
use Rattle.xa_tokens.specs.Believed.Receipts.{AreNumbered}
use Rattle.xa_tokens.specs.Believed.View.{all_parts}

-- they stand among the first n entries
abbrev pub StandWithin : ℕ → List Receipt → Type 0
StandWithin n [] = Unit {0}
StandWithin n (r ∷ rs) = (r.reply.place ≤ n) × StandWithin n rs

-- each was asked after one of the first n entries, or after none
abbrev pub AskedWithin : ℕ → List Ask → Type 0
AskedWithin n [] = Unit {0}
AskedWithin n (a ∷ rest) = (a.after ≤ n) × AskedWithin n rest

-- One token at most knows the history, whose places count on from 1. However entries are weighed, those that tokens
-- were told weigh what the history does: each entry is somebody's, once. However asks are weighed, those that were made
-- weigh what the tickets do, what was given up, and the asks of the history: each ask is carried out at most once, and
-- nothing else is. Who has no part has asked nothing. What was told, and what was asked after, stands in the history
-- already.
pub record Kept (views : List View) : Type 0 where
  pub seat : ℕ
  pub history : List Receipt
  pub knows : (by : ℕ) (v : View) → get_elem? views by ≡ some v → v.keeps ≡ true → (by ≡ seat) × (v.history ≡ history)
  pub numbered : AreNumbered 0 history
  pub told : (weigh : Receipt → ℕ) → sum_by (λ v. sum_by weigh v.told) views ≡ sum_by weigh history
  pub asked : (weigh : Ask → ℕ) → sum_by (λ v. sum_by weigh v.asked) views
      ≡ sum_by (λ v. sum_by weigh v.tickets) views + sum_by (λ v. sum_by weigh v.given_up) views
      + sum_by (λ r. weigh r.ask) history
  pub parts : sum_by (λ v. v.parts) views ≡ all_parts
  pub idle : (by : ℕ) (v : View) → get_elem? views by ≡ some v → v.parts ≡ 0 → (v.asked ≡ []) × (v.given_up ≡ [])
  pub placed : (by : ℕ) (v : View) → get_elem? views by ≡ some v
      → StandWithin (length history) v.told × AskedWithin (length history) v.tickets
