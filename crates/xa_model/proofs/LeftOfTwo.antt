-- What a crash may leave of a group of two.
use Rattle.std.proofs.Common.{◌≡◌, ◌⊎◌, inl, inr, [], ◌∷◌, Option, Some, None, sym, ap, subst, ◌∙◌}
use Rattle.std.specs.Prelude.{IsSomeAnd}
use Rattle.xa_model.specs.declared.outcome.Appending.TheVariants.{Lost}
use Rattle.xa_model.specs.declared.outcome.Outcome.TheVariants.{Joined}
use Rattle.xa_model.specs.State.{State}
use Rattle.xa_model.specs.Answer.{Answer}
use Rattle.xa_model.specs.Crash.{lost_of, IsFate, MayBeLostWith, MayBeLeftIn}
use Rattle.xa_model.specs.Durable.{Durable}
use Rattle.xa_model.specs.History.{Entry}
use Rattle.xa_model.specs.Step.{step}

some_is : (x : Option Answer) (a : Answer) (P : Answer → Type 0) → x ≡ Some a → IsSomeAnd x P → P a
some_is x a P e h = subst (λ (y : Option Answer). IsSomeAnd y P) e h

none_is : (x : Option Answer) (P : Answer → Type 0) → x ≡ None → IsSomeAnd x P → ⊥
none_is x P e h = subst (λ (y : Option Answer). IsSomeAnd y P) e h

after_is : (a : Answer) (x : Option Answer) (b : Answer) → x ≡ Some a → x ≡ Some b → b.after ≡ a.after
after_is a x b e f = let same : b ≡ a = cc (sym f ∙ e) in ap (λ (c : Answer). c.after) same

left_of_one : (s : State) (f : Entry) (d : Durable) (next : Answer) → step s f.happening f.outcome ≡ Some next
    → step s f.happening (lost_of f.outcome) ≡ None → MayBeLeftIn s (f ∷ []) d → IsFate s d ⊎ IsFate next.after d
left_of_one s f d next e none (inl (inl (inl fate))) = inl fate
left_of_one s f d next e none (inl (inl (inr (inl left)))) = inr (some_is _ next (λ a. IsFate a.after d) e left)
left_of_one s f d next e none (inl (inl (inr (inr left)))) = absurd (none_is _ (λ a. IsFate a.after d) none left)
left_of_one s f d next e none (inl (inr left)) = absurd (none_is _ (λ a. MayBeLostWith a.after [] d) none left)
left_of_one s f d next e none (inr (mid, steps, fate)) =
    inr (subst (λ (t : State). IsFate t d) (after_is next _ (record { reply = f.reply; after = mid }) e steps) fate)

lost_of_one : (s : State) (f : Entry) (d : Durable) (both : Answer) → step s f.happening (Joined Lost) ≡ Some both → MayBeLostWith s (f ∷ []) d
    → IsFate s d ⊎ IsFate both.after d
lost_of_one s f d both e (inl fate) = inl fate
lost_of_one s f d both e (inr (joined, left)) = inr (some_is _ both (λ a. IsFate a.after d) e left)

-- it leaves what it may of the states before it, between its entries and after it, and where its first record and both are lost
pub left_of_two : (s : State) (e f : Entry) (d : Durable) (own lost both next : Answer) → step s e.happening e.outcome ≡ Some own
    → step s e.happening (lost_of e.outcome) ≡ Some lost → step lost.after f.happening (Joined Lost) ≡ Some both
    → step own.after f.happening f.outcome ≡ Some next → step own.after f.happening (lost_of f.outcome) ≡ None
    → MayBeLeftIn s (e ∷ f ∷ []) d
    → IsFate s d ⊎ (IsFate own.after d ⊎ IsFate next.after d) ⊎ (IsFate lost.after d ⊎ IsFate both.after d)
left_of_two s e f d own lost both next i j k l m (inl (inl (inl fate))) = inl fate
left_of_two s e f d own lost both next i j k l m (inl (inl (inr (inl left)))) = inr (inl (inl (some_is _ own (λ a. IsFate a.after d) i left)))
left_of_two s e f d own lost both next i j k l m (inl (inl (inr (inr left)))) = inr (inr (inl (some_is _ lost (λ a. IsFate a.after d) j left)))
left_of_two s e f d own lost both next i j k l m (inl (inr left)) =
    inr (inr (lost_of_one lost.after f d both k (some_is _ lost (λ a. MayBeLostWith a.after (f ∷ []) d) j left)))
left_of_two s e f d own lost both next i j k l m (inr (mid, steps, left)) =
    inr
    (inl
    (left_of_one own.after f d next l m
    (subst (λ (t : State). MayBeLeftIn t (f ∷ []) d) (after_is own _ (record { reply = e.reply; after = mid }) i steps) left)))
