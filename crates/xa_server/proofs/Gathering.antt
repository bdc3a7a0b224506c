-- The shares of loops that ended, gathered one by one, the last one first.
use Rattle.std.proofs.Common.{◌≡◌, ◌∙◌, ℕ, ◌+◌, arith, map, List, [], ◌∷◌, ◌++◌, sym, ap, subst, length-append}
use Rattle.std.specs.List.{AllByRecursion}
use Rattle.std.specs.Prelude.{sum_by}
use Rattle.std.proofs.lemmas.List.Sums.{sum_by-append, sum_by_push}
use Rattle.xa_reactor.specs.declared.loops.Ended.{Ended}
use Rattle.xa_server.specs.Believed.Loops.{told_by}
use Rattle.xa_tokens.specs.Believed.Account.{Account, Owes, merged}
use Rattle.xa_tokens.specs.declared.receipt.Receipt.{Receipt}

owes_both : (a b : Account) → Owes a 0 → Owes b 0 → Owes (merged a b) 0
owes_both a b h k =
    omega (arith, h, k, length-append a.asked b.asked, length-append a.told b.told, length-append a.given_up b.given_up)

all_but_last : {A : Type 0} (P : A → Type 0) (xs : List A) (x : A) → AllByRecursion P (xs ++ x ∷ []) → AllByRecursion P xs × P x
all_but_last P [] x all = (tt, all.0)
all_but_last P (y ∷ ys) x all =
    let others = all_but_last P ys x all.1 in
    ((all.0, others.0), others.1)

module _ {D : Type 0} (f : D → Account) where
  -- what they were told weighs
  abbrev told_weight : (Receipt → ℕ) → List (Ended D) → ℕ
  told_weight weigh ended = sum_by weigh (told_by (map (λ e. f e.door) ended))

  told_more : (weigh : Receipt → ℕ) (xs : List (Ended D)) (x : Ended D)
      → told_weight weigh (xs ++ x ∷ []) ≡ told_weight weigh xs + sum_by weigh (f x.door).told
  told_more weigh [] x = omega (arith, sum_by-append weigh (f x.door).told [])
  told_more weigh (y ∷ ys) x =
      omega (
        arith,
        sum_by-append weigh (f y.door).told (told_by (map (λ (e : Ended D). f e.door) (ys ++ x ∷ []))),
        sum_by-append weigh (f y.door).told (told_by (map (λ (e : Ended D). f e.door) ys)),
        told_more weigh ys x,
      )

  -- the share has what those had that are not left
  abbrev pub Gathers : Account → List (Ended D) → List (Ended D) → Type 0
  Gathers all left ended = record {
    parts : all.parts + sum_by (λ (e : Ended D). (f e.door).parts) left ≡ sum_by (λ (e : Ended D). (f e.door).parts) ended;
    told : (weigh : Receipt → ℕ) → sum_by weigh all.told + told_weight weigh left ≡ told_weight weigh ended;
    owes : Owes all 0;
    rest : AllByRecursion (λ (e : Ended D). Owes (f e.door) 0) left;
  }

  parts_last : (ended left : List (Ended D)) (e : Ended D) → ended ≡ left ++ e ∷ []
      → sum_by (λ (x : Ended D). (f x.door).parts) ended ≡ sum_by (λ (x : Ended D). (f x.door).parts) left + (f e.door).parts
  parts_last ended left e is =
      ap (λ (xs : List (Ended D)). sum_by (λ (x : Ended D). (f x.door).parts) xs) is ∙ sum_by_push (λ (x : Ended D). (f x.door).parts) left e

  told_last : (weigh : Receipt → ℕ) (ended left : List (Ended D)) (e : Ended D) → ended ≡ left ++ e ∷ []
      → told_weight weigh ended ≡ told_weight weigh left + sum_by weigh (f e.door).told
  told_last weigh ended left e is = ap (λ (xs : List (Ended D)). told_weight weigh xs) is ∙ told_more weigh left e

  owes_last : (ended left : List (Ended D)) (e : Ended D) → ended ≡ left ++ e ∷ []
      → AllByRecursion (λ (x : Ended D). Owes (f x.door) 0) ended → AllByRecursion (λ (x : Ended D). Owes (f x.door) 0) left × Owes (f e.door) 0
  owes_last ended left e is all =
      all_but_last (λ (x : Ended D). Owes (f x.door) 0) left e
      (subst (λ (xs : List (Ended D)). AllByRecursion (λ (x : Ended D). Owes (f x.door) 0) xs) is all)

  pub gathers_one : (all : Account) (left ended : List (Ended D)) (e : Ended D) → ended ≡ left ++ e ∷ [] → all ≡ f e.door
      → AllByRecursion (λ (x : Ended D). Owes (f x.door) 0) ended → Gathers all left ended
  gathers_one all left ended e is same owes =
      let others = owes_last ended left e is owes in
      record {
        parts = omega (arith, parts_last ended left e is, ap (λ (a : Account). a.parts) same);
        told = λ weigh. omega (arith, told_last weigh ended left e is, ap (λ (a : Account). sum_by weigh a.told) same);
        owes = subst (λ (a : Account). Owes a 0) (sym same) others.1;
        rest = others.0;
      }

  pub gathers_more : (all new : Account) (before left ended : List (Ended D)) (e : Ended D) → Gathers all before ended
      → before ≡ left ++ e ∷ [] → new ≡ merged all (f e.door) → Gathers new left ended
  gathers_more all new before left ended e far is same =
      let others = owes_last before left e is far.rest in
      record {
        parts = omega (arith, far.parts, parts_last before left e is, ap (λ (a : Account). a.parts) same);
        told = λ weigh.
            omega (
              arith,
              far.told weigh,
              told_last weigh before left e is,
              ap (λ (a : Account). sum_by weigh a.told) same,
              sum_by-append weigh all.told (f e.door).told,
            );
        owes = subst (λ (a : Account). Owes a 0) (sym same) (owes_both all (f e.door) far.owes others.1);
        rest = others.0;
      }
