-- Plans, one by one.
use Rattle.std.proofs.Common.{◌≡◌, ℕ, zero, suc, ◌+◌, ◌-◌, ◌≤◌, ◌<◌, ◌==◌, Bool, true, false, not, ◌&&◌, cond, List, [], ◌∷◌, ◌++◌, map, length, get_or, refl, sym, ◌∙◌, ap, arith, Option, Some, None}
use Rattle.std.proofs.lemmas.Bool.Decides.{nat_tests}
use Rattle.std.specs.List.{filter}
use Rattle.xa_disk.specs.declared.plan.Effect.{Effect}
use Rattle.xa_disk.specs.declared.plan.Plan.{Plan}
use Rattle.xa_disk.specs.Plans.{later, due, counted}

-- a plan that is there for this call, or none
abbrev own : Plan → ℕ → Option Effect
own plan k = cond (plan.left == k) (Some plan.effect) None

later_none : (o : Option Effect) → later o None ≡ o
later_none None = refl
later_none (Some e) = refl

later_assoc : (a b c : Option Effect) → later (later a b) c ≡ later a (later b c)
later_assoc None b c = refl
later_assoc (Some e) b c = refl

pub due_more : (plans : List Plan) (plan : Plan) (k : ℕ) → due (plans ++ plan ∷ []) k ≡ later (own plan k) (due plans k)
due_more [] plan k = sym (later_none (own plan k))
due_more (p ∷ plans) plan k = ap (λ (o : Option Effect). later o (own p k)) (due_more plans plan k) ∙ later_assoc (own plan k) (due plans k) (own p k)

-- the later of the two, by cases
pub later_own : (plan : Plan) (k : ℕ) (o : Option Effect) → later (own plan k) o ≡ cond (plan.left == k) (Some plan.effect) o
later_own plan k o = at (plan.left == k)
  where
    at : (b : Bool) → later (cond b (Some plan.effect) None) o ≡ cond b (Some plan.effect) o
    at true = refl
    at false = refl

pub due_push : (plans : List Plan) (plan : Plan) (k : ℕ) → due (plans ++ plan ∷ []) k ≡ cond (plan.left == k) (Some plan.effect) (due plans k)
due_push plans plan k = due_more plans plan k ∙ later_own plan k (due plans k)

one_less : (n k : ℕ) → 1 ≤ k → (n - 1 == k) ≡ (n == k + 1)
one_less n k le = grind (arith, nat_tests)

pub due_counted : (plans : List Plan) (k : ℕ) → 1 ≤ k → due (map counted plans) k ≡ due plans (k + 1)
due_counted [] k le = refl
due_counted (p ∷ plans) k le = λ i. later (due_counted plans k le i) (cond (one_less p.left k le i) (Some p.effect) None)

not_met : (n k : ℕ) → 1 ≤ k → not (n == 0) ≡ false → (n == k) ≡ false
not_met n k le is = grind (arith, nat_tests)

kept_by : (p : Plan) (plans rest : List Plan) (k : ℕ) → 1 ≤ k → due rest k ≡ due plans k → (b : Bool) → not (p.left == 0) ≡ b → due (cond b (p ∷ rest) rest) k ≡ due (p ∷ plans) k
kept_by p plans rest k le same true is = ap (λ (o : Option Effect). later o (own p k)) same
kept_by p plans rest k le same false is = same ∙ sym (later_none (due plans k)) ∙ ap (λ (b : Bool). later (due plans k) (cond b (Some p.effect) None)) (sym (not_met p.left k le is))

pub due_kept : (plans : List Plan) (k : ℕ) → 1 ≤ k → due (filter (λ p. not (p.left == 0)) plans) k ≡ due plans k
due_kept [] k le = refl
due_kept (p ∷ plans) k le = kept_by p plans (filter (λ q. not (q.left == 0)) plans) k le (due_kept plans k le) (not (p.left == 0)) refl

pub not_next : (n : ℕ) → (n ≡ 1 → ⊥) → (n == 1) ≡ false
not_next n other = grind (arith, nat_tests)

pub there : (plans : List Plan) (i : ℕ) (a b : Plan) → i < length plans → get_or plans i a ≡ get_or plans i b
there [] i a b lt = absurd (omega arith)
there (p ∷ plans) zero a b lt = refl
there (p ∷ plans) (suc i) a b lt = there plans i a b (omega arith)

-- a plan more, under a stop
pub planned_more : (met stopped : Bool) (plan lost before : Option Effect) → cond stopped lost (cond met plan before) ≡ cond (met && not stopped) plan (cond stopped lost before)
planned_more true true plan lost before = refl
planned_more true false plan lost before = refl
planned_more false true plan lost before = refl
planned_more false false plan lost before = refl
