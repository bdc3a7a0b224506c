-- What the records stand for once the writes of a branch that lasted were added.
use Rattle.std.proofs.Common.{◌≡◌, ℕ, Bool, false, cond, List, [], ◌∷◌, ◌++◌, Option, Some, None, refl, ap, ◌∙◌, arith}
use Rattle.std.specs.Prelude.{◌==◌}
use Rattle.std.specs.List.{AllByRecursion as Each}
use Rattle.std.proofs.lemmas.Bool.Decides.{nat_tests}
use Rattle.std.proofs.lemmas.List.Sums.{fold-append}
use Rattle.xa_codes.specs.declared.write.Write.{Write}
use Rattle.mv_chain.specs.declared.fate.Fate.{Fate}
use Rattle.mv_chain.specs.Accesses.{Written, is_late, decided, IsUndecided, IsUnsettled}
use Rattle.mv_rules.specs.declared.records.Records.{Records}
use Rattle.mv_rules.specs.Accesses.{Accesses, wrote}
use Rattle.mv_rules.specs.Records.{StandsFor}
use Rattle.mv_rules.specs.Restoring.{with_write, with_branch, IsRestorable}
use Rattle.mv_rules.proofs.Tests.{time_itself}

undecided_none : (t : ℕ) (ws : List Written) → Each (λ w. w.timestamp ≡ t → ⊥) ws → IsUndecided t ws
undecided_none t [] h = tt
undecided_none t (w ∷ ws) h = (λ e. absurd (h.0 e), undecided_none t ws h.1)

undecided_branch : (t : ℕ) (ws : List Write) (older : List Written) → IsUndecided t older → IsUndecided t (with_branch t None ws older)
undecided_branch t [] older h = h
undecided_branch t (w ∷ ws) older h = undecided_branch t ws (with_write t None older w) (λ e. refl, h)

decided_none : (t : ℕ) (f : Fate) (ws : List Written) → Each (λ w. w.timestamp ≡ t → ⊥) ws → decided t f ws ≡ ws
decided_none t f [] h = refl
decided_none t f (w ∷ ws) h =
    let other : (w.timestamp == t) ≡ false = grind (arith, nat_tests, h.0) in
    rw other (ap (λ (rest : List Written). w ∷ rest) (decided_none t f ws h.1))

decided_branch : (t : ℕ) (f : Fate) (ws : List Write) (older : List Written) → decided t f (with_branch t None ws older) ≡ with_branch t (Some f) ws (decided t f older)
decided_branch t f [] older = refl
decided_branch t f (w ∷ ws) older =
    decided_branch t f ws (with_write t None older w)
    ∙ ap (λ (b : Bool). with_branch t (Some f) ws (record { timestamp = t; key = w.key; value = w.value; fate = cond b (Some f) None } ∷ decided t f older)) (time_itself t)

pub branch_more : (t : ℕ) (fate : Option Fate) (ws : List Write) (w : Write) (older : List Written) → with_branch t fate (ws ++ w ∷ []) older ≡ with_write t fate (with_branch t fate ws older) w
branch_more t fate ws w older = fold-append (with_write t fate) older ws (w ∷ [])

pub restorable_unsettled : (t : ℕ) (h : Accesses) (ws : List Write) → IsRestorable t h → IsUnsettled t h.low (with_branch t None ws h.writes)
restorable_unsettled t h ws e = record { positive = e.positive; above = e.above; all_undecided = undecided_branch t ws h.writes (undecided_none t h.writes e.unwritten) }

pub restorable_timely : (t : ℕ) (h : Accesses) (key : List ℕ) → IsRestorable t h → is_late key t h.reads ≡ false
restorable_timely t h key e = rw e.unread refl

pub branch_decided : (t : ℕ) (h : Accesses) (ws : List Write) (f : Fate) → IsRestorable t h → decided t f (with_branch t None ws h.writes) ≡ with_branch t (Some f) ws h.writes
branch_decided t h ws f e = decided_branch t f ws h.writes ∙ ap (with_branch t (Some f) ws) (decided_none t f h.writes e.unwritten)

-- one more write of the branch is added
pub branch_grown : (t : ℕ) (h : Accesses) (r : Records) (ws : List Write) (w : Write) (key : List ℕ) (value : Option (List ℕ)) → key ≡ w.key → value ≡ w.value → StandsFor (record h { writes = wrote t key value ∷ with_branch t None ws h.writes }) r
    → StandsFor (record h { writes = with_branch t None (ws ++ w ∷ []) h.writes }) r
branch_grown t h r ws w key value k v s = rw (branch_more t None ws w h.writes, ← k, ← v) s
