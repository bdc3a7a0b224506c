-- The branches that lasted may be added one after another.
use Rattle.std.proofs.Common.{◌≡◌, ℕ, zero, suc, ◌+◌, ◌<◌, ◌==◌, Bool, true, false, List, [], ◌∷◌, ◌++◌, length, get_or, take, Option, Some, None, refl, sym, subst, arith}
use Rattle.std.specs.Prelude.{nat_lt, fold}
use Rattle.std.specs.List.{AllByRecursion as Each}
use Rattle.std.proofs.lemmas.Bool.Decides.{nat_tests}
use Rattle.std.proofs.lemmas.List.Sums.{fold-append}
use Rattle.xa_codes.specs.declared.write.Write.{Write}
use Rattle.mv_chain.specs.declared.fate.Fate.{Fate}
use Rattle.mv_chain.specs.declared.fate.Fate.TheVariants.{Committed as kept}
use Rattle.mv_chain.specs.Accesses.{Written}
use Rattle.mv_chain.proofs.Chains.{each_at}
use Rattle.xa_model.specs.Durable.{Durable, CommittedBranch, PreparedBranch, Pairwise, commits_before, prepares_before, is_past, IsDurable}
use Rattle.xa_model.proofs.Inserts.{all_imply}
use Rattle.mv_rules.specs.Restoring.{with_write, with_branch, with_committed, with_prepared, restored_by, IsInTurn}

-- one more branch

pub committed_more : (bs : List CommittedBranch) (b : CommittedBranch) → restored_by (bs ++ b ∷ []) [] ≡ with_committed (restored_by bs []) b
committed_more bs b = fold-append with_committed [] bs (b ∷ [])

pub prepared_more : (bs : List CommittedBranch) (ps : List PreparedBranch) (p : PreparedBranch) → restored_by bs (ps ++ p ∷ []) ≡ with_prepared (restored_by bs ps) p
prepared_more bs ps p = fold-append with_prepared (restored_by bs []) ps (p ∷ [])

-- the timestamps of what is added

abbrev Apart : ℕ → List Written → Type 0
Apart t ws = Each (λ (w : Written). w.timestamp ≡ t → ⊥) ws

branch_apart : (t u : ℕ) (fate : Option Fate) (ws : List Write) (older : List Written) → (u ≡ t → ⊥) → Apart t older → Apart t (with_branch u fate ws older)
branch_apart t u fate [] older ne h = h
branch_apart t u fate (w ∷ ws) older ne h = branch_apart t u fate ws (with_write u fate older w) ne (ne, h)

committed_apart : (t : ℕ) (bs : List CommittedBranch) (older : List Written) → Each (λ (b : CommittedBranch). b.timestamp ≡ t → ⊥) bs → Apart t older → Apart t (fold with_committed older bs)
committed_apart t [] older ne h = h
committed_apart t (b ∷ bs) older ne h = committed_apart t bs (with_committed older b) ne.1 (branch_apart t b.timestamp (Some kept) b.writes older ne.0 h)

prepared_apart : (t : ℕ) (ps : List PreparedBranch) (older : List Written) → Each (λ (p : PreparedBranch). p.timestamp ≡ t → ⊥) ps → Apart t older → Apart t (fold with_prepared older ps)
prepared_apart t [] older ne h = h
prepared_apart t (p ∷ ps) older ne h = prepared_apart t ps (with_prepared older p) ne.1 (branch_apart t p.timestamp None p.writes older ne.0 h)

-- those before a member
before_at : {A : Type 0} (test : A → A → Bool) (xs : List A) (i : ℕ) (d : A) → Pairwise test xs → i < length xs → Each (λ x. test x (get_or xs i d) ≡ true) (take i xs)
before_at test [] i d h lt = absurd (omega arith)
before_at test (x ∷ xs) zero d h lt = tt
before_at test (x ∷ xs) (suc i) d h lt = (each_at (λ y. test x y ≡ true) xs i d (omega arith) h.0, before_at test xs i d h.1 (omega arith))

less_apart : (t u : ℕ) → nat_lt t u ≡ true → t ≡ u → ⊥
less_apart t u e same = absurd (grind (arith, nat_tests))

not_apart : (t u : ℕ) → (t == u) ≡ false → t ≡ u → ⊥
not_apart t u e same = absurd (grind (arith, nat_tests))

past_positive : (boot t : ℕ) → is_past boot t ≡ true → 0 < t
past_positive boot zero h = absurd (cc h)
past_positive boot (suc t) h = omega arith

pub in_turn : (d : Durable) → IsDurable d → IsInTurn d
in_turn d h = record {
  committed = λ i b lt at. record {
    positive = past_positive (d.boot + 1) b.timestamp (subst (λ (x : CommittedBranch). is_past (d.boot + 1) x.timestamp ≡ true) (sym at) (each_at (λ x. is_past (d.boot + 1) x.timestamp ≡ true) d.committed i b lt h.committed_past));
    above = omega arith;
    unread = refl;
    unwritten = committed_apart b.timestamp (take i d.committed) []
        (all_imply (λ x. commits_before x (get_or d.committed i b) ≡ true) (λ x. x.timestamp ≡ b.timestamp → ⊥) (λ x e. less_apart x.timestamp b.timestamp (subst (λ (y : CommittedBranch). commits_before x y ≡ true) (sym at) e)) (take i d.committed) (before_at commits_before d.committed i b h.committed lt))
        tt;
  };
  prepared = λ i p lt at. record {
    positive = past_positive (d.boot + 1) p.timestamp (subst (λ (x : PreparedBranch). is_past (d.boot + 1) x.timestamp ≡ true) (sym at) (each_at (λ x. is_past (d.boot + 1) x.timestamp ≡ true) d.prepared i p lt h.prepared_past));
    above = omega arith;
    unread = refl;
    unwritten = prepared_apart p.timestamp (take i d.prepared) (restored_by d.committed [])
        (all_imply (λ x. prepares_before x (get_or d.prepared i p) ≡ true) (λ x. x.timestamp ≡ p.timestamp → ⊥) (λ x e. less_apart x.timestamp p.timestamp (subst (λ (y : PreparedBranch). prepares_before x y ≡ true) (sym at) e)) (take i d.prepared) (before_at prepares_before d.prepared i p h.prepared lt))
        (committed_apart p.timestamp d.committed []
        (all_imply (λ b. Each (λ x. (b.timestamp == x.timestamp) ≡ false) d.prepared) (λ b. b.timestamp ≡ p.timestamp → ⊥)
        (λ b each. not_apart b.timestamp p.timestamp (subst (λ (x : PreparedBranch). (b.timestamp == x.timestamp) ≡ false) (sym at) (each_at (λ x. (b.timestamp == x.timestamp) ≡ false) d.prepared i p lt each))) d.committed h.apart)
        tt);
  };
}
