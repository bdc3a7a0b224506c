-- The last writes of branches: which keys they write, that they are last, and that those of last writes are the same.
use Rattle.std.proofs.Common.{◌≡◌, ℕ, ◌≤◌, Bool, true, false, not, ◌||◌, cond, List, [], ◌∷◌, ◌++◌, length, refl, ap, sym, ◌∙◌, arith}
use Rattle.std.specs.Prelude.{bytes_eq, nat_lt}
use Rattle.std.specs.List.{AllByRecursion}
use Rattle.std.proofs.lemmas.Bool.{not-true, not_from_false, or_parts}
use Rattle.std.proofs.lemmas.List.Folds.{list_any-append}
use Rattle.std.proofs.lemmas.Slice.Eq.{bytes_eq-Decides}
use Rattle.xa_codes.specs.declared.write.Write.{Write}
use Rattle.xa_model.specs.Durable.{CommittedBranch, Pairwise, AreLast, commits_before, is_written_in, is_written, not_overwritten, with_writes, last_writes}
use Rattle.xa_model.proofs.Inserts.{all_imply, all_filtered, filter_all}

-- which keys are written

or_kept : (c d l r w : Bool) → (d ≡ true → w ≡ c) → (l || w) ≡ (r || w) → (cond (not c) (d || l) l || w) ≡ ((d || r) || w)
or_kept true true l r w same h = let all : w ≡ true = same refl in rw all (either_true l)
  where
    either_true : (l : Bool) → (l || true) ≡ true
    either_true true = refl
    either_true false = refl
or_kept true false l r w same h = h
or_kept false true l r w same h = refl
or_kept false false l r w same h = h

in_kept : (key : List ℕ) (w : Write) (ws : List Write) (c : Bool) → is_written_in key (cond c (w ∷ ws) ws) ≡ cond c (bytes_eq key w.key || is_written_in key ws) (is_written_in key ws)
in_kept key w ws true = refl
in_kept key w ws false = refl

same_key : (key k : List ℕ) (later : List CommittedBranch) → bytes_eq key k ≡ true → is_written key later ≡ is_written k later
same_key key k later e = ap (λ q. is_written q later) ((bytes_eq-Decides key k).0 e)

pub left_or_later : (key : List ℕ) (later : List CommittedBranch) (ws : List Write) → (is_written_in key (not_overwritten later ws) || is_written key later) ≡ (is_written_in key ws || is_written key later)
left_or_later key later [] = refl
left_or_later key later (w ∷ ws) =
    ap (λ q. q || is_written key later) (in_kept key w (not_overwritten later ws) (not (is_written w.key later)))
    ∙ or_kept (is_written w.key later) (bytes_eq key w.key) (is_written_in key (not_overwritten later ws)) (is_written_in key ws) (is_written key later) (same_key key w.key later) (left_or_later key later ws)

written_with : (key : List ℕ) (t : ℕ) (ws : List Write) (bs : List CommittedBranch) → is_written key (with_writes t ws bs) ≡ (is_written_in key ws || is_written key bs)
written_with key t [] bs = refl
written_with key t (w ∷ ws) bs = refl

pub last_written : (key : List ℕ) (bs : List CommittedBranch) → is_written key (last_writes bs) ≡ is_written key bs
last_written key [] = refl
last_written key (b ∷ later) =
    written_with key b.timestamp (not_overwritten later b.writes) (last_writes later)
    ∙ ap (λ q. is_written_in key (not_overwritten later b.writes) || q) (last_written key later)
    ∙ left_or_later key later b.writes

-- last writes are last

with_last : (t : ℕ) (ws : List Write) (bs : List CommittedBranch) → AllByRecursion (λ w. is_written w.key bs ≡ false) ws → AreLast bs → AreLast (with_writes t ws bs)
with_last t [] bs none h = h
with_last t (w ∷ ws) bs none h = (omega arith, none, h)

pub last_are_last : (bs : List CommittedBranch) → AreLast (last_writes bs)
last_are_last [] = tt
last_are_last (b ∷ later) =
    with_last b.timestamp (not_overwritten later b.writes) (last_writes later)
    (all_filtered (λ w. is_written w.key (last_writes later) ≡ false) (λ w. not (is_written w.key later)) (λ w e. last_written w.key later ∙ not-true (is_written w.key later) e) b.writes)
    (last_are_last later)

-- and stay as they are

with_some : (t : ℕ) (ws : List Write) (bs : List CommittedBranch) → 1 ≤ length ws → with_writes t ws bs ≡ record { timestamp = t; writes = ws } ∷ bs
with_some t [] bs h = absurd (omega arith)
with_some t (w ∷ ws) bs h = refl

pub last_same : (bs : List CommittedBranch) → AreLast bs → last_writes bs ≡ bs
last_same [] h = refl
last_same (b ∷ later) h =
    let here : not_overwritten later b.writes ≡ b.writes =
    filter_all (λ w. not (is_written w.key later)) b.writes
    (all_imply (λ w. is_written w.key later ≡ false) (λ w. not (is_written w.key later) ≡ true) (λ w e. not_from_false (is_written w.key later) e) b.writes h.1) in
    let rest : last_writes later ≡ later = last_same later h.2 in
    rw (here, rest) (with_some b.timestamp b.writes later h.0)

written_front : (key : List ℕ) (xs ys : List CommittedBranch) → is_written key (xs ++ ys) ≡ false → is_written key xs ≡ false
written_front key xs ys e = (or_parts (is_written key xs) (is_written key ys) (sym (list_any-append (λ b. is_written_in key b.writes) xs ys) ∙ e)).0

pub last_front : (xs ys : List CommittedBranch) → AreLast (xs ++ ys) → AreLast xs
last_front [] ys h = tt
last_front (x ∷ xs) ys h =
    (h.0, all_imply (λ w. is_written w.key (xs ++ ys) ≡ false) (λ w. is_written w.key xs ≡ false) (λ w e. written_front w.key xs ys e) x.writes h.1, last_front xs ys h.2)

-- their branches are some of those that were there, in the same order

with_all : (P : ℕ → Type 0) (t : ℕ) (ws : List Write) (bs : List CommittedBranch) → P t → AllByRecursion (λ b. P b.timestamp) bs → AllByRecursion (λ b. P b.timestamp) (with_writes t ws bs)
with_all P t [] bs here h = h
with_all P t (w ∷ ws) bs here h = (here, h)

pub last_all : (P : ℕ → Type 0) (bs : List CommittedBranch) → AllByRecursion (λ b. P b.timestamp) bs → AllByRecursion (λ b. P b.timestamp) (last_writes bs)
last_all P [] h = tt
last_all P (b ∷ later) h = with_all P b.timestamp (not_overwritten later b.writes) (last_writes later) h.0 (last_all P later h.1)

with_pairwise : (t : ℕ) (ws : List Write) (bs : List CommittedBranch) → AllByRecursion (λ b. nat_lt t b.timestamp ≡ true) bs → Pairwise commits_before bs → Pairwise commits_before (with_writes t ws bs)
with_pairwise t [] bs all h = h
with_pairwise t (w ∷ ws) bs all h = (all, h)

pub last_pairwise : (bs : List CommittedBranch) → Pairwise commits_before bs → Pairwise commits_before (last_writes bs)
last_pairwise [] h = tt
last_pairwise (b ∷ later) h =
    with_pairwise b.timestamp (not_overwritten later b.writes) (last_writes later) (last_all (λ u. nat_lt b.timestamp u ≡ true) later h.0) (last_pairwise later h.1)
